-- W-202, room for a request: one that found its figures of rows free has room for each block, whatever calls are made, as long as no
-- other request's block runs; and once it is retired, no agent of it stands again.
use mathlib.Core.Bool.{Bool, true, false}
use mathlib.Core.Path.{◌≡◌, refl, sym, ◌∙◌, ap, subst}
use mathlib.Core.Logic.{◌⊎◌, inl, inr}
use mathlib.Core.Option.{Option, none, some, some-injective}
use Prim.Native.Nat.{ℕ, zero, suc, ◌+◌, ◌-◌, ◌≤◌, ◌<◌}
use native.Mathlib.Nat.{add-zero}
use native.Mathlib.Omega.{arith}
use native.Mathlib.Decide.{ℕ_discrete, dec_lt}
use borrow.Author.Tests.{le-leb, ltb-true}
use lib.Dec.{eqb, ltb, nltb→le}
use lib.ListN.{length}
use Rattle.questions.specs.Basics.{if◌then◌otherwise◌, update}
use Rattle.rules.specs.Instructions.{Code, Pack, Place, BEGIN, instruction_at}
use Rattle.rules.specs.Shapes.{outside}
use Rattle.rules.specs.Blocks.{Result, Block, run_block, rows_needed}
use Rattle.rules.specs.Courses.{Course, Next, goes, does, says, next_of}
use Rattle.rules.specs.Store.{Request, Log, Store, found, with_row, written, book_retired, retired}
use Rattle.rules.specs.Store as Stores
use Rattle.rules.specs.Logged.{request_code, start, at, behind, by_next, follow}
use Rattle.rules.specs.Worklist.{Worklist}
use Rattle.rules.specs.Calls.{code_by, Agent, State, Call, turn, retire, with_store, with_slot, started, arrive, again, moves_to}
use Rattle.rules.specs.Calls.{through_block, turn_on, turn_in, can_write, can_do, can_turn, refusal, rule}
use Rattle.rules.specs.Checked.{side_at, Checked}
use Rattle.rules.specs.Routes.{Route, puts_on, by_rows, count_on}
use Rattle.rules.specs.Room.{FindsRoom, NoOther}
use Rattle.questions.proofs.Updates.{none_some, le_cases, eqb_same, eqb_cases, update_same, update_other, update_each}
use Rattle.rules.proofs.Follow.{Free, Grows, free_none, row_grows, row_later, row_here, follow_stays, follow_before, follow_below}
use Rattle.rules.proofs.Follow.{follow_next}
use Rattle.rules.proofs.Positions.{does_begins, does_forward, follow_position}
use Rattle.questions.proofs.Questions.{ask_none}
use Rattle.rules.proofs.Retire.{log_same, log_grows, retire_asked, slot_stays}
use Rattle.rules.proofs.ByFeed.{Idle, Kind, an_arrival, a_retry, a_turn, a_retire, an_idle, kind}
use Rattle.rules.proofs.Changes.{change, change_stays, from_floor_lem, AboveFor, Gone, not_found, retired_remains, retired_gone}
use Rattle.rules.proofs.Taken.{PutsAtLeast, block_way, some_route, Makes, per_block, begins_here, block_makes, move_makes}

-- each BEGIN's partition is below P
abbrev pub OpensBelow : Code → (P : ℕ) → Type 0
OpensBelow code P = (i p : ℕ) → instruction_at code i ≡ BEGIN p → p < P

-- each route from j makes one from i with the same rows
abbrev SameRows : Code → (i j : ℕ) → Type 0
SameRows code i j = (r : Route code j) → (r' : Route code i) × ((p : ℕ) → count_on (by_rows p) code i r' ≡ count_on (by_rows p) code j r)

rows_through : (code : Code) (i j k : ℕ) → SameRows code i j → SameRows code j k → SameRows code i k
rows_through code i j k x y r = let v = y r in let w = x v.0 in (w.0, λ p. w.1 p ∙ v.1 p)

-- ── Without a log row only single instructions are passed ──

module _ (code : Code) (checked : Checked code) (P : ℕ) (below : OpensBelow code P) (log : Log) (id : ℕ) (q : Request) where
  -- a move by the log without a row of the step leaves the step, and all rows that are still to come
  single_move : (c : Course) → c.place.position < length code → side_at code c.place.position ≡ outside → (t : ℕ) →
      ((p : ℕ) → p < P → Free log p id t) → (c' : Course) (t' : ℕ) (y : Next) → next_of code c ≡ y → by_next log id t y ≡ some (at c' t') →
      (t' ≡ t) × SameRows code c.place.position c'.place.position
  unfolding behind
  single_move c h o t unlogged c' t' (goes to) e s =
      let same : to ≡ c' = cc in
      let u : t ≡ t' = cc in (
        sym u,
        λ r. let m = move_makes code checked c h o c' (e ∙ ap goes same) r in (m.0, λ p. omega (arith, m.1 (by_rows p))),
      )
  single_move c h o t unlogged c' t' (says v) e s = absurd (let z : ◌≡◌ {A = ℕ} 0 1 = cc in omega arith)
  single_move c h o t unlogged c' t' (does from p onto) e s =
      let l = below c.place.position p (begins_here code c from p onto e) in
      none_some (at c' t') (ap (behind onto t) (free_none log p id t (unlogged p l))) s

  -- from a stage on, if no row is logged of its step and of later ones
  module _ (far : ℕ) (c : Course) (t : ℕ) (f : follow log id code q far ≡ some (at c t))
      (unlogged : (p u : ℕ) → p < P → t ≤ u → Free log p id u) where
    abbrev Ahead : Course → (step : ℕ) → Type 0
    Ahead c' t' = (t' ≡ t) × SameRows code c.place.position c'.place.position

    single_moves : (k : ℕ) (c' : Course) (t' : ℕ) → follow log id code q (k + far) ≡ some (at c' t') → Ahead c' t'
    single_moves zero c' t' e =
        let z : follow log id code q far ≡ some (at c' t') =
        subst (λ n. follow log id code q n ≡ some (at c' t')) (omega arith) e in
        let a : c ≡ c' = cc in
        let u : t ≡ t' = cc in
        (sym u, subst (λ (x : Course). SameRows code c.place.position x.place.position) a (λ r. (r, λ p. refl)))
    single_moves (suc k) c' t' e =
        let e' : follow log id code q (suc (k + far)) ≡ some (at c' t') =
        subst (λ n. follow log id code q n ≡ some (at c' t')) (omega arith) e in
        let b = follow_before log id code q (k + far) (at c' t') e' in
        let i = single_moves k b.0 b.1 b.2 in
        let h = follow_position code checked log id q (k + far) b.0 b.1 b.2 in
        let m = single_move b.0 h.1 h.2 b.1 (λ p l. unlogged p b.1 l (omega (arith, i.0))) c' t' (next_of code b.0) refl
        (sym (follow_next log id code q (k + far) b.0 b.1 _ _ b.2 refl refl) ∙ e') in
        (m.0 ∙ i.0, rows_through code _ _ _ i.1 m.1)

    -- an agent before a block that isn't logged is at that stage, or has come from there by single instructions
    before_block : (n : ℕ) (c' : Course) (t' : ℕ) (from : Place) (p : ℕ) (onto : Result → Course) →
        follow log id code q n ≡ some (at c' t') → next_of code c' ≡ does from p onto → found log p id t' ≡ none → Ahead c' t'
    unfolding behind
    before_block n c' t' from p onto e o z = go (dec_lt n far)
      where
        stops : follow log id code q (suc n) ≡ none
        stops = follow_next log id code q n c' t' (does from p onto) none e o (ap (behind onto t') z)

        later : (suc n ≡ far) ⊎ (suc n < far) → Ahead c' t'
        later (inl s) = none_some (at c t) (subst (λ m. follow log id code q m ≡ none) s stops) f
        later (inr s) = let b = follow_below log id code q far (at c t) (suc n) s f in none_some (at b.0 b.1) stops b.2

        go : Dec (n < far) → Ahead c' t'
        go (yes l) = later (le_cases (suc n) far l)
        go (no l) = single_moves (n - far) c' t' (subst (λ m. follow log id code q m ≡ some (at c' t')) (omega arith) e)

-- ── The invariant ──

module _ (pack : Pack) (P id : ℕ) (q : Request) (checked : Checked (request_code pack q)) (below : OpensBelow (request_code pack q) P) where
  abbrev code : Code
  code = request_code pack q

  -- an agent stands in one of the eight slots, where the log leads the request
  abbrev Led : Log → (slot : ℕ) → Agent → Type 0
  Led log slot a = (slot < 8) × (n : ℕ) × (follow log id code q n ≡ some (at a.course a.step))

  -- and so it does by a longer log
  led_on : (log log' : Log) → Grows log log' id → (slot : ℕ) (a : Agent) → Led log slot a → Led log' slot a
  led_on log log' grows slot a x =
      (x.0, x.1, follow_stays log log' id code q x.1 (at a.course a.step) grows x.2)

  -- The request is booked, and its log leads it this far: no row of this step and of later ones; in each partition the rows of any route
  -- from here are free; and its agents stand where the log leads.
  pub record InBook (s : State) : Type 0 where
    booked : s.store.book id ≡ some q
    far : ℕ
    course : Course
    step : ℕ
    stands : follow s.store.log id code q far ≡ some (at course step)
    unlogged : (p u : ℕ) → p < P → step ≤ u → Free s.store.log p id u
    room : (p : ℕ) → p < P → (r : Route code course.place.position) →
        s.store.used p + count_on (by_rows p) code _ r ≤ s.store.room
    agents : (slot : ℕ) (a : Agent) → s.slots slot ≡ some a → a.id ≡ id → Led s.store.log slot a

  -- no agent of it is in a slot
  abbrev pub Nobody : State → Type 0
  Nobody s = (slot : ℕ) (a : Agent) → s.slots slot ≡ some a → a.id ≡ id → ⊥

  -- the request has been retired, and nobody is there who could go on with it
  pub record Retired (s : State) : Type 0 where
    gone : Gone s.store id
    nobody : Nobody s

  -- The request has room for each block that is still ahead of it.
  abbrev pub HasRoom : State → Type 0
  HasRoom s = InBook s ⊎ Retired s

  -- other agents in the slots, and any worklist
  with_slots_lem : (s : State) → InBook s → (slots : ℕ → Option Agent) (work : Worklist) →
      ((slot : ℕ) (a : Agent) → slots slot ≡ some a → a.id ≡ id → Led s.store.log slot a) →
      InBook (record { store = s.store; slots = slots; work = work })
  with_slots_lem s h slots work g =
      record {
        booked = h.booked;
        far = h.far;
        course = h.course;
        step = h.step;
        stands = h.stands;
        unlogged = h.unlogged;
        room = h.room;
        agents = g;
      }

  in_slot : (s : State) → InBook s → (slot : ℕ) (o : Option Agent) →
      ((a : Agent) → o ≡ some a → a.id ≡ id → Led s.store.log slot a) → InBook (with_slot s slot o)
  in_slot s h slot o g =
      with_slots_lem s h (update s.slots slot o) s.work
      (update_each s.slots slot o (λ j a. a.id ≡ id → Led s.store.log j a) g (λ j a n e. h.agents j a e))

  -- nobody, an agent of the request, one of another
  slot_emptied : (s : State) → InBook s → (slot : ℕ) → InBook (with_slot s slot none)
  slot_emptied s h slot = in_slot s h slot none (λ a e. none_some a refl e)

  its_own : (log : Log) (slot : ℕ) (b : Agent) → Led log slot b → (a : Agent) → some b ≡ some a → a.id ≡ id → Led log slot a
  its_own log slot b l a e f = subst (Led log slot) (some-injective b a e) l

  another : (log : Log) (slot : ℕ) (b : Agent) → (b.id ≡ id → ⊥) → (a : Agent) → some b ≡ some a → a.id ≡ id → Led log slot a
  another log slot b n a e f = absurd (n (ap (λ (x : Agent). x.id) (some-injective b a e) ∙ f))

  -- ── a turn of an agent of another request ──

  module _ (s : State) (h : InBook s) (slot : ℕ) (a : Agent) (its : Code) (other : a.id ≡ id → ⊥) where
    other_turn : (x : Next) →
        ((from : Place) (p : ℕ) (onto : Result → Course) → x ≡ does from p onto → found s.store.log p a.id a.step ≡ none → ⊥) →
        InBook (turn_on s slot a its x).state
    unfolding turn_on through_block
    other_turn (says r) k = slot_emptied s h slot
    other_turn (goes to) k = in_slot s h slot _ (another s.store.log _ _ other)
    other_turn (does from p onto) k = go (found s.store.log p a.id a.step) refl
      where
        go : (o : Option Result) → found s.store.log p a.id a.step ≡ o → InBook (through_block s slot a its from p onto o).state
        go none e = absurd (k from p onto refl e)
        go (some r) e = in_slot s h slot _ (another s.store.log _ _ other)

  -- ── a turn of an agent of the request ──

  abbrev agent_at : Course → (step : ℕ) → Agent
  agent_at c t = record { id = id; course = c; step = t }

  module _ (s : State) (h : InBook s) (slot : ℕ) (low : slot < 8) (c : Course) (t n : ℕ)
      (f : follow s.store.log id code q n ≡ some (at c t)) where
    place_is : (n ≤ c.place.position) × (c.place.position < length code) × (side_at code c.place.position ≡ outside)
        × (t ≤ c.place.position)
    place_is = follow_position code checked s.store.log id q n c t f

    own_moves : (to : Course) (t' : ℕ) (x : Next) → next_of code c ≡ x → by_next s.store.log id t x ≡ some (at to t') →
        InBook (moves_to s slot (agent_at c t) to t').state
    own_moves to t' x o e =
        in_slot s h slot _
        (its_own s.store.log _ _ (low, suc n, follow_next s.store.log id code q n c t x (some (at to t')) f o e))

    -- a block that isn't logged
    module _ (from : Place) (p : ℕ) (onto : Result → Course) (o : next_of code c ≡ does from p onto)
        (not_logged : found s.store.log p id t ≡ none) where
      furthest : (t ≡ h.step) × SameRows code h.course.place.position c.place.position
      furthest =
          before_block code checked P below s.store.log id q h.far h.course h.step h.stands h.unlogged
          n c t from p onto f o not_logged

      in_parts : p < P
      in_parts = below c.place.position p (begins_here code c from p onto o)

      abbrev b : Block
      b = run_block code from (s.store.rows p)

      -- its run is a way through it
      way : PutsAtLeast code (suc c.place.position) b.new_keys
      way =
          let g = does_begins code c from p onto o in
          subst (λ (x : Place). PutsAtLeast code (suc x.position) b.new_keys) g.0
          (block_way code checked from p (s.store.rows p) (subst (λ (x : Place). x.position < length code) (sym g.0) place_is.1)
          g.1)

      abbrev to : Course
      to = onto b.result

      lead : Makes code c.place.position to.place.position (per_block p (puts_on code (suc c.place.position) way.0))
      lead = block_makes code c from p onto o way.0 b.result

      -- the rows of the block and of any route from behind it are free
      takes : (k : ℕ) → k < P → (r : Route code to.place.position) →
          s.store.used k + if◌then◌otherwise◌ (eqb p k) (rows_needed b) 0 + count_on (by_rows k) code _ r ≤ s.store.room
      takes k l r = go (eqb p k) ((lead r).1 (by_rows k))
        where
          free : s.store.used k + count_on (by_rows k) code c.place.position (lead r).0 ≤ s.store.room
          free = let w = furthest.1 (lead r).0 in omega (arith, h.room k l w.0, w.1 k)

          go : (e : Bool) →
              count_on (by_rows k) code c.place.position (lead r).0
              ≡ if◌then◌otherwise◌ e (1 + puts_on code (suc c.place.position) way.0) 0 + count_on (by_rows k) code _ r →
              s.store.used k + if◌then◌otherwise◌ e (rows_needed b) 0 + count_on (by_rows k) code _ r ≤ s.store.room
          go true e = omega (arith, e, free, way.1)
          go false e = omega (arith, e, free)

      -- so the block has room
      enough : s.store.used p + rows_needed b ≤ s.store.room
      enough =
          let w = does_forward code checked c place_is.1 place_is.2 from p onto o b.result in
          let r = some_route code checked to.place.position w.in_code w.side in
          let l : s.store.used p + if◌then◌otherwise◌ true (rows_needed b) 0 + count_on (by_rows p) code _ r ≤ s.store.room =
          subst (λ e. s.store.used p + if◌then◌otherwise◌ e (rows_needed b) 0 + count_on (by_rows p) code _ r ≤ s.store.room)
          (eqb_same p) (takes p in_parts r) in
          omega (arith, l)

      abbrev log' : Log
      log' = with_row s.store.log p id t b.result

      grows : Grows s.store.log log' id
      grows = row_grows s.store.log p id t b.result (not_found (s.store.log.usual p id t) not_logged) id

      next_stage : follow log' id code q (suc n) ≡ some (at to (suc t))
      unfolding behind
      next_stage =
          follow_next log' id code q n c t (does from p onto) (some (at to (suc t)))
          (follow_stays s.store.log log' id code q n (at c t) grows f) o
          (ap (behind onto t) (row_here s.store.log p id t b.result))

      abbrev used' : ℕ → ℕ
      used' = update s.store.used p (s.store.used p + rows_needed b)

      used_after : (k : ℕ) → used' k ≡ s.store.used k + if◌then◌otherwise◌ (eqb p k) (rows_needed b) 0
      used_after k = go (eqb_cases p k)
        where
          go : ((p ≡ k) × (eqb p k ≡ true)) ⊎ ((p ≡ k → ⊥) × (eqb p k ≡ false)) →
              used' k ≡ s.store.used k + if◌then◌otherwise◌ (eqb p k) (rows_needed b) 0
          go (inl e) =
              subst (λ j. used' j ≡ s.store.used j + rows_needed b) e.0
              (update_same s.store.used p (s.store.used p + rows_needed b))
              ∙ ap (λ x. s.store.used k + if◌then◌otherwise◌ x (rows_needed b) 0) (sym e.1)
          go (inr e) =
              update_other s.store.used p (s.store.used p + rows_needed b) k (λ i. e.0 (sym i))
              ∙ sym (add-zero (s.store.used k)) ∙ ap (λ x. s.store.used k + if◌then◌otherwise◌ x (rows_needed b) 0) (sym e.1)

      room_after : (k : ℕ) → k < P → (r : Route code to.place.position) → used' k + count_on (by_rows k) code _ r ≤ s.store.room
      room_after k l r =
          subst (λ x. x + count_on (by_rows k) code to.place.position r ≤ s.store.room) (sym (used_after k)) (takes k l r)

      block_keeps : InBook (through_block s slot (agent_at c t) code from p onto none).state
      unfolding through_block
      block_keeps =
          record {
            booked = h.booked;
            far = suc n;
            course = to;
            step = suc t;
            stands = next_stage;
            unlogged = λ k u i l. row_later s.store.log p id t b.result k u l (h.unlogged k u i (omega (arith, furthest.0)));
            room = room_after;
            agents =
                update_each s.slots slot (some (agent_at to (suc t))) (λ j a. a.id ≡ id → Led log' j a)
                (its_own log' slot (agent_at to (suc t)) (low, suc n, next_stage))
                (λ j a m e g. led_on s.store.log log' grows j a (h.agents j a e g));
          }

    own_turn : (x : Next) → next_of code c ≡ x → InBook (turn_on s slot (agent_at c t) code x).state
    unfolding turn_on
    own_turn (says r) o = slot_emptied s h slot
    own_turn (goes to) o = own_moves to t (goes to) o refl
    own_turn (does from p onto) o = go (found s.store.log p id t) refl
      where
        go : (l : Option Result) → found s.store.log p id t ≡ l → InBook (through_block s slot (agent_at c t) code from p onto l).state
        go none e = block_keeps from p onto o e
        go (some r) e = unfold through_block in own_moves (onto r) (suc t) (does from p onto) o (unfold behind in ap (behind onto t) e)

    -- question 21 says yes
    says_yes : (x : Next) → next_of code c ≡ x → can_do s.store id t code x ≡ true
    unfolding can_do
    says_yes (goes to) o = refl
    says_yes (says r) o = refl
    says_yes (does from p onto) o = go (found s.store.log p id t) refl
      where
        go : (l : Option Result) → found s.store.log p id t ≡ l → can_write s.store code from p l ≡ true
        go none e = unfold can_write in le-leb _ _ (enough from p onto o e)
        go (some r) e = unfold can_write in refl

  -- ── the calls ──

  module _ (s : State) (h : InBook s) where
    -- another request is booked
    books_other : (j : ℕ) (r : Request) → (j ≡ id → ⊥) → InBook (with_store s (Stores.booked s.store j r))
    books_other j r n =
        record {
          booked = update_other s.store.book j (some r) id (λ e. n (sym e)) ∙ h.booked;
          far = h.far;
          course = h.course;
          step = h.step;
          stands = h.stands;
          unlogged = h.unlogged;
          room = h.room;
          agents = h.agents;
        }

    starts_own : (slot j : ℕ) → slot < 8 → InBook (started s slot j q)
    unfolding follow
    starts_own slot j low = in_slot s h slot _ (its_own s.store.log _ _ (low, 0, refl))

    starts_other : (slot j : ℕ) (r : Request) → (j ≡ id → ⊥) → InBook (started s slot j r)
    starts_other slot j r n = in_slot s h slot _ (another s.store.log _ _ n)

    -- a booked request starts
    starts : (slot j : ℕ) → slot < 8 → (r : Request) → s.store.book j ≡ some r → Dec (j ≡ id) → InBook (started s slot j r)
    starts slot j low r e (yes i) =
        let same = some-injective q r (sym (ap s.store.book i ∙ h.booked) ∙ e) in
        subst (λ (x : Request). InBook (started s slot j x)) same (starts_own slot j low)
    starts slot j low r e (no n) = starts_other slot j r n

    arrival_keeps : (slot j : ℕ) → slot < 8 → (r : Request) (o : Option Request) → s.store.book j ≡ o →
        InBook (arrive s slot j r o).state
    unfolding arrive
    arrival_keeps slot j low r (some known) e = starts slot j low known e (ℕ_discrete j id)
    arrival_keeps slot j low r none e =
        let n : j ≡ id → ⊥ = λ i. none_some q e (ap s.store.book i ∙ h.booked) in
        in_slot (with_store s (Stores.booked s.store j r)) (books_other j r n) slot _ (another s.store.log _ _ n)

    retry_keeps : (slot j : ℕ) → slot < 8 → (o : Option Request) → s.store.book j ≡ o → InBook (again s slot j o).state
    unfolding again
    retry_keeps slot j low none e = h
    retry_keeps slot j low (some known) e = starts slot j low known e (ℕ_discrete j id)

    code_is : (a : Agent) → a.id ≡ id → code_by pack (s.store.book a.id) ≡ code
    code_is a e = ap (code_by pack) (ap s.store.book e ∙ h.booked)

    agent_is : (a : Agent) → a.id ≡ id → agent_at a.course a.step ≡ a
    agent_is a e = λ i. record { id = sym e i; course = a.course; step = a.step }

    turn_keeps : (slot : ℕ) → NoOther pack id s (turn slot) → (o : Option Agent) → s.slots slot ≡ o → InBook (turn_in pack s slot o).state
    unfolding turn_in
    turn_keeps slot alone none e = h
    turn_keeps slot alone (some a) e = go (ℕ_discrete a.id id)
      where
        its : Code
        its = code_by pack (s.store.book a.id)

        go : Dec (a.id ≡ id) → InBook (turn_on s slot a its (next_of its a.course)).state
        go (yes i) =
            let x = h.agents slot a e i in
            subst (λ (y : Code). InBook (turn_on s slot a y (next_of y a.course)).state) (sym (code_is a i))
            (subst (λ (y : Agent). InBook (turn_on s slot y code (next_of code a.course)).state) (agent_is a i)
            (own_turn s h slot x.0 a.course a.step x.1 x.2 (next_of code a.course) refl))
        go (no n) =
            other_turn s h slot a its n (next_of its a.course)
            (λ from p onto o l.
            n (alone a.id
            (record {
              slot = slot;
              agent = a;
              begin = from;
              partition = p;
              onto = onto;
              made = refl;
              in_slot = e;
              its_id = refl;
              block = o;
              not_logged = l;
            })))

    idle_keeps : (c : Call) → Idle pack s c → InBook (rule pack s c).state
    idle_keeps c i =
        subst (λ (st : Store). InBook (with_store (rule pack s c).state st)) (sym i.store_left)
        (with_slots_lem s h (rule pack s c).state.slots (rule pack s c).state.work (λ slot a e. h.agents slot a (i.slots_left slot a e)))

    -- A retire frees rows, and leaves those of the request; or it retires the request, when no agent of it is in a slot.
    retire_keeps : (floor : ℕ) → refusal pack s (retire floor) ≡ none → HasRoom (with_store s (retired s.store floor))
    retire_keeps floor allow = go (ltb id floor) refl
      where
        store' : Store
        store' = retired s.store floor

        kept : floor ≤ id → InBook (with_store s store')
        kept l =
            let grows = log_grows (book_retired s.store floor) id l in
            record {
              booked = (retired_remains s.store floor id l q h.booked).0;
              far = h.far;
              course = h.course;
              step = h.step;
              stands = follow_stays s.store.log store'.log id code q h.far (at h.course h.step) grows h.stands;
              unlogged = λ p u i k. log_same (book_retired s.store floor) p id u l ∙ h.unlogged p u i k;
              room = λ p i r. omega (arith, h.room p i r);
              agents = λ slot a e i. led_on s.store.log store'.log grows slot a (h.agents slot a e i);
            }

        go : (b : Bool) → ltb id floor ≡ b → HasRoom (with_store s store')
        go true e =
            let l = ltb-true id floor e in
            inr
            (record {
              gone = retired_gone s.store floor id l;
              nobody =
                  λ slot a held i.
                  let up = slot_stays pack s floor (retire_asked pack s floor allow).0 slot a (h.agents slot a held i).0 held q
                  (ap s.store.book i ∙ h.booked) in
                  omega (arith, up, l, i);
            })
        go false e = inl (kept (nltb→le id floor (rw e tt)))

    -- what a call does, if no other request's block runs in it
    in_book_keeps : (c : Call) → refusal pack s c ≡ none → NoOther pack id s c → HasRoom (rule pack s c).state
    unfolding refusal rule
    in_book_keeps c allow alone = by_kind c (kind pack s c) allow alone
      where
        by_kind : (c : Call) → Kind pack s c → refusal pack s c ≡ none → NoOther pack id s c → HasRoom (rule pack s c).state
        by_kind c (an_arrival slot j w args) allow alone =
            inl (arrival_keeps slot j (ltb-true slot 8 (ask_none _ _ _ allow).0) (record { workflow = w; arguments = args })
            (s.store.book j) refl)
        by_kind c (a_retry slot j) allow alone =
            inl (retry_keeps slot j (ltb-true slot 8 (ask_none _ _ _ allow).0) (s.store.book j) refl)
        by_kind c (a_turn slot) allow alone = inl (turn_keeps slot alone (s.slots slot) refl)
        by_kind c (a_retire floor) allow alone = retire_keeps floor allow
        by_kind c (an_idle _ i) allow alone = inl (idle_keeps c i)

    -- no turn of the request meets 21
    in_book_turns : (slot : ℕ) (a : Agent) → s.slots slot ≡ some a → a.id ≡ id → can_turn pack s.store (s.slots slot) ≡ true
    unfolding can_turn
    in_book_turns slot a e i =
        let x = h.agents slot a e i in
        rw (e, code_is a i)
        (subst (λ j. can_do s.store j a.step code (next_of code a.course) ≡ true) (sym i)
        (says_yes s h slot x.0 a.course a.step x.1 x.2 (next_of code a.course) refl))

  -- ── the request has been retired ──

  module _ (s : State) (h : Retired s) where
    -- an agent of another request in a slot
    other_in : (s' : State) → s'.slots ≡ s.slots → (slot : ℕ) (b : Agent) → (b.id ≡ id → ⊥) → Nobody (with_slot s' slot (some b))
    other_in s' same slot b n =
        subst (λ (f : ℕ → Option Agent). (j : ℕ) (a : Agent) → update f slot (some b) j ≡ some a → a.id ≡ id → ⊥) (sym same)
        (update_each s.slots slot (some b) (λ j a. a.id ≡ id → ⊥)
        (λ a e i. n (ap (λ (x : Agent). x.id) (some-injective b a e) ∙ i)) (λ j a m e. h.nobody j a e))

    nobody_arrives : (slot j : ℕ) (r : Request) → (j ≡ id → ⊥) → (o : Option Request) → Nobody (arrive s slot j r o).state
    unfolding arrive
    nobody_arrives slot j r n none = other_in (with_store s (Stores.booked s.store j r)) refl slot _ n
    nobody_arrives slot j r n (some known) = other_in s refl slot _ n

    nobody_again : (slot j : ℕ) (o : Option Request) → s.store.book j ≡ o → Nobody (again s slot j o).state
    unfolding again
    nobody_again slot j none e = h.nobody
    nobody_again slot j (some known) e = other_in s refl slot _ (λ i. none_some known (ap s.store.book i ∙ h.gone.1) e)

    nobody_turns : (slot : ℕ) (o : Option Agent) → s.slots slot ≡ o → Nobody (turn_in pack s slot o).state
    unfolding turn_in turn_on through_block
    nobody_turns slot none e = h.nobody
    nobody_turns slot (some a) e = on (code_by pack (s.store.book a.id)) (next_of (code_by pack (s.store.book a.id)) a.course)
      where
        through : (its : Code) (from : Place) (p : ℕ) (onto : Result → Course) (o : Option Result) →
            Nobody (through_block s slot a its from p onto o).state
        through its from p onto none =
            other_in (with_store s (written s.store p a.id a.step (run_block its from (s.store.rows p)))) refl slot _
            (h.nobody slot a e)
        through its from p onto (some r) = other_in s refl slot _ (h.nobody slot a e)

        on : (its : Code) (x : Next) → Nobody (turn_on s slot a its x).state
        on its (goes to) = other_in s refl slot _ (h.nobody slot a e)
        on its (says v) =
            update_each s.slots slot none (λ j b. b.id ≡ id → ⊥) (λ b f. none_some b refl f) (λ j b m f. h.nobody j b f)
        on its (does from p onto) = through its from p onto (found s.store.log p a.id a.step)

    -- no call starts an agent of it: an arrival below the floor is refused, and so is a retry of what isn't booked
    still_nobody : (c : Call) → refusal pack s c ≡ none → Nobody (rule pack s c).state
    unfolding rule
    still_nobody c allow = by_kind c (kind pack s c) allow
      where
        by_kind : (c : Call) → Kind pack s c → refusal pack s c ≡ none → Nobody (rule pack s c).state
        by_kind c (an_arrival slot j w args) allow =
            nobody_arrives slot j (record { workflow = w; arguments = args })
            (λ i. omega (arith, from_floor_lem pack s slot j w args allow, h.gone.0, i)) (s.store.book j)
        by_kind c (a_retry slot j) allow = nobody_again slot j (s.store.book j) refl
        by_kind c (a_turn slot) allow = nobody_turns slot (s.slots slot) refl
        by_kind c (a_retire floor) allow = h.nobody
        by_kind c (an_idle _ i) allow = λ slot a e. h.nobody slot a (i.slots_left slot a e)

    stays_retired : (c : Call) → refusal pack s c ≡ none → AboveFor c s.store → Retired (rule pack s c).state
    stays_retired c allow above =
        record {
          gone = (change_stays pack s c (rule pack s c).state.store above (change pack s c allow)).gone id h.gone;
          nobody = still_nobody c allow;
        }

  -- ── booked or retired ──

  -- What a call does keeps the room, if no other request's block runs in it.
  pub rule_keeps : (s : State) → HasRoom s → (c : Call) → refusal pack s c ≡ none → AboveFor c s.store → NoOther pack id s c →
      HasRoom (rule pack s c).state
  rule_keeps s (inl h) c allow above alone = in_book_keeps s h c allow alone
  rule_keeps s (inr h) c allow above alone = inr (stays_retired s h c allow above)

  -- No turn of the request meets 21.
  pub has_room : (s : State) → HasRoom s → (slot : ℕ) (a : Agent) → s.slots slot ≡ some a → a.id ≡ id →
      can_turn pack s.store (s.slots slot) ≡ true
  has_room s (inl h) slot a e i = in_book_turns s h slot a e i
  has_room s (inr h) slot a e i = absurd (h.nobody slot a e i)

  -- The arrival that books it finds the room.
  pub arrives : (s : State) (slot : ℕ) → slot < 8 → FindsRoom pack P s.store id q → Nobody s →
      HasRoom (arrive s slot id q (s.store.book id)).state
  unfolding arrive follow
  arrives s slot low finds nobody =
      rw finds.new
      (inl (record {
        booked = update_same s.store.book id (some q);
        far = 0;
        course = start q;
        step = 0;
        stands = refl;
        unlogged = λ p u i l. not_found (s.store.log.usual p id u) (finds.no_log p u i);
        room = λ p i r. let g = finds.free p i in omega (arith, g.2, g.1.none_exceeds r);
        agents =
            update_each s.slots slot (some (agent_at (start q) 0)) (λ j a. a.id ≡ id → Led s.store.log j a)
            (its_own s.store.log slot (agent_at (start q) 0) (low, 0, refl)) (λ j a n f g. absurd (nobody j a f g));
      }))
