-- After any calls from any store without agents, agents and replies go by the log: what the log had decided at first stays decided until
-- its request is retired, and each agent has come as far as its turns.
use mathlib.Core.Bool.{true}
use mathlib.Core.Path.{◌≡◌, refl, sym, ◌∙◌, ap, subst}
use mathlib.Core.List.Memᴰ
use mathlib.Core.List.{List, [], ◌∷◌, Memᴰ}
use mathlib.Core.Logic.{◌⊎◌, inl, inr}
use mathlib.Core.Option.{Option, none, some, some-injective}
use Prim.Native.Nat.{ℕ, suc, ◌≤◌, ◌<◌}
use native.Mathlib.Omega.{arith}
use borrow.Author.Tests.{ltb-true}
use Rattle.questions.specs.Basics.{update, is_some}
use Rattle.rules.specs.Instructions.{Code, Pack, Place}
use Rattle.rules.specs.Blocks.{Result, Block, run_block}
use Rattle.rules.specs.Courses.{Course, Next, goes, does, says, next_of}
use Rattle.rules.specs.Store.{Request, Store, found, booked, written, floor_of, retired}
use Rattle.rules.specs.Logged.{request_code, start, Stage, at, finished, behind, by_next, follow, reply_logged}
use Rattle.rules.specs.Calls.{Agent, State, Outcome, Call, turn, retire, with_store}
use Rattle.rules.specs.Calls.{with_slot, started, arrive, again, through_block, turn_on, turn_in, refusal, rule}
use Rattle.rules.specs.Plain.{Reply, with_answer, Tally, Tallies, Feed, feeds, tallied}
use Rattle.questions.proofs.Updates.{none_some, false_true, update_same, update_other, update_each}
use Rattle.questions.proofs.Questions.{ask_none}
use Rattle.rules.proofs.Follow.{row_grows, row_here, follow_stays, follow_next}
use Rattle.rules.proofs.Logged.{Ends, ends_once, ends_stay, logged_ends}
use Rattle.rules.proofs.Invariant.{Eight, Above, Remains, eight_set}
use Rattle.rules.proofs.ByFeed.{Idle, Kind, an_arrival, a_retry, a_turn, a_retire, an_idle, kind}
use Rattle.rules.proofs.Retire.{retire_asked, floor_rises, slot_stays}
use Rattle.rules.proofs.Changes.{from_floor_lem, AboveFor, Gone, Stays, stays_here, stays_on, not_found}
use Rattle.rules.proofs.Changes.{booking_remains, booking_stays, retired_remains, retiring_stays}
use Rattle.rules.proofs.Turn.{tally_of}
use Rattle.rules.proofs.Stands.{StandsByLog, turn_is, turn_counted}

-- a reply is the one to which the log leads its request
pub record Given (pack : Pack) (s : Store) (r : Reply) : Type 0 where
  pub request : Request
  pub book_is : s.book r.id ≡ some request
  pub ends : Ends s.log r.id (request_code pack request) request r.value

-- Agents stand in the eight slots only, so that 28 is asked of all of them. A reply that was given is the one to which the log leads its
-- request, or its id is gone, and is never replied to again.
pub record ByLog (pack : Pack) (first : Store) (s : State) (t : Tallies) (rs : List Reply) : Type 0 where
  pub stays : Stays first s.store
  pub slots : (slot : ℕ) (a : Agent) → s.slots slot ≡ some a → StandsByLog pack s.store (t slot) a
  pub eight : Eight s.slots
  pub replies : (r : Reply) → Memᴰ r rs → Given pack s.store r ⊎ Gone s.store r.id
  -- a reply that could be worked out from the first store's log is the reply that is given
  pub before : (r : Reply) → Memᴰ r rs → (v : Result) → reply_logged pack first.log r.id (first.book r.id) ≡ some v →
      r.value ≡ v
  -- all replies to one id are equal
  pub equal : (r r' : Reply) → Memᴰ r rs → Memᴰ r' rs → r.id ≡ r'.id → r.value ≡ r'.value

-- what is booked stays booked, and its log rows stay
abbrev Kept : Store → Store → (id : ℕ) → Type 0
Kept s s' id = Remains s.log s'.log s.book s'.book id

module _ (pack : Pack) (first : Store) where
  -- another store, in which each agent's request stays
  onto_store : (s : State) (t : Tallies) (rs : List Reply) → ByLog pack first s t rs → (s' : Store) → Stays s.store s' →
      ((slot : ℕ) (a : Agent) → s.slots slot ≡ some a → Kept s.store s' a.id) → ByLog pack first (with_store s s') t rs
  onto_store s t rs inv s' on agents =
      record {
        stays = stays_on first s.store s' inv.stays on;
        slots =
            λ slot a e.
            let h = inv.slots slot a e in
            let k = agents slot a e h.request h.book_is in
            record {
              request = h.request;
              moves = h.moves;
              counted = h.counted;
              book_is = k.0;
              there =
                  follow_stays s.store.log s'.log a.id (request_code pack h.request) h.request h.moves
                  (at a.course a.step) k.1 h.there;
            };
        eight = inv.eight;
        replies = λ r m. go r (inv.replies r m) (on.remains r.id);
        before = inv.before;
        equal = inv.equal;
      }
    where
      go : (r : Reply) → Given pack s.store r ⊎ Gone s.store r.id → Kept s.store s' r.id ⊎ Gone s' r.id →
          Given pack s' r ⊎ Gone s' r.id
      go r (inr g) k = inr (on.gone r.id g)
      go r (inl h) (inr g) = inr g
      go r (inl h) (inl k) =
          let l = k h.request h.book_is in
          inl
          (record {
            request = h.request;
            book_is = l.0;
            ends = ends_stay s.store.log s'.log r.id (request_code pack h.request) h.request r.value l.1 h.ends;
          })

  module _ (s : State) (t : Tallies) (rs : List Reply) (inv : ByLog pack first s t rs) (slot : ℕ) (low : slot < 8) where
    -- something else in one of the eight slots, and another tally
    into_slot : (tally : Option Tally) (o : Option Agent) → ((a : Agent) → o ≡ some a → StandsByLog pack s.store tally a) →
        ByLog pack first (with_slot s slot o) (update t slot tally) rs
    into_slot tally o new =
        record {
          stays = inv.stays;
          slots =
              update_each s.slots slot o (λ j a. StandsByLog pack s.store (update t slot tally j) a)
              (λ a e. subst (λ w. StandsByLog pack s.store w a) (sym (update_same t slot tally)) (new a e))
              (λ j a n e. subst (λ w. StandsByLog pack s.store w a) (sym (update_other t slot tally j n)) (inv.slots j a e));
          eight = eight_set s.slots inv.eight slot o low;
          replies = inv.replies;
          before = inv.before;
          equal = inv.equal;
        }

    -- this agent in the slot
    holds : (tally : Option Tally) (a : Agent) → StandsByLog pack s.store tally a →
        ByLog pack first (with_slot s slot (some a)) (update t slot tally) rs
    holds tally a h =
        into_slot tally (some a) (λ b e. subst (λ (x : Agent). StandsByLog pack s.store tally x) (some-injective a b e) h)

    -- a booked request starts
    starts : (id : ℕ) (q : Request) → s.store.book id ≡ some q → ByLog pack first (started s slot id q) (update t slot (tally_of id 0)) rs
    unfolding follow
    starts id q e =
        holds (tally_of id 0) (record { id = id; course = start q; step = 0 })
        (record { request = q; moves = 0; counted = refl; book_is = e; there = refl })

  module _ (s : State) (t : Tallies) (rs : List Reply) (inv : ByLog pack first s t rs) (slot : ℕ) (low : slot < 8) where
    arrives : (id : ℕ) (q : Request) → floor_of s.store ≤ id → (o : Option Request) → s.store.book id ≡ o →
        ByLog pack first (arrive s slot id q o).state (update t slot (tally_of id 0)) (with_answer (arrive s slot id q o).answer rs)
    unfolding arrive
    arrives id q l none e =
        starts (with_store s store') t rs
        (onto_store s t rs inv store' (booking_stays s.store id q e l) (λ j a f. booking_remains s.store id q e a.id))
        slot low id q (update_same s.store.book id (some q))
      where
        store' : Store
        store' = booked s.store id q
    arrives id q l (some known) e = starts s t rs inv slot low id known e

    retries : (id : ℕ) (o : Option Request) → s.store.book id ≡ o → is_some o ≡ true →
        ByLog pack first (again s slot id o).state (update t slot (tally_of id 0)) (with_answer (again s slot id o).answer rs)
    unfolding again
    retries id none e u = false_true refl u
    retries id (some known) e u = starts s t rs inv slot low id known e

    module _ (a : Agent) (h : StandsByLog pack s.store (t slot) a) where
      abbrev code : Code
      code = request_code pack h.request

      -- one turn more
      abbrev tally : Option Tally
      tally = tally_of a.id (suc h.moves)

      -- where the log leads, one move more, by what the agent does next
      next : (x : Next) (o : Option Stage) → next_of code a.course ≡ x → by_next s.store.log a.id a.step x ≡ o →
          follow s.store.log a.id code h.request (suc h.moves) ≡ o
      next x o e = follow_next s.store.log a.id code h.request h.moves a.course a.step x o h.there e

      moves_on : (to : Course) (u : ℕ) → follow s.store.log a.id code h.request (suc h.moves) ≡ some (at to u) →
          ByLog pack first (with_slot s slot (some (record { id = a.id; course = to; step = u }))) (update t slot tally) rs
      moves_on to u f =
          holds s t rs inv slot low tally (record { id = a.id; course = to; step = u })
          (record { request = h.request; moves = suc h.moves; counted = refl; book_is = h.book_is; there = f })

      -- a block, by what its log row says
      through : (from : Place) (p : ℕ) (onto : Result → Course) → next_of code a.course ≡ does from p onto → (o : Option Result) →
          found s.store.log p a.id a.step ≡ o →
          ByLog pack first (through_block s slot a code from p onto o).state (update t slot tally)
          (with_answer (through_block s slot a code from p onto o).answer rs)
      unfolding through_block behind
      through from p onto e (some r) f =
          moves_on (onto r) (suc a.step) (next (does from p onto) (some (at (onto r) (suc a.step))) e (ap (behind onto a.step) f))
      through from p onto e none f =
          holds (with_store s store') t rs (onto_store s t rs inv store' on (λ j x f. kept x.id)) slot low tally
          (record { id = a.id; course = onto b.result; step = suc a.step })
          (record { request = h.request; moves = suc h.moves; counted = refl; book_is = h.book_is; there = there' })
        where
          b : Block
          b = run_block code from (s.store.rows p)

          store' : Store
          store' = written s.store p a.id a.step b

          kept : (id : ℕ) → Kept s.store store' id
          kept id q g = (
            g,
            row_grows s.store.log p a.id a.step b.result
                (not_found (s.store.log.usual p a.id a.step) f) id,
          )

          on : Stays s.store store'
          on = record { remains = λ id. inl (kept id); rises = omega arith; gone = λ id g. g }

          there' : follow store'.log a.id code h.request (suc h.moves) ≡ some (at (onto b.result) (suc a.step))
          there' =
              follow_next store'.log a.id code h.request h.moves a.course a.step (does from p onto)
              (some (at (onto b.result) (suc a.step)))
              (follow_stays s.store.log store'.log a.id code h.request h.moves (at a.course a.step)
              (kept a.id h.request h.book_is).1 h.there) e
              (ap (behind onto a.step) (row_here s.store.log p a.id a.step b.result))

      -- a reply: its request is booked, so that it isn't gone
      module _ (v : Result) (e : next_of code a.course ≡ says v) where
        abbrev new : Reply
        new = record { id = a.id; value = v }

        new_ends : Ends s.store.log a.id code h.request v
        new_ends = (suc h.moves, next (says v) (some (finished v)) e refl)

        -- what the log had decided at first
        as_decided : (w : Result) → reply_logged pack first.log a.id (first.book a.id) ≡ some w → v ≡ w
        unfolding reply_logged
        as_decided w d = go (first.book a.id) refl d (inv.stays.remains a.id)
          where
            go : (o : Option Request) → first.book a.id ≡ o → reply_logged pack first.log a.id o ≡ some w →
                Kept first s.store a.id ⊎ Gone s.store a.id → v ≡ w
            go none b f k = none_some w refl f
            go (some q) b f (inr g) = none_some h.request g.1 h.book_is
            go (some q) b f (inl k) =
                let l = k q b in
                let same : h.request ≡ q = some-injective h.request q (sym h.book_is ∙ l.0) in
                ends_once s.store.log a.id (request_code pack q) q v w
                (subst (λ (x : Request). Ends s.store.log a.id (request_code pack x) x v) same new_ends)
                (ends_stay first.log s.store.log a.id (request_code pack q) q w l.1
                (logged_ends pack first.log a.id q w f))

        -- an earlier reply to the id
        as_earlier : (r : Reply) → Memᴰ r rs → r.id ≡ a.id → r.value ≡ v
        as_earlier r m i = go (inv.replies r m)
          where
            go : Given pack s.store r ⊎ Gone s.store r.id → r.value ≡ v
            go (inr g) = none_some h.request g.1 (ap s.store.book i ∙ h.book_is)
            go (inl g) =
                let same : g.request ≡ h.request =
                some-injective g.request h.request (sym g.book_is ∙ ap s.store.book i ∙ h.book_is) in
                ends_once s.store.log a.id code h.request r.value v
                (subst (λ (x : Request). Ends s.store.log a.id (request_code pack x) x r.value) same
                (subst (λ j. Ends s.store.log j (request_code pack g.request) g.request r.value) i g.ends))
                new_ends

        says_it : ByLog pack first (with_slot s slot none) (update t slot tally) (new ∷ rs)
        says_it =
            let rest = into_slot s t rs inv slot low tally none (λ x g. none_some x refl g) in
            record {
              stays = inv.stays;
              slots = rest.slots;
              eight = rest.eight;
              replies = λ r m. led r (Memᴰ.cases_cons m);
              before = λ r m. decided r (Memᴰ.cases_cons m);
              equal = λ r r' m m'. alike r r' (Memᴰ.cases_cons m) (Memᴰ.cases_cons m');
            }
          where
            led : (r : Reply) → (r ≡ new) ⊎ Memᴰ r rs → Given pack s.store r ⊎ Gone s.store r.id
            led r (inl g) =
                inl
                (subst (λ (x : Reply). Given pack s.store x) (sym g)
                (record { request = h.request; book_is = h.book_is; ends = new_ends }))
            led r (inr m) = inv.replies r m

            decided : (r : Reply) → (r ≡ new) ⊎ Memᴰ r rs → (w : Result) →
                reply_logged pack first.log r.id (first.book r.id) ≡ some w → r.value ≡ w
            decided r (inl g) =
                subst (λ (x : Reply). (w : Result) → reply_logged pack first.log x.id (first.book x.id) ≡ some w → x.value ≡ w)
                (sym g) as_decided
            decided r (inr m) = inv.before r m

            alike : (r r' : Reply) → (r ≡ new) ⊎ Memᴰ r rs → (r' ≡ new) ⊎ Memᴰ r' rs → r.id ≡ r'.id → r.value ≡ r'.value
            alike r r' (inl g) (inl g') i = ap (λ (x : Reply). x.value) (g ∙ sym g')
            alike r r' (inl g) (inr m') i =
                ap (λ (x : Reply). x.value) g ∙ sym (as_earlier r' m' (sym i ∙ ap (λ (x : Reply). x.id) g))
            alike r r' (inr m) (inl g') i =
                as_earlier r m (i ∙ ap (λ (x : Reply). x.id) g') ∙ sym (ap (λ (x : Reply). x.value) g')
            alike r r' (inr m) (inr m') i = inv.equal r r' m m' i

      turns_on : (x : Next) → next_of code a.course ≡ x →
          ByLog pack first (turn_on s slot a code x).state (update t slot tally) (with_answer (turn_on s slot a code x).answer rs)
      unfolding turn_on
      turns_on (goes to) e = moves_on to a.step (next (goes to) (some (at to a.step)) e refl)
      turns_on (says v) e = says_it v e
      turns_on (does from p onto) e = through from p onto e (found s.store.log p a.id a.step) refl

    turns : (o : Option Agent) → s.slots slot ≡ o → is_some o ≡ true →
        ByLog pack first (turn_in pack s slot o).state (tallied t (feeds (turn slot))) (with_answer (turn_in pack s slot o).answer rs)
    turns none e u = false_true refl u
    turns (some a) e u =
        let h = inv.slots slot a e in
        subst (λ (x : Tallies). ByLog pack first (turn_in pack s slot (some a)).state x
        (with_answer (turn_in pack s slot (some a)).answer rs))
        (sym (turn_counted pack s t slot a h))
        (subst (λ (x : Outcome). ByLog pack first x.state (update t slot (tally a h)) (with_answer x.answer rs))
        (sym (turn_is pack s t slot a h))
        (turns_on a h (next_of (request_code pack h.request) a.course) refl))

  -- a call that feeds nothing
  idle_by_log : (s : State) (t : Tallies) (rs : List Reply) → ByLog pack first s t rs → (c : Call) → Idle pack s c →
      ByLog pack first (rule pack s c).state (tallied t (feeds c)) (with_answer (rule pack s c).answer rs)
  unfolding tallied
  idle_by_log s t rs inv c i =
      subst (λ (f : Feed). ByLog pack first s' (tallied t f) (with_answer (rule pack s c).answer rs)) (sym i.feeds_none)
      (subst (λ (l : List Reply). ByLog pack first s' t l) (sym (i.no_reply rs))
      (subst (λ (st : Store). ByLog pack first (with_store s' st) t rs) (sym i.store_left)
      (record {
        stays = inv.stays;
        slots = λ slot a e. inv.slots slot a (i.slots_left slot a e);
        eight = λ slot a e. inv.eight slot a (i.slots_left slot a e);
        replies = inv.replies;
        before = inv.before;
        equal = inv.equal;
      })))
    where
      s' : State
      s' = (rule pack s c).state

  -- a retire: no agent's request is retired
  retires_by_log : (s : State) (t : Tallies) (rs : List Reply) → ByLog pack first s t rs → (floor : ℕ) →
      refusal pack s (retire floor) ≡ none → Above s.store → ByLog pack first (with_store s (retired s.store floor)) t rs
  retires_by_log s t rs inv floor allow above =
      let asked = retire_asked pack s floor allow in
      let l = floor_rises s.store floor above asked.1 in
      onto_store s t rs inv (retired s.store floor) (retiring_stays s.store floor (omega arith))
      (λ slot a e q b.
      retired_remains s.store floor a.id (slot_stays pack s floor asked.0 slot a (inv.eight slot a e) e q b) q b)

  -- What a call does goes by the log, when no question says no.
  pub rule_by_log : (s : State) (t : Tallies) (rs : List Reply) → ByLog pack first s t rs → (c : Call) → refusal pack s c ≡ none →
      AboveFor c s.store → ByLog pack first (rule pack s c).state (tallied t (feeds c)) (with_answer (rule pack s c).answer rs)
  unfolding rule refusal tallied
  rule_by_log s t rs inv c allow above = by_kind c (kind pack s c) allow above
    where
      by_kind : (c : Call) → Kind pack s c → refusal pack s c ≡ none → AboveFor c s.store →
          ByLog pack first (rule pack s c).state (tallied t (feeds c)) (with_answer (rule pack s c).answer rs)
      by_kind c (an_arrival slot id w args) allow above =
          arrives s t rs inv slot (ltb-true slot 8 (ask_none _ _ _ allow).0) id (record { workflow = w; arguments = args })
          (from_floor_lem pack s slot id w args allow) (s.store.book id) refl
      by_kind c (a_retry slot id) allow above =
          retries s t rs inv slot (ltb-true slot 8 (ask_none _ _ _ allow).0) id (s.store.book id) refl
          (ask_none _ _ _ (ask_none _ _ _ (ask_none _ _ _ allow).1).1).0
      by_kind c (a_turn slot) allow above =
          turns s t rs inv slot (ltb-true slot 8 (ask_none _ _ _ allow).0) (s.slots slot) refl
          (ask_none _ _ _ (ask_none _ _ _ allow).1).0
      by_kind c (a_retire floor) allow above = retires_by_log s t rs inv floor allow (above floor refl)
      by_kind c (an_idle _ i) allow above = idle_by_log s t rs inv c i

  -- A store without agents.
  pub at_first : (s : State) (t : Tallies) → s.store ≡ first → ((slot : ℕ) → s.slots slot ≡ none) → ByLog pack first s t []
  at_first s t same empty =
      record {
        stays = subst (Stays first) (sym same) (stays_here first);
        slots = λ slot a e. none_some a (empty slot) e;
        eight = λ slot a e. none_some a (empty slot) e;
        replies = λ r m. absurd (Memᴰ.not-nil m);
        before = λ r m. absurd (Memᴰ.not-nil m);
        equal = λ r r' m. absurd (Memᴰ.not-nil m);
      }
