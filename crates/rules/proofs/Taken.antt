-- Moves as routes: the run of a block is a way through it, and each move that a request makes leads a route from where it stands.
use mathlib.Core.Path.{◌≡◌, refl, sym, ◌∙◌, ap, subst}
use mathlib.Core.Logic.{◌⊎◌, inl, inr}
use mathlib.Core.List.{[]}
use mathlib.Core.Bool.{Bool, true, false}
use mathlib.Core.Option.{none, some}
use Prim.Native.Nat.{ℕ, zero, suc, ◌+◌, ◌-◌, ◌≤◌, ◌<◌}
use native.Mathlib.Omega.{arith}
use lib.ListN.{length}
use Rattle.questions.specs.Basics.{if◌then◌otherwise◌, is_some}
use Rattle.rules.specs.Instructions.{Code, Place, next, Instruction, BEGIN, Act, moves, opens, closes, reads, puts, returns}
use Rattle.rules.specs.Instructions.{act_at, instruction_at}
use Rattle.rules.specs.Shapes.{outside, inside, shape, GoesOn}
use Rattle.rules.specs.Blocks.{Table, behind_end, Work, Result, yields, Block, within, run_from, run_block, after_block}
use Rattle.rules.specs.Courses.{Course, going, passed, Next, goes, does, says, next_by, next_of}
use Rattle.rules.specs.Store.{Request, Log}
use Rattle.rules.specs.Logged.{start, at, by_next, follow}
use Rattle.rules.specs.Checked.{side_at, GoesTo, Checked}
use Rattle.rules.specs.Routes.{Way, Route, puts_of, puts_on, Counting, by_turns, count_on, MostOf, MostFrom}
use Rattle.rules.proofs.Shapes.{Agrees, agrees}
use Rattle.rules.proofs.Follow.{behind_at, follow_before, follow_next}
use Rattle.rules.proofs.Positions.{own_side_lem, two_sides, does_begins, follow_position, goes_forward, does_forward}
use Rattle.rules.proofs.Blocks.{Between, in_code, next_between, jump_between, not_outside, first_between}
use Rattle.rules.proofs.Routes.{turns_rise, best_exists}

-- ── The run of a block is a way ──

-- a way from an index on that passes at least so many PUTs
abbrev pub PutsAtLeast : (code : Code) (index least : ℕ) → Type 0
PutsAtLeast code i n = (w : Way code i) × (n ≤ puts_on code i w)

module _ (code : Code) (checked : Checked code) (begin p : ℕ) (opened : begin < length code)
    (begins : instruction_at code begin ≡ BEGIN p) where
  abbrev Within : ℕ → Type 0
  Within = Between code checked begin p opened begins

  -- of a run under way: some way on from there passes a PUT for each key that is still to be new, of so many in all
  abbrev Rest : Work → (new_keys : ℕ) → Type 0
  Rest w n = (r : Way code w.place.position) × (n ≤ w.new_keys + puts_on code w.place.position r)

  -- on to the next instruction, whatever PUTs it counts
  next_rest : (w : Work) (n new : ℕ) → GoesOn (shape (instruction_at code w.place.position)) →
      new ≤ w.new_keys + puts_of (instruction_at code w.place.position) → (i : ℕ) → i ≡ suc w.place.position →
      ((r : Way code i) × (n ≤ new + puts_on code i r)) → Rest w n
  unfolding puts_on
  next_rest w n new on l i e r =
      let r' = subst (λ j. (r : Way code j) × (n ≤ new + puts_on code j r)) e r in
      (Way.passes w.place.position on r'.0, omega (arith, l, r'.1))

  -- one instruction, if the rest of the run is a way
  one_way : (w : Work) (f : Work → Block) →
      ((v : Work) → w.place.position < v.place.position → Within v.place.position → Rest v (f v).new_keys) →
      (h : Within w.place.position) → (y : Act) →
      Agrees (instruction_at code w.place.position) w.place y → Rest w (within y w f).new_keys
  unfolding within puts_on
  one_way w f rec h (moves to) (on, inl e) =
      next_rest w _ w.new_keys on (omega arith) to.position e
      (rec _ (omega arith) (subst Within (sym e) (next_between code checked begin p opened begins w.place.position h on)))
  one_way w f rec h (moves to) (on, inr e) =
      let i = w.place.position in
      let l = in_code code checked begin p opened begins i h in
      let r = rec (record { place = to; table = w.table; new_keys = w.new_keys })
      (subst (GoesTo code i) e (checked.stands i l).1).0
      (jump_between code checked begin p opened begins i h on to.position e) in
      (Way.leaps i to.position e r.0, r.1)
  one_way w f rec h (reads k to) (s, on, e) =
      next_rest w _ w.new_keys on (omega arith) (to (w.table k)).position (e (w.table k))
      (rec _ (omega (arith, e (w.table k)))
      (subst Within (sym (e (w.table k))) (next_between code checked begin p opened begins w.place.position h on)))
  one_way w f rec h (puts k v) (s, on, one) =
      next_rest w _ _ on (at_most_one (is_some (w.table k))) (suc w.place.position) refl
      (rec _ (omega arith) (next_between code checked begin p opened begins w.place.position h on))
    where
      at_most_one : (b : Bool) →
          if◌then◌otherwise◌ b w.new_keys (suc w.new_keys) ≤ w.new_keys + puts_of (instruction_at code w.place.position)
      at_most_one true = omega arith
      at_most_one false = omega (arith, one)
  one_way w f rec h (closes v) (s, b, (d, e, g)) = (Way.ends w.place.position d e, omega arith)
  one_way w f rec h (opens q) a = not_outside code checked begin p opened begins w.place.position h (ap (λ y. (shape y).stands) a)
  one_way w f rec h (returns v) a = not_outside code checked begin p opened begins w.place.position h a

  rest_way : (ahead : ℕ) (w : Work) → Within w.place.position → length code ≤ w.place.position + ahead →
      Rest w (run_from code ahead w).new_keys
  unfolding run_from act_at
  rest_way zero w h l = absurd (let b = in_code code checked begin p opened begins w.place.position h in omega arith)
  rest_way (suc ahead) w h l =
      one_way w (run_from code ahead) (λ v f b. rest_way ahead v b (omega arith)) h
      (act_at code w.place) (agrees (instruction_at code w.place.position) w.place)

-- The run of a block is a way through it, and that passes a PUT for each new key.
pub block_way : (code : Code) → Checked code → (from : Place) (p : ℕ) (table : Table) → from.position < length code →
    instruction_at code from.position ≡ BEGIN p → PutsAtLeast code (suc from.position) (run_block code from table).new_keys
unfolding run_block
block_way code checked from p table h e =
    let r = rest_way code checked from.position p h e (length code - suc from.position)
    (record { place = next from; table = table; new_keys = 0 })
    (first_between code checked from.position p h e) (omega arith) in
    (r.0, omega (arith, r.1))

-- ── Some route ──

module _ (code : Code) (checked : Checked code) where
  -- from each index outside blocks there is a route
  pub some_route : (i : ℕ) → i < length code → side_at code i ≡ outside → Route code i
  some_route i h o =
      let m = best_exists code checked by_turns turns_rise (length code) i h (omega arith) in
      (subst (λ side. MostFrom by_turns code side i m.0) o m.1).best

  -- and through each block a way
  some_way : (i p : ℕ) → i < length code → instruction_at code i ≡ BEGIN p → Way code (suc i)
  some_way i p h e = (block_way code checked (record { position = i; registers = [] }) p (λ k. none) h e).0

-- a route has at least one turn, its RETURN
pub some_turn : (code : Code) (i : ℕ) (r : Route code i) → 1 ≤ count_on by_turns code i r
unfolding count_on
some_turn code _ (Route.replies i d e) = omega arith
some_turn code _ (Route.goes i g r) = omega arith
some_turn code _ (Route.jumps i target e r) = omega arith
some_turn code _ (Route.through i p e w r) = omega arith

-- ── A move leads a route ──

-- each route from j makes one from i that counts so much more
abbrev pub Makes : (code : Code) (i j : ℕ) (more : Counting → ℕ) → Type 0
Makes code i j more = (r : Route code j) → (r' : Route code i) × ((k : Counting) → count_on k code i r' ≡ more k + count_on k code j r)

-- by an instruction
abbrev pub per_instruction : Counting → ℕ
per_instruction k = k.one

-- by a block of a partition, with so many PUTs passed in it
abbrev pub per_block : (partition puts : ℕ) → Counting → ℕ
per_block p n k = k.block p n

-- a block that an agent does opens where it stands
pub begins_here : (code : Code) (c : Course) (from : Place) (p : ℕ) (onto : Result → Course) → next_of code c ≡ does from p onto →
    instruction_at code c.place.position ≡ BEGIN p
begins_here code c from p onto e =
    let b = does_begins code c from p onto e in ap (λ (x : Place). instruction_at code x.position) (sym b.0) ∙ b.1

-- and behind it stands what follows its END
behind_block_lem : (code : Code) (c : Course) (from : Place) (p : ℕ) (onto : Result → Course) → next_of code c ≡ does from p onto →
    (r : Result) → (onto r).place.position ≡ behind_end code c.place.position
unfolding next_of next_by
behind_block_lem code c from p onto e r = go (act_at code c.place) e
  where
    behind_end_lem : (r : Result) → (passed code c.place r).place.position ≡ behind_end code c.place.position
    behind_end_lem (yields v) = unfold passed in unfold after_block in refl

    go : (y : Act) → next_by code c.place y ≡ does from p onto → (onto r).place.position ≡ behind_end code c.place.position
    go (opens q) f =
        let g : passed code c.place ≡ onto = cc in
        ap (λ (h : Result → Course). (h r).place.position) (sym g) ∙ behind_end_lem r
    go (moves to) f = absurd (let z : ◌≡◌ {A = ℕ} 0 1 = cc in omega arith)
    go (closes v) f = absurd (let z : ◌≡◌ {A = ℕ} 0 1 = cc in omega arith)
    go (reads k to) f = absurd (let z : ◌≡◌ {A = ℕ} 0 1 = cc in omega arith)
    go (puts k v) f = absurd (let z : ◌≡◌ {A = ℕ} 0 1 = cc in omega arith)
    go (returns v) f = absurd (let z : ◌≡◌ {A = ℕ} 0 1 = cc in omega arith)

-- a block leads a route by each way through it
pub block_makes : (code : Code) (c : Course) (from : Place) (p : ℕ) (onto : Result → Course) → next_of code c ≡ does from p onto →
    (w : Way code (suc c.place.position)) (r : Result) →
    Makes code c.place.position (onto r).place.position (per_block p (puts_on code (suc c.place.position) w))
unfolding count_on
block_makes code c from p onto e w r =
    subst (λ j. Makes code i j (per_block p (puts_on code (suc i) w))) (sym (behind_block_lem code c from p onto e r))
    (λ t. (Route.through i p (begins_here code c from p onto e) w t, λ k. refl))
  where
    i : ℕ
    i = c.place.position

module _ (code : Code) (checked : Checked code) where
  module _ (pl : Place) (h : pl.position < length code) (o : side_at code pl.position ≡ outside) where
    abbrev x : Instruction
    x = instruction_at code pl.position

    -- an instruction that stands inside isn't met
    not_met : {A : Type 0} → (shape x).stands ≡ some inside → A
    not_met e = two_sides (own_side_lem code checked pl.position h inside e) o

    either_way : (to : Place) → GoesOn (shape x) → (to.position ≡ suc pl.position) ⊎ ((shape x).target ≡ some to.position) →
        Makes code pl.position to.position per_instruction
    unfolding count_on
    either_way to on (inl e) =
        subst (λ j. Makes code pl.position j per_instruction) (sym e) (λ r. (Route.goes pl.position on r, λ k. refl))
    either_way to on (inr e) = λ r. (Route.jumps pl.position to.position e r, λ k. refl)

    goes_by : (c' : Course) (y : Act) → Agrees x pl y → next_by code pl y ≡ goes c' →
        Makes code pl.position c'.place.position per_instruction
    unfolding next_by
    goes_by c' (moves to) (on, w) e =
        let q : going to ≡ c' = cc in
        subst (λ (c : Course). Makes code pl.position c.place.position per_instruction) q (either_way to on w)
    goes_by c' (opens p) a e = absurd (let z : ◌≡◌ {A = ℕ} 0 1 = cc in omega arith)
    goes_by c' (closes v) a e = not_met a.0
    goes_by c' (reads k to) a e = not_met a.0
    goes_by c' (puts k v) a e = not_met a.0
    goes_by c' (returns v) a e = absurd (let z : ◌≡◌ {A = ℕ} 0 1 = cc in omega arith)

  module _ (c : Course) (h : c.place.position < length code) (o : side_at code c.place.position ≡ outside) where
    -- one instruction leads a route
    pub move_makes : (c' : Course) → next_of code c ≡ goes c' → Makes code c.place.position c'.place.position per_instruction
    unfolding next_of act_at
    move_makes c' e = goes_by c.place h o c' _ (agrees (instruction_at code c.place.position) c.place) e

    -- and so does a move by the log
    logged_makes : (log : Log) (id t : ℕ) (c' : Course) (t' : ℕ) (y : Next) → next_of code c ≡ y → by_next log id t y ≡ some (at c' t') →
        (r : Route code c'.place.position) →
        (r' : Route code c.place.position) × (count_on by_turns code _ r' ≡ 1 + count_on by_turns code _ r)
    logged_makes log id t c' t' (goes to) e s r =
        let q : to ≡ c' = cc in
        let m = move_makes c' (e ∙ ap goes q) r in
        (m.0, m.1 by_turns)
    logged_makes log id t c' t' (says v) e s r = absurd (let z : ◌≡◌ {A = ℕ} 0 1 = cc in omega arith)
    logged_makes log id t c' t' (does from p onto) e s r =
        let b = behind_at onto t _ c' t' s in
        let w = some_way code checked c.place.position p h (begins_here code c from p onto e) in
        let m = subst (λ (d : Course). Makes code c.place.position d.place.position (per_block p (puts_on code _ w))) b.1
        (block_makes code c from p onto e w b.0) r in
        (m.0, m.1 by_turns)

  -- A request under way after n moves: each route from where it stands makes one through the workflow that has n turns more.
  pub follow_turns : (log : Log) (id : ℕ) (q : Request) (n : ℕ) (c : Course) (t : ℕ) → follow log id code q n ≡ some (at c t) →
      (r : Route code c.place.position) → (r' : Route code 0) × (count_on by_turns code 0 r' ≡ n + count_on by_turns code _ r)
  unfolding follow
  follow_turns log id q zero c t e r =
      let w : start q ≡ c = cc in
      let p : c.place.position ≡ 0 = ap (λ (x : Course). x.place.position) (sym w) in
      subst (λ i. (r : Route code i) → (r' : Route code 0) × (count_on by_turns code 0 r' ≡ 0 + count_on by_turns code i r)) (sym p)
      (λ r. (r, omega arith)) r
  follow_turns log id q (suc n) c t e r =
      let b = follow_before log id code q n (at c t) e in
      let h = follow_position code checked log id q n b.0 b.1 b.2 in
      let m = logged_makes b.0 h.1 h.2 log id b.1 c t (next_of code b.0) refl
      (sym (follow_next log id code q n b.0 b.1 _ _ b.2 refl refl) ∙ e) r in
      let f = follow_turns log id q n b.0 b.1 b.2 m.0 in
      (f.0, omega (arith, f.1, m.1))

  -- ── The figure of turns ──

  module _ (log : Log) (id : ℕ) (q : Request) (n : ℕ) (c : Course) (t : ℕ) (f : follow log id code q n ≡ some (at c t))
      (m : ℕ) (most : MostOf by_turns code m) where
    -- a route from where the request stands is within the figure, the moves made so far included
    ahead_within : (r : Route code c.place.position) → n + count_on by_turns code _ r ≤ m
    ahead_within r = let w = follow_turns log id q n c t f r in omega (arith, w.1, most.none_exceeds w.0)

    pub next_within : suc n ≤ m
    next_within =
        let h = follow_position code checked log id q n c t f in
        let r = some_route code checked c.place.position h.1 h.2 in
        omega (arith, some_turn code _ r, ahead_within r)

    -- a request that doesn't reply next has two turns ahead
    not_last : (c' : Course) (more : Counting → ℕ) → more by_turns ≡ 1 → Makes code c.place.position c'.place.position more →
        c'.place.position < length code → side_at code c'.place.position ≡ outside → suc n < m
    not_last c' more one makes h o =
        let r = some_route code checked c'.place.position h o in
        let w = makes r in
        omega (arith, some_turn code _ r, w.1 by_turns, one, ahead_within w.0)

    -- If its next move is the last that the figure allows, that is its reply.
    pub last_says : suc n ≡ m → (v : Result) × (next_of code c ≡ says v)
    last_says e = go (next_of code c) refl
      where
        h : (n ≤ c.place.position) × (c.place.position < length code) × (side_at code c.place.position ≡ outside)
            × (t ≤ c.place.position)
        h = follow_position code checked log id q n c t f

        go : (y : Next) → next_of code c ≡ y → (v : Result) × (next_of code c ≡ says v)
        go (says v) g = (v, g)
        go (goes to) g =
            let w = goes_forward code checked c h.1 h.2 to g in
            absurd (omega (arith, e, not_last to per_instruction refl (move_makes c h.1 h.2 to g) w.in_code w.side))
        go (does from p onto) g =
            let v = some_way code checked c.place.position p h.1 (begins_here code c from p onto g) in
            let w = does_forward code checked c h.1 h.2 from p onto g (yields 0) in
            absurd
            (omega (
              arith,
              e,
              not_last (onto (yields 0)) (per_block p (puts_on code _ v)) refl (block_makes code c from p onto g v (yields 0)) w.in_code
                  w.side,
            ))
