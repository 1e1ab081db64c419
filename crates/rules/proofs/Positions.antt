-- In a checked workflow each move goes forward and stays in the code, so that a request under way after n moves stands at n or further.
use mathlib.Core.Bool.{true, false}
use mathlib.Core.Path.{◌≡◌, refl, sym, ◌∙◌, ap, subst}
use mathlib.Core.Logic.{◌⊎◌, inl, inr}
use mathlib.Core.List.{[], ◌∷◌}
use mathlib.Core.Option.{Option, none, some, get_or}
use Prim.Native.Nat.{ℕ, zero, suc, ◌+◌, ◌-◌, ◌≤◌, ◌<◌}
use native.Mathlib.Nat.{not-suc-le-zero, suc-add, zero-add}
use native.Mathlib.Omega.{arith}
use lib.ListN.{length, drop, length-drop}
use Rattle.rules.specs.Instructions.{Code, Place, Instruction, BEGIN, Act, moves, opens, closes, reads, puts, returns, act, act_at}
use Rattle.rules.specs.Instructions.{instruction_at}
use Rattle.rules.specs.Shapes.{Side, outside, inside, shape, GoesOn}
use Rattle.rules.specs.Blocks.{closing, is_end, through_end, behind_end, after_block, Result, yields}
use Rattle.rules.specs.Courses.{Course, going, passed, Next, goes, does, says, next_by, next_of}
use Rattle.rules.specs.Store.{Request, Log}
use Rattle.rules.specs.Logged.{start, at, by_next, follow}
use Rattle.rules.specs.Checked.{side_behind, side_from, side_at, Lands, StandsOn, GoesTo, Checked}
use Rattle.questions.proofs.Updates.{le_cases, false_true}
use Rattle.rules.proofs.Shapes.{Agrees, agrees}
use Rattle.rules.proofs.Follow.{behind_at, follow_before, follow_next}

-- ── Sides ──

side_nil : (side : Side) (j : ℕ) → side_from side [] j ≡ side
side_nil side zero = refl
side_nil side (suc j) = refl

-- the side at i + j, from the side at i
pub side_drop : (side : Side) (code : Code) (i j : ℕ) → side_from side code (i + j) ≡ side_from (side_from side code i) (drop i code) j
side_drop side code zero j = ap (side_from side code) (zero-add j)
side_drop side [] (suc i) j = side_nil side (suc i + j) ∙ sym (side_nil side j)
side_drop side (x ∷ code) (suc i) j = ap (side_from side (x ∷ code)) (suc-add i j) ∙ side_drop (side_behind side x) code i j

pub side_next : (side : Side) (code : Code) (i : ℕ) → i < length code →
    side_from side code (suc i) ≡ side_behind (side_from side code i) (instruction_at code i)
side_next side [] i h = absurd (not-suc-le-zero h)
side_next side (x ∷ code) zero h = refl
side_next side (x ∷ code) (suc i) h = side_next (side_behind side x) code i (omega arith)

-- inside a block, only END closes it
pub stays_inside : (x : Instruction) →
    ((is_end x ≡ true) × (side_behind inside x ≡ outside)) ⊎ ((is_end x ≡ false) × (side_behind inside x ≡ inside))
stays_inside x = go (shape x).behind
  where
    go : (o : Option Side) →
        ((closing o ≡ true) × (get_or o inside ≡ outside)) ⊎ ((closing o ≡ false) × (get_or o inside ≡ inside))
    go none = inr (refl, refl)
    go (some inside) = inr (refl, refl)
    go (some outside) = inl (refl, refl)

-- no instruction stands on both sides
pub two_sides : {A : Type 0} {side : Side} → side ≡ inside → side ≡ outside → A
two_sides {side} e f = absurd (let z : ◌≡◌ {A = ℕ} 0 1 = cc in omega arith)

-- Of instructions of which the first stands inside a block and the last outside, one closes the block, and it isn't the last.
open_through : (rest : Code) (n : ℕ) → suc n ≡ length rest → side_from inside rest n ≡ outside →
    (through_end rest < length rest) × (side_from inside rest (through_end rest) ≡ outside)
open_through [] n e h = absurd (omega arith)
open_through (x ∷ rest) zero e h = two_sides refl h
open_through (x ∷ rest) (suc n) e h = go (stays_inside x) (open_through rest n (omega arith))
  where
    go : ((is_end x ≡ true) × (side_behind inside x ≡ outside)) ⊎ ((is_end x ≡ false) × (side_behind inside x ≡ inside)) →
        (side_from inside rest n ≡ outside → (through_end rest < length rest) × (side_from inside rest (through_end rest) ≡ outside)) →
        (through_end (x ∷ rest) < suc (length rest)) × (side_from inside (x ∷ rest) (through_end (x ∷ rest)) ≡ outside)
    go (inl i) rec = rw i.0 (omega arith, i.1)
    go (inr i) rec =
        let l = rec (ap (λ w. side_from w rest n) (sym i.1) ∙ h) in
        rw i.0 (omega arith, ap (λ w. side_from w rest (through_end rest)) i.1 ∙ l.1)

-- ── What an agent does next ──

-- a block that it does is one that BEGIN opens where it stands
pub does_begins : (code : Code) (c : Course) (from : Place) (p : ℕ) (onto : Result → Course) → next_of code c ≡ does from p onto →
    (from ≡ c.place) × (instruction_at code from.position ≡ BEGIN p)
unfolding next_of next_by act_at
does_begins code c from p onto e = go (act x c.place) (agrees x c.place) e
  where
    x : Instruction
    x = instruction_at code c.place.position

    go : (y : Act) → Agrees x c.place y → next_by code c.place y ≡ does from p onto →
        (from ≡ c.place) × (instruction_at code from.position ≡ BEGIN p)
    go (opens q) a f =
        let same : c.place ≡ from = cc in
        let part : q ≡ p = cc in
        (sym same, ap (λ (pl : Place). instruction_at code pl.position) (sym same) ∙ a ∙ ap BEGIN part)
    go (moves to) a f = absurd (let z : ◌≡◌ {A = ℕ} 0 1 = cc in omega arith)
    go (closes v) a f = absurd (let z : ◌≡◌ {A = ℕ} 0 1 = cc in omega arith)
    go (reads k to) a f = absurd (let z : ◌≡◌ {A = ℕ} 0 1 = cc in omega arith)
    go (puts k v) a f = absurd (let z : ◌≡◌ {A = ℕ} 0 1 = cc in omega arith)
    go (returns v) a f = absurd (let z : ◌≡◌ {A = ℕ} 0 1 = cc in omega arith)

module _ (code : Code) (checked : Checked code) where
  -- an instruction that leads on isn't the last
  pub more : (i : ℕ) → i < length code → (shape (instruction_at code i)).leads_on ≡ true → suc i < length code
  more i h l = go (le_cases (suc i) (length code) h)
    where
      go : (suc i ≡ length code) ⊎ (suc i < length code) → suc i < length code
      go (inl e) = let r = checked.last_returns i e in false_true (ap (λ x. (shape x).leads_on) r.1) l
      go (inr e) = e

  -- it stands on its own side
  pub own_side_lem : (i : ℕ) → i < length code → (side : Side) → (shape (instruction_at code i)).stands ≡ some side → side_at code i ≡ side
  own_side_lem i h side e = subst (StandsOn (side_at code i)) e (checked.stands i h).0

  -- where the next instruction is of the same side, it is there
  pub same_side : (i : ℕ) → i < length code → GoesOn (shape (instruction_at code i)) →
      (suc i < length code) × (side_at code (suc i) ≡ side_at code i)
  same_side i h g =
      (more i h g.leads_on, side_next outside code i h ∙ ap (λ o. get_or o (side_at code i)) g.same_side)

  -- behind BEGIN stands an instruction inside the block
  pub begins_inside : (i p : ℕ) → i < length code → instruction_at code i ≡ BEGIN p →
      (suc i < length code) × (side_at code (suc i) ≡ inside)
  begins_inside i p h b = (
    more i h (ap (λ x. (shape x).leads_on) b),
    side_next outside code i h ∙ ap (side_behind (side_at code i)) b,
  )

  -- a block ends before the workflow does, and outside begins behind its END
  pub block_closed : (i p : ℕ) → i < length code → instruction_at code i ≡ BEGIN p →
      (behind_end code i < length code) × (side_at code (behind_end code i) ≡ outside)
  block_closed i p h b = go (length code - suc (suc i)) (omega (arith, (begins_inside i p h b).0))
    where
      -- `ahead` instructions lie between the one behind BEGIN and the last
      go : (ahead : ℕ) → suc (suc i + ahead) ≡ length code → (behind_end code i < length code) × (side_at code (behind_end code i) ≡ outside)
      go ahead e =
          let r = checked.last_returns (suc i + ahead) e in
          let ends = own_side_lem (suc i + ahead) (omega (arith, e)) outside (ap (λ x. (shape x).stands) r.1) in
          let opened =
          ap (λ w. side_from w (drop (suc i) code) ahead) (sym (begins_inside i p h b).1) ∙ sym (side_drop outside code (suc i) ahead)
          ∙ ends in
          let d = length-drop (suc i) code in
          let c = open_through (drop (suc i) code) ahead (omega (arith, d, e)) opened in (
            omega (arith, d, e),
            side_drop outside code (suc i) (through_end (drop (suc i) code))
                ∙ ap (λ w. side_from w (drop (suc i) code) (through_end (drop (suc i) code))) (begins_inside i p h b).1
                ∙ c.1,
          )

  -- ── Moves ──

  -- further on in the code, and outside a block
  pub record Forward (c c' : Course) : Type 0 where
    pub further : c.place.position < c'.place.position
    pub in_code : c'.place.position < length code
    pub side : side_at code c'.place.position ≡ outside

  module _ (pl : Place) (in_code : pl.position < length code) (side : side_at code pl.position ≡ outside) where
    abbrev x : Instruction
    x = instruction_at code pl.position

    -- what stands inside isn't met
    not_inside : {A : Type 0} → (shape x).stands ≡ some inside → A
    not_inside e = two_sides (own_side_lem pl.position in_code inside e) side

    leads : (to : Place) → GoesOn (shape x) → (to.position ≡ suc pl.position) ⊎ ((shape x).target ≡ some to.position) →
        Forward (going pl) (going to)
    leads to g (inl e) =
        let s = same_side pl.position in_code g in
        record { further = omega arith; in_code = omega (arith, s.0); side = ap (side_at code) e ∙ s.1 ∙ side }
    leads to g (inr e) =
        let j = subst (GoesTo code pl.position) e (checked.stands pl.position in_code).1 in
        record { further = j.0; in_code = j.1; side = subst (λ w. Lands w code pl.position to.position) side j.2 }

    -- by what its instruction asks for
    goes_by : (c' : Course) (y : Act) → Agrees x pl y → next_by code pl y ≡ goes c' → Forward (going pl) c'
    unfolding next_by
    goes_by c' (moves to) a e = let q : going to ≡ c' = cc in subst (Forward (going pl)) q (leads to a.0 a.1)
    goes_by c' (opens p) a e = absurd (let z : ◌≡◌ {A = ℕ} 0 1 = cc in omega arith)
    goes_by c' (closes v) a e = not_inside a.0
    goes_by c' (reads k to) a e = not_inside a.0
    goes_by c' (puts k v) a e = not_inside a.0
    goes_by c' (returns v) a e = absurd (let z : ◌≡◌ {A = ℕ} 0 1 = cc in omega arith)

    behind_end_lem : (p : ℕ) (r : Result) → x ≡ BEGIN p → Forward (going pl) (passed code pl r)
    unfolding passed after_block
    behind_end_lem p (yields v) b =
        let c = block_closed pl.position p in_code b in record { further = omega arith; in_code = c.0; side = c.1 }

    does_by : (from : Place) (p : ℕ) (onto : Result → Course) (y : Act) → Agrees x pl y → next_by code pl y ≡ does from p onto →
        (r : Result) → Forward (going pl) (onto r)
    unfolding next_by
    does_by from p onto (opens q) a e r =
        let f : passed code pl ≡ onto = cc in
        subst (Forward (going pl)) (ap (λ (g : Result → Course). g r) f) (behind_end_lem q r a)
    does_by from p onto (moves to) a e r = absurd (let z : ◌≡◌ {A = ℕ} 0 1 = cc in omega arith)
    does_by from p onto (closes v) a e r = not_inside a.0
    does_by from p onto (reads k to) a e r = not_inside a.0
    does_by from p onto (puts k v) a e r = not_inside a.0
    does_by from p onto (returns v) a e r = absurd (let z : ◌≡◌ {A = ℕ} 0 1 = cc in omega arith)

  module _ (c : Course) (in_code : c.place.position < length code) (side : side_at code c.place.position ≡ outside) where
    -- one instruction leads forward
    pub goes_forward : (c' : Course) → next_of code c ≡ goes c' → Forward c c'
    unfolding next_of act_at
    goes_forward c' e = goes_by c.place in_code side c' _ (agrees (instruction_at code c.place.position) c.place) e

    -- and so does a block, whatever its result
    pub does_forward : (from : Place) (p : ℕ) (onto : Result → Course) → next_of code c ≡ does from p onto → (r : Result) →
        Forward c (onto r)
    unfolding next_of act_at
    does_forward from p onto e r =
        does_by c.place in_code side from p onto _ (agrees (instruction_at code c.place.position) c.place) e r

    -- a move by the log, and by one step at most
    pub forward : (log : Log) (id t : ℕ) (c' : Course) (t' : ℕ) (y : Next) → next_of code c ≡ y → by_next log id t y ≡ some (at c' t') →
        Forward c c' × (t' ≤ suc t)
    forward log id t c' t' (goes to) e r =
        let q : to ≡ c' = cc in
        let u : t ≡ t' = cc in
        (goes_forward c' (e ∙ ap goes q), omega arith)
    forward log id t c' t' (says v) e r = absurd (let z : ◌≡◌ {A = ℕ} 0 1 = cc in omega arith)
    forward log id t c' t' (does from p onto) e r =
        let b = behind_at onto t _ c' t' r in
        (subst (Forward c) b.1 (does_forward from p onto e b.0), omega (arith, b.2))

  -- A request under way after n moves stands at n or further, in its code and outside a block, at a step no further than its position.
  pub follow_position : (log : Log) (id : ℕ) (q : Request) (n : ℕ) (c : Course) (t : ℕ) → follow log id code q n ≡ some (at c t) →
      (n ≤ c.place.position) × (c.place.position < length code) × (side_at code c.place.position ≡ outside)
      × (t ≤ c.place.position)
  unfolding follow
  follow_position log id q zero c t e =
      let w : start q ≡ c = cc in
      let p : 0 ≡ c.place.position = ap (λ (x : Course). x.place.position) w in
      let u : 0 ≡ t = cc in
      let s = checked.some_instruction in
      (omega arith, omega arith, ap (side_at code) (sym p), omega arith)
  follow_position log id q (suc n) c t e =
      let b = follow_before log id code q n (at c t) e in
      let h = follow_position log id q n b.0 b.1 b.2 in
      let f = forward b.0 h.1 h.2 log id b.1 c t (next_of code b.0) refl
      (sym (follow_next log id code q n b.0 b.1 _ _ b.2 refl refl) ∙ e) in
      let g = f.0.further in
      let u = f.1 in
      (omega arith, f.0.in_code, f.0.side, omega arith)
