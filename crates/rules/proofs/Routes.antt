-- The most over all routes, from the end of a workflow to its beginning: how it comes of the most from the indexes ahead, that there is
-- one from every index of a checked workflow, and only one.
use mathlib.Core.Bool.{Bool, true, false}
use mathlib.Core.Path.{◌≡◌, refl, sym, ◌∙◌, ap, ap₂, subst}
use mathlib.Core.List.{[], ◌∷◌}
use mathlib.Core.Logic.{◌⊎◌, inl, inr}
use mathlib.Core.Option.{Option, none, some, some-injective}
use Prim.Native.Nat.{ℕ, zero, suc, ◌+◌, ◌-◌, ◌≤◌, ◌<◌}
use native.Mathlib.Nat.{zero-add}
use native.Mathlib.Omega.{arith}
use borrow.Author.Tests.{ltb-true, ltb-false}
use lib.Dec.{eqb, ltb}
use lib.ListN.{length, drop, length-drop}
use lib.Seq.{drop-cons, drop-drop}
use Rattle.questions.specs.Basics.{if◌then◌otherwise◌}
use Rattle.questions.proofs.Updates.{none_some, false_true, eqb_cases}
use Rattle.rules.specs.Instructions.{Code, Instruction, SET, COPY, ADD, SUB, JLT, JEQ, BEGIN, END, GET, PUT, HAS, RETURN}
use Rattle.rules.specs.Instructions.{instruction_at}
use Rattle.rules.specs.Shapes.{Side, outside, inside, shape, GoesOn}
use Rattle.rules.specs.Blocks.{closing, is_end, through_end, behind_end}
use Rattle.rules.specs.Checked.{side_from, side_at, Lands, Jumps, GoesTo, Checked}
use Rattle.rules.specs.Routes.{Way, Route, puts_of, puts_on, Counting, by_turns, by_rows, count_on, Most, MostFrom, MostOf}
use Rattle.rules.proofs.Positions.{side_drop, own_side_lem, same_side, begins_inside, block_closed}
use Rattle.rules.proofs.Blocks.{inside_through, through_from}

-- the larger of two numbers
abbrev pub larger : (a b : ℕ) → ℕ
larger a b = if◌then◌otherwise◌ (ltb a b) b a

-- a block counts no less where more PUTs are passed in it
abbrev pub Rising : Counting → Type 0
Rising c = (p n m : ℕ) → n ≤ m → c.block p n ≤ c.block p m

pub turns_rise : Rising by_turns
turns_rise p n m l = omega arith

pub rows_rise : (q : ℕ) → Rising (by_rows q)
rows_rise q p n m l = go (eqb_cases p q)
  where
    go : ((p ≡ q) × (eqb p q ≡ true)) ⊎ ((p ≡ q → ⊥) × (eqb p q ≡ false)) → (by_rows q).block p n ≤ (by_rows q).block p m
    go (inl h) = rw h.1 (omega arith)
    go (inr h) = rw h.1 (omega arith)

-- it counts at most one for an instruction, and for a block one more than its PUTs
pub record Small (c : Counting) : Type 0 where
  pub one : c.one ≤ 1
  pub block : (p n : ℕ) → c.block p n ≤ suc n

pub turns_small : Small by_turns
turns_small = record { one = omega arith; block = λ p n. omega arith }

pub rows_small : (q : ℕ) → Small (by_rows q)
rows_small q = record { one = omega arith; block = λ p n. go p n (eqb_cases p q) }
  where
    go : (p n : ℕ) → ((p ≡ q) × (eqb p q ≡ true)) ⊎ ((p ≡ q → ⊥) × (eqb p q ≡ false)) → (by_rows q).block p n ≤ suc n
    go p n (inl h) = rw h.1 (omega arith)
    go p n (inr h) = rw h.1 (omega arith)

-- two that are the most are one
pub most_same : {A : Type 0} {count : A → ℕ} {n m : ℕ} → Most count n → Most count m → n ≡ m
most_same {A} {count} {n} {m} a b =
    let l = a.none_exceeds b.best in
    let k = b.none_exceeds a.best in
    omega (arith, l, k, a.reaches, b.reaches)

-- ── What stands at an index ──

-- it leads on to the next; or it opens a block, closes one, or replies
pub data Kind (x : Instruction) : Type 0 where
  leads : GoesOn (shape x) → Kind x
  opens : (p : ℕ) → x ≡ BEGIN p → Kind x
  closes : (d : ℕ) → x ≡ END d → Kind x
  answers : (d : ℕ) → x ≡ RETURN d → Kind x

pub kind : (x : Instruction) → Kind x
kind (SET d w) = leads (record { same_side = refl; leads_on = refl })
kind (COPY d s) = leads (record { same_side = refl; leads_on = refl })
kind (ADD d s) = leads (record { same_side = refl; leads_on = refl })
kind (SUB d s) = leads (record { same_side = refl; leads_on = refl })
kind (JLT d s target) = leads (record { same_side = refl; leads_on = refl })
kind (JEQ d s target) = leads (record { same_side = refl; leads_on = refl })
kind (BEGIN p) = opens p refl
kind (END d) = closes d refl
kind (GET d s) = leads (record { same_side = refl; leads_on = refl })
kind (PUT d s) = leads (record { same_side = refl; leads_on = refl })
kind (HAS d s) = leads (record { same_side = refl; leads_on = refl })
kind (RETURN d) = answers d refl

-- no jump is a PUT
begin_part : (p q : ℕ) → BEGIN p ≡ BEGIN q → p ≡ q
begin_part p q e = cc

jump_no_put : (x : Instruction) (target : ℕ) → (shape x).target ≡ some target → puts_of x ≡ 0
jump_no_put (SET d w) t e = refl
jump_no_put (COPY d s) t e = refl
jump_no_put (ADD d s) t e = refl
jump_no_put (SUB d s) t e = refl
jump_no_put (JLT d s target) t e = refl
jump_no_put (JEQ d s target) t e = refl
jump_no_put (BEGIN p) t e = refl
jump_no_put (END d) t e = refl
jump_no_put (GET d s) t e = refl
jump_no_put (PUT d s) t e = none_some t refl e
jump_no_put (HAS d s) t e = refl
jump_no_put (RETURN d) t e = refl

-- a jump leads on
pub jump_on : (x : Instruction) (target : ℕ) → (shape x).target ≡ some target → GoesOn (shape x)
jump_on x t e = go (kind x)
  where
    go : Kind x → GoesOn (shape x)
    go (leads g) = g
    go (opens p f) = none_some t (ap (λ y. (shape y).target) f) e
    go (closes d f) = none_some t (ap (λ y. (shape y).target) f) e
    go (answers d f) = none_some t (ap (λ y. (shape y).target) f) e

-- an instruction is one PUT or none
puts_one : (x : Instruction) → puts_of x ≤ 1
puts_one (SET d w) = omega arith
puts_one (COPY d s) = omega arith
puts_one (ADD d s) = omega arith
puts_one (SUB d s) = omega arith
puts_one (JLT d s target) = omega arith
puts_one (JEQ d s target) = omega arith
puts_one (BEGIN p) = omega arith
puts_one (END d) = omega arith
puts_one (GET d s) = omega arith
puts_one (PUT d s) = omega arith
puts_one (HAS d s) = omega arith
puts_one (RETURN d) = omega arith

-- the first END is in the code, or the code ends before it
through_length : (rest : Code) → through_end rest ≤ length rest
through_length [] = omega arith
through_length (x ∷ rest) = go (is_end x) (through_length rest)
  where
    go : (b : Bool) → through_end rest ≤ length rest → if◌then◌otherwise◌ b 1 (suc (through_end rest)) ≤ suc (length rest)
    go true l = omega arith
    go false l = omega arith

-- ── One step towards the beginning ──

module _ (code : Code) where
  abbrev X : (i : ℕ) → Instruction
  X i = instruction_at code i

  -- what leads on is neither RETURN, END nor BEGIN; and these are no jumps
  on_return : {A : Type 0} (i d : ℕ) → GoesOn (shape (X i)) → X i ≡ RETURN d → A
  on_return i d g e = false_true (ap (λ y. (shape y).leads_on) e) g.leads_on

  on_begin : {A : Type 0} (i p : ℕ) → GoesOn (shape (X i)) → X i ≡ BEGIN p → A
  on_begin i p g e = none_some inside g.same_side (ap (λ y. (shape y).behind) e)

  on_end : {A : Type 0} (i d : ℕ) → GoesOn (shape (X i)) → X i ≡ END d → A
  on_end i d g e = none_some outside g.same_side (ap (λ y. (shape y).behind) e)

  begin_return : {A : Type 0} (i p d : ℕ) → X i ≡ BEGIN p → X i ≡ RETURN d → A
  begin_return i p d e f = absurd (let z : ◌≡◌ {A = ℕ} 0 1 = cc in omega arith)

  -- ── inside a block: PUTs ──

  abbrev pub Puts : (i n : ℕ) → Type 0
  Puts i n = Most (puts_on code i) n

  pub puts_end : (i d : ℕ) → X i ≡ END d → Puts i 0
  unfolding puts_on
  puts_end i d e = record { best = Way.ends i d e; reaches = refl; none_exceeds = bound i e }
    where
      bound : (i : ℕ) → X i ≡ END d → (w : Way code i) → puts_on code i w ≤ 0
      bound _ e (Way.ends i d₁ f) = omega arith
      bound _ e (Way.passes i g w) = on_end i d g e
      bound _ e (Way.leaps i t f w) = none_some t (ap (λ y. (shape y).target) e) f

  pub puts_next : (i n : ℕ) → GoesOn (shape (X i)) → (shape (X i)).target ≡ none → Puts (suc i) n → Puts i (puts_of (X i) + n)
  unfolding puts_on
  puts_next i n g o m =
      record {
        best = Way.passes i g m.best;
        reaches = ap (λ k. puts_of (X i) + k) m.reaches;
        none_exceeds = bound i g o m.none_exceeds;
      }
    where
      bound : (i : ℕ) → GoesOn (shape (X i)) → (shape (X i)).target ≡ none → ((w : Way code (suc i)) → puts_on code (suc i) w ≤ n) →
          (w : Way code i) → puts_on code i w ≤ puts_of (X i) + n
      bound _ g o f (Way.ends i d e) = on_end i d g e
      bound _ g o f (Way.passes i h w) = omega (arith, f w)
      bound _ g o f (Way.leaps i t e w) = none_some t o e

  pub puts_jump : (i n t m : ℕ) → GoesOn (shape (X i)) → (shape (X i)).target ≡ some t → Puts (suc i) n → Puts t m → Puts i (larger n m)
  unfolding puts_on
  puts_jump i n t m g o next there = go (ltb n m) refl
    where
      no_put : puts_of (X i) ≡ 0
      no_put = jump_no_put (X i) t o

      bound : (i k : ℕ) → GoesOn (shape (X i)) → (shape (X i)).target ≡ some t → ((w : Way code (suc i)) → puts_on code (suc i) w ≤ k) →
          ((w : Way code t) → puts_on code t w ≤ k) → (w : Way code i) → puts_on code i w ≤ k
      bound _ k g o f h (Way.ends i d e) = on_end i d g e
      bound _ k g o f h (Way.passes i _ w) = omega (arith, f w, jump_no_put (X i) t o)
      bound _ k g o f h (Way.leaps i t₁ e w) =
          let same : t₁ ≡ t = some-injective t₁ t (sym e ∙ o) in
          all_at t₁ same w
        where
          all_at : (j : ℕ) → j ≡ t → (w : Way code j) → puts_on code j w ≤ k
          all_at j e w = subst (λ y. (w : Way code y) → puts_on code y w ≤ k) (sym e) h w

      go : (b : Bool) → ltb n m ≡ b → Puts i (if◌then◌otherwise◌ b m n)
      go true e =
          let l = ltb-true n m e in
          record {
            best = Way.leaps i t o there.best;
            reaches = there.reaches;
            none_exceeds = bound i m g o (λ w. let k = next.none_exceeds w in omega arith) there.none_exceeds;
          }
      go false e =
          let l = ltb-false n m e in
          record {
            best = Way.passes i g next.best;
            reaches = ap (λ k. k + puts_on code (suc i) next.best) no_put ∙ zero-add (puts_on code (suc i) next.best) ∙ next.reaches;
            none_exceeds = bound i n g o next.none_exceeds (λ w. let k = there.none_exceeds w in omega arith);
          }

  -- ── outside blocks ──

  module _ (c : Counting) where
    abbrev pub Counts : (i n : ℕ) → Type 0
    Counts i n = Most (count_on c code i) n

    pub count_return : (i d : ℕ) → X i ≡ RETURN d → Counts i c.one
    unfolding count_on
    count_return i d e = record { best = Route.replies i d e; reaches = refl; none_exceeds = bound i e }
      where
        bound : (i : ℕ) → X i ≡ RETURN d → (r : Route code i) → count_on c code i r ≤ c.one
        bound _ e (Route.replies i d₁ f) = omega arith
        bound _ e (Route.goes i g r) = on_return i d g e
        bound _ e (Route.jumps i t f r) = none_some t (ap (λ y. (shape y).target) e) f
        bound _ e (Route.through i p f w r) = begin_return i p d f e

    pub count_next : (i n : ℕ) → GoesOn (shape (X i)) → (shape (X i)).target ≡ none → Counts (suc i) n → Counts i (c.one + n)
    unfolding count_on
    count_next i n g o m =
        record {
          best = Route.goes i g m.best;
          reaches = ap (λ k. c.one + k) m.reaches;
          none_exceeds = bound i g o m.none_exceeds;
        }
      where
        bound : (i : ℕ) → GoesOn (shape (X i)) → (shape (X i)).target ≡ none →
            ((r : Route code (suc i)) → count_on c code (suc i) r ≤ n) → (r : Route code i) → count_on c code i r ≤ c.one + n
        bound _ g o f (Route.replies i d e) = on_return i d g e
        bound _ g o f (Route.goes i h r) = omega (arith, f r)
        bound _ g o f (Route.jumps i t e r) = none_some t o e
        bound _ g o f (Route.through i p e w r) = on_begin i p g e

    pub count_jump : (i n t m : ℕ) → GoesOn (shape (X i)) → (shape (X i)).target ≡ some t → Counts (suc i) n → Counts t m →
        Counts i (c.one + larger n m)
    unfolding count_on
    count_jump i n t m g o next there = go (ltb n m) refl
      where
        bound : (i k : ℕ) → GoesOn (shape (X i)) → (shape (X i)).target ≡ some t →
            ((r : Route code (suc i)) → count_on c code (suc i) r ≤ k) → ((r : Route code t) → count_on c code t r ≤ k) →
            (r : Route code i) → count_on c code i r ≤ c.one + k
        bound _ k g o f h (Route.replies i d e) = on_return i d g e
        bound _ k g o f h (Route.goes i _ r) = omega (arith, f r)
        bound _ k g o f h (Route.jumps i t₁ e r) = omega (arith, all_at t₁ (some-injective t₁ t (sym e ∙ o)) r)
          where
            all_at : (j : ℕ) → j ≡ t → (r : Route code j) → count_on c code j r ≤ k
            all_at j e r = subst (λ y. (r : Route code y) → count_on c code y r ≤ k) (sym e) h r
        bound _ k g o f h (Route.through i p e w r) = on_begin i p g e

        go : (b : Bool) → ltb n m ≡ b → Counts i (c.one + if◌then◌otherwise◌ b m n)
        go true e =
            let l = ltb-true n m e in
            record {
              best = Route.jumps i t o there.best;
              reaches = ap (λ k. c.one + k) there.reaches;
              none_exceeds = bound i m g o (λ r. let k = next.none_exceeds r in omega arith) there.none_exceeds;
            }
        go false e =
            let l = ltb-false n m e in
            record {
              best = Route.goes i g next.best;
              reaches = ap (λ k. c.one + k) next.reaches;
              none_exceeds = bound i n g o next.none_exceeds (λ r. let k = there.none_exceeds r in omega arith);
            }

    -- a block counts the more, the more PUTs are passed in it
    pub count_block : Rising c → (i p n m : ℕ) → X i ≡ BEGIN p → Puts (suc i) n → Counts (behind_end code i) m →
        Counts i (c.block p n + m)
    unfolding count_on
    count_block rising i p n m e puts rest =
        record {
          best = Route.through i p e puts.best rest.best;
          reaches = ap₂ (λ k l. c.block p k + l) puts.reaches rest.reaches;
          none_exceeds = bound i e puts.none_exceeds rest.none_exceeds;
        }
      where
        bound : (i : ℕ) → X i ≡ BEGIN p → ((w : Way code (suc i)) → puts_on code (suc i) w ≤ n) →
            ((r : Route code (behind_end code i)) → count_on c code (behind_end code i) r ≤ m) →
            (r : Route code i) → count_on c code i r ≤ c.block p n + m
        bound _ e f h (Route.replies i d g) = begin_return i p d e g
        bound _ e f h (Route.goes i g r) = on_begin i p g e
        bound _ e f h (Route.jumps i t g r) = none_some t (ap (λ y. (shape y).target) e) g
        bound _ e f h (Route.through i p₁ g w r) =
            let same : p₁ ≡ p = begin_part p₁ p (sym g ∙ e) in
            let l = rising p (puts_on code (suc i) w) n (f w) in
            let k = h r in
            let z = ap (λ q. c.block q (puts_on code (suc i) w)) same in
            omega arith

-- ── In a checked workflow ──

-- what an instruction that leads on adds, on its side
abbrev pub own : Counting → Side → Instruction → ℕ
own c outside x = c.one
own c inside x = puts_of x

module _ (code : Code) (checked : Checked code) where
  -- a jump lands further on, in the code, on its own side
  pub record Landing (i target : ℕ) : Type 0 where
    pub further : i < target
    pub in_code : target < length code
    pub same : side_at code target ≡ side_at code i

  pub jump_lands : (i target : ℕ) → i < length code → GoesOn (shape (X code i)) → (shape (X code i)).target ≡ some target → Landing i target
  jump_lands i t h g e = record { further = j.0; in_code = j.1; same = go (side_at code i) refl j.2 }
    where
      j : Jumps code i t
      j = subst (GoesTo code i) e (checked.stands i h).1

      on : side_at code (suc i) ≡ side_at code i
      on = (same_side code checked i h g).1

      go : (side : Side) → side_at code i ≡ side → Lands side code i t → side_at code t ≡ side_at code i
      go outside q l = l ∙ sym q
      go inside q l =
          let n : suc i + (t - suc i) ≡ t = let f = j.0 in omega arith in
          ap (side_at code) (sym n) ∙ side_drop outside code (suc i) (t - suc i)
          ∙ ap (λ w. side_from w (drop (suc i) code) (t - suc i)) (on ∙ q)
          ∙ inside_through (drop (suc i) code) (t - suc i) (let f = j.0 in omega (arith, l)) ∙ sym q

  module _ (c : Counting) where
    abbrev pub Best : (i n : ℕ) → Type 0
    Best i n = MostFrom c code (side_at code i) i n

    on_side : (i : ℕ) (side : Side) (n : ℕ) → side_at code i ≡ side → MostFrom c code side i n → Best i n
    on_side i side n e m = subst (λ w. MostFrom c code w i n) (sym e) m

    at_side : (i : ℕ) (side : Side) (n : ℕ) → side_at code i ≡ side → Best i n → MostFrom c code side i n
    at_side i side n e m = subst (λ w. MostFrom c code w i n) e m

    pub best_return : (i d : ℕ) → i < length code → X code i ≡ RETURN d → Best i c.one
    best_return i d h e =
        on_side i outside c.one (own_side_lem code checked i h outside (ap (λ y. (shape y).stands) e)) (count_return code c i d e)

    pub best_end : (i d : ℕ) → i < length code → X code i ≡ END d → Best i 0
    best_end i d h e = on_side i inside 0 (own_side_lem code checked i h inside (ap (λ y. (shape y).stands) e)) (puts_end code i d e)

    pub best_next : (i n : ℕ) → i < length code → GoesOn (shape (X code i)) → (shape (X code i)).target ≡ none → Best (suc i) n →
        Best i (own c (side_at code i) (X code i) + n)
    best_next i n h g o m = go (side_at code i) refl
      where
        go : (side : Side) → side_at code i ≡ side → Best i (own c side (X code i) + n)
        go outside e = on_side i outside _ e (count_next code c i n g o (at_side (suc i) outside n ((same_side code checked i h g).1 ∙ e) m))
        go inside e = on_side i inside _ e (puts_next code i n g o (at_side (suc i) inside n ((same_side code checked i h g).1 ∙ e) m))

    pub best_jump : (i n t m : ℕ) → i < length code → GoesOn (shape (X code i)) → (shape (X code i)).target ≡ some t → Best (suc i) n →
        Best t m → Best i (own c (side_at code i) (X code i) + larger n m)
    best_jump i n t m h g o next there = go (side_at code i) refl
      where
        lands : Landing i t
        lands = jump_lands i t h g o

        go : (side : Side) → side_at code i ≡ side → Best i (own c side (X code i) + larger n m)
        go outside e =
            on_side i outside _ e
            (count_jump code c i n t m g o (at_side (suc i) outside n ((same_side code checked i h g).1 ∙ e) next)
            (at_side t outside m (lands.same ∙ e) there))
        go inside e =
            on_side i inside _ e
            (subst (Puts code i) (sym (zero-add (larger n m)) ∙ ap (λ k. k + larger n m) (sym (jump_no_put (X code i) t o)))
            (puts_jump code i n t m g o (at_side (suc i) inside n ((same_side code checked i h g).1 ∙ e) next)
            (at_side t inside m (lands.same ∙ e) there)))

    pub best_begin : Rising c → (i p n m : ℕ) → i < length code → X code i ≡ BEGIN p → Best (suc i) n → Best (behind_end code i) m →
        Best i (c.block p n + m)
    best_begin rising i p n m h e puts rest =
        on_side i outside _ (own_side_lem code checked i h outside (ap (λ y. (shape y).stands) e))
        (count_block code c rising i p n m e (at_side (suc i) inside n (begins_inside code checked i p h e).1 puts)
        (at_side (behind_end code i) outside m (block_closed code checked i p h e).1 rest))

    -- ── There is one ──

    pub best_exists : Rising c → (ahead i : ℕ) → i < length code → length code ≤ i + ahead → (n : ℕ) × Best i n
    best_exists rising zero i h l = absurd (omega arith)
    best_exists rising (suc ahead) i h l = go (λ j f b. best_exists rising ahead j b (omega arith)) (kind (X code i))
      where
        Ahead : Type 0
        Ahead = (j : ℕ) → i < j → j < length code → (n : ℕ) × Best j n

        on : Ahead → GoesOn (shape (X code i)) → (o : Option ℕ) → (shape (X code i)).target ≡ o → (n : ℕ) × Best i n
        on rec g none o =
            let r = rec (suc i) (omega arith) (same_side code checked i h g).0 in
            (own c (side_at code i) (X code i) + r.0, best_next i r.0 h g o r.1)
        on rec g (some t) o =
            let r = rec (suc i) (omega arith) (same_side code checked i h g).0 in
            let w = jump_lands i t h g o in
            let u = rec t w.further w.in_code in
            (own c (side_at code i) (X code i) + larger r.0 u.0, best_jump i r.0 t u.0 h g o r.1 u.1)

        go : Ahead → Kind (X code i) → (n : ℕ) × Best i n
        go rec (leads g) = on rec g (shape (X code i)).target refl
        go rec (opens p e) =
            let r = rec (suc i) (omega arith) (begins_inside code checked i p h e).0 in
            let u = rec (behind_end code i) (omega arith) (block_closed code checked i p h e).0 in
            (c.block p r.0 + u.0, best_begin rising i p r.0 u.0 h e r.1 u.1)
        go rec (closes d e) = (0, best_end i d h e)
        go rec (answers d e) = (c.one, best_return i d h e)

    -- The most over all routes of a checked workflow.
    pub most_exists : Rising c → (n : ℕ) × MostOf c code n
    most_exists rising = best_exists rising (length code) 0 checked.some_instruction (omega arith)

  -- ── It is at most the number of instructions ahead ──

  -- the END of an instruction inside that isn't END itself is the END of the next
  end_ahead : (i : ℕ) → i < length code → GoesOn (shape (X code i)) → through_end (drop i code) ≡ suc (through_end (drop (suc i) code))
  end_ahead i h g =
      ap through_end (drop-cons code i (RETURN 0) h)
      ∙ ap (λ o. if◌then◌otherwise◌ (closing o) 1 (suc (through_end (drop (suc i) code)))) g.same_side

  -- a way passes fewer PUTs than it has instructions up to its END, and with it
  way_within : (i : ℕ) → i < length code → side_at code i ≡ inside → (w : Way code i) → puts_on code i w < through_end (drop i code)
  unfolding puts_on
  way_within _ h s (Way.ends i d e) =
      let t = ap through_end (drop-cons code i (RETURN 0) h)
      ∙ ap (λ y. if◌then◌otherwise◌ (is_end y) 1 (suc (through_end (drop (suc i) code)))) e in
      omega (arith, t)
  way_within _ h s (Way.passes i g w) =
      let n = same_side code checked i h g in
      omega (arith, end_ahead i h g, way_within (suc i) n.0 (n.1 ∙ s) w, puts_one (X code i))
  way_within _ h s (Way.leaps i t e w) =
      let g = jump_on (X code i) t e in
      let n = jump_lands i t h g e in
      let f = n.further in
      let b = end_ahead i h g in
      let j = subst (GoesTo code i) e (checked.stands i h).1 in
      let l : t < behind_end code i = subst (λ side. Lands side code i t) s j.2 in
      let u = through_from (drop i code) (t - i) (omega (arith, l, b)) in
      let d = ap through_end (drop-drop (t - i) i code ∙ ap (λ k. drop k code) (let r : i + (t - i) ≡ t = omega arith in r)) in
      omega (arith, way_within t n.in_code (n.same ∙ s) w, u, d)

  -- a route counts no more than there are instructions from its index on
  pub route_within : (c : Counting) → Small c → (i : ℕ) → i < length code → side_at code i ≡ outside → (r : Route code i) →
      i + count_on c code i r ≤ length code
  unfolding count_on
  route_within c small _ h s (Route.replies i d e) = omega (arith, small.one)
  route_within c small _ h s (Route.goes i g r) =
      let n = same_side code checked i h g in
      omega (arith, small.one, route_within c small (suc i) n.0 (n.1 ∙ s) r)
  route_within c small _ h s (Route.jumps i t e r) =
      let n = jump_lands i t h (jump_on (X code i) t e) e in
      let f = n.further in
      omega (arith, small.one, route_within c small t n.in_code (n.same ∙ s) r)
  route_within c small _ h s (Route.through i p e w r) =
      let n = block_closed code checked i p h e in
      let b = begins_inside code checked i p h e in
      omega (
        arith,
        small.block p (puts_on code (suc i) w),
        way_within (suc i) b.0 b.1 w,
        route_within c small (behind_end code i) n.0 n.1 r,
      )

  -- so does the most, on either side
  pub best_within : (c : Counting) → Small c → (i n : ℕ) → i < length code → Best c i n → i + n ≤ length code
  best_within c small i n h m = go (side_at code i) refl m
    where
      go : (side : Side) → side_at code i ≡ side → MostFrom c code side i n → i + n ≤ length code
      go outside e m = omega (arith, route_within c small i h e m.best, m.reaches)
      go inside e m =
          omega (arith, way_within i h e m.best, m.reaches, length-drop i code, through_length (drop i code))

  -- the figure of turns, and each figure of rows, is at most the workflow's size
  pub most_within : (c : Counting) → Small c → (n : ℕ) → MostOf c code n → n ≤ length code
  most_within c small n m = omega (arith, route_within c small 0 checked.some_instruction refl m.best, m.reaches)
