-- Laws of sums and counts over the numbers below n: what is counted is there, and sums by rows.
use mathlib.Core.Bool.{Bool, true, false}
use mathlib.Core.Path.{◌≡◌, refl, sym, ◌∙◌, ap}
use mathlib.Core.Logic.{◌⊎◌, inl, inr}
use mathlib.Core.Option.{Option, none, some}
use Prim.Native.Nat.{ℕ, zero, suc, ◌+◌, ◌*◌, ◌≤◌, ◌<◌}
use native.Mathlib.Nat.{add-zero, add-suc, suc-mul, zero-mul, mul-zero, mul-add}
use native.Mathlib.Omega.{arith}
use borrow.Author.Tests.{lt-ltb, le-ltb, ltb-true}
use lib.Dec.{eqb, ltb, nltb→le}
use Rattle.questions.specs.Basics.{if◌then◌otherwise◌, update, is_some, sum_below, count_below}
use Rattle.questions.proofs.Updates.{eqb_cases, le_cases}

-- where something is counted, some number passes the test
pub count_some : (n : ℕ) (test : ℕ → Bool) → 0 < count_below n test → (i : ℕ) × (i < n) × (test i ≡ true)
unfolding sum_below
count_some zero test h = absurd (omega arith)
count_some (suc n) test h = go (test n) refl h (count_some n test)
  where
    go : (b : Bool) → test n ≡ b → 0 < count_below n test + if◌then◌otherwise◌ b 1 0 →
        (0 < count_below n test → (i : ℕ) × (i < n) × (test i ≡ true)) → (i : ℕ) × (i < suc n) × (test i ≡ true)
    go true e l rec = (n, omega arith, e)
    go false e l rec = let x = rec (omega arith) in let x₁ = x.1 in (x.0, omega arith, x.2)

-- and back
pub count_one : (n : ℕ) (test : ℕ → Bool) (i : ℕ) → i < n → test i ≡ true → 0 < count_below n test
unfolding sum_below
count_one zero test i h e = absurd (omega arith)
count_one (suc n) test i h e = go (le_cases i n (omega arith)) (λ l. count_one n test i l e)
  where
    go : (i ≡ n) ⊎ (i < n) → (i < n → 0 < count_below n test) → 0 < count_below n test + if◌then◌otherwise◌ (test n) 1 0
    go (inl p) rec = rw (ap test (sym p) ∙ e) (omega arith)
    go (inr l) rec = let r = rec l in omega arith

-- where no number passes, none is counted
pub count_none : (n : ℕ) → count_below n (λ k. false) ≡ 0
unfolding sum_below
count_none zero = refl
count_none (suc n) = let r = count_none n in omega arith

-- ── Sums ──

pub sum_same : (n : ℕ) (f g : ℕ → ℕ) → ((i : ℕ) → i < n → f i ≡ g i) → sum_below n f ≡ sum_below n g
unfolding sum_below
sum_same zero f g h = refl
sum_same (suc n) f g h = let a = sum_same n f g (λ i l. h i (omega arith)) in let b = h n (omega arith) in omega arith

pub sum_add : (a b : ℕ) (f : ℕ → ℕ) → sum_below (a + b) f ≡ sum_below a f + sum_below b (λ j. f (a + j))
unfolding sum_below
sum_add a zero f = ap (λ n. sum_below n f) (add-zero a) ∙ sym (add-zero (sum_below a f))
sum_add a (suc b) f = ap (λ n. sum_below n f) (add-suc a b) ∙ (let r = sum_add a b f in omega arith)

-- a sum over n × m numbers, by rows of m
pub sum_rows : (n m : ℕ) (f : ℕ → ℕ) → sum_below (n * m) f ≡ sum_below n (λ i. sum_below m (λ j. f (i * m + j)))
unfolding sum_below
sum_rows zero m f = ap (λ k. sum_below k f) (zero-mul m)
sum_rows (suc n) m f =
    ap (λ k. sum_below k f) (suc-mul n m) ∙ sum_add (n * m) m f ∙ ap (λ k. k + sum_below m (λ j. f (n * m + j))) (sum_rows n m f)

pub sum_times : (n m : ℕ) (f : ℕ → ℕ) → sum_below n (λ i. m * f i) ≡ m * sum_below n f
unfolding sum_below
sum_times zero m f = sym (mul-zero m)
sum_times (suc n) m f = ap (λ k. k + m * f n) (sum_times n m f) ∙ sym (mul-add m (sum_below n f) (f n))

-- ── Rows by key ──

above : (n k : ℕ) → n ≤ k → (n ≡ k → ⊥) → suc n ≤ k
above n k l p = go (le_cases n k l)
  where
    go : (n ≡ k) ⊎ (n < k) → suc n ≤ k
    go (inl e) = absurd (p e)
    go (inr h) = h

-- a row more at a free key is one more, if the key is below n
pub count_put : (n k v : ℕ) (f : ℕ → Option ℕ) → f k ≡ none →
    count_below n (λ i. is_some (update f k (some v) i)) ≡ if◌then◌otherwise◌ (ltb k n) 1 0 + count_below n (λ i. is_some (f i))
unfolding sum_below
count_put zero k v f free = rw (le-ltb k 0 (omega arith)) refl
count_put (suc n) k v f free = go (eqb_cases n k) (count_put n k v f free)
  where
    rest : ℕ
    rest = count_below n (λ i. is_some (update f k (some v) i))

    old : ℕ
    old = count_below n (λ i. is_some (f i))

    go : ((n ≡ k) × (eqb n k ≡ true)) ⊎ ((n ≡ k → ⊥) × (eqb n k ≡ false)) → rest ≡ if◌then◌otherwise◌ (ltb k n) 1 0 + old →
        rest + if◌then◌otherwise◌ (is_some (if◌then◌otherwise◌ (eqb n k) (some v) (f n))) 1 0
        ≡ if◌then◌otherwise◌ (ltb k (suc n)) 1 0 + (old + if◌then◌otherwise◌ (is_some (f n)) 1 0)
    go (inl h) rec =
        let r₀ : rest ≡ 0 + old = rw (le-ltb k n (let p = h.0 in omega arith)) at rec in
        rw (h.1, lt-ltb k (suc n) (let p = h.0 in omega arith), ap f h.0 ∙ free) (omega arith)
    go (inr h) rec = rw h.1 (both (ltb k n) refl rec)
      where
        both : (b : Bool) → ltb k n ≡ b → rest ≡ if◌then◌otherwise◌ b 1 0 + old →
            rest + if◌then◌otherwise◌ (is_some (f n)) 1 0 ≡ if◌then◌otherwise◌ (ltb k (suc n)) 1 0 + (old + if◌then◌otherwise◌ (is_some (f n)) 1 0)
        both true e r = rw (lt-ltb k (suc n) (let l = ltb-true k n e in omega arith)) (omega arith)
        both false e r = rw (le-ltb k (suc n) (let l = nltb→le k n (rw e tt) in above n k l h.0)) (omega arith)
