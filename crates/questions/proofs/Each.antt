-- Laws of `each`, for a loop that leaves at the first i where f fails. Its invariant is that what is left answers the whole: `each_from f (n
-- - i) i ≡ each n f`.
use mathlib.Core.Path.{◌≡◌, refl}
use mathlib.Core.Bool.{Bool, true, false}
use mathlib.Core.Logic.{⊎_elim}
use Prim.Native.Nat.{ℕ, zero, suc, ◌+◌, ◌-◌, ◌≤◌, ◌<◌}
use native.Mathlib.Nat.{eq-or-lt_of_le}
use native.Mathlib.Omega.{arith}
use Rattle.questions.specs.Basics.{if◌then◌otherwise◌}
use Rattle.questions.specs.Basics.{each_from}

module _ (f : ℕ → Bool) where
  pub each_none : (n i : ℕ) → n ≤ i → each_from f (n - i) i ≡ true
  unfolding each_from
  each_none n i h = let e : n - i ≡ 0 = omega arith in rw e

  pub each_more : (n i : ℕ) → i < n → f i ≡ true → each_from f (n - i) i ≡ each_from f (n - (i + 1)) (i + 1)
  unfolding each_from
  each_more n i h t = let e : n - i ≡ suc (n - (i + 1)) = omega arith in rw (e, t)

  pub each_fails : (n i : ℕ) → i < n → f i ≡ false → each_from f (n - i) i ≡ false
  unfolding each_from
  each_fails n i h t = let e : n - i ≡ suc (n - (i + 1)) = omega arith in rw (e, t)

  two : (b c : Bool) → if◌then◌otherwise◌ b c false ≡ true → (b ≡ true) × (c ≡ true)
  two true c e = (refl, e)
  two false c e = (e, cc)

  -- what `each` says of each number
  pub each_at : (n i : ℕ) → each_from f n i ≡ true → (k : ℕ) → i ≤ k → k < i + n → f k ≡ true
  unfolding each_from
  each_at zero i e k l h = absurd (omega arith)
  each_at (suc n) i e k l h =
      let b = two (f i) (each_from f n (i + 1)) e in
      ⊎_elim (λ (p : i ≡ k). rw (← p) b.0) (λ (p : i < k). each_at n (i + 1) b.1 k (omega arith) (omega arith)) (eq-or-lt_of_le l)

  -- and back
  pub each_all : (n i : ℕ) → ((k : ℕ) → i ≤ k → k < i + n → f k ≡ true) → each_from f n i ≡ true
  unfolding each_from
  each_all zero i h = refl
  each_all (suc n) i h = rw (h i (omega arith) (omega arith)) (each_all n (i + 1) (λ k l l'. h k (omega arith) (omega arith)))
