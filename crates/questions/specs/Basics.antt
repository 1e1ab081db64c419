-- Notation that the definitions share.
use Rattle.std.specs.Prelude.{Bool, true, false, ℕ, zero, suc, ◌+◌, eqb}
use Rattle.std.proofs.Math.Option.{Option, none, some}

infix 1 if◌then◌otherwise◌
abbrev pub if◌then◌otherwise◌ {ℓ} : {A : Type ℓ} → Bool → A → A → A
if true then x otherwise y = x
if false then x otherwise y = y

-- `update f k v` is f, but v at the number k
abbrev pub update {ℓ} : {A : Type ℓ} → (ℕ → A) → ℕ → A → ℕ → A
update f k v j = if eqb j k then v otherwise f j

-- is there something?
abbrev pub is_some {ℓ} : {A : Type ℓ} → Option A → Bool
is_some none = false
is_some (some x) = true

-- does f hold at the n numbers from i on?
unfoldable pub each_from : (ℕ → Bool) → (n i : ℕ) → Bool
each_from f zero i = true
each_from f (suc n) i = if f i then each_from f n (i + 1) otherwise false

-- does f hold at each number below n?
abbrev pub each : (n : ℕ) → (ℕ → Bool) → Bool
each n f = each_from f n 0

-- the sum of f at the numbers below n
unfoldable pub sum_below : (n : ℕ) → (ℕ → ℕ) → ℕ
sum_below zero f = 0
sum_below (suc n) f = sum_below n f + f n

-- how many numbers below n pass the test?
abbrev pub count_below : (n : ℕ) → (test : ℕ → Bool) → ℕ
count_below n test = sum_below n (λ i. if test i then 1 otherwise 0)
