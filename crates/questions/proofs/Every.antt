-- What holds of every no that questions can come to.
use mathlib.Core.Bool.{Bool, true, false}
use mathlib.Core.Option.{Option, none, some}
use mathlib.Core.Path.{◌≡◌, refl, subst}
use Prim.Native.Nat.{ℕ, zero, suc, ◌+◌, ◌≤◌, ◌<◌}
use native.Mathlib.Omega.{arith}
use Rattle.questions.specs.Questions.{No, number, Placed, ask, or_else, first_no}
use Rattle.questions.proofs.Updates.{none_some}

module _ (Q : No → Type 0) where
  -- if questions come to a no, Q holds of it
  abbrev pub Every : Option No → Type 0
  Every o = (n : No) → o ≡ some n → Q n

  pub every_none : Every none
  every_none n e = none_some n refl e

  pub every_some : (x : No) → Q x → Every (some x)
  every_some x q n e = subst Q (same e) q
    where
      taken : Option No → No
      taken none = x
      taken (some n) = n

      same : some x ≡ some n → x ≡ n
      same e i = taken (e i)

  pub every_ask : (x : No) (b : Bool) (rest : Option No) → Q x → Every rest → Every (ask x b rest)
  unfolding ask
  every_ask x true rest q h = h
  every_ask x false rest q h = every_some x q

  pub every_or : (o rest : Option No) → Every o → (o ≡ none → Every rest) → Every (or_else o rest)
  unfolding or_else
  every_or none rest h g = g refl
  every_or (some x) rest h g = every_some x (h x refl)

  pub every_first : (f : ℕ → Option No) (n i : ℕ) → ((k : ℕ) → i ≤ k → k < i + n → Every (f k)) → Every (first_no f n i)
  unfolding first_no
  every_first f zero i h = every_none
  every_first f (suc n) i h =
      every_or (f i) (first_no f n (suc i)) (h i (omega arith) (omega arith))
      (λ e. every_first f n (suc i) (λ k l m. h k (omega arith) (omega arith)))

-- a question that goes with no place has workflow and instruction 0
pub no_place : (q : ℕ) → q < 256 → Placed (number q)
no_place q h = (h, omega arith, omega arith)
