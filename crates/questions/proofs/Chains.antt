-- Laws of chains of questions, and of the verdict on them.
use mathlib.Core.Path.{◌≡◌, refl, sym, ◌∙◌, ap}
use mathlib.Core.Option.{Option, none, some}
use Prim.Native.Nat.{ℕ, zero, suc, ◌+◌, ◌-◌, ◌≤◌, ◌<◌}
use native.Mathlib.Nat.{add-zero, add-suc, suc-add, le_of_suc-le-suc, not-suc-le-zero}
use native.Mathlib.Omega.{arith}
use native.Mathlib.Numerals.{add-one}
use Rattle.std.specs.Prelude.{Result, Ok, Err, IsErrAnd}
use Rattle.std.proofs.lemmas.Result.{err_from_is_err_and}
use Rattle.questions.specs.declared.Refusal.{Refusal}
use Rattle.questions.specs.Questions.{No, or_else, first_no}
use Rattle.questions.specs.Verdicts.{Verdict, verdict_of}
use Rattle.questions.proofs.Questions.{or_else_none}

-- what `?` hands on is the refusal that it was given
pub passed_on : {T : Type 0} (r : Result T Refusal) (n : Refusal) → IsErrAnd r (λ e. e ≡ n) → r ≡ Err n
passed_on r n h = let x = err_from_is_err_and r h in x.1 ∙ ap Err x.2

-- after a row of questions that were answered yes the rest is asked
pub or_yes : (o rest : Option No) → o ≡ none → or_else o rest ≡ rest
unfolding or_else
or_yes o rest e = rw e

-- a verdict in hand, and what it says of the refusal
pub accepted : (v : Verdict) (o : Option No) → v ≡ verdict_of o → v ≡ Ok tt → o ≡ none
accepted v none p q = refl
accepted v (some n) p q = let z : ◌≡◌ {A = ℕ} 0 1 = cc in absurd (omega arith)

pub refused_first : (v : Verdict) (o rest : Option No) (n : Refusal) → v ≡ verdict_of o → v ≡ Err n → v ≡ verdict_of (or_else o rest)
unfolding or_else
refused_first v none rest m p r = let z : ◌≡◌ {A = ℕ} 0 1 = cc in absurd (omega arith)
refused_first v (some n) rest m p r = p

-- the search for the first no of f, at i of m numbers
module _ (f : ℕ → Option No) (m i : ℕ) where
  pub first_done : m ≤ i → first_no f (m - i) i ≡ none
  unfolding first_no
  first_done h = let e : m - i ≡ 0 = omega arith in rw e

  first_here : i < m → first_no f (m - i) i ≡ or_else (f i) (first_no f (m - (i + 1)) (i + 1))
  unfolding first_no
  first_here h = let e : m - i ≡ suc (m - (i + 1)) = omega arith in rw (e, add-one)

  pub first_yes : i < m → (v : Verdict) → v ≡ verdict_of (f i) → v ≡ Ok tt → first_no f (m - i) i ≡ first_no f (m - (i + 1)) (i + 1)
  unfolding or_else
  first_yes h v p a = first_here h ∙ rw (accepted v (f i) p a)

  pub first_stop : i < m → (v : Verdict) (n : Refusal) → v ≡ verdict_of (f i) → v ≡ Err n → v ≡ verdict_of (first_no f (m - i) i)
  first_stop h v n p r = refused_first v (f i) _ n p r ∙ ap verdict_of (sym (first_here h))

-- from the start all are ahead
pub first_all : (f : ℕ → Option No) (m : ℕ) → first_no f (m - 0) 0 ≡ first_no f m 0
first_all f m = let e : m - 0 ≡ m = omega arith in rw e

-- where the search finds no no, there is none
pub each_yes : (f : ℕ → Option No) (n i k : ℕ) → first_no f n i ≡ none → k < n → f (i + k) ≡ none
unfolding first_no
each_yes f zero i k e h = absurd (not-suc-le-zero h)
each_yes f (suc n) i zero e h = rw add-zero (or_else_none (f i) _ e).0
each_yes f (suc n) i (suc k) e h = rw (add-suc, ← suc-add) (each_yes f n (suc i) k (or_else_none (f i) _ e).1 (le_of_suc-le-suc h))
