-- Verdicts taken apart: what the questions came to.
use mathlib.Core.Bool.{Bool, true, false}
use mathlib.Core.Option.{Option, none, some, some-injective}
use mathlib.Core.Path.{◌≡◌, refl, sym, ◌∙◌, ap}
use Prim.Native.Nat.{ℕ}
use native.Mathlib.Omega.{arith}
use Rattle.questions.specs.Questions.{No, no, number, ask}
use Rattle.questions.proofs.Chains.{passed_on}
use Rattle.questions.proofs.Updates.{none_some}
use Rattle.std.specs.Prelude.{Ok, Err, IsErrAnd}
use Rattle.questions.specs.Verdicts.{Verdict, verdict_of}
use Rattle.questions.specs.declared.Refusal.{Refusal}

-- accepted: no question said no
pub accepted_none : (v : Verdict) (o : Option No) → v ≡ verdict_of o → v ≡ Ok tt → o ≡ none
accepted_none v none e a = refl
accepted_none v (some n) e a = absurd (let z : ◌≡◌ {A = ℕ} 0 1 = cc in omega arith)

-- refused: the first no
pub refused_some : (v : Verdict) (o : Option No) (r : Refusal) → v ≡ verdict_of o → v ≡ Err r →
    o ≡ some (no r.question r.workflow r.instruction)
refused_some v none r e f = absurd (let z : ◌≡◌ {A = ℕ} 0 1 = cc in omega arith)
refused_some v (some n) r e f =
    let a : n.question ≡ r.question = cc in
    let b : n.workflow ≡ r.workflow = cc in
    let d : n.instruction ≡ r.instruction = cc in
    λ j. some (record { question = a j; workflow = b j; instruction = d j })

-- a refusal that `?` hands on: that of a row of questions with which a longer one begins
pub handed : (v r : Verdict) (o o' : Option No) (n : Refusal) → v ≡ verdict_of o → v ≡ Err n → IsErrAnd r (λ e. e ≡ n) →
    ((m : No) → o ≡ some m → o' ≡ some m) → r ≡ verdict_of o'
handed v r o o' n e f h k = passed_on r n h ∙ sym (ap verdict_of (k _ (refused_some v o n e f)))

-- one question asked: what a yes says, what a no that is handed on says, and what either says of the last one
module _ (q : ℕ) (b : Bool) where
  pub said_no : (m : No) → ask (number q) b none ≡ some m → (b ≡ false) × (number q ≡ m)
  unfolding ask
  said_no m e = go b e
    where
      go : (b : Bool) → ask (number q) b none ≡ some m → (b ≡ false) × (number q ≡ m)
      go true e = none_some m refl e
      go false e = (refl, some-injective (number q) m e)

  pub asked_yes : (v : Verdict) → v ≡ verdict_of (ask (number q) b none) → v ≡ Ok tt → b ≡ true
  unfolding ask
  asked_yes v e f = go b (accepted_none v (ask (number q) b none) e f)
    where
      go : (b : Bool) → ask (number q) b none ≡ none → b ≡ true
      go true e = refl
      go false e = none_some (number q) e refl

  pub asked_no : (v r : Verdict) (n : Refusal) (o : Option No) → v ≡ verdict_of (ask (number q) b none) → v ≡ Err n →
      IsErrAnd r (λ e. e ≡ n) → (b ≡ false → o ≡ some (number q)) → r ≡ verdict_of o
  asked_no v r n o e f h k = handed v r (ask (number q) b none) o n e f h (λ m g. let s = said_no m g in k s.0 ∙ ap some s.1)

  pub asked_last : (r : Verdict) (o : Option No) → r ≡ verdict_of (ask (number q) b none) → (b ≡ false → o ≡ some (number q)) →
      (b ≡ true → o ≡ none) → r ≡ verdict_of o
  unfolding ask
  asked_last r o e refuses accepts = go b refl
    where
      go : (c : Bool) → b ≡ c → r ≡ verdict_of o
      go false f = e ∙ ap (λ x. verdict_of (ask (number q) x none)) f ∙ sym (ap verdict_of (refuses f))
      go true f = e ∙ ap (λ x. verdict_of (ask (number q) x none)) f ∙ sym (ap verdict_of (accepts f))
