-- What a verdict on one question says of a row of questions that begins with it.
use Rattle.std.proofs.Common.{◌≡◌, refl, Bool, true, false, Ok, Err}
use Rattle.std.proofs.Math.Option.{Option, none}
use Rattle.questions.specs.declared.Refusal.{Refusal}
use Rattle.questions.specs.Questions.{No, ask}
use Rattle.questions.specs.Verdicts.{Verdict, verdict_of}

pub asked_yes : (v : Verdict) (n : No) (t : Bool) → v ≡ verdict_of (ask n t none) → v ≡ Ok tt → t ≡ true
unfolding ask
asked_yes v n true e a = refl
asked_yes v n false e a = cc

pub asked_no : (v : Verdict) (n : No) (t : Bool) (rest : Option No) (m : Refusal) → v ≡ verdict_of (ask n t none) → v ≡ Err m →
    v ≡ verdict_of (ask n t rest)
unfolding ask
asked_no v n true rest m e r = cc
asked_no v n false rest m e r = e

pub asked_false : (v : Verdict) (n : No) (t : Bool) (m : Refusal) → v ≡ verdict_of (ask n t none) → v ≡ Err m → t ≡ false
unfolding ask
asked_false v n true m e r = cc
asked_false v n false m e r = refl
