-- The code's verdict on questions, in the document's numbers.
use Rattle.std.specs.Prelude.{Result, Ok, Err, ⊤}
use Rattle.std.proofs.Math.Option.{Option, none, some}
use Rattle.questions.specs.Questions.{No}
use Rattle.questions.specs.declared.Refusal.{Refusal}

-- a no, as the code has it
abbrev pub refusal_of : No → Refusal
refusal_of n = record { question = n.question; workflow = n.workflow; instruction = n.instruction }

-- what a row of questions comes to, as the code has it
abbrev pub Verdict : Type 0
Verdict = Result ⊤ Refusal

-- the verdict of a row of questions: the first no, with its number, workflow and instruction
abbrev pub verdict_of : Option No → Verdict
verdict_of none = Ok tt
verdict_of (some n) = Err (refusal_of n)
