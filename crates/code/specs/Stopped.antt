-- What the walk of a workflow has of a no, put at its place.
use Rattle.std.specs.Prelude.{ℕ, Result, Ok, Err, ⊤}
use Rattle.questions.specs.Questions.{no}
use Rattle.questions.specs.Verdicts.{Verdict, refusal_of}
use Rattle.code.specs.declared.Stop.{Stop}

-- a no that the code has by its number alone, at its place
abbrev pub at_place : (workflow index : ℕ) → Result ⊤ ℕ → Verdict
at_place workflow index (Ok u) = Ok u
at_place workflow index (Err question) = Err (refusal_of (no question workflow index))

-- where a walk stopped, as a no of its workflow
abbrev pub stopped : (workflow : ℕ) → Result ⊤ Stop → Verdict
stopped workflow (Ok u) = Ok u
stopped workflow (Err s) = Err (refusal_of (no s.question workflow s.instruction))
