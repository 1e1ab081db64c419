-- The order of the questions to one workflow: the first no is the refusal.
use Rattle.std.specs.Prelude.{List, ℕ, ◌-◌, length}
use Rattle.std.proofs.Math.Option.{Option, none}
use Rattle.questions.specs.Questions.{No, no, ask, or_else, first_no}
use Rattle.code.specs.Questions.{question4, question5, question6, question7, question8}

-- 4 to 7, put to an instruction of a workflow
unfoldable pub instruction_no : (workflow : ℕ) (ops ws : List ℕ) (index : ℕ) → Option No
instruction_no workflow ops ws index =
    ask (no 4 workflow index) (question4 ops index)
    (ask (no 5 workflow index) (question5 ops ws index)
    (ask (no 6 workflow index) (question6 ops ws index)
    (ask (no 7 workflow index) (question7 ops index) none)))

-- Within a workflow, questions 4 to 7 are put instruction by instruction; then 8, which names the last.
unfoldable pub code_no : (workflow : ℕ) (ops ws : List ℕ) → Option No
code_no workflow ops ws =
    or_else (first_no (instruction_no workflow ops ws) (length ops) 0) (ask (no 8 workflow (length ops - 1)) (question8 ops) none)
