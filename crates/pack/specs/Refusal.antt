-- The order of the questions: the first no is the refusal.
use Rattle.std.specs.Prelude.{List, [], ℕ}
use Rattle.std.proofs.Math.Option.{Option, none, some}
use Rattle.questions.specs.Questions.{No, number, ask, or_else, first_no}
use Rattle.code.specs.Refusal.{code_no}
use Rattle.pack.specs.Layout.{count, operations_of, operands_of}
use Rattle.pack.specs.Questions.{question1, question2, question3, question17}

-- 1 to 3
unfoldable pub layout_no : (pack : List ℕ) → Option No
layout_no pack = ask (number 1) (question1 pack) (ask (number 2) (question2 pack) (ask (number 3) (question3 pack) none))

-- 4 to 8, put to one workflow
abbrev pub workflow_no : (pack : List ℕ) (workflow : ℕ) → Option No
workflow_no pack workflow = code_no workflow (operations_of pack workflow) (operands_of pack workflow)

-- The pack check: 1 to 3, then workflow by workflow.
unfoldable pub pack_refusal : (pack : List ℕ) → Option No
pack_refusal pack = or_else (layout_no pack) (first_no (workflow_no pack) (count pack) 0)

-- Opening a workflow: 1 to 8 and 17.
unfoldable pub open_refusal : (pack : List ℕ) (workflow : ℕ) → Option No
open_refusal pack workflow = or_else (pack_refusal pack) (ask (number 17) (question17 pack workflow) none)

-- what an opening hands out: a part of the pack; a refusal comes with an empty part
unfoldable pub opened : Option No → (part : List ℕ) → List ℕ
opened none part = part
opened (some n) part = []
