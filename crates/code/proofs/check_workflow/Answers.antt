-- The walk, then question 8.
use Rattle.std.proofs.Common.{refl, sym, ◌∙◌, ap, eqb}
use Rattle.questions.specs.Verdicts.{verdict_of}
use Rattle.questions.proofs.Chains.{first_all}
use Rattle.code.specs.Questions.{inside_at, question8}
use Rattle.code.specs.Stopped.{stopped}
use Rattle.code.proofs.Walked.{code_refused, code_walked}
use Rattle.code.proofs.check_workflow.Goals as goal

pub walk_outside-requires-clause-outside : goal.walk_outside-requires-clause-outside
unfolding inside_at
walk_outside-requires-clause-outside c = refl

-- where the walk stopped is the first no of the workflow,
-- and question 8 is not put
pub returns-in-Err : goal.returns-in-Err
returns-in-Err c =
    let w = c.args.workflow in
    let walked = c.walk_outside.ensures w ∙ ap verdict_of (first_all _ _) in
    c.refused.ensures ∙ sym (ap (stopped w) c.in-Err.is) ∙ code_refused _ _ _ _ walked _ (ap (stopped w) c.in-Err.is)

pub returns : goal.returns
unfolding question8
returns c =
    let w = c.args.workflow in
    let walked = c.walk_outside.ensures w ∙ ap verdict_of (first_all _ _) in
    let last = ap (λ n. eqb n 11) (sym c.operation_of-returns.ensures) in
    c.ask_at.ensures ∙ ap verdict_of (sym (code_walked _ _ _ _ walked _ (ap (stopped w) c.in_default.is) last))
