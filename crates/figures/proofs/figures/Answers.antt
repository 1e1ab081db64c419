-- The questions, then the figures of the opened workflow.
use Rattle.questions.proofs.Chains.{accepted}
use Rattle.pack.proofs.Workflows.{open_laid, open_below}
use Rattle.figures.proofs.Answers.{opened_sized, answered}
use Rattle.figures.proofs.figures.Goals as goal

pub operations_part-ops-requires-clause-laid : goal.operations_part-ops-requires-clause-laid
operations_part-ops-requires-clause-laid c = open_laid _ _ (accepted _ _ c.open.ensures c.in_ok-open.was)

pub operations_part-ops-requires-clause-workflow_bound : goal.operations_part-ops-requires-clause-workflow_bound
operations_part-ops-requires-clause-workflow_bound c = open_below _ _ (accepted _ _ c.open.ensures c.in_ok-open.was)

pub operands_part-operands-requires-clause-laid : goal.operands_part-operands-requires-clause-laid
operands_part-operands-requires-clause-laid c = open_laid _ _ (accepted _ _ c.open.ensures c.in_ok-open.was)

pub operands_part-operands-requires-clause-workflow_bound : goal.operands_part-operands-requires-clause-workflow_bound
operands_part-operands-requires-clause-workflow_bound c = open_below _ _ (accepted _ _ c.open.ensures c.in_ok-open.was)

pub most_of-requires : goal.most_of-requires
most_of-requires c =
    opened_sized _ _ (accepted _ _ c.open.ensures c.in_ok-open.was) _ _ c.operations_part-ops.ensures c.operands_part-operands.ensures

pub most_rows-requires : goal.most_rows-requires
most_rows-requires c =
    opened_sized _ _ (accepted _ _ c.open.ensures c.in_ok-open.was) _ _ c.operations_part-ops.ensures c.operands_part-operands.ensures

pub returns : goal.returns
returns c =
    answered _ _ (accepted _ _ c.open.ensures c.in_ok-open.was) _ _ c.operations_part-ops.ensures c.operands_part-operands.ensures _
    c.most_rows.ensures.eight c.most_of.ensures c.most_rows.ensures.most
