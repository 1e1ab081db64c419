-- `host::sarthule_open`: a buffer too short, a no, or where the parts stand.
use Rattle.std.proofs.Common.{refl, arith}
use Rattle.std.proofs.Math.Option.{none}
use Rattle.pack.proofs.Workflows.{open_laid, open_below}
use Rattle.agents.proofs.Answers.{accepted_none, refused_some}
use Rattle.host.specs.Told.{opened_parts}
use Rattle.host.proofs.Told.{told_short, told_open}
use Rattle.host.proofs.sarthule_open.Goals as goal

pub returns-then-answer-lt28 : goal.returns-then-answer-lt28
returns-then-answer-lt28 c = told_short 28 _ _ _ c.if-answer-lt28.true

pub returns-in-Err : goal.returns-in-Err
unfolding opened_parts
returns-in-Err c =
    told_open _ _ _ _ _ _ _ _ _ c.if-answer-lt28.false (refused_some _ _ _ c.open-v.ensures c.in-Err.is)
    (c.judge.ensures _ c.open-v.ensures) c.write_answer-number.ensures.written refl c.write_parts-in-Err.ensures

pub size_at-size-requires-clause-laid : goal.size_at-size-requires-clause-laid
size_at-size-requires-clause-laid c = open_laid _ _ (accepted_none _ _ c.open-v.ensures c.in-Ok.is)

pub size_at-size-requires-clause-workflow_bound : goal.size_at-size-requires-clause-workflow_bound
size_at-size-requires-clause-workflow_bound c = open_below _ _ (accepted_none _ _ c.open-v.ensures c.in-Ok.is)

pub operations_at-requires-clause-laid : goal.operations_at-requires-clause-laid
operations_at-requires-clause-laid c = open_laid _ _ (accepted_none _ _ c.open-v.ensures c.in-Ok.is)

pub operations_at-requires-clause-workflow_bound : goal.operations_at-requires-clause-workflow_bound
operations_at-requires-clause-workflow_bound c = open_below _ _ (accepted_none _ _ c.open-v.ensures c.in-Ok.is)

pub operands_at-requires-clause-laid : goal.operands_at-requires-clause-laid
operands_at-requires-clause-laid c = open_laid _ _ (accepted_none _ _ c.open-v.ensures c.in-Ok.is)

pub operands_at-requires-clause-workflow_bound : goal.operands_at-requires-clause-workflow_bound
operands_at-requires-clause-workflow_bound c = open_below _ _ (accepted_none _ _ c.open-v.ensures c.in-Ok.is)

pub returns-in-Ok : goal.returns-in-Ok
unfolding opened_parts
returns-in-Ok c =
    let opens = accepted_none _ _ c.open-v.ensures c.in-Ok.is in
    told_open _ _ _ none _ _ _ _ _ c.if-answer-lt28.false opens (c.judge.ensures _ c.open-v.ensures)
    c.write_answer-number.ensures.written
    (rw (c.size_at-size.ensures, c.operations_at.ensures, c.operands_at.ensures) refl)
    c.write_parts.ensures

pub overflow_mul-size : goal.overflow_mul-size
overflow_mul-size c =
    let opens = accepted_none _ _ c.open-v.ensures c.in-Ok.is in
    omega (arith, c.size_at-size.ensures, ((open_laid _ _ opens).sizes _ (open_below _ _ opens)).1)
