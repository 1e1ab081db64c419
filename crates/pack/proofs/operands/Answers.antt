-- A part of the pack, or on refusal the empty part.
use Rattle.std.proofs.Common.{refl, sym, ◌∙◌}
use Rattle.questions.proofs.Chains.{accepted}
use Rattle.pack.proofs.Workflows.{open_laid, open_below, opened_part, opened_none}
use Rattle.pack.proofs.operands.Goals as goal

pub operands_part-requires-clause-laid : goal.operands_part-requires-clause-laid
operands_part-requires-clause-laid c = open_laid _ _ (accepted _ _ c.in-Ok.ensures refl)

pub operands_part-requires-clause-workflow_bound : goal.operands_part-requires-clause-workflow_bound
operands_part-requires-clause-workflow_bound c = open_below _ _ (accepted _ _ c.in-Ok.ensures refl)

pub returns-in-Ok : goal.returns-in-Ok
returns-in-Ok c = c.operands_part.ensures ∙ sym (opened_part _ _ (accepted _ _ c.in-Ok.ensures refl))

pub returns-in-Err : goal.returns-in-Err
returns-in-Err c = sym (opened_none _ _ _ _ c.in-Err.ensures refl)
