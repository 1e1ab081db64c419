-- The pack's own opening, then where the workflow stands.
use Rattle.questions.proofs.Chains.{accepted}
use Rattle.pack.proofs.Workflows.{open_laid, open_below}
use Rattle.reader.proofs.Laws.{found_none, found_there}
use Rattle.reader.proofs.opening_of.Goals as goal

pub operations_at-requires : goal.operations_at-requires
operations_at-requires c =
    let e = accepted _ _ c.open-verdict.ensures c.in-Ok.is in record { laid = open_laid _ _ e; workflow_bound = open_below _ _ e }

pub operands_at-requires : goal.operands_at-requires
operands_at-requires c =
    let e = accepted _ _ c.open-verdict.ensures c.in-Ok.is in record { laid = open_laid _ _ e; workflow_bound = open_below _ _ e }

pub size_at-requires : goal.size_at-requires
size_at-requires c =
    let e = accepted _ _ c.open-verdict.ensures c.in-Ok.is in record { laid = open_laid _ _ e; workflow_bound = open_below _ _ e }

pub returns-in-Ok : goal.returns-in-Ok
returns-in-Ok c =
    found_there _ _ _ _ _ _ c.open-verdict.ensures (accepted _ _ c.open-verdict.ensures c.in-Ok.is) c.operations_at.ensures
    c.operands_at.ensures c.size_at.ensures

pub returns-in-Err : goal.returns-in-Err
returns-in-Err c = found_none _ _ _ _ c.open-verdict.ensures c.in-Err.is
