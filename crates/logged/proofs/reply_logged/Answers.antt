use Rattle.pack.proofs.Laws.{accepted_laid}
use Rattle.store.proofs.Sound.{store_ok}
use Rattle.logged.proofs.Booked.{unbooked, below, followed, stands, by_log}
use Rattle.logged.proofs.reply_logged.Goals as goal

pub booked_workflow-requires : goal.booked_workflow-requires
booked_workflow-requires c = (store_ok _ c.requires.1).0

pub returns-in_default : goal.returns-in_default
returns-in_default c = unbooked _ _ _ c.booked_workflow.ensures.1 _ c.booked_workflow.ensures.0 c.in_default.is

pub booked_request-requires : goal.booked_request-requires
booked_request-requires c = (store_ok _ c.requires.1).0

pub operations_part-ops-requires : goal.operations_part-ops-requires
operations_part-ops-requires c =
    record {
      laid = accepted_laid _ c.requires.0;
      workflow_bound = below _ _ _ c.booked_workflow.ensures.1 _ c.booked_workflow.ensures.0 c.requires _ c.in-Some.is;
    }

pub operands_part-operands-requires : goal.operands_part-operands-requires
operands_part-operands-requires c =
    record {
      laid = accepted_laid _ c.requires.0;
      workflow_bound = below _ _ _ c.booked_workflow.ensures.1 _ c.booked_workflow.ensures.0 c.requires _ c.in-Some.is;
    }

pub follow_log-requires : goal.follow_log-requires
follow_log-requires c = (
  followed _ _ _ c.booked_workflow.ensures.1 _ c.booked_workflow.ensures.0 c.requires _ c.in-Some.is _ _ c.operations_part-ops.ensures
      c.operands_part-operands.ensures,
  stands _ _ _ c.booked_workflow.ensures.1 _ c.booked_workflow.ensures.0 c.requires _ c.in-Some.is _ _ c.operations_part-ops.ensures
      c.operands_part-operands.ensures c.booked_request.result c.started-agent.result c.booked_request.ensures c.started-agent.ensures,
)

pub returns : goal.returns
returns c =
    by_log _ _ _ c.booked_workflow.ensures.1 _ c.booked_workflow.ensures.0 c.requires _ c.in-Some.is _ _ c.operations_part-ops.ensures
    c.operands_part-operands.ensures c.booked_request.result c.started-agent.result c.booked_request.ensures c.started-agent.ensures _
    c.follow_log.ensures
