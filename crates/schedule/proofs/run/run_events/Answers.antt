use mathlib.Core.Path.{refl}
use Rattle.std.proofs.Common.{arith}
use Rattle.schedule.proofs.Goes.{going_none, going_more}
use Rattle.schedule.proofs.run.run_events.Goals as goal

pub loop-event-init : goal.loop-event-init
loop-event-init c =
    (refl, refl, omega arith, going_none _ _ c.requires.1 c.no_agents-agents.ensures (omega arith))

pub loop-event-preserved : goal.loop-event-preserved
loop-event-preserved c = (
  omega arith,
  omega arith,
  omega arith,
  going_more c.loop-event.invariant.3 c.call_event-answer.ensures c.answer_line-written.ensures.0,
)
