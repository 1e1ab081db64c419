use Rattle.schedule.proofs.Listed.{same_call, right_there, call_there}
use Rattle.schedule.proofs.calls.call_event.Goals as goal

pub call_of-requires : goal.call_of-requires
call_of-requires c =
    (c.requires.0.laid, right_there _ _ _ c.read16-events.ensures c.requires.0.events c.requires.1)

pub returns : goal.returns
returns c = same_call _ _ (call_there _ _ _ c.read16-events.ensures) c.call_of.ensures
