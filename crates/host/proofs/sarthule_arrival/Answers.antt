-- `host::sarthule_arrival`: a wrong buffer, or the call of the runtime.
use Rattle.host.proofs.Exports.{exported_short, exported_slots, exported}
use Rattle.host.proofs.sarthule_arrival.Goals as goal

pub returns-then-answer-lt12 : goal.returns-then-answer-lt12
returns-then-answer-lt12 c = exported_short _ _ _ _ _ c.if-answer-lt12.true

pub returns-then-slots-ne384 : goal.returns-then-slots-ne384
returns-then-slots-ne384 c = exported_slots _ _ _ _ _ c.if-answer-lt12.false c.if-slots-ne384.true

pub returns : goal.returns
returns c =
    exported _ _ _ _ _ _ _ _ _ _ _ _ c.if-answer-lt12.false c.if-slots-ne384.false c.read_slots-agents.ensures
    c.arrival-said.ensures tt c.finish.ensures.written c.finish.ensures.heard c.finish.ensures.slots_after c.finish.ensures.slots_read
