-- `host::sarthule_retire`: a wrong buffer, or the call of the runtime.
use Rattle.host.proofs.Exports.{short_answer, wrong_slots, short_list, right_buffers, store_wrong, store_exported}
use Rattle.host.proofs.sarthule_retire.Goals as goal

pub returns-then-answer-lt12 : goal.returns-then-answer-lt12
returns-then-answer-lt12 c = store_wrong _ _ _ _ _ _ 100 (short_answer _ _ _ c.if-answer-lt12.true)

pub returns-then-slots-ne384 : goal.returns-then-slots-ne384
returns-then-slots-ne384 c = store_wrong _ _ _ _ _ _ 101 (wrong_slots _ _ _ c.if-answer-lt12.false c.if-slots-ne384.true)

pub returns-then-list-lt132 : goal.returns-then-list-lt132
returns-then-list-lt132 c =
    store_wrong _ _ _ _ _ _ 102 (short_list _ _ _ c.if-answer-lt12.false c.if-slots-ne384.false c.if-list-lt132.true)

pub returns : goal.returns
returns c =
    store_exported _ _ _ _ _ _ _ _ _ _ _ _
    (right_buffers _ _ _ c.if-answer-lt12.false c.if-slots-ne384.false c.if-list-lt132.false)
    c.read_slots-agents.ensures c.read_list.ensures c.retire-a.ensures tt
    (c.write_answer.ensures.written, c.write_answer.ensures.heard)
