-- `host::sarthule_take`: a wrong buffer, or the call of the runtime.
use Rattle.host.proofs.Exports.{short_answer, wrong_slots, short_list, right_buffers, list_wrong_lem, list_exported}
use Rattle.host.proofs.sarthule_take.Goals as goal

pub returns-then-answer-lt12 : goal.returns-then-answer-lt12
returns-then-answer-lt12 c = list_wrong_lem _ _ _ _ _ _ 100 (short_answer _ _ _ c.if-answer-lt12.true)

pub returns-then-slots-ne384 : goal.returns-then-slots-ne384
returns-then-slots-ne384 c = list_wrong_lem _ _ _ _ _ _ 101 (wrong_slots _ _ _ c.if-answer-lt12.false c.if-slots-ne384.true)

pub returns-then-list-lt132 : goal.returns-then-list-lt132
returns-then-list-lt132 c =
    list_wrong_lem _ _ _ _ _ _ 102 (short_list _ _ _ c.if-answer-lt12.false c.if-slots-ne384.false c.if-list-lt132.true)

pub returns : goal.returns
returns c =
    list_exported _ _ _ _ _ _ _ _ _ _ _ _ _
    (right_buffers _ _ _ c.if-answer-lt12.false c.if-slots-ne384.false c.if-list-lt132.false)
    c.read_slots-agents.ensures c.read_list-left.ensures c.take-said.ensures tt
    c.finish_list.ensures.written c.finish_list.ensures.heard c.finish_list.ensures.list_after c.finish_list.ensures.list_read
