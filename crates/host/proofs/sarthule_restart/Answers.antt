-- `host::sarthule_restart`: a wrong buffer, or the restart of the runtime.
use Rattle.agents.specs.Answers as AgentAnswers
use Rattle.answers.specs.Answers as Answers
use Rattle.host.proofs.Exports.{short_answer, wrong_slots, short_list, right_buffers, restart_wrong, restarted_all}
use Rattle.host.proofs.sarthule_restart.Goals as goal

pub returns-then-answer-lt12 : goal.returns-then-answer-lt12
returns-then-answer-lt12 c = restart_wrong _ _ _ 100 (short_answer _ _ _ c.if-answer-lt12.true)

pub returns-then-slots-ne384 : goal.returns-then-slots-ne384
returns-then-slots-ne384 c = restart_wrong _ _ _ 101 (wrong_slots _ _ _ c.if-answer-lt12.false c.if-slots-ne384.true)

pub returns-then-list-lt132 : goal.returns-then-list-lt132
returns-then-list-lt132 c =
    restart_wrong _ _ _ 102 (short_list _ _ _ c.if-answer-lt12.false c.if-slots-ne384.false c.if-list-lt132.true)

pub returns : goal.returns
unfolding AgentAnswers.answer_of Answers.number_of Answers.values_of
returns c =
    restarted_all _ _ _ _ _ _ _ _ _ _
    (right_buffers _ _ _ c.if-answer-lt12.false c.if-slots-ne384.false c.if-list-lt132.false) c.read_list-left.ensures
    c.restart.ensures (c.write_slots.ensures.bytes_after, c.write_slots.ensures.read_back)
    (c.write_list.ensures.bytes_after, c.write_list.ensures.read_back) c.write_answer.ensures.written
