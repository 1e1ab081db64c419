-- `answers::read_answer`: by its number.
use Rattle.std.proofs.Common.{rules, ◌≡◌, ℕ}
use Rattle.agents.specs.Answers.{answer_of}
use Rattle.answers.proofs.Answers.{reads_done, reads_moved, reads_reply, reads_given, reads_refused}
use Rattle.answers.proofs.read_answer.Goals as goal

pub returns-in-0 : goal.returns-in-0
unfolding answer_of
returns-in-0 c a h f = reads_done _ _ a h c.in-0.is

pub returns-in-1 : goal.returns-in-1
unfolding answer_of
returns-in-1 c a h f = reads_moved _ _ a h c.in-1.is

pub returns-in-2 : goal.returns-in-2
unfolding answer_of
returns-in-2 c a h f = reads_reply _ _ a h _ _ c.in-2.is c.read32-first.ensures c.read32-second.ensures

pub returns-in-4 : goal.returns-in-4
unfolding answer_of
returns-in-4 c a h f = reads_given _ _ a h _ c.in-4.is c.read32-first.ensures

pub returns-in_default : goal.returns-in_default
unfolding answer_of
returns-in_default c a h f =
    rw c.at.ensures (reads_refused _ _ a h (search rules) (search rules) (search rules) (search rules) f _ _ _ c.read32-first.ensures c.read32-second.ensures c.read32.ensures)
