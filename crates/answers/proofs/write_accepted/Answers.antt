-- `answers::write_accepted`: number and words of each answer, and what a host hears of them.
use Rattle.std.proofs.Common.{rules, ◌≡◌, ◌<◌, ◌*◌, ◌∙◌, refl, arith}
use Rattle.agents.specs.Answers.{answer_of}
use Rattle.answers.specs.Answers.{number_of, values_of, heard}
use Rattle.answers.proofs.Answers.{heard_reply, heard_given}
use Rattle.answers.proofs.write_accepted.Goals as goal

pub returns-in-Done-clause-written : goal.returns-in-Done-clause-written
unfolding number_of values_of answer_of
returns-in-Done-clause-written c = rw c.in-Done.is (refl, c.write_words.ensures)

pub returns-in-Done-clause-heard : goal.returns-in-Done-clause-heard
unfolding heard answer_of
returns-in-Done-clause-heard c = rw c.in-Done.is refl

pub returns-in-Moved-clause-written : goal.returns-in-Moved-clause-written
unfolding number_of values_of answer_of
returns-in-Moved-clause-written c = rw c.in-Moved.is (refl, c.write_words-in-Moved.ensures)

pub returns-in-Moved-clause-heard : goal.returns-in-Moved-clause-heard
unfolding heard answer_of
returns-in-Moved-clause-heard c = rw c.in-Moved.is refl

pub returns-in-Reply-clause-written : goal.returns-in-Reply-clause-written
unfolding number_of values_of answer_of
returns-in-Reply-clause-written c = rw c.in-Reply.is (refl, c.write_words-in-Reply.ensures)

pub returns-in-Reply-clause-heard : goal.returns-in-Reply-clause-heard
unfolding answer_of
returns-in-Reply-clause-heard c =
    rw c.in-Reply.is (heard_reply _ _ _ _ (search rules) (omega arith) (omega arith) c.write_words-in-Reply.ensures)

pub returns-in-Given-clause-written : goal.returns-in-Given-clause-written
unfolding number_of values_of answer_of
returns-in-Given-clause-written c = rw c.in-Given.is (refl, c.write_words-in-Given.ensures)

pub returns-in-Given-clause-heard : goal.returns-in-Given-clause-heard
unfolding answer_of
returns-in-Given-clause-heard c = rw c.in-Given.is (heard_given _ _ _ (search rules) (omega arith) c.write_words-in-Given.ensures)
