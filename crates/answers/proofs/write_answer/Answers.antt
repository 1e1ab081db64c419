-- `answers::write_answer`: number and words of a refusal, and what a host hears of them.
use Rattle.std.proofs.Common.{rules, ◌≡◌, ◌<◌, ◌∙◌, refl, arith}
use Rattle.agents.specs.Answers.{answer_of}
use Rattle.answers.specs.Answers.{number_of, values_of}
use Rattle.answers.proofs.Answers.{low_words, heard_refused}
use Rattle.answers.proofs.write_answer.Goals as goal

pub returns-in-Ok-clause-written : goal.returns-in-Ok-clause-written
returns-in-Ok-clause-written c = rw c.in-Ok.is c.write_accepted.ensures.written

pub returns-in-Ok-clause-heard : goal.returns-in-Ok-clause-heard
returns-in-Ok-clause-heard c f = rw c.in-Ok.is c.write_accepted.ensures.heard

pub returns-in-Err-clause-written : goal.returns-in-Err-clause-written
unfolding number_of values_of answer_of
returns-in-Err-clause-written c =
    let w = rw (c.low.ensures, c.low-in-Err.ensures) at c.write_words.ensures ∙ low_words _ _ _ _ in
    rw c.in-Err.is (refl, w)

pub returns-in-Err-clause-heard : goal.returns-in-Err-clause-heard
unfolding answer_of
returns-in-Err-clause-heard c f =
    let w = rw (c.low.ensures, c.low-in-Err.ensures) at c.write_words.ensures ∙ low_words _ _ _ _ in
    let placed = rw c.in-Err.is at f in
    rw c.in-Err.is (heard_refused _ _ _ _ _ (search rules) (omega arith) (omega (arith, placed.1)) (omega (arith, placed.2)) w)
