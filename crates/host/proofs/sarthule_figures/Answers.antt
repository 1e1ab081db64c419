-- `host::sarthule_figures`: a buffer too short, or the figures.
use Rattle.std.proofs.Common.{sym, ap, Result}
use Rattle.questions.specs.declared.Refusal.{Refusal}
use Rattle.figures.specs.declared.Figured.{Figured}
use Rattle.figures.specs.Answered.{verdict_in}
use Rattle.agents.specs.Answers as AgentAnswers
use Rattle.answers.proofs.Answers.{judged_accepted, judged_refused}
use Rattle.host.proofs.Told.{figures_short, told_figures}
use Rattle.host.proofs.sarthule_figures.Goals as goal

pub returns-then-answer-lt48 : goal.returns-then-answer-lt48
returns-then-answer-lt48 c = figures_short _ _ _ c.if-answer-lt48.true

pub returns-in-Ok : goal.returns-in-Ok
unfolding AgentAnswers.answer_of
returns-in-Ok c =
    told_figures _ _ _ c.figures.result _ _ _ _ c.if-answer-lt48.false c.figures.ensures
    (sym (judged_accepted _ _ (ap (λ (r : Result Figured Refusal). verdict_in r) c.in-Ok.is) c.figures.ensures.verdict))
    c.write_answer-number.ensures.written (rw c.in-Ok.is c.write_figures.ensures)

pub returns-in-Err : goal.returns-in-Err
unfolding AgentAnswers.answer_of
returns-in-Err c =
    let long = c.if-answer-lt48.false in
    told_figures _ _ _ c.figures.result _ _ _ _ long c.figures.ensures
    (sym (judged_refused _ _ _ (ap (λ (r : Result Figured Refusal). verdict_in r) c.in-Err.is) c.figures.ensures.verdict))
    c.write_answer-number-in-Err.ensures.written (rw c.in-Err.is c.write_figures-in-Err.ensures)
