-- `host::sarthule_reply`: a buffer too short, or what is known.
use Rattle.std.proofs.Common.{◌≡◌, refl, sym, ◌∙◌, ap, arith, Ok, Err, Some, None, ℕ}
use Rattle.agents.specs.Answers as AgentAnswers
use Rattle.answers.specs.Answers as Answers
use Rattle.store.specs.Answers.{Got}
use Rattle.host.proofs.Told.{reply_short, reply_told}
use Rattle.host.proofs.sarthule_reply.Goals as goal

pub returns-then-answer-lt12 : goal.returns-then-answer-lt12
returns-then-answer-lt12 c = reply_short _ _ _ _ c.if-answer-lt12.true

pub returns-in-Err : goal.returns-in-Err
unfolding AgentAnswers.answer_of Answers.number_of Answers.values_of
returns-in-Err c =
    reply_told _ _ _ _ (Err c.in-Err.no) _ _ c.if-answer-lt12.false (sym c.in-Err.is ∙ c.reply.ensures) (omega arith)
    (λ v e. absurd (let z : ◌≡◌ {A = ℕ} 0 1 = cc in omega arith)) c.write_answer.ensures.written.0 c.write_answer.ensures.written.1

pub returns-in-Some : goal.returns-in-Some
unfolding AgentAnswers.answer_of Answers.number_of Answers.values_of
returns-in-Some c =
    reply_told _ _ _ _ (Ok (Some c.in-Some.value)) _ _ c.if-answer-lt12.false
    (ap (λ (x : Got). Ok x) (sym c.in-Some.is) ∙ sym c.in-Ok.is ∙ c.reply.ensures) (omega arith)
    (λ v e. let f : c.in-Some.value ≡ v = cc in omega (arith, f)) c.write_answer-in-Some.ensures.written.0 c.write_answer-in-Some.ensures.written.1

pub returns-in-None : goal.returns-in-None
unfolding AgentAnswers.answer_of Answers.number_of Answers.values_of
returns-in-None c =
    reply_told _ _ _ _ (Ok None) _ _ c.if-answer-lt12.false
    (ap (λ (x : Got). Ok x) (sym c.in-None.is) ∙ sym c.in-Ok.is ∙ c.reply.ensures) (omega arith)
    (λ v e. absurd (let z : ◌≡◌ {A = ℕ} 0 1 = cc in omega arith)) refl c.write_answer-in-None.ensures.written.1
