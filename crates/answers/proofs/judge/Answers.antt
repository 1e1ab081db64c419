-- `answers::judge`: a refusal goes on, a yes is done.
use Rattle.std.proofs.Common.{◌≡◌, sym, ◌∙◌, ap}
use Rattle.questions.proofs.Chains.{passed_on}
use Rattle.agents.specs.Answers.{answer_of}
use Rattle.answers.proofs.Answers.{judged_accepted, judged_refused}
use Rattle.answers.proofs.judge.Goals as goal

pub returns-in_err-v : goal.returns-in_err-v
unfolding answer_of
returns-in_err-v c o e =
    ap answer_of (passed_on _ _ c.from_residual.ensures.1) ∙ sym (judged_refused _ o _ c.in_err-v.was e)

pub returns : goal.returns
unfolding answer_of
returns c o e = sym (judged_accepted _ o c.in_ok-v.was e)
