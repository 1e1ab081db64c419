-- `lent_check::check_to_16`: the first no of 1 to 14, of 15, and of 16.
use Rattle.std.proofs.Common.{◌≡◌, ap, not}
use borrow.Author.Tests.{ltb-true, ltb-false}
use Rattle.questions.proofs.Tests.{came_unlike, came_alike}
use Rattle.agents.proofs.Answers.{accepted_none, handed, asked_yes, asked_no, asked_last}
use Rattle.meaning.proofs.Begun.{no_of_lent, no_of_15, no_of_16, all_sixteen}
use Rattle.lent_check.proofs.check_to_16.Goals as goal

pub returns-in_err-check_lent-clause-first_no : goal.returns-in_err-check_lent-clause-first_no
returns-in_err-check_lent-clause-first_no c list =
    handed _ _ _ _ _ (c.check_lent.ensures list) c.in_err-check_lent.was c.from_residual.ensures.1 (no_of_lent _ _ _ _)

pub returns-in_err-ask-clause-first_no : goal.returns-in_err-ask-clause-first_no
returns-in_err-ask-clause-first_no c list =
    asked_no 15 _ _ _ _ _ c.ask.ensures c.in_err-ask.was c.from_residual-in_err-ask.ensures.1
    (λ f. no_of_15 _ _ _ _ (accepted_none _ _ (c.check_lent.ensures list) c.in_ok-check_lent.was) (ltb-false _ _ f))

pub returns-clause-first_no : goal.returns-clause-first_no
returns-clause-first_no c list =
    let e = accepted_none _ _ (c.check_lent.ensures list) c.in_ok-check_lent.was in
    let below = ltb-true _ _ (asked_yes 15 _ _ c.ask.ensures c.in_ok-ask.was) in
    asked_last 16 _ _ _ c.ask-2.ensures
    (λ f. no_of_16 _ _ c.args.slot c.args.used e below (came_unlike _ _ (ap not f)))
    (λ f. all_sixteen _ _ c.args.slot c.args.used e below (came_alike _ _ (ap not f)))
