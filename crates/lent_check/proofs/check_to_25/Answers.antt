-- `lent_check::check_to_25`: the first no of 1 to 14, and of 25.
use Rattle.std.proofs.Common.{◌≡◌, sym, ◌∙◌}
use Rattle.agents.proofs.Answers.{accepted_none, handed, asked_last}
use Rattle.meaning.specs.State.{Lent}
use Rattle.meaning.proofs.Begun.{list_of_lent, list_of_25, list_all}
use Rattle.lent_check.proofs.check_to_25.Goals as goal

pub returns-in_err-check_lent : goal.returns-in_err-check_lent
returns-in_err-check_lent c =
    handed _ _ _ _ _ (c.check_lent.ensures c.args.list.now) c.in_err-check_lent.was c.from_residual.ensures.1 (list_of_lent _ _)

pub returns : goal.returns
returns c =
    let lent : Lent = record { store = c.args.store.now; records = c.args.agents.now; list = c.args.list.now } in
    let e = accepted_none _ _ (c.check_lent.ensures c.args.list.now) c.in_ok-check_lent.was in
    asked_last 25 _ _ _ c.ask.ensures
    (λ f. list_of_25 _ lent e (sym c.is_right.ensures ∙ f)) (λ f. list_all _ lent e (sym c.is_right.ensures ∙ f))
