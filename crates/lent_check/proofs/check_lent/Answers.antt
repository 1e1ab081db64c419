-- `lent_check::check_lent`: the first no of 1 to 13, and of 14.
use Rattle.std.proofs.Common.{◌≡◌, sym, ◌∙◌}
use Rattle.pack.proofs.Laws.{accepted_laid}
use Rattle.store.proofs.Sound.{store_ok}
use Rattle.agents.proofs.Answers.{accepted_none, handed, asked_last}
use Rattle.meaning.specs.State.{Lent}
use Rattle.meaning.proofs.Tests.{booked_of_13}
use Rattle.meaning.proofs.Asked.{to_13_pack, to_13_store, to_13_right, no_to_13, no_of_14, all_yes}
use Rattle.lent_check.proofs.check_lent.Goals as goal

pub returns-in_err-check_to_13 : goal.returns-in_err-check_to_13
returns-in_err-check_to_13 c list =
    handed _ _ _ _ _ c.check_to_13.ensures c.in_err-check_to_13.was c.from_residual.ensures.1 (no_to_13 _ _)

pub check_14-requires : goal.check_14-requires
check_14-requires c =
    let e = accepted_none _ _ c.check_to_13.ensures c.in_ok-check_to_13.was in
    (accepted_laid _ (to_13_pack _ _ e), (store_ok _ (to_13_store _ _ e)).0, booked_of_13 _ _ (to_13_right _ _ e))

pub returns : goal.returns
returns c list =
    let lent : Lent = record { store = c.args.store.now; records = c.args.agents.now; list = list } in
    let e = accepted_none _ _ c.check_to_13.ensures c.in_ok-check_to_13.was in
    asked_last 14 _ _ _ c.ask.ensures
    (λ f. no_of_14 _ lent e (sym c.check_14.ensures ∙ f)) (λ f. all_yes _ lent e (sym c.check_14.ensures ∙ f))
