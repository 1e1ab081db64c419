-- `runtime::retire`: a no to 1 to 14, 25, 28 or 29, or the rows of smaller ids are gone.
use Rattle.std.proofs.Common.{◌≡◌, refl, sym, ◌∙◌, ap}
use Rattle.agents.proofs.Answers.{accepted_none, refused_some, asked_yes}
use Rattle.meaning.specs.State.{state_of}
use Rattle.meaning.proofs.Asked.{lent_pack, lent_store, lent_13}
use Rattle.meaning.proofs.Carry.{stops, stops_at}
use borrow.Author.Tests.{ltb-true}
use Rattle.meaning.proofs.Begun.{list_lent, list_right_lem, retire_stops}
use Rattle.runtime.proofs.Retiring.{retire_28, retire_29, retires}
use Rattle.runtime.proofs.retire.Goals as goal

pub returns-in_err-check_to_25 : goal.returns-in_err-check_to_25
returns-in_err-check_to_25 c =
    stops _ _ _ _ _ c.from_residual.ensures.1
    (retire_stops _ _ _ (refused_some _ _ _ c.check_to_25.ensures c.in_err-check_to_25.was) _)

pub all_retirable-retirable-requires : goal.all_retirable-retirable-requires
all_retirable-retirable-requires c =
    let b = accepted_none _ _ c.check_to_25.ensures c.in_ok-check_to_25.was in
    let l = list_lent _ _ b in
    (lent_pack _ _ l, lent_store _ _ l, lent_13 _ _ l, list_right_lem _ _ b)

pub returns-in_err-ask : goal.returns-in_err-ask
unfolding state_of
returns-in_err-ask c =
    stops_at _ _ _ 28 _ _ _ _ c.ask.ensures c.in_err-ask.was c.from_residual-in_err-ask.ensures.1
    (λ f. retire_28 _ _ (accepted_none _ _ c.check_to_25.ensures c.in_ok-check_to_25.was) _ (sym c.all_retirable-retirable.ensures ∙ f))

pub any_below-requires : goal.any_below-requires
any_below-requires c = lent_store _ _ (list_lent _ _ (accepted_none _ _ c.check_to_25.ensures c.in_ok-check_to_25.was))

pub returns-in_err-ask-2 : goal.returns-in_err-ask-2
unfolding state_of
returns-in_err-ask-2 c =
    stops_at _ _ _ 29 _ _ _ _ c.ask-2.ensures c.in_err-ask-2.was c.from_residual-in_err-ask-2.ensures.1
    (λ f. retire_29 _ _ (accepted_none _ _ c.check_to_25.ensures c.in_ok-check_to_25.was) _
    (sym c.all_retirable-retirable.ensures ∙ asked_yes 28 _ _ c.ask.ensures c.in_ok-ask.was) (sym c.any_below.ensures ∙ f))

pub retire_rows-requires : goal.retire_rows-requires
unfolding state_of
retire_rows-requires c = (
  lent_store _ _ (list_lent _ _ (accepted_none _ _ c.check_to_25.ensures c.in_ok-check_to_25.was)),
  ltb-true 0 _ (sym c.any_below.ensures ∙ asked_yes 29 _ _ c.ask-2.ensures c.in_ok-ask-2.was),
)

pub returns : goal.returns
unfolding state_of
returns c =
    retires _ _ (accepted_none _ _ c.check_to_25.ensures c.in_ok-check_to_25.was) _
    (sym c.all_retirable-retirable.ensures ∙ asked_yes 28 _ _ c.ask.ensures c.in_ok-ask.was)
    (sym c.any_below.ensures ∙ asked_yes 29 _ _ c.ask-2.ensures c.in_ok-ask-2.was) _ c.retire_rows.ensures
