-- `runtime::add`: a no to 1 to 14, 25, 26 or 20, or the id is listed.
use Rattle.std.proofs.Common.{◌≡◌, refl, sym, ◌∙◌, ap}
use Rattle.agents.proofs.Answers.{accepted_none, refused_some, asked_yes}
use Rattle.meaning.specs.State.{state_of}
use Rattle.meaning.proofs.Asked.{lent_pack, lent_store, lent_13}
use Rattle.meaning.proofs.Carry.{stops, stops_at}
use Rattle.store.proofs.Sound.{store_ok}
use Rattle.meaning.proofs.Begun.{list_lent, list_right_lem, add_stops}
use Rattle.contents.specs.Contents.{contents_of, book_rows}
use Rattle.contents.proofs.Book.{booked_some, booked_none}
use Rattle.runtime.proofs.Listing.{add_26, add_20, adds, nothing_there, something_there}
use Rattle.runtime.proofs.add.Goals as goal

pub returns-in_err-check_to_25 : goal.returns-in_err-check_to_25
returns-in_err-check_to_25 c =
    stops _ _ _ _ _ c.from_residual.ensures.1
    (add_stops _ _ _ (refused_some _ _ _ c.check_to_25.ensures c.in_err-check_to_25.was) _)

pub can_list-requires : goal.can_list-requires
can_list-requires c = list_right_lem _ _ (accepted_none _ _ c.check_to_25.ensures c.in_ok-check_to_25.was)

pub returns-in_err-ask : goal.returns-in_err-ask
returns-in_err-ask c =
    let begun = accepted_none _ _ c.check_to_25.ensures c.in_ok-check_to_25.was in
    stops_at _ _ _ 26 _ _ _ _ c.ask.ensures c.in_err-ask.was c.from_residual-in_err-ask.ensures.1 (λ f. add_26 _ _ begun _ (sym c.can_list.ensures ∙ f))

pub booked_workflow-requires : goal.booked_workflow-requires
booked_workflow-requires c =
    (store_ok _ (lent_store _ _ (list_lent _ _ (accepted_none _ _ c.check_to_25.ensures c.in_ok-check_to_25.was)))).0

pub returns-in_err-ask-2 : goal.returns-in_err-ask-2
unfolding contents_of
returns-in_err-ask-2 c =
    stops_at _ _ _ 20 _ _ _ _ c.ask-2.ensures c.in_err-ask-2.was c.from_residual-in_err-ask-2.ensures.1
    (λ f. add_20 _ _ (accepted_none _ _ c.check_to_25.ensures c.in_ok-check_to_25.was) c.args.id (sym c.can_list.ensures ∙ asked_yes 26 _ _ c.ask.ensures c.in_ok-ask.was)
    (booked_none (book_rows c.args.store.now) c.args.id c.booked_workflow.ensures.1 c.booked_workflow.result
    c.booked_workflow.ensures.0 (nothing_there _ (sym c.is_some.ensures ∙ f))))

pub with_id-requires-clause-right : goal.with_id-requires-clause-right
with_id-requires-clause-right c = list_right_lem _ _ (accepted_none _ _ c.check_to_25.ensures c.in_ok-check_to_25.was)

pub with_id-requires-clause-can_list : goal.with_id-requires-clause-can_list
with_id-requires-clause-can_list c = sym c.can_list.ensures ∙ asked_yes 26 _ _ c.ask.ensures c.in_ok-ask.was

pub returns : goal.returns
unfolding contents_of
returns c =
    let there = something_there _ (sym c.is_some.ensures ∙ asked_yes 20 _ _ c.ask-2.ensures c.in_ok-ask-2.was) in
    adds _ _ (accepted_none _ _ c.check_to_25.ensures c.in_ok-check_to_25.was) c.args.id (sym c.can_list.ensures ∙ asked_yes 26 _ _ c.ask.ensures c.in_ok-ask.was) _
    (booked_some (book_rows c.args.store.now) c.args.id c.booked_workflow.ensures.1 c.booked_workflow.result
    c.booked_workflow.ensures.0 _ there.1) _ c.with_id.ensures
