-- `runtime::done`: a no to 1 to 14, 25 or 27, or the id is gone from the list.
use Rattle.std.proofs.Common.{◌≡◌, refl, sym, ◌∙◌, ap}
use Rattle.agents.proofs.Answers.{accepted_none, refused_some, asked_yes}
use Rattle.meaning.specs.State.{state_of}
use Rattle.meaning.proofs.Asked.{lent_pack, lent_store, lent_13}
use Rattle.std.proofs.Math.Option.{some}
use Rattle.questions.specs.Questions.{no}
use Rattle.questions.specs.declared.Refusal.{Refusal}
use Rattle.meaning.proofs.Carry.{stops, stops_at, is_refused}
use Rattle.rules.specs.Blocks.{Result}
use Rattle.questions.specs.Basics.{is_some}
use Rattle.std.proofs.Math.Option.{Option}
use Rattle.meaning.proofs.Begun.{list_lent, list_right_lem, done_stops}
use Rattle.runtime.proofs.Listing.{done_not_taken, done_not_through, dones}
use Rattle.runtime.proofs.Listing.{through_is, not_through_is}
use Rattle.runtime.proofs.done.Goals as goal

pub returns-in_err-check_to_25 : goal.returns-in_err-check_to_25
returns-in_err-check_to_25 c =
    stops _ _ _ _ _ c.from_residual.ensures.1
    (done_stops _ _ _ (refused_some _ _ _ c.check_to_25.ensures c.in_err-check_to_25.was) _)

pub is_taken-requires : goal.is_taken-requires
is_taken-requires c = list_right_lem _ _ (accepted_none _ _ c.check_to_25.ensures c.in_ok-check_to_25.was)

pub returns-in_err-ask : goal.returns-in_err-ask
returns-in_err-ask c =
    let begun = accepted_none _ _ c.check_to_25.ensures c.in_ok-check_to_25.was in
    stops_at _ _ _ 27 _ _ _ _ c.ask.ensures c.in_err-ask.was c.from_residual-in_err-ask.ensures.1 (λ f. done_not_taken _ _ begun _ (sym c.is_taken.ensures ∙ f))

pub reply_logged-requires : goal.reply_logged-requires
reply_logged-requires c =
    let l = list_lent _ _ (accepted_none _ _ c.check_to_25.ensures c.in_ok-check_to_25.was) in
    (lent_pack _ _ l, lent_store _ _ l, lent_13 _ _ l)

pub returns-in_default : goal.returns-in_default
returns-in_default c =
    is_refused _ _ _ _
    (done_not_through _ _ (accepted_none _ _ c.check_to_25.ensures c.in_ok-check_to_25.was) c.args.id (sym c.is_taken.ensures ∙ asked_yes 27 _ _ c.ask.ensures c.in_ok-ask.was) (not_through_is _ _ c.args.id _ c.reply_logged.ensures c.in_default.not-Through)
    ∙ ap (λ (n : Refusal). some (no n.question n.workflow n.instruction)) (sym c.number.ensures))

pub without_id-requires : goal.without_id-requires
without_id-requires c = list_right_lem _ _ (accepted_none _ _ c.check_to_25.ensures c.in_ok-check_to_25.was)

pub returns : goal.returns
returns c =
    dones _ _ (accepted_none _ _ c.check_to_25.ensures c.in_ok-check_to_25.was) c.args.id (sym c.is_taken.ensures ∙ asked_yes 27 _ _ c.ask.ensures c.in_ok-ask.was)
    (ap (λ (o : Option Result). is_some o) (through_is _ _ c.args.id _ c.reply_logged.ensures _ c.in-Through.is).0) _ c.without_id.ensures
