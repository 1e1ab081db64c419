-- `runtime::take`: a no to 1 to 14, 25 or 27, or the first waiting id.
use Rattle.std.proofs.Common.{◌≡◌, refl, sym, ◌∙◌, ap}
use Rattle.agents.proofs.Answers.{accepted_none, refused_some, asked_yes}
use Rattle.meaning.specs.State.{state_of}
use Rattle.meaning.proofs.Asked.{lent_pack, lent_store, lent_13}
use Rattle.std.proofs.Math.Option.{some}
use Rattle.questions.specs.Questions.{no}
use Rattle.questions.specs.declared.Refusal.{Refusal}
use Rattle.worklist.specs.Worklist.{given}
use Rattle.meaning.proofs.Carry.{stops, is_refused}
use Rattle.meaning.proofs.Begun.{list_right_lem, take_stops}
use Rattle.runtime.proofs.Listing.{take_27, takes_one}
use Rattle.runtime.proofs.take.Goals as goal

pub returns-in_err-check_to_25 : goal.returns-in_err-check_to_25
returns-in_err-check_to_25 c =
    stops _ _ _ _ _ c.from_residual.ensures.1
    (take_stops _ _ _ (refused_some _ _ _ c.check_to_25.ensures c.in_err-check_to_25.was))

pub take_first-took-requires : goal.take_first-took-requires
take_first-took-requires c = list_right_lem _ _ (accepted_none _ _ c.check_to_25.ensures c.in_ok-check_to_25.was)

pub returns-in_default : goal.returns-in_default
returns-in_default c =
    is_refused _ _ _ _
    (take_27 _ _ (accepted_none _ _ c.check_to_25.ensures c.in_ok-check_to_25.was) (c.take_first-took.ensures.first ∙ ap given c.in_default.is)
    ∙ ap (λ (n : Refusal). some (no n.question n.workflow n.instruction)) (sym c.number.ensures))

pub returns : goal.returns
returns c =
    takes_one _ _ (accepted_none _ _ c.check_to_25.ensures c.in_ok-check_to_25.was) _ (c.take_first-took.ensures.first ∙ ap given c.in-Some.is) _ c.take_first-took.ensures.kept
