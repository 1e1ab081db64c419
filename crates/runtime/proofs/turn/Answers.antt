-- `runtime::turn`: a no to 1 to 16, or the turn of the slot's agent.
use Rattle.std.proofs.Common.{rules, true, false, ◌≡◌, refl, sym, ◌∙◌, ap, set, arith}
use Rattle.rules.specs.Calls as Calls
use Rattle.agents.specs.Slots.{record_of, Tidy}
use Rattle.agents.specs.Answers as Answers
use Rattle.agents.proofs.Answers.{accepted_none, refused_some}
use Rattle.worklist.specs.Worklist.{no_worklist}
use Rattle.meaning.specs.State.{state_of, Lent}
use Rattle.meaning.proofs.Asked.{lent_pack, lent_store, lent_14}
use Rattle.meaning.proofs.Begun.{begun_lent, begun_below, turn_stops}
use Rattle.meaning.proofs.Carry.{tidy, stops}
use Rattle.runtime.proofs.Turning.{may_turn, is_turned}
use Rattle.runtime.proofs.turn.Goals as goal

pub returns-in_err-check_to_16 : goal.returns-in_err-check_to_16
returns-in_err-check_to_16 c list =
    stops _ _ _ _ _ c.from_residual.ensures.1
    (turn_stops _ _ _ _ (refused_some _ _ _ (c.check_to_16.ensures.first_no list) c.in_err-check_to_16.was))

pub offset_bounds-agents-slot : goal.offset_bounds-agents-slot
offset_bounds-agents-slot c =
    omega (arith, begun_below _ _ _ true (accepted_none _ _ (c.check_to_16.ensures.first_no no_worklist) c.in_ok-check_to_16.was))

pub bounds-agents-slot : goal.bounds-agents-slot
bounds-agents-slot c = begun_below _ _ _ true (accepted_none _ _ (c.check_to_16.ensures.first_no no_worklist) c.in_ok-check_to_16.was)

pub offset_bounds-agents-slot-2 : goal.offset_bounds-agents-slot-2
offset_bounds-agents-slot-2 c =
    omega (arith, begun_below _ _ _ true (accepted_none _ _ (c.check_to_16.ensures.first_no no_worklist) c.in_ok-check_to_16.was))

pub bounds-agents-slot-2 : goal.bounds-agents-slot-2
bounds-agents-slot-2 c = begun_below _ _ _ true (accepted_none _ _ (c.check_to_16.ensures.first_no no_worklist) c.in_ok-check_to_16.was)

pub turn_agent-turned-requires : goal.turn_agent-turned-requires
turn_agent-turned-requires c =
    may_turn _ _ c.args.slot (accepted_none _ _ (c.check_to_16.ensures.first_no no_worklist) c.in_ok-check_to_16.was)

pub returns : goal.returns
returns c list =
    let begun = accepted_none _ _ (c.check_to_16.ensures.first_no list) c.in_ok-check_to_16.was in
    let tidied : Tidy c.args.agents.now =
    tidy c.args.pack.now c.args.store.now c.args.agents.now (search rules) c.check_to_16.ensures.registers
    (lent_14 _ _ (begun_lent _ _ c.args.slot true begun)) in
    is_turned _ _ c.args.slot begun tidied _ c.turn_agent-turned.result _ c.turn_agent-turned.ensures refl
