-- `runtime::crash`: a no to 1 to 16, or an empty slot.
use Rattle.std.proofs.Common.{rules, true, false, ◌≡◌, refl, sym, ◌∙◌, ap, set, arith}
use Rattle.std.proofs.Math.Option.{none}
use Rattle.contents.proofs.Equal.{wrote_nothing}
use Rattle.rules.specs.Calls as Calls
use Rattle.agents.specs.Slots.{record_of, Tidy}
use Rattle.agents.specs.Answers as Answers
use Rattle.agents.proofs.Answers.{accepted_none, refused_some}
use Rattle.worklist.specs.Worklist.{no_worklist}
use Rattle.meaning.specs.State.{state_of, Lent}
use Rattle.meaning.proofs.Asked.{lent_pack, lent_store, lent_14}
use Rattle.meaning.proofs.Begun.{begun_lent, begun_below, crash_stops, crash_left}
use Rattle.meaning.proofs.Carry.{tidy, stops, is_done}
use Rattle.runtime.proofs.crash.Goals as goal

pub returns-in_err-check_to_16 : goal.returns-in_err-check_to_16
returns-in_err-check_to_16 c list =
    stops _ _ _ _ _ c.from_residual.ensures.1
    (crash_stops _ _ _ _ (refused_some _ _ _ (c.check_to_16.ensures.first_no list) c.in_err-check_to_16.was))

pub offset_bounds-agents-slot : goal.offset_bounds-agents-slot
offset_bounds-agents-slot c =
    omega (arith, begun_below _ _ _ true (accepted_none _ _ (c.check_to_16.ensures.first_no no_worklist) c.in_ok-check_to_16.was))

pub bounds-agents-slot : goal.bounds-agents-slot
bounds-agents-slot c = begun_below _ _ _ true (accepted_none _ _ (c.check_to_16.ensures.first_no no_worklist) c.in_ok-check_to_16.was)

pub returns : goal.returns
unfolding state_of record_of Calls.rule Answers.answer_of
returns c list =
    let begun = accepted_none _ _ (c.check_to_16.ensures.first_no list) c.in_ok-check_to_16.was in
    let tidied : Tidy c.args.agents.now =
    tidy c.args.pack.now c.args.store.now c.args.agents.now (search rules) c.check_to_16.ensures.registers
    (lent_14 _ _ (begun_lent _ _ c.args.slot true begun)) in
    is_done _ _ _ _ _ _ c.args.slot none _ _ tidied (begun_below _ _ _ true begun) (crash_left _ _ c.args.slot begun) refl
    (wrote_nothing _) refl (ap (set c.args.agents.now c.args.slot) c.no_agent.ensures)
