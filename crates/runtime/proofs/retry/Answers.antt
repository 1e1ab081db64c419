-- `runtime::retry`: a no to 1 to 16 or to 20, or an agent started from the book.
use Rattle.std.proofs.Common.{rules, true, false, ◌≡◌, refl, sym, ◌∙◌, ap, set, arith}
use Rattle.std.proofs.Math.Option.{none, some}
use Rattle.contents.proofs.Equal.{wrote_nothing}
use Rattle.rules.specs.Calls as Calls
use Rattle.agents.specs.Slots.{record_of, started_with, Tidy}
use Rattle.rules.specs.Store.{Request}
use Rattle.questions.specs.Questions.{no}
use Rattle.questions.specs.declared.Refusal.{Refusal}
use Rattle.contents.specs.Contents.{contents_of, value_in, book_rows, arguments_of}
use Rattle.contents.proofs.Book.{booked_some, booked_none}
use Rattle.runtime.proofs.Rules.{known_yes, known_no, again_known}
use Rattle.agents.specs.Answers as Answers
use Rattle.agents.proofs.Answers.{accepted_none, refused_some}
use Rattle.worklist.specs.Worklist.{no_worklist}
use Rattle.meaning.specs.State.{state_of, Lent}
use Rattle.meaning.proofs.Asked.{lent_pack, lent_store, lent_14}
use Rattle.store.proofs.Sound.{store_ok}
use Rattle.meaning.proofs.Begun.{begun_lent, begun_below, retry_stops, retry_left}
use Rattle.meaning.proofs.Carry.{tidy, stops, is_refused, is_done}
use Rattle.runtime.proofs.retry.Goals as goal

pub returns-in_err-check_to_16 : goal.returns-in_err-check_to_16
returns-in_err-check_to_16 c list =
    stops _ _ _ _ _ c.from_residual.ensures.1
    (retry_stops _ _ _ _ _ (refused_some _ _ _ (c.check_to_16.ensures.first_no list) c.in_err-check_to_16.was))

pub booked_workflow-requires : goal.booked_workflow-requires
booked_workflow-requires c =
    (store_ok _ (lent_store _ _ (begun_lent _ _ c.args.slot false
    (accepted_none _ _ (c.check_to_16.ensures.first_no no_worklist) c.in_ok-check_to_16.was)))).0

pub returns-in_default : goal.returns-in_default
unfolding contents_of
returns-in_default c list =
    let begun = accepted_none _ _ (c.check_to_16.ensures.first_no list) c.in_ok-check_to_16.was in
    is_refused _ _ _ _
    (retry_left _ _ c.args.slot c.args.id begun
    ∙ known_no _ (booked_none (book_rows c.args.store.now) c.args.id c.booked_workflow.ensures.1 c.booked_workflow.result
    c.booked_workflow.ensures.0 c.in_default.is)
    ∙ ap (λ (n : Refusal). some (no n.question n.workflow n.instruction)) (sym c.number.ensures))

pub booked_request-requires : goal.booked_request-requires
booked_request-requires c =
    (store_ok _ (lent_store _ _ (begun_lent _ _ c.args.slot false
    (accepted_none _ _ (c.check_to_16.ensures.first_no no_worklist) c.in_ok-check_to_16.was)))).0

pub offset_bounds-agents-slot : goal.offset_bounds-agents-slot
offset_bounds-agents-slot c =
    omega (arith, begun_below _ _ _ false (accepted_none _ _ (c.check_to_16.ensures.first_no no_worklist) c.in_ok-check_to_16.was))

pub bounds-agents-slot : goal.bounds-agents-slot
bounds-agents-slot c = begun_below _ _ _ false (accepted_none _ _ (c.check_to_16.ensures.first_no no_worklist) c.in_ok-check_to_16.was)

pub returns : goal.returns
unfolding state_of record_of contents_of Answers.answer_of
returns c list =
    let begun = accepted_none _ _ (c.check_to_16.ensures.first_no list) c.in_ok-check_to_16.was in
    let tidied : Tidy c.args.agents.now =
    tidy c.args.pack.now c.args.store.now c.args.agents.now (search rules) c.check_to_16.ensures.registers
    (lent_14 _ _ (begun_lent _ _ c.args.slot false begun)) in
    let q : Request = record { workflow = c.in-Some.workflow; arguments = arguments_of (value_in (book_rows c.args.store.now)) c.args.id } in
    let known = booked_some (book_rows c.args.store.now) c.args.id c.booked_workflow.ensures.1 c.booked_workflow.result
    c.booked_workflow.ensures.0 _ c.in-Some.is in
    is_done _ _ _ _ _ _ c.args.slot (some (record { id = c.args.id; course = Calls.start q; step = 0 })) _ _ tidied
    (begun_below _ _ _ false begun)
    (retry_left _ _ c.args.slot c.args.id begun ∙ known_yes _ q known)
    (again_known _ (state_of (record { store = c.args.store.now; records = c.args.agents.now; list = list })) c.args.slot c.args.id q known)
    (wrote_nothing _) refl
    (ap (set c.args.agents.now c.args.slot) (c.started.ensures ∙ ap (started_with c.args.id) c.booked_request.ensures))
