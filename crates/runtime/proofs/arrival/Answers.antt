-- `runtime::arrival`: a no to 1 to 16, 24, 30, 17, 18 or 19, or an agent started, and its request booked.
use Rattle.std.proofs.Common.{rules, true, false, ℕ, List, ◌≤◌, ◌<◌, subst, ◌≡◌, refl, sym, ◌∙◌, ap, set, length, arith}
use Rattle.std.proofs.Math.Option.{none, some}
use borrow.Author.Tests.{ltb-true, ltb-false, leb-true, leb-false}
use Rattle.rules.specs.Calls as Calls
use Rattle.agents.specs.Slots.{record_of, Tidy}
use Rattle.agents.specs.Answers as Answers
use Rattle.agents.proofs.Answers.{accepted_none, refused_some}
use Rattle.worklist.specs.Worklist.{no_worklist}
use Rattle.meaning.specs.State.{state_of, Lent}
use Rattle.meaning.proofs.Asked.{lent_pack, lent_store, lent_14}
use Rattle.store.proofs.Sound.{store_ok}
use Rattle.agents.proofs.Answers.{asked_yes}
use Rattle.agents.specs.Requests.{asked}
use Rattle.pack.specs.Meaning.{pack_of}
use Rattle.pack.proofs.Laws.{accepted_laid, length_pack}
use Rattle.rules.specs.Store.{floor_of}
use Rattle.contents.specs.Contents.{contents_of}
use Rattle.store.specs.Rows.{store_of}
use Rattle.pack.specs.Layout.{count}
use Rattle.questions.proofs.Chains.{passed_on}
use Rattle.agents.specs.Answers.{Answer}
use Rattle.meaning.specs.Questions.{first_sixteen, refusal_for}
use Rattle.meaning.specs.Carried.{Carried}
use Rattle.booking.specs.Booking.{book_refusal}
use Rattle.runtime.proofs.Arriving.{arrives, as_booked_lem, is_unbooked}
use Rattle.runtime.proofs.Rules.{zero, not_zero, zero_no_lem, floor_no, workflow_no_lem, booking_left}
use Rattle.meaning.proofs.Begun.{begun_lent, begun_below, arrival_stops, arrival_left}
use Rattle.meaning.proofs.Carry.{tidy, stops, stops_at, is_done}
use Rattle.runtime.proofs.arrival.Goals as goal

pub returns-in_err-check_to_16 : goal.returns-in_err-check_to_16
returns-in_err-check_to_16 c list =
    stops _ _ _ _ _ c.from_residual.ensures.1
    (arrival_stops _ _ _ _ _ _ _ (refused_some _ _ _ (c.check_to_16.ensures.first_no list) c.in_err-check_to_16.was))

-- behind 17 only 18 and 19 are left
later : (pack : List ℕ) (lent : Lent) (slot id w m floor : ℕ) (args : List ℕ) → first_sixteen pack lent slot false ≡ none → (id ≡ 0 → ⊥) →
    floor ≡ floor_of (contents_of (store_of lent.store)) → floor ≤ id → m ≡ count pack → w < m →
    refusal_for pack lent (Calls.arrival slot id w args)
    ≡ book_refusal (contents_of (store_of lent.store)) id (record { workflow = w; arguments = args })
unfolding book_refusal
later pack lent slot id w m floor args begun n f below e h =
    arrival_left _ _ slot id w _ begun
    ∙ booking_left id _ w (length (pack_of pack)) _ n (omega (arith, f, below)) (omega (arith, h, e, length_pack pack))

pub returns-in_err-ask : goal.returns-in_err-ask
returns-in_err-ask c list =
    let begun = accepted_none _ _ (c.check_to_16.ensures.first_no list) c.in_ok-check_to_16.was in
    stops_at _ _ _ 24 _ _ _ _ c.ask.ensures c.in_err-ask.was c.from_residual-in_err-ask.ensures.1
    (λ f. arrival_left _ _ c.args.slot c.args.id c.args.q.workflow _ begun
    ∙ zero_no_lem c.args.id _ c.args.q.workflow (length (pack_of c.args.pack.now)) _ (zero _ f))

pub floor-requires : goal.floor-requires
floor-requires c =
    (store_ok _ (lent_store _ _ (begun_lent _ _ c.args.slot false
    (accepted_none _ _ (c.check_to_16.ensures.first_no no_worklist) c.in_ok-check_to_16.was)))).0

pub returns-in_err-ask-2 : goal.returns-in_err-ask-2
unfolding contents_of
returns-in_err-ask-2 c list =
    let begun = accepted_none _ _ (c.check_to_16.ensures.first_no list) c.in_ok-check_to_16.was in
    stops_at _ _ _ 30 _ _ _ _ c.ask-2.ensures c.in_err-ask-2.was c.from_residual-in_err-ask-2.ensures.1
    (λ f. arrival_left _ _ c.args.slot c.args.id c.args.q.workflow _ begun
    ∙ floor_no c.args.id _ c.args.q.workflow (length (pack_of c.args.pack.now)) _ (not_zero _ (asked_yes 24 _ _ c.ask.ensures c.in_ok-ask.was)) (omega (arith, leb-false _ _ f, c.floor.ensures)))

pub count_of-requires : goal.count_of-requires
count_of-requires c =
    omega (
      arith,
      (accepted_laid _ (lent_pack _ _ (begun_lent _ _ c.args.slot false
          (accepted_none _ _ (c.check_to_16.ensures.first_no no_worklist) c.in_ok-check_to_16.was)))).whole,
    )

pub returns-in_err-ask-3 : goal.returns-in_err-ask-3
unfolding contents_of
returns-in_err-ask-3 c list =
    let begun = accepted_none _ _ (c.check_to_16.ensures.first_no list) c.in_ok-check_to_16.was in
    stops_at _ _ _ 17 _ _ _ _ c.ask-3.ensures c.in_err-ask-3.was c.from_residual-in_err-ask-3.ensures.1
    (λ f. arrival_left _ _ c.args.slot c.args.id c.args.q.workflow _ begun
    ∙ workflow_no_lem c.args.id _ c.args.q.workflow (length (pack_of c.args.pack.now)) _ (not_zero _ (asked_yes 24 _ _ c.ask.ensures c.in_ok-ask.was))
    (omega (arith, leb-true _ _ (asked_yes 30 _ _ c.ask-2.ensures c.in_ok-ask-2.was), c.floor.ensures))
    (omega (arith, ltb-false _ _ f, c.count_of.ensures, length_pack c.args.pack.now)))

pub book_request-requires : goal.book_request-requires
book_request-requires c = (
  lent_store _ _ (begun_lent _ _ c.args.slot false
      (accepted_none _ _ (c.check_to_16.ensures.first_no no_worklist) c.in_ok-check_to_16.was)),
  omega (arith, leb-true _ _ (asked_yes 30 _ _ c.ask-2.ensures c.in_ok-ask-2.was), c.floor.ensures),
)

pub returns-in_err-book_request : goal.returns-in_err-book_request
unfolding contents_of
returns-in_err-book_request c list =
    let begun = accepted_none _ _ (c.check_to_16.ensures.first_no list) c.in_ok-check_to_16.was in
    let rest = later _ _ c.args.slot c.args.id c.args.q.workflow _ _ (asked c.args.q).arguments begun (not_zero _ (asked_yes 24 _ _ c.ask.ensures c.in_ok-ask.was)) c.floor.ensures
    (leb-true _ _ (asked_yes 30 _ _ c.ask-2.ensures c.in_ok-ask-2.was)) c.count_of.ensures (ltb-true _ _ (asked_yes 17 _ _ c.ask-3.ensures c.in_ok-ask-3.was)) in
    subst (λ (x : Answer). Carried c.args.pack.now (record { store = c.args.store.now; records = c.args.agents.now; list = list })
    (Calls.arrival c.args.slot c.args.id c.args.q.workflow (asked c.args.q).arguments) x
    (record { store = c.book_request.new.store; records = c.args.agents.now; list = list })) (sym (passed_on _ _ c.from_residual-in_err-book_request.ensures.1))
    (is_unbooked _ _ _ _ c.args.id (asked c.args.q) c.book_request.result c.book_request.ensures rest _ c.in_err-book_request.was)

pub offset_bounds-agents-slot : goal.offset_bounds-agents-slot
offset_bounds-agents-slot c =
    omega (arith, begun_below _ _ _ false (accepted_none _ _ (c.check_to_16.ensures.first_no no_worklist) c.in_ok-check_to_16.was))

pub bounds-agents-slot : goal.bounds-agents-slot
bounds-agents-slot c = begun_below _ _ _ false (accepted_none _ _ (c.check_to_16.ensures.first_no no_worklist) c.in_ok-check_to_16.was)

pub returns : goal.returns
unfolding state_of record_of contents_of Calls.rule Answers.answer_of
returns c list =
    let begun = accepted_none _ _ (c.check_to_16.ensures.first_no list) c.in_ok-check_to_16.was in
    let tidied : Tidy c.args.agents.now =
    tidy c.args.pack.now c.args.store.now c.args.agents.now (search rules) c.check_to_16.ensures.registers
    (lent_14 _ _ (begun_lent _ _ c.args.slot false begun)) in
    let rest = later _ _ c.args.slot c.args.id c.args.q.workflow _ _ (asked c.args.q).arguments begun (not_zero _ (asked_yes 24 _ _ c.ask.ensures c.in_ok-ask.was)) c.floor.ensures
    (leb-true _ _ (asked_yes 30 _ _ c.ask-2.ensures c.in_ok-ask-2.was)) c.count_of.ensures (ltb-true _ _ (asked_yes 17 _ _ c.ask-3.ensures c.in_ok-ask-3.was)) in
    let yes_both = accepted_none c.book_request.result _ c.book_request.ensures.answer c.in_ok-book_request.was in
    is_done _ _ _ _ _ _ c.args.slot (some (record { id = c.args.id; course = Calls.start (asked c.args.q); step = 0 })) _ _ tidied
    (begun_below _ _ _ false begun) (rest ∙ yes_both)
    (arrives (state_of (record { store = c.args.store.now; records = c.args.agents.now; list = list })) c.args.slot c.args.id
    (asked c.args.q) _ (as_booked_lem _ c.args.id (asked c.args.q) yes_both))
    (c.book_request.ensures.written yes_both) refl (ap (set c.args.agents.now c.args.slot) c.started.ensures)
