use Rattle.std.proofs.Common.{rules, ◌≡◌, ℕ, sym, refl, ap, ◌∙◌, arith, length, get_or, Err}
use mathlib.Core.Option.{some, none}
use borrow.Author.Tests.{leb-true, leb-false}
use Rattle.contents.specs.Contents.{contents_of, arguments_of, value_in, book_rows}
use Rattle.keys.specs.Keys.{book_key}
use Rattle.questions.specs.Questions.{number, ask}
use Rattle.questions.specs.Verdicts.{verdict_of}
use Rattle.store.specs.Rows.{rows_of}
use Rattle.store.proofs.Bytes.{used_le}
use Rattle.store.proofs.Search.{at_row, no_lookup}
use Rattle.store.proofs.Sound.{store_ok, twelve_parts}
use Rattle.agents.specs.Requests.{asked}
use Rattle.booking.proofs.Booking.{booked_19, booked_known, booked_new, wrote_request, length_after, book_keys_lem}
use Rattle.booking.proofs.Booking.{found_some, found_none, same_fields, said_yes, said_no}
use Rattle.booking.proofs.book_request.Goals as goal

pub partition_count-book-requires : goal.partition_count-book-requires
partition_count-book-requires c = let s = (store_ok _ c.requires.0).0 in omega (arith, s.formed.shape.size)

pub booked_row-requires : goal.booked_row-requires
booked_row-requires c = (store_ok _ c.requires.0).0

pub value_at-workflow-requires : goal.value_at-workflow-requires
value_at-workflow-requires c = (
  (store_ok _ c.requires.0).0,
  omega (arith, c.partition_count-book.ensures),
  rw c.partition_count-book.ensures
      (at_row (book_key c.args.id 0) (book_rows c.args.store.now) _ (sym c.booked_row.ensures.0 ∙ c.in-Ok.is)),
)

pub booked_request-known-requires : goal.booked_request-known-requires
booked_request-known-requires c = (store_ok _ c.requires.0).0

-- what the book has of a known id is what was read,
-- and the answer is question 18's
pub returns-in-Ok : goal.returns-in-Ok
unfolding contents_of
returns-in-Ok c =
    let store = c.args.store.now in
    let id = c.args.id in
    let rows = book_rows store in
    let q = c.args.q in
    let k = c.booked_request-known.result in
    let known =
    found_some rows id c.in-Ok.row c.booked_row.ensures.1 (sym c.booked_row.ensures.0 ∙ c.in-Ok.is)
    ∙ ap (λ (w : ℕ). some (record { workflow = w; arguments = arguments_of (value_in rows) id }))
    (ap (λ (p : ℕ). (get_or (rows_of store p) c.in-Ok.row (0, 0)).1) (sym c.partition_count-book.ensures)
    ∙ sym c.value_at-workflow.ensures)
    ∙ ap some (sym c.booked_request-known.ensures) in
    let same = c.eq.ensures ∙ same_fields q.workflow k.workflow q.a0 k.a0 q.a1 k.a1 q.a2 k.a2 q.a3 k.a3 in
    booked_known store id (asked q) c.ask.result (asked k) known (c.ask.ensures ∙ ap (λ b. verdict_of (ask (number 18) b none)) same)

pub used_count-used-requires : goal.used_count-used-requires
used_count-used-requires c = let s = (store_ok _ c.requires.0).0 in (s.formed.shape, omega (arith, c.partition_count-book.ensures))

pub overflow_add-used : goal.overflow_add-used
overflow_add-used c =
    let s = (store_ok _ c.requires.0).0 in
    let few = used_le c.args.store.now s.formed c.partition_count-book.result (omega (arith, c.partition_count-book.ensures)) in
    omega (arith, c.used_count-used.ensures, few, s.formed.shape.cap_high)

pub capacity-requires : goal.capacity-requires
capacity-requires c = let s = (store_ok _ c.requires.0).0 in omega (arith, s.formed.shape.size)

pub returns-in_err-ask-in-Err : goal.returns-in_err-ask-in-Err
unfolding contents_of
returns-in_err-ask-in-Err c =
    let store = c.args.store.now in
    let id = c.args.id in
    let full = said_no 19 _ c.ask-in-Err.result c.ask-in-Err.ensures c.in_err-ask-in-Err.field-0.0 c.in_err-ask-in-Err.was in
    let left = leb-false _ _ full.0 in
    let used = c.used_count-used.ensures ∙ ap (λ (p : ℕ). length (rows_of store p)) c.partition_count-book.ensures in
    let out : c.from_residual.result ≡ Err c.in_err-ask-in-Err.field-0.0 = search rules in
    booked_19 store id (asked c.args.q) c.from_residual.result
    (found_none (book_rows store) id _ c.booked_row.ensures.1 (sym c.booked_row.ensures.0 ∙ c.in-Err.is))
    (omega (arith, left, used, c.capacity.ensures)) (out ∙ sym c.in_err-ask-in-Err.was ∙ full.1)

pub write_request-requires : goal.write_request-requires
write_request-requires c =
    let store = c.args.store.now in
    let id = c.args.id in
    let q = c.args.q in
    let rows = book_rows store in
    let s = (store_ok _ c.requires.0).0 in
    let new = sym c.booked_row.ensures.0 ∙ c.in-Err.is in
    let room = leb-true _ _ (said_yes 19 _ c.ask-in-Err.result c.ask-in-Err.ensures c.in_ok-ask-in-Err.was) in
    let used = c.used_count-used.ensures ∙ ap (λ (p : ℕ). length (rows_of store p)) c.partition_count-book.ensures in
    let more =
    length_after id q.workflow q.a0 q.a1 q.a2 q.a3 rows (twelve_parts _ (store_ok _ c.requires.0).1).0 c.booked_row.ensures.1
    (book_keys_lem _ s) (no_lookup (book_key id 0) _ _ new) in
    (s, new, omega (arith, more, used, room, c.capacity.ensures))

pub returns-in_ok-ask-in-Err : goal.returns-in_ok-ask-in-Err
unfolding contents_of
returns-in_ok-ask-in-Err c =
    let store = c.args.store.now in
    let id = c.args.id in
    let q = c.args.q in
    let rows = book_rows store in
    let new = sym c.booked_row.ensures.0 ∙ c.in-Err.is in
    let room = leb-true _ _ (said_yes 19 _ c.ask-in-Err.result c.ask-in-Err.ensures c.in_ok-ask-in-Err.was) in
    let used = c.used_count-used.ensures ∙ ap (λ (p : ℕ). length (rows_of store p)) c.partition_count-book.ensures in
    booked_new store id (asked q) _ _ (found_none rows id _ c.booked_row.ensures.1 new) (omega (arith, used, room, c.capacity.ensures))
    (wrote_request store _ id q.workflow q.a0 q.a1 q.a2 q.a3 c.requires.0 c.booked_row.ensures.1 c.requires.1
    (no_lookup (book_key id 0) _ _ new) c.write_request.ensures)
    refl
