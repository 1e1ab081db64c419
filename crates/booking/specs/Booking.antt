-- A request booked: its rows, its questions 18 and 19, what is left.
use Rattle.std.specs.Prelude.{List, ◌∷◌, ◌≡◌, ℕ}
use Rattle.std.proofs.Math.Option.{Option, none, some}
use Rattle.contents.specs.Wrote.{Wrote}
use Rattle.contents.specs.Contents.{contents_of}
use Rattle.keys.specs.Keys.{book_keys}
use Rattle.questions.specs.Questions.{No, number, ask}
use Rattle.questions.specs.Verdicts.{Verdict, verdict_of}
use Rattle.rules.specs.Store.{Request, Store, booked}
use Rattle.rules.specs.Calls.{as_booked, can_book}
use Rattle.store.specs.Rows.{Row, pairs, put_all, store_of}

-- the book's rows with a request booked: five rows more, the workflow number and the arguments
abbrev pub with_request : (id : ℕ) → Request → List Row → List Row
with_request id q rows = put_all (pairs (book_keys id) (q.workflow ∷ q.arguments)) rows

-- Questions 18 and 19.
unfoldable pub book_refusal : Store → (id : ℕ) → Request → Option No
book_refusal s id q = ask (number 18) (as_booked q (s.book id)) (ask (number 19) (can_book s (s.book id)) none)

-- A new id is booked, by what the book has of it.
unfoldable pub ensured : Store → (id : ℕ) → Request → Option Request → Store
ensured s id q none = booked s id q
ensured s id q (some known) = s

-- The booking of a request in a store left store' and answered r: refused, no byte is changed; accepted, a new id is booked.
pub record Booked (store store' : List ℕ) (id : ℕ) (q : Request) (r : Verdict) : Type 0 where
  pub answer : r ≡ verdict_of (book_refusal (contents_of (store_of store)) id q)
  pub kept : (n : No) → book_refusal (contents_of (store_of store)) id q ≡ some n → store' ≡ store
  pub written : book_refusal (contents_of (store_of store)) id q ≡ none →
      Wrote store store' (ensured (contents_of (store_of store)) id q ((contents_of (store_of store)).book id))
