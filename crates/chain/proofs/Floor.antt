-- W-209: by question 12 no booked id is below the floor, and so it is for each accepted retire.
use mathlib.Core.Bool.{Bool, true, false}
use mathlib.Core.List.{List}
use mathlib.Core.Option.{Option, none, some}
use mathlib.Core.Path.{◌≡◌, refl, ◌∙◌, ap, subst}
use Prim.Native.Nat.{ℕ, ◌^◌, ◌≤◌}
use native.Mathlib.Omega.{arith}
use borrow.Author.Tests.{ltb-true}
use lib.Dec.{ltb}
use Rattle.contents.specs.Contents.{contents_of, value_in, arguments_of, request_of, book_of, book_rows}
use Rattle.keys.specs.Keys.{book_key, floor_at}
use Rattle.keys.proofs.Keys.{book_is}
use Rattle.questions.specs.Basics.{if◌then◌otherwise◌, is_some}
use Rattle.questions.proofs.Updates.{none_some}
use Rattle.questions.proofs.Questions.{or_else_none}
use Rattle.rules.specs.Store.{Request}
use Rattle.rules.specs.Calls.{Call}
use Rattle.rules.proofs.Invariant.{Above}
use Rattle.rules.proofs.Changes.{AboveFor}
use Rattle.store.specs.Rows.{Row, lookup, keys_in, store_of}
use Rattle.store.specs.Questions.{store_refusal, from_floor}
use Rattle.store.proofs.Order.{member_is}
use Rattle.store.proofs.Sound.{store_ok, twelve_parts, book_above}
use Rattle.meaning.specs.State.{state_of, Lent}
use Rattle.meaning.specs.Questions.{lent_refusal, lent_for, refusal_for}
use Rattle.meaning.proofs.Asked.{lent_store}

-- rows of a book of which no id is below the floor
rows_above : (rows : List Row) → from_floor (floor_at (value_in rows)) (keys_in rows) ≡ true →
    (id : ℕ) (q : Request) → book_of (value_in rows) id ≡ some q → floor_at (value_in rows) ≤ id
unfolding book_of request_of
rows_above rows f id q = go (ltb id (2 ^ 32)) refl
  where
    row : ltb id (2 ^ 32) ≡ true → (o : Option ℕ) → lookup (book_key id 0) rows ≡ o → request_of o (arguments_of (value_in rows) id) ≡ some q →
        floor_at (value_in rows) ≤ id
    row l none e b = none_some q refl b
    row l (some w) e b =
        let up = book_above (floor_at (value_in rows)) (keys_in rows) (book_key id 0) f (book_is id 0 (ltb-true id (2 ^ 32) l) (omega arith))
        (member_is (book_key id 0) rows ∙ ap is_some e) in
        omega arith

    go : (b : Bool) → ltb id (2 ^ 32) ≡ b →
        if◌then◌otherwise◌ b (request_of (lookup (book_key id 0) rows) (arguments_of (value_in rows) id)) none ≡ some q →
        floor_at (value_in rows) ≤ id
    go true l h = row l (lookup (book_key id 0) rows) refl h
    go false l h = none_some q refl h

-- a store to which 9 to 12 say yes
pub store_above : (store : List ℕ) → store_refusal store ≡ none → Above (contents_of (store_of store))
unfolding contents_of
store_above store e = rows_above (book_rows store) (twelve_parts store (store_ok store e).1).1

-- a retire to which no question says no has passed 12
pub above_for : (pack : List ℕ) (lent : Lent) (c : Call) → refusal_for pack lent c ≡ none → AboveFor c (state_of lent).store
unfolding refusal_for lent_for state_of
above_for pack lent c e =
    λ floor is.
    let yes_all : lent_refusal pack lent ≡ none =
    subst (λ (d : Call). lent_for d pack lent ≡ none) is (or_else_none _ _ e).0 in
    store_above lent.store (lent_store pack lent yes_all)
