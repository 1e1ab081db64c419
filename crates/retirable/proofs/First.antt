-- Question 29 by the first row of the book.
use mathlib.Core.Bool.{Bool, true, false}
use mathlib.Core.List.{List}
use mathlib.Core.Logic.{⊎_elim}
use mathlib.Core.Option.{Option, none, some}
use mathlib.Core.Path.{◌≡◌, refl, sym, ◌∙◌, ap}
use Prim.Native.Nat.{ℕ, ◌/◌, ◌^◌, ◌≤◌, ◌<◌}
use native.Mathlib.Nat.{eq-or-lt_of_le}
use native.Mathlib.Decide.{dec_lt}
use native.Mathlib.Omega.{arith}
use borrow.Author.Tests.{lt-ltb, le-ltb}
use lib.Dec.{eqb, ltb}
use lib.ListN.{length, get_or}
use Rattle.questions.proofs.Updates.{eqb_same}
use Rattle.keys.specs.Keys.{book_key, is_book_key, is_form, floor_key}
use Rattle.keys.proofs.Keys.{form_book, book_again}
use Rattle.rules.specs.Store.{Request, booked_below}
use Rattle.rules.proofs.Retire.{one_booked, none_booked}
use Rattle.store.specs.Layout.{parts_of}
use Rattle.store.specs.Rows.{Row, keys_in, store_of}
use Rattle.store.specs.Questions.{store_refusal, member, rising}
use Rattle.store.specs.Sound.{KeysGood}
use Rattle.store.proofs.Order.{member_is, placed, rises_at}
use Rattle.store.proofs.Sound.{store_ok, rows_rise, in_all, apart_forms, keys_apart_lem, twelve_parts, book_five}
use Rattle.contents.specs.Contents.{value_in, book_of, book_rows, contents_of}
use Rattle.retirable.proofs.One.{row_booked, booked_row}
use Rattle.retirable.proofs.Walk.{row_member}

module _ (store : List ℕ) (floor : ℕ) where
  abbrev rows : List Row
  rows = book_rows store

  abbrev key_of : (i : ℕ) → ℕ
  key_of i = (get_or rows i (0, 0)).0

  abbrev smaller : ℕ
  smaller = booked_below (contents_of (store_of store)) floor

  -- no smaller id is booked where no row is row 0 of one
  none_smaller : ((id i : ℕ) → id < floor → i < length rows → key_of i ≡ book_key id 0 → ⊥) → ltb 0 smaller ≡ false
  unfolding contents_of
  none_smaller h =
      let e = none_booked (contents_of (store_of store)) floor (λ id l. go id l (book_of (value_in rows) id) refl) in
      le-ltb 0 smaller (omega arith)
    where
      go : (id : ℕ) → id < floor → (o : Option Request) → book_of (value_in rows) id ≡ o → book_of (value_in rows) id ≡ none
      go id l none e = e
      go id l (some q) e =
          let b = booked_row rows id q e in
          let p = placed (book_key id 0) b.1 rows b.2 in
          absurd (h id p.0 l p.1 p.2)

  -- an empty book
  pub no_rows : (n : ℕ) → n ≡ length rows → n ≡ 0 → false ≡ ltb 0 smaller
  no_rows n e z = sym (none_smaller (λ id i l h k. omega arith))

  module _ (ok : store_refusal store ≡ none) (some_row : 0 < length rows) where
    rises : rising (keys_in rows) ≡ true
    rises = rows_rise store (store_ok store ok).0 (parts_of store) (omega arith)

    first_in : member (key_of 0) (keys_in rows) ≡ true
    first_in = row_member rows rises 0 some_row

    -- the first key is of a form of the book
    first_form : is_form true (key_of 0) ≡ true
    unfolding KeysGood
    first_form =
        let good = (store_ok store ok).0.keys (parts_of store) (omega arith) in
        ap (λ (b : Bool). is_form b (key_of 0)) (sym (eqb_same (parts_of store)))
        ∙ in_all (is_form (eqb (parts_of store) (parts_of store))) (keys_in rows) (key_of 0)
        (apart_forms (eqb (parts_of store) (parts_of store)) (keys_in rows)
        (keys_apart_lem (eqb (parts_of store) (parts_of store)) (keys_in rows) good)) first_in

    -- a book key below those of the floor is of a smaller id, which then has all five rows
    first_booked : is_book_key (key_of 0) ≡ true → key_of 0 < book_key floor 0 → 0 < smaller
    unfolding contents_of
    first_booked b l =
        let id = key_of 0 / 8 in
        let m = book_five (keys_in rows) (key_of 0) 0 (twelve_parts store (store_ok store ok).1).0 b first_in (omega arith) in
        let q = row_booked rows id (book_again (key_of 0) b).0 (sym (member_is (book_key id 0) rows) ∙ m) in
        one_booked (contents_of (store_of store)) floor id q.0 (omega arith) q.1

    -- and from them on there is none of a smaller id behind it
    first_above : book_key floor 0 ≤ key_of 0 → ltb 0 smaller ≡ false
    first_above l =
        none_smaller
        (λ id i s h e.
        ⊎_elim (λ (z : 0 ≡ i). let k = ap key_of z in omega arith)
        (λ (z : 0 < i). let k = rises_at rows rises 0 i z h in omega arith) (eq-or-lt_of_le (omega arith)))

    pub by_first : floor < 2 ^ 32 → ltb (key_of 0) (book_key floor 0) ≡ ltb 0 smaller
    by_first f = go (dec_lt (key_of 0) (book_key floor 0))
      where
        go : Dec (key_of 0 < book_key floor 0) → ltb (key_of 0) (book_key floor 0) ≡ ltb 0 smaller
        go (yes l) =
            lt-ltb (key_of 0) (book_key floor 0) l
            ∙ sym (lt-ltb 0 smaller
            (⊎_elim (λ b. first_booked b l) (λ (z : key_of 0 ≡ floor_key). absurd (omega arith)) (form_book (key_of 0) first_form)))
        go (no n) = le-ltb (key_of 0) (book_key floor 0) (omega arith) ∙ sym (first_above (omega arith))
