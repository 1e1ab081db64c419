-- The book after a retire: what is found in it, that question 12 says yes, and how many rows it has.
use mathlib.Core.Bool.{Bool, true, false}
use mathlib.Core.List.{List}
use mathlib.Core.Logic.{◌⊎◌, inl, inr}
use mathlib.Core.Option.{Option, none, some, get_or}
use mathlib.Core.Path.{◌≡◌, refl, sym, ap, subst, ◌∙◌}
use Prim.Native.Nat.{ℕ, ◌+◌, ◌-◌, ◌*◌, ◌%◌, ◌^◌, ◌≤◌, ◌<◌}
use native.Mathlib.Decide.{dec_lt}
use native.Mathlib.Omega.{arith}
use borrow.Author.Tests.{lt-ltb, lt-leb, ne_eqb}
use lib.Dec.{eqb}
use lib.ListN.{length}
use Rattle.questions.specs.Basics.{if◌then◌otherwise◌, is_some, count_below}
use Rattle.questions.proofs.Counts.{sum_same}
use Rattle.questions.proofs.Tests.{no_yes}
use Rattle.questions.proofs.Updates.{false_true, eqb_cases}
use Rattle.keys.specs.Keys.{book_key, is_book_key, booked_id, floor_key, is_floor_key, is_form}
use Rattle.keys.proofs.Keys.{floor_is, book_is}
use Rattle.store.specs.Questions.{member, keys_ok, from_floor, book_right}
use Rattle.store.specs.Rows.{Row, keys_in, lookup, new_rows, rows_from}
use Rattle.store.proofs.From.{lookup_from, lookup_below, rising_from}
use Rattle.store.proofs.Lists.{lookup_put_same, lookup_put_other, rows_after}
use Rattle.store.proofs.Order.{member_is}
use Rattle.store.proofs.Sound.{keys_apart_lem, keys_rising, apart_forms, no_form}
use Rattle.store.proofs.Sound.{book_parts, book_whole, key_five, book_five, five_all, all_five, all_above}
use Rattle.contents.specs.Contents.{value_in, arguments_of, request_of, book_of}
use Rattle.contents.proofs.Book.{book_row_lem}
use Rattle.retiring.specs.Retiring.{book_from}
use Rattle.retiring.proofs.Counts.{book_count}

-- a key of a request is not the floor's
pub not_floor : (id j : ℕ) → id < 2 ^ 32 → j < 8 → book_key id j ≡ floor_key → ⊥
not_floor id j h l e = omega arith

module _ (floor : ℕ) (rows : List Row) where
  -- ---- what is found in it

  pub floor_there : lookup floor_key (book_from floor rows) ≡ some floor
  floor_there = lookup_put_same floor_key floor (rows_from (book_key floor 0) rows)

  pub key_stays : (k : ℕ) → (k ≡ floor_key → ⊥) → book_key floor 0 ≤ k → lookup k (book_from floor rows) ≡ lookup k rows
  key_stays k n l =
      lookup_put_other floor_key floor k (rows_from (book_key floor 0) rows) n ∙ lookup_from (book_key floor 0) k rows l

  pub key_gone : (k : ℕ) → (k ≡ floor_key → ⊥) → k < book_key floor 0 → lookup k (book_from floor rows) ≡ none
  key_gone k n l =
      lookup_put_other floor_key floor k (rows_from (book_key floor 0) rows) n ∙ lookup_below (book_key floor 0) k rows l

  -- ---- question 12

  -- what is left but the floor's row was there, and is of an id from the floor on
  was_there : (k : ℕ) → is_floor_key k ≡ false → member k (keys_in (book_from floor rows)) ≡ true →
      (book_key floor 0 ≤ k) × (member k (keys_in rows) ≡ true)
  was_there k n m = go (dec_lt k (book_key floor 0))
    where
      other : k ≡ floor_key → ⊥
      other e = false_true n (ap is_floor_key e ∙ floor_is)

      found : is_some (lookup k (book_from floor rows)) ≡ true
      found = sym (member_is k (book_from floor rows)) ∙ m

      go : Dec (k < book_key floor 0) → (book_key floor 0 ≤ k) × (member k (keys_in rows) ≡ true)
      go (yes l) = no_yes (sym (ap is_some (key_gone k other l)) ∙ found)
      go (no l) =
          let h : book_key floor 0 ≤ k = omega arith in
          (h, member_is k rows ∙ ap is_some (sym (key_stays k other h)) ∙ found)

  -- and what was there of such an id is left
  still_there : (k : ℕ) → book_key floor 0 ≤ k → member k (keys_in rows) ≡ true → member k (keys_in (book_from floor rows)) ≡ true
  still_there k l m = member_is k (book_from floor rows) ∙ go (eqb_cases k floor_key)
    where
      go : ((k ≡ floor_key) × (eqb k floor_key ≡ true)) ⊎ ((k ≡ floor_key → ⊥) × (eqb k floor_key ≡ false)) →
          is_some (lookup k (book_from floor rows)) ≡ true
      go (inl h) = ap (λ (j : ℕ). is_some (lookup j (book_from floor rows))) h.0 ∙ ap is_some floor_there
      go (inr h) = ap is_some (key_stays k h.0 l) ∙ sym (member_is k rows) ∙ m

  pub right_still : book_right rows ≡ true → book_right (book_from floor rows) ≡ true
  right_still b =
      book_whole (book_from floor rows)
      (all_five (keys_in (book_from floor rows))
      (λ k n m. let w = was_there k n m in
      five_all (keys_in (book_from floor rows)) (booked_id k)
      (λ j h. still_there (book_key (booked_id k) j) (omega (arith, w.0)) (key_five (keys_in rows) k j (book_parts rows b).0 n w.1 h))))
      (subst (λ (o : Option ℕ). from_floor (get_or o 0) (keys_in (book_from floor rows)) ≡ true) (sym floor_there)
      (all_above floor (keys_in (book_from floor rows)) (λ k n m. omega (arith, (was_there k n m).0))))

  -- ---- how many rows it has

  module _ (good : keys_ok true (keys_in rows) ≡ true) (b : book_right rows ≡ true) (small : floor < 2 ^ 32) where
    -- a smaller id has all five rows or none
    alike : (id j : ℕ) → id < floor → j < 5 → is_some (lookup (book_key id j) rows) ≡ is_some (lookup (book_key id 0) rows)
    alike id j l h = go (is_some (lookup (book_key id j) rows)) refl (is_some (lookup (book_key id 0) rows)) refl
      where
        beside : (i i' : ℕ) → i < 5 → i' < 5 → is_some (lookup (book_key id i) rows) ≡ true → is_some (lookup (book_key id i') rows) ≡ true
        beside i i' a a' e =
            let q : booked_id (book_key id i) ≡ id = omega arith in
            sym (member_is (book_key id i') rows) ∙ ap (λ (n : ℕ). member (book_key n i') (keys_in rows)) (sym q)
            ∙ book_five (keys_in rows) (book_key id i) i' (book_parts rows b).0 (book_is id i (omega arith) (omega arith))
            (member_is (book_key id i) rows ∙ e) a'

        go : (x : Bool) → is_some (lookup (book_key id j) rows) ≡ x → (y : Bool) → is_some (lookup (book_key id 0) rows) ≡ y →
            is_some (lookup (book_key id j) rows) ≡ is_some (lookup (book_key id 0) rows)
        go true e y f = e ∙ sym (beside j 0 h (omega arith) e)
        go false e true f = no_yes (sym e ∙ beside 0 j (omega arith) h f)
        go false e false f = e ∙ sym f

    -- a key that is of none of the five rows is of no form
    formless : (id j : ℕ) → id < floor → 5 ≤ j → j < 8 → is_form true (book_key id j) ≡ false
    unfolding is_form is_book_key is_floor_key
    formless id j l a h =
        rw (
          lt-ltb (book_key id j) (2 ^ 35) (omega arith),
          lt-leb (book_key id j % 8) 4 (omega arith),
          ne_eqb (book_key id j) floor_key (not_floor id j (omega arith) h),
        )
        refl

    others : (id j : ℕ) → id < floor → 5 ≤ j → j < 8 → lookup (book_key id j) rows ≡ none
    others id j l a h =
        no_form true (book_key id j) rows (apart_forms true (keys_in rows) (keys_apart_lem true (keys_in rows) good)) (formless id j l a h)

    -- an id is booked where its first row is there
    some_request : (o : Option ℕ) (args : List ℕ) → is_some (request_of o args) ≡ is_some o
    unfolding request_of
    some_request none args = refl
    some_request (some w) args = refl

    booked_first : count_below floor (λ id. is_some (book_of (value_in rows) id)) ≡ count_below floor (λ id. is_some (lookup (book_key id 0) rows))
    booked_first =
        sum_same floor _ _
        (λ id l. ap (λ (t : Bool). if◌then◌otherwise◌ t 1 0)
        (ap is_some (book_row_lem rows id (omega arith)) ∙ some_request (lookup (book_key id 0) rows) (arguments_of (value_in rows) id)))

    -- so many rows go
    pub rows_gone : length (rows_from (book_key floor 0) rows) + 5 * count_below floor (λ id. is_some (book_of (value_in rows) id)) ≡ length rows
    rows_gone = omega (arith, book_count floor rows (keys_rising true (keys_in rows) good) alike others, booked_first)

    one_more : (o : Option ℕ) → new_rows o ≡ if◌then◌otherwise◌ (is_some o) 0 1
    unfolding new_rows
    one_more none = refl
    one_more (some v) = refl

    pub book_used_lem : length (book_from floor rows)
        ≡ length rows - 5 * count_below floor (λ id. is_some (book_of (value_in rows) id)) + if◌then◌otherwise◌ (is_some (lookup floor_key rows)) 0 1
    book_used_lem =
        let put = rows_after floor_key floor (rows_from (book_key floor 0) rows)
        (rising_from (book_key floor 0) rows (keys_rising true (keys_in rows) good)) in
        let new = ap new_rows (lookup_from (book_key floor 0) floor_key rows (omega arith)) ∙ one_more (lookup floor_key rows) in
        omega (arith, put, new, rows_gone)
