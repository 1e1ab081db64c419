-- Question 28 row by row of the book.
use mathlib.Core.Bool.{Bool, true, false}
use mathlib.Core.List.{List}
use mathlib.Core.Logic.{⊎_elim}
use mathlib.Core.Path.{◌≡◌, refl, sym, ◌∙◌, ap}
use Prim.Native.Nat.{ℕ, ◌+◌, ◌-◌, ◌*◌, ◌^◌, ◌≤◌, ◌<◌}
use native.Mathlib.Nat.{eq-or-lt_of_le, sub-zero}
use native.Mathlib.Omega.{arith}
use borrow.Author.Tests.{lt-ltb, le-ltb, ltb-true}
use lib.Dec.{ltb}
use lib.ListN.{length, get_or}
use Rattle.questions.specs.Basics.{if◌then◌otherwise◌, is_some, each_from, each}
use Rattle.questions.proofs.Each.{each_none, each_more, each_fails, each_at, each_all}
use Rattle.keys.specs.Keys.{book_key, booked_id, is_workflow_key}
use Rattle.keys.proofs.Keys.{workflow_is}
use Rattle.rules.specs.Calls.{can_retire}
use Rattle.rules.proofs.Retire.{all_can}
use Rattle.words.specs.Words.{le}
use Rattle.store.specs.Layout.{parts_of, key_at}
use Rattle.store.proofs.Bytes.{row_within, key_read}
use Rattle.store.specs.Rows.{Row, keys_in, rows_of}
use Rattle.store.specs.Sound.{Sound}
use Rattle.store.specs.Questions.{member, rising}
use Rattle.store.proofs.Order.{member_is, rising_unlike, lookup_at, placed, rises_at}
use Rattle.store.proofs.Sound.{rows_rise}
use Rattle.pack.specs.Meaning.{pack_of}
use Rattle.contents.specs.Contents.{book_rows, contents_of}
use Rattle.meaning.specs.State.{state_of, Lent}
use Rattle.retirable.specs.Retirable.{row_can}
use Rattle.retirable.proofs.One.{booked_row}

-- the key of a row is in the book
pub row_member : (rs : List Row) → rising (keys_in rs) ≡ true → (i : ℕ) → i < length rs → member (get_or rs i (0, 0)).0 (keys_in rs) ≡ true
row_member rs u i h = member_is (get_or rs i (0, 0)).0 rs ∙ ap is_some (lookup_at rs (rising_unlike (keys_in rs) u) i h)

-- the key that was read of a row of the book, wherever its number was taken from
pub key_here : (store : List ℕ) (p i key : ℕ) → p ≡ parts_of store → key ≡ (get_or (rows_of store p) i (0, 0)).0 →
    key ≡ (get_or (book_rows store) i (0, 0)).0
key_here store p i key ep ek = ek ∙ ap (λ q. (get_or (rows_of store q) i (0, 0)).0) ep

-- a row of the book in the store's bytes: its key begins 8 bytes for each row behind the first one's
module _ (store : List ℕ) (s : Sound store) (p n at i : ℕ) (ep : p ≡ parts_of store) (en : n ≡ length (rows_of store p)) (h : i < n)
    (ea : at ≡ key_at store p 0) where
  key_begins : at + 8 * i ≡ key_at store p i
  key_begins = omega arith

  pub key_inside : at + 8 * i + 8 ≤ length store
  key_inside =
      let within = row_within store s.formed p (omega arith) i (omega arith) in omega (arith, key_begins, within.0)

  module _ (key : ℕ) (ek : key ≡ le 8 store (at + 8 * i)) where
    pub key_there : key ≡ (get_or (rows_of store p) i (0, 0)).0
    key_there = key_read store p i (omega arith) _ _ key_begins ek

    pub key_in_book : member key (keys_in (book_rows store)) ≡ true
    key_in_book =
        let rows = book_rows store in
        let many : n ≡ length rows = en ∙ ap (λ (q : ℕ). length (rows_of store q)) ep in
        ap (λ (k : ℕ). member k (keys_in rows)) (key_here store p i key ep key_there)
        ∙ row_member rows (rows_rise store s (parts_of store) (omega arith)) i (omega (arith, many))

-- two tests of which each holds where the other does
alike : (a b : Bool) → (a ≡ true → b ≡ true) → (b ≡ true → a ≡ true) → a ≡ b
alike true b f g = sym (f refl)
alike false true f g = g refl
alike false false f g = refl

module _ (pack : List ℕ) (lent : Lent) (floor : ℕ) where
  abbrev rows : List Row
  rows = book_rows lent.store

  abbrev key_of : (i : ℕ) → ℕ
  key_of i = (get_or rows i (0, 0)).0

  abbrev can : (id : ℕ) → Bool
  can id = can_retire (pack_of pack) (state_of lent) id ((state_of lent).store.book id)

  -- what is asked at a key: of a smaller id, whether its request can be retired
  abbrev passes : (stored : ℕ) → Bool
  passes k = if ltb k (book_key floor 0) then row_can pack lent k otherwise true

  passes_below : (k : ℕ) → k < book_key floor 0 → passes k ≡ row_can pack lent k
  passes_below k h = rw (lt-ltb k (book_key floor 0) h) refl

  -- at row 0 of a smaller id
  at_its_row : (id : ℕ) → id < 2 ^ 32 → id < floor → passes (book_key id 0) ≡ can id
  unfolding row_can
  at_its_row id h l =
      let e : booked_id (book_key id 0) ≡ id = omega arith in
      passes_below (book_key id 0) (omega arith)
      ∙ ap (λ (b : Bool). if◌then◌otherwise◌ b (can (booked_id (book_key id 0))) true) (workflow_is id h) ∙ ap can e

  rows_to_ids : each (length rows) (λ i. passes (key_of i)) ≡ true → each floor can ≡ true
  unfolding state_of contents_of
  rows_to_ids h =
      all_can (pack_of pack) (state_of lent) floor
      (λ id q l e.
      let b = booked_row rows id q e in
      let p = placed (book_key id 0) b.1 rows b.2 in
      ap (can_retire (pack_of pack) (state_of lent) id) (sym e)
      ∙ sym (ap passes p.2 ∙ at_its_row id b.0 l)
      ∙ each_at (λ i. passes (key_of i)) (length rows) 0 h p.0 (omega arith) (omega (arith, p.1)))

  ids_to_rows : each floor can ≡ true → each (length rows) (λ i. passes (key_of i)) ≡ true
  ids_to_rows h = each_all (λ i. passes (key_of i)) (length rows) 0 (λ i l l'. small (key_of i) (ltb (key_of i) (book_key floor 0)) refl)
    where
      asked : (k : ℕ) → k < book_key floor 0 → (b : Bool) → if◌then◌otherwise◌ b (can (booked_id k)) true ≡ true
      asked k l true = each_at can floor 0 h (booked_id k) (omega arith) (omega arith)
      asked k l false = refl

      small : (k : ℕ) (b : Bool) → ltb k (book_key floor 0) ≡ b → if◌then◌otherwise◌ b (row_can pack lent k) true ≡ true
      small k true e = unfold row_can in asked k (ltb-true k (book_key floor 0) e) (is_workflow_key k)
      small k false e = refl

  -- of n rows of the book, those from i on
  unfoldable pub can_from : (n i : ℕ) → Bool
  can_from n i = each_from (λ k. passes (key_of k)) (n - i) i

  pub can_start : (n : ℕ) → n ≡ length rows → can_from n 0 ≡ each floor can
  unfolding can_from
  can_start n e =
      rw (e, sub-zero) (alike (each (length rows) (λ i. passes (key_of i))) (each floor can) rows_to_ids ids_to_rows)

  module _ (n i p key : ℕ) (h : i < n) (ep : p ≡ parts_of lent.store) (ek : key ≡ (get_or (rows_of lent.store p) i (0, 0)).0) where
    here : key ≡ key_of i
    here = key_here lent.store p i key ep ek

    -- behind the keys of smaller ids, where keys rise, nothing is asked
    pub can_past : Sound lent.store → n ≡ length rows → book_key floor 0 ≤ key → can_from n i ≡ true
    unfolding can_from
    can_past s e l = each_all (λ k. passes (key_of k)) (n - i) i (λ k a b. rw (le-ltb (key_of k) (book_key floor 0) (behind k a b)) refl)
      where
        behind : (k : ℕ) → i ≤ k → k < i + (n - i) → book_key floor 0 ≤ key_of k
        behind k a b =
            ⊎_elim (λ (q : i ≡ k). let g = here ∙ ap key_of q in omega arith)
            (λ (q : i < k).
            let r = rises_at rows (rows_rise lent.store s (parts_of lent.store) (omega arith)) i k q (omega arith) in
            let g = here in omega arith)
            (eq-or-lt_of_le a)

    module _ (low : key < book_key floor 0) (r : Bool) (er : r ≡ row_can pack lent key) where
      row_test : r ≡ passes (key_of i)
      row_test = er ∙ sym (passes_below key low) ∙ ap passes here

      pub can_no : r ≡ false → can_from n i ≡ false
      unfolding can_from
      can_no t = each_fails _ n i h (sym row_test ∙ t)

      pub can_on : r ≡ true → can_from n i ≡ can_from n (i + 1)
      unfolding can_from
      can_on t = each_more _ n i h (sym row_test ∙ t)

  pub can_done_lem : (n i : ℕ) → n ≤ i → can_from n i ≡ true
  unfolding can_from
  can_done_lem n i h = each_none _ n i h
