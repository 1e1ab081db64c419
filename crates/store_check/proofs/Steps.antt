-- What the tests come to, step by step, from what the code has in hand.
use mathlib.Core.Bool.{Bool, true, false, not, ◌&&◌, ◌||◌, or-true, and-true}
use mathlib.Core.List.{List, [], ◌∷◌}
use mathlib.Core.Path.{◌≡◌, refl, sym, ap, ap₂, ◌∙◌}
use Prim.Native.Nat.{ℕ, zero, suc, ◌+◌, ◌-◌, ◌*◌, ◌≤◌, ◌<◌}
use native.Mathlib.Omega.{arith}
use borrow.Author.Tests.{leb-true, lt-ltb, eq-eqb}
use lib.Dec.{eqb, leb, ltb, leb-suc-suc}
use lib.ListN.{length, get_or}
use Rattle.keys.specs.Keys.{is_form}
use Rattle.words.specs.Words.{le, fields}
use Rattle.words.proofs.Laws.{length_fields, get_or_fields}
use Rattle.questions.specs.Basics.{if◌then◌otherwise◌, each_from}
use Rattle.questions.proofs.Each.{each_at}
use Rattle.questions.proofs.Tests.{and_left, and_false}
use Rattle.store.specs.Layout.{parts_of, cap_of, key_at, value_at, used_of}
use Rattle.store.specs.Rows.{index_of, keys_in, rows_of}
use Rattle.store.specs.Questions.{member, keys_apart, keys_ok, blank_row, part_ok_at, part_ok_by, all_in, book_right}
use Rattle.store.specs.Questions.{question11_in_any_order, question12}
use Rattle.store.specs.Sound.{Dimensions, Formed, KeysGood, Sound}
use Rattle.store.proofs.Bytes.{count_is, rows_keys, keys_within, values_within, used_le}
use Rattle.store.proofs.Sound.{part_filled}
use Rattle.store_check.specs.Places.{keys_of, pairs_of, Places}
use Rattle.store_check.specs.declared.rows.Rows.{Rows}

-- ---- keys still to be read

-- the keys from the one at place i on
pub fields_next : (xs : List ℕ) (o n i : ℕ) → i < n →
    fields 8 xs (o + 8 * i) (n - i) ≡ le 8 xs (o + 8 * i) ∷ fields 8 xs (o + 8 * (i + 1)) (n - (i + 1))
unfolding fields
fields_next xs o n i h =
    let e : n - i ≡ suc (n - (i + 1)) = omega arith in
    let o' : o + 8 * i + 8 ≡ o + 8 * (i + 1) = omega arith in
    rw (e, o') refl

pub fields_none : (xs : List ℕ) (o n i : ℕ) → n ≤ i → fields 8 xs o (n - i) ≡ []
unfolding fields
fields_none xs o n i h = let e : n - i ≡ 0 = omega arith in rw e refl

pub keys_step : (b : Bool) (xs : List ℕ) (o m n : ℕ) → m ≡ suc n
    → keys_apart b (fields 8 xs o m)
    ≡ (is_form b (le 8 xs o) && (not (member (le 8 xs o) (fields 8 xs (o + 8) n)) && keys_apart b (fields 8 xs (o + 8) n)))
unfolding keys_apart fields
keys_step b xs o m n e = rw e refl

pub keys_done : (b : Bool) (xs : List ℕ) (o m : ℕ) → m ≡ 0 → keys_apart b (fields 8 xs o m) ≡ true
unfolding keys_apart fields
keys_done b xs o m e = rw e refl

-- a test of every key, over those still to be read
pub all_step : (f : ℕ → Bool) (xs : List ℕ) (o m n : ℕ) → m ≡ suc n →
    all_in f (fields 8 xs o m) ≡ (f (le 8 xs o) && all_in f (fields 8 xs (o + 8) n))
unfolding all_in fields
all_step f xs o m n e = rw e refl

pub all_done : (f : ℕ → Bool) (xs : List ℕ) (o m : ℕ) → m ≡ 0 → all_in f (fields 8 xs o m) ≡ true
unfolding all_in fields
all_done f xs o m e = rw e refl

-- ---- a key among keys

-- a key is a member where its place is one
pub member_place : (k : ℕ) (ks : List ℕ) → member k ks ≡ ltb (index_of k ks) (length ks)
unfolding member index_of
member_place k [] = refl
member_place k (x ∷ ks) = go (member_place k ks) (eqb x k) refl
  where
    go : member k ks ≡ ltb (index_of k ks) (length ks) → (b : Bool) → eqb x k ≡ b →
        (eqb x k || member k ks) ≡ ltb (if◌then◌otherwise◌ (eqb x k) 0 (suc (index_of k ks))) (suc (length ks))
    go ih true e = rw e (sym (lt-ltb 0 (suc (length ks)) (omega arith)))
    go ih false e = rw e (ih ∙ sym (leb-suc-suc (suc (index_of k ks)) (length ks)))

pub member_behind : (x k : ℕ) (ks : List ℕ) → member k ks ≡ true → member k (x ∷ ks) ≡ true
unfolding member
member_behind x k ks e = rw e (or-true (eqb x k))

-- the key at place i is one of them
pub member_in : (k : ℕ) (ks : List ℕ) (i : ℕ) → i < length ks → get_or ks i 0 ≡ k → member k ks ≡ true
unfolding member
member_in k [] i h e = absurd (omega arith)
member_in k (x ∷ ks) zero h e = rw (eq-eqb x k e) refl
member_in k (x ∷ ks) (suc i) h e = member_behind x k ks (member_in k ks i (omega arith) e)

pub member_at : (k : ℕ) (xs : List ℕ) (from n i at : ℕ) → i < n → at ≡ from + 8 * i → le 8 xs at ≡ k → member k (fields 8 xs from n) ≡ true
member_at k xs from n i at h e q =
    member_in k (fields 8 xs from n) i (omega (arith, length_fields 8 xs from n)) (get_or_fields 8 xs from n i at h (omega arith) ∙ q)

-- ---- a partition wherever it lies

module _ (xs : List ℕ) (C n k v : ℕ) where
  -- its used rows fit, and its unused ones are zero
  abbrev pub filled : Bool
  filled = leb n C && each_from (blank_row xs k v) (C - n) n

  pub filled_fits : filled ≡ true → n ≤ C
  filled_fits f = leb-true n C (and_left (leb n C) _ f)

  -- question 11, by what is asked of the keys
  module _ (keys : (book : Bool) → List ℕ → Bool) (b : Bool) where
    in_turn : (fit good blank : Bool) → (fit && good && blank) ≡ ((fit && blank) && good)
    in_turn true true c = sym (and-true c)
    in_turn true false c = sym (and_false c)
    in_turn false b c = refl

    pub part_by : part_ok_at keys b xs C n k v ≡ (filled && keys b (fields 8 xs k n))
    unfolding part_ok_at
    part_by = in_turn (leb n C) (keys b (fields 8 xs k n)) _

-- ---- the partitions of a store

-- the places of partition p, as they are worked out
pub places_within : (xs : List ℕ) (p cap k v : ℕ) → cap ≡ cap_of xs → k ≡ key_at xs p 0 → v ≡ value_at xs p 0 → Dimensions xs →
    p ≤ parts_of xs → (k + 8 * cap ≤ length xs) × (v + 4 * cap ≤ length xs)
places_within xs p cap k v ec ek ev s l =
    let kw = keys_within xs s p l (cap_of xs) (omega arith) in
    let vw = values_within xs s p l (cap_of xs) (omega arith) in
    (omega (arith, ek, ec, kw), omega (arith, ev, ec, vw))

module _ (xs : List ℕ) (p : ℕ) (r : Rows) (l : Places xs p r) where
  abbrev pub rows_filled : Bool
  rows_filled = filled r.store.now r.cap r.used r.keys_at r.values_at

  -- question 11 of it
  pub places_part : (keys : (book : Bool) → List ℕ → Bool) → part_ok_by keys xs p ≡ (rows_filled && keys (eqb p (parts_of xs)) (keys_of r))
  unfolding part_ok_by
  places_part keys =
      let u : r.used ≡ used_of xs p = l.used ∙ count_is xs p in
      sym (sym (part_by r.store.now r.cap r.used r.keys_at r.values_at keys (eqb p (parts_of xs)))
      ∙ rw (l.bytes, l.cap, u, l.keys, l.values) refl)

  -- its rows are those of the store
  places_rows : pairs_of r ≡ rows_of xs p
  unfolding rows_of
  places_rows = let u : r.used ≡ used_of xs p = l.used ∙ count_is xs p in rw (l.bytes, u, l.keys, l.values) refl

  pub places_keys : keys_of r ≡ keys_in (rows_of xs p)
  places_keys = let u : r.used ≡ used_of xs p = l.used ∙ count_is xs p in rw (l.bytes, u, l.keys) (sym (rows_keys xs p))

  pub places_fit : Formed xs → p ≤ parts_of xs → r.used ≤ r.cap
  places_fit f h = omega (arith, l.used, l.cap, used_le xs f p h)

  -- it is the book
  module _ (e : p ≡ parts_of xs) where
    pub book_is : book_right (pairs_of r) ≡ question12 xs
    unfolding question12
    book_is = ap book_right (places_rows ∙ ap (rows_of xs) e)

    pub book_asked : Sound xs → (r.used ≤ r.cap) × (keys_ok true (keys_of r) ≡ true)
    unfolding KeysGood
    book_asked s = (
      places_fit s.formed (omega (arith, e)),
      ap₂ keys_ok (sym (eq-eqb p (parts_of xs) e)) places_keys ∙ s.keys p (omega (arith, e)),
    )

-- the rows of question 11, whatever their order
pub formed_of : (xs : List ℕ) → Dimensions xs → question11_in_any_order xs ≡ true → Formed xs
unfolding question11_in_any_order
formed_of xs s e =
    record {
      shape = s;
      filled = λ p l. part_filled keys_apart xs p (each_at (part_ok_by keys_apart xs) (parts_of xs + 1) 0 e p (omega arith) (omega arith));
    }
