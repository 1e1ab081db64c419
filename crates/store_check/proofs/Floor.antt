-- The floor of a book, and whether an id is below it, by the bytes where its keys and values stand.
use mathlib.Core.Bool.{Bool, true, false, ◌&&◌, ◌||◌}
use mathlib.Core.List.{List, [], ◌∷◌}
use mathlib.Core.Option
use mathlib.Core.Option.{Option, none, some}
use mathlib.Core.Path.{◌≡◌, refl, sym, ap, ap₂, ◌∙◌}
use Prim.Native.Nat.{ℕ, suc, ◌+◌, ◌*◌, ◌^◌, ◌≤◌, ◌<◌}
use native.Mathlib.Omega.{arith}
use borrow.Author.Tests.{leb-true, le-leb}
use lib.Dec.{leb}
use lib.ListN.{length, get_or}
use Rattle.words.specs.Words.{le, fields}
use Rattle.words.proofs.Laws.{length_fields, get_or_fields}
use Rattle.questions.specs.Basics.{if◌then◌otherwise◌}
use Rattle.keys.specs.Keys.{booked_id, floor_key, is_floor_key, floor_at, is_form}
use Rattle.keys.proofs.Keys.{floor_bounds}
use Rattle.store.specs.Rows.{Row, pairs, keys_in, lookup, row_place, index_of}
use Rattle.store.specs.Questions.{rising, keys_ok, all_in, book_ok, from_floor, book_right}
use Rattle.store.proofs.Lists.{length_pairs, keys_pairs, place_pairs, get_or_pairs, found_lookup, missed_lookup}
use Rattle.store.proofs.Floor.{floor_last}
use Rattle.store.proofs.Sound.{keys_rising, all_above}
use Rattle.store_check.proofs.Five.{forms, least}

-- ---- ids that aren't below a floor

module _ (floor : ℕ) (h : floor < 2 ^ 32) where
  -- the floor's own key, taken for one of an id, passes the test of ids
  pub floor_passes : (k : ℕ) → (is_floor_key k || leb floor (booked_id k)) ≡ leb floor (booked_id k)
  floor_passes k = go (is_floor_key k) refl
    where
      go : (t : Bool) → is_floor_key k ≡ t → (is_floor_key k || leb floor (booked_id k)) ≡ leb floor (booked_id k)
      go true e = rw e (sym (le-leb floor (booked_id k) (omega (arith, floor_bounds k e))))
      go false e = rw e refl

  pub floor_all : (ks : List ℕ) → all_in (λ k. leb floor (booked_id k)) ks ≡ from_floor floor ks
  unfolding from_floor all_in
  floor_all [] = refl
  floor_all (k ∷ ks) = ap₂ ◌&&◌ (sym (floor_passes k)) (floor_all ks)

  -- of rising keys the first answers for all
  first_above : (k : ℕ) (ks : List ℕ) → rising (k ∷ ks) ≡ true → from_floor floor (k ∷ ks) ≡ leb floor (booked_id k)
  first_above k ks u = go (leb floor (booked_id k)) refl
    where
      go : (t : Bool) → leb floor (booked_id k) ≡ t → from_floor floor (k ∷ ks) ≡ leb floor (booked_id k)
      go true e =
          all_above floor (k ∷ ks) (λ x n m. omega (arith, least k x ks u m, leb-true floor (booked_id k) e)) ∙ sym e
      go false e = unfold from_floor all_in in rw (floor_passes k, e) refl

  pub from_first : (xs : List ℕ) (from n m k : ℕ) → n ≡ suc m → k ≡ le 8 xs from → keys_ok true (fields 8 xs from n) ≡ true →
      from_floor floor (fields 8 xs from n) ≡ leb floor (booked_id k)
  unfolding fields
  from_first xs from n m k e q g =
      ap (from_floor floor) spread
      ∙ first_above (le 8 xs from) (fields 8 xs (from + 8) m) (ap rising (sym spread) ∙ keys_rising true (fields 8 xs from n) g)
      ∙ ap (λ (i : ℕ). leb floor (booked_id i)) (sym q)
    where
      spread : fields 8 xs from n ≡ le 8 xs from ∷ fields 8 xs (from + 8) m
      spread = rw e refl

pub from_none : (floor : ℕ) (xs : List ℕ) (from n : ℕ) → n ≡ 0 → from_floor floor (fields 8 xs from n) ≡ true
unfolding from_floor all_in fields
from_none floor xs from n e = rw e refl

-- ---- the rows of a book wherever it lies

module _ (xs : List ℕ) (ka va n : ℕ) where
  abbrev keys : List ℕ
  keys = fields 8 xs ka n

  abbrev rows : List Row
  rows = pairs (fields 8 xs ka n) (fields 4 xs va n)

  as_many : length keys ≡ length (fields 4 xs va n)
  as_many = length_fields 8 xs ka n ∙ sym (length_fields 4 xs va n)

  count : length rows ≡ n
  count = length_pairs keys (fields 4 xs va n) as_many ∙ length_fields 8 xs ka n

  their_keys : keys_in rows ≡ keys
  their_keys = keys_pairs keys (fields 4 xs va n) as_many

  row_at : (i : ℕ) → i < n → get_or rows i (0, 0) ≡ (le 8 xs (ka + 8 * i), le 4 xs (va + 4 * i))
  row_at i h =
      get_or_pairs keys (fields 4 xs va n) i as_many (omega (arith, length_fields 8 xs ka n))
      ∙ ap₂ (λ (k v : ℕ). (k, v)) (get_or_fields 8 xs ka n i (ka + 8 * i) h (omega arith))
      (get_or_fields 4 xs va n i (va + 4 * i) h (omega arith))

  -- ---- its floor

  abbrev floor : ℕ
  floor = floor_at (λ k. lookup k rows)

  pub floor_empty : n ≡ 0 → 0 ≡ floor
  unfolding fields pairs lookup
  floor_empty e = rw e refl

  -- by its last key, where the keys rise
  module _ (g : keys_ok true keys ≡ true) (last : ℕ) (e : n ≡ suc last) (k : ℕ) (q : k ≡ le 8 xs (ka + 8 * last)) where
    by_last : lookup floor_key rows ≡ (if is_floor_key k then some (le 4 xs (va + 4 * last)) otherwise none)
    by_last =
        floor_last rows last (count ∙ e) (ap (all_in (is_form true)) their_keys ∙ forms keys g)
        (ap rising their_keys ∙ keys_rising true keys g)
        ∙ rw (row_at last (omega arith), q) refl

    pub floor_there : is_floor_key k ≡ true → le 4 xs (va + 4 * last) ≡ floor
    floor_there t = rw (by_last, t) refl

    pub floor_absent : is_floor_key k ≡ false → 0 ≡ floor
    floor_absent t = rw (by_last, t) refl

  -- by the place of its key
  module _ (i : ℕ) (q : i ≡ index_of floor_key keys) where
    place : row_place floor_key rows ≡ i
    place = place_pairs floor_key keys (fields 4 xs va n) as_many ∙ sym q

    pub floor_found : i < n → le 4 xs (va + 4 * i) ≡ floor
    floor_found h =
        let there = found_lookup floor_key rows (omega (arith, place, count)) in
        sym (ap (λ (o : Option ℕ). Option.get_or o 0) there
        ∙ ap (λ (j : ℕ). (get_or rows j (0, 0)).1) place
        ∙ ap (λ (r : Row). r.1) (row_at i h))

    pub floor_missed : n ≤ i → 0 ≡ floor
    floor_missed h = sym (ap (λ (o : Option ℕ). Option.get_or o 0) (missed_lookup floor_key rows (omega (arith, place, count))))

  -- ---- question 12 by its parts

  both : book_right rows ≡ (book_ok keys && from_floor floor keys)
  unfolding book_right
  both = ap (λ (ks : List ℕ). book_ok ks && from_floor floor ks) their_keys

  pub right_no : book_ok keys ≡ false → book_right rows ≡ false
  right_no e = both ∙ rw e refl

  pub right_is : book_ok keys ≡ true → (f : ℕ) → f ≡ floor → book_right rows ≡ from_floor f keys
  right_is e f q = both ∙ rw (e, q) refl
