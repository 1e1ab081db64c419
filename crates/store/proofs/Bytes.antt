-- From a store's bytes to what it holds: rows read, and rows written.
use mathlib.Core.Bool.{Bool, true, false}
use mathlib.Core.List.{List, [], ◌∷◌}
use mathlib.Core.Option.{some}
use mathlib.Core.Path.{◌≡◌, refl, sym, ap, ap₂, subst, ◌∙◌}
use Prim.Native.Nat.{ℕ, zero, suc, ◌+◌, ◌*◌, ◌^◌, ◌≤◌, ◌<◌}
use native.Mathlib.Omega.{arith}
use borrow.Author.Tests.{le-leb, lt-leb}
use lib.Dec.{eqb}
use lib.ListN.{length, get_or, take, drop, length-drop}
use lib.Seq.{take_all}
use Rattle.words.specs.Words.{le, fields}
use Rattle.words.specs.Words as Words
use Rattle.words.proofs.Laws.{length_fields, fields_part, get_or_fields}
use Rattle.store.specs.Layout.{AllBytes, parts_of, cap_of, used_at, key_at, value_at, used_of}
use Rattle.store.specs.Rows.{Row, pairs, keys_in, lookup, rows_of}
use Rattle.store.specs.Sound.{Dimensions, Formed}
use Rattle.store.proofs.Lists.{before, within, length_pairs, keys_pairs, get_or_pairs, keys_drop}

-- ---- used counts are the numbers of rows

module _ (xs : List ℕ) (p : ℕ) where
  same_count : length (fields 8 xs (key_at xs p 0) (used_of xs p)) ≡ length (fields 4 xs (value_at xs p 0) (used_of xs p))
  same_count = length_fields 8 xs (key_at xs p 0) (used_of xs p) ∙ sym (length_fields 4 xs (value_at xs p 0) (used_of xs p))

  pub count_is : length (rows_of xs p) ≡ used_of xs p
  unfolding rows_of
  count_is =
      length_pairs (fields 8 xs (key_at xs p 0) (used_of xs p)) (fields 4 xs (value_at xs p 0) (used_of xs p)) same_count
      ∙ length_fields 8 xs (key_at xs p 0) (used_of xs p)

  pub used_here : p ≤ parts_of xs → used_of xs p ≡ le 2 xs (used_at p)
  unfolding used_of
  used_here l = rw (le-leb p (parts_of xs) l) refl

  pub used_past : parts_of xs < p → used_of xs p ≡ 0
  unfolding used_of
  used_past l = rw (lt-leb p (parts_of xs) l) refl

  -- past the book there is no row
  pub past_rows : parts_of xs < p → rows_of xs p ≡ []
  unfolding rows_of pairs fields
  past_rows l = rw (used_past l) refl

  -- ---- rows read

  -- the keys of the rows
  pub rows_keys : keys_in (rows_of xs p) ≡ fields 8 xs (key_at xs p 0) (used_of xs p)
  unfolding rows_of
  rows_keys = keys_pairs (fields 8 xs (key_at xs p 0) (used_of xs p)) (fields 4 xs (value_at xs p 0) (used_of xs p)) same_count

  module _ (i : ℕ) (h : i < length (rows_of xs p)) where
    row_is : get_or (rows_of xs p) i (0, 0) ≡ (le 8 xs (key_at xs p i), le 4 xs (value_at xs p i))
    unfolding rows_of
    row_is =
        let l : i < used_of xs p = omega (arith, count_is) in
        get_or_pairs (fields 8 xs (key_at xs p 0) (used_of xs p)) (fields 4 xs (value_at xs p 0) (used_of xs p)) i same_count
        (omega (arith, length_fields 8 xs (key_at xs p 0) (used_of xs p)))
        ∙ ap₂ (λ (k v : ℕ). (k, v)) (get_or_fields 8 xs (key_at xs p 0) (used_of xs p) i (key_at xs p i) l (omega arith))
        (get_or_fields 4 xs (value_at xs p 0) (used_of xs p) i (value_at xs p i) l (omega arith))

    pub key_is : (get_or (rows_of xs p) i (0, 0)).0 ≡ le 8 xs (key_at xs p i)
    key_is = ap (λ (r : Row). r.0) row_is

    pub value_is : (get_or (rows_of xs p) i (0, 0)).1 ≡ le 4 xs (value_at xs p i)
    value_is = ap (λ (r : Row). r.1) row_is

    -- what a walk over the rows reads at the place that it has come to
    pub key_read : (from key : ℕ) → from ≡ key_at xs p i → key ≡ le 8 xs from → key ≡ (get_or (rows_of xs p) i (0, 0)).0
    key_read from key e r = r ∙ ap (le 8 xs) e ∙ sym key_is

    pub value_read : (from value : ℕ) → from ≡ value_at xs p i → value ≡ le 4 xs from → value ≡ (get_or (rows_of xs p) i (0, 0)).1
    value_read from value e r = r ∙ ap (le 4 xs) e ∙ sym value_is

  -- the keys of the rows from row i on
  pub keys_from_lem : (i m : ℕ) → i + m ≡ length (rows_of xs p) → keys_in (drop i (rows_of xs p)) ≡ fields 8 xs (key_at xs p i) m
  keys_from_lem i m e =
      keys_drop i (rows_of xs p) ∙ ap (drop i) rows_keys ∙ sym whole
      ∙ fields_part 8 xs (key_at xs p 0) (used_of xs p) i m (key_at xs p i) (omega (arith, count_is)) (omega arith)
    where
      whole : take m (drop i (fields 8 xs (key_at xs p 0) (used_of xs p))) ≡ drop i (fields 8 xs (key_at xs p 0) (used_of xs p))
      whole =
          take_all m (drop i (fields 8 xs (key_at xs p 0) (used_of xs p)))
          (simp length-drop (omega (arith, count_is, length_fields 8 xs (key_at xs p 0) (used_of xs p))))

-- ---- places

module _ (xs : List ℕ) (s : Dimensions xs) (p : ℕ) (l : p ≤ parts_of xs) where
  pub key_within : (i : ℕ) → i < cap_of xs → key_at xs p i + 8 ≤ length xs
  key_within i h = omega (arith, s.size, within (cap_of xs) (parts_of xs) p i l h)

  pub keys_within : (n : ℕ) → n ≤ cap_of xs → key_at xs p 0 + 8 * n ≤ length xs
  keys_within n h = omega (arith, s.size, before (cap_of xs) {p = p} {q = parts_of xs + 1} (omega arith))

  pub value_within : (i : ℕ) → i < cap_of xs → value_at xs p i + 4 ≤ length xs
  value_within i h = omega (arith, s.size, within (cap_of xs) (parts_of xs) p i l h)

  pub values_within : (n : ℕ) → n ≤ cap_of xs → value_at xs p 0 + 4 * n ≤ length xs
  values_within n h = omega (arith, s.size, before (cap_of xs) {p = p} {q = parts_of xs + 1} (omega arith))

module _ (xs : List ℕ) (f : Formed xs) (p : ℕ) (l : p ≤ parts_of xs) where
  pub used_le : length (rows_of xs p) ≤ cap_of xs
  used_le = omega (arith, (f.filled p l).fit, count_is xs p)

  pub row_below : (i : ℕ) → i < length (rows_of xs p) → i < cap_of xs
  row_below i h = omega (arith, used_le)

  -- the places of a used row lie within the bytes
  pub row_within : (i : ℕ) → i < length (rows_of xs p) → (key_at xs p i + 8 ≤ length xs) × (value_at xs p i + 4 ≤ length xs)
  row_within i h = (key_within xs f.shape p l i (row_below i h), value_within xs f.shape p l i (row_below i h))

-- ---- a value is a number of four bytes

module _ (xs : List ℕ) (bytes : AllBytes xs) where
  four_bytes : (o : ℕ) → le 4 xs o < 2 ^ 32
  unfolding Words.le
  four_bytes o = omega (arith, bytes o, bytes (o + 1), bytes (o + 1 + 1), bytes (o + 1 + 1 + 1))

  value_among : (ks : List ℕ) (o n k v : ℕ) → lookup k (pairs ks (fields 4 xs o n)) ≡ some v → v < 2 ^ 32
  unfolding fields pairs lookup
  value_among [] o n k v e = absurd (let z : ◌≡◌ {A = ℕ} 0 1 = cc in omega arith)
  value_among (x ∷ ks) o zero k v e = absurd (let z : ◌≡◌ {A = ℕ} 0 1 = cc in omega arith)
  value_among (x ∷ ks) o (suc n) k v e = go (eqb x k) refl (value_among ks (o + 4) n k v)
    where
      go : (b : Bool) → eqb x k ≡ b → (lookup k (pairs ks (fields 4 xs (o + 4) n)) ≡ some v → v < 2 ^ 32) → v < 2 ^ 32
      go true q rec =
          let f : some (le 4 xs o) ≡ some v = rw q at e in
          let same : le 4 xs o ≡ v = cc in
          subst (λ (m : ℕ). m < 2 ^ 32) same (four_bytes o)
      go false q rec = rec (rw q at e)

  pub value_below : (p k v : ℕ) → lookup k (rows_of xs p) ≡ some v → v < 2 ^ 32
  unfolding rows_of
  value_below p k v e = value_among _ _ _ k v e
