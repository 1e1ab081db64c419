-- Rows and partitions printed one by one.
use mathlib.Core.Path.{◌≡◌, refl}
use mathlib.Core.List.{List, [], ◌++◌}
use Prim.Native.Nat.{ℕ, suc, ◌+◌, ◌-◌, ◌*◌, ◌≤◌, ◌<◌}
use native.Mathlib.Numerals.{add-one}
use native.Mathlib.Omega.{arith}
use lib.ListN.{length, get_or, take, drop}
use lib.Seq.{drop-cons}
use Rattle.store.specs.Layout.{parts_of, key_at, value_at}
use Rattle.store.specs.Rows.{Row, rows_of}
use Rattle.store.specs.Sound.{Sound}
use Rattle.store.proofs.Bytes.{used_le, row_within}
use Rattle.lines.specs.Lines.{stored_line}
use Rattle.listing.specs.Store.{lines_of, partition_text, partitions_text}

-- the lines of rows i to `to`, without row `to`
unfoldable pub lines_from : (partition : ℕ) → List Row → (to i : ℕ) → List ℕ
lines_from p rows to i = lines_of p (take (to - i) (drop i rows))

module _ (p : ℕ) (rows : List Row) (to i : ℕ) where
  pub lines_all : lines_from p rows to i ≡ lines_of p (take (to - i) (drop i rows))
  unfolding lines_from
  lines_all = refl

  pub lines_none : to ≤ i → lines_from p rows to i ≡ []
  unfolding lines_from lines_of
  lines_none h = let e : to - i ≡ 0 = omega arith in rw e refl

  pub lines_more : (j key value : ℕ) → j ≡ i + 1 → i < to → to ≤ length rows → key ≡ (get_or rows i (0, 0)).0 → value ≡ (get_or rows i (0, 0)).1
      → lines_from p rows to i ≡ stored_line p key value ++ lines_from p rows to j
  unfolding lines_from lines_of
  lines_more j key value next l h k v =
      let e : to - i ≡ suc (to - (i + 1)) = omega arith in
      rw (e, drop-cons rows i (0, 0) (omega arith), k, v, next, add-one i) refl

-- the partitions from p on
pub partitions_none : (s : List ℕ) (n p : ℕ) → n ≡ 0 → partitions_text s n p ≡ []
unfolding partitions_text
partitions_none s n p e = rw e

pub partitions_more : (s : List ℕ) (n m p : ℕ) → n ≡ suc m → partitions_text s n p ≡ partition_text s p ++ partitions_text s m (p + 1)
unfolding partitions_text
partitions_more s n m p e = rw e

-- a partition of a sound store has at most 256 rows
pub few_rows : (s : List ℕ) (p : ℕ) → Sound s → p ≤ parts_of s → length (rows_of s p) ≤ 256
few_rows s p h l = omega (arith, used_le s h.formed p l, h.formed.shape.cap_high)

-- the key and the value of a row lie within the store
pub row_places : (s : List ℕ) (p i keys_at values_at : ℕ) → Sound s → p ≤ parts_of s → i < length (rows_of s p) → keys_at ≡ key_at s p 0 →
    values_at ≡ value_at s p 0 → (keys_at + 8 * i + 8 ≤ length s) × (values_at + 4 * i + 4 ≤ length s)
row_places s p i keys_at values_at h l k ek ev =
    let w = row_within s h.formed p l i k in (omega (arith, w.0, ek), omega (arith, w.1, ev))
