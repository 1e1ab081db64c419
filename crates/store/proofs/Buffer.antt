-- A partition's bytes under way: rows put behind those that it holds.
use mathlib.Core.List.{List, [], ◌∷◌, ◌++◌}
use mathlib.Core.Logic.{inl, inr}
use mathlib.Core.Path.{◌≡◌, refl, sym, ap, ap₂, ◌∙◌}
use Prim.Native.Nat.{ℕ, zero, suc, ◌+◌, ◌*◌, ◌^◌, ◌≤◌, ◌<◌}
use native.Mathlib.Decide.{dec_lt}
use native.Mathlib.Nat.{zero-mul, suc-mul}
use native.Mathlib.Omega.{arith}
use lib.ListN.{length, get_or, take, drop, replicate, get_or-replicate, length-replicate, length-take, length-drop, get_or-eq_default}
use lib.Seq.{sets, length-sets, get_or-take, get_or-drop}
use Rattle.words.specs.Words as Words
use Rattle.words.specs.Words.{le, put, fields, Apart}
use Rattle.words.proofs.Laws.{le_same, le_zero, le_put, le_put_other, length_put, get_or_put, length_fields, fields_part}
use Rattle.store.specs.Layout.{parts_of, cap_of, key_at, value_at, used_of}
use Rattle.store.specs.Rows.{Row, pairs, rows_of}
use Rattle.store.specs.Parts.{piece, part_size, used_held, first_rows, Holds}
use Rattle.store.specs.Sound.{Formed}
use Rattle.store.proofs.Lists.{before}
use Rattle.store.proofs.Bytes.{count_is, used_le}
use Rattle.store.proofs.Parts.{sets_in, sets_out}
use Rattle.store.proofs.Held.{fields_shift}

-- ---- numbers and rows, a first part and a second one

fields_append : (w : ℕ) (xs : List ℕ) (at to a b : ℕ) → to ≡ at + a * w → fields w xs at (a + b) ≡ fields w xs at a ++ fields w xs to b
unfolding Words.fields
fields_append w xs at to zero b e = let z : to ≡ at = omega (arith, zero-mul w) in let o : zero + b ≡ b = omega arith in rw (z, o) refl
fields_append w xs at to (suc a) b e =
    let s : suc a + b ≡ suc (a + b) = omega arith in
    let q : to ≡ at + w + a * w = omega (arith, suc-mul a w) in
    rw s (ap (◌∷◌ (le w xs at)) (fields_append w xs (at + w) to a b q))

pairs_append : (ks ls vs ws : List ℕ) → length ks ≡ length vs → pairs (ks ++ ls) (vs ++ ws) ≡ pairs ks vs ++ pairs ls ws
unfolding pairs
pairs_append [] ls [] ws e = refl
pairs_append [] ls (v ∷ vs) ws e = absurd (omega arith)
pairs_append (k ∷ ks) ls [] ws e = absurd (omega arith)
pairs_append (k ∷ ks) ls (v ∷ vs) ws e = ap (◌∷◌ (k, v)) (pairs_append ks ls vs ws (omega arith))

pairs_drop : (i : ℕ) (ks vs : List ℕ) → drop i (pairs ks vs) ≡ pairs (drop i ks) (drop i vs)
unfolding pairs
pairs_drop zero ks vs = refl
pairs_drop (suc i) [] vs = refl
pairs_drop (suc i) (k ∷ ks) [] = none (drop i ks)
  where
    none : (l : List ℕ) → ◌≡◌ {A = List Row} [] (pairs l [])
    none [] = refl
    none (x ∷ l) = refl
pairs_drop (suc i) (k ∷ ks) (v ∷ vs) = pairs_drop i ks vs

pairs_take : (m : ℕ) (ks vs : List ℕ) → take m (pairs ks vs) ≡ pairs (take m ks) (take m vs)
unfolding pairs
pairs_take zero ks vs = refl
pairs_take (suc m) [] vs = refl
pairs_take (suc m) (k ∷ ks) [] = refl
pairs_take (suc m) (k ∷ ks) (v ∷ vs) = ap (◌∷◌ (k, v)) (pairs_take m ks vs)

-- m rows of a partition, from row i on
rows_part : (xs : List ℕ) (p i m : ℕ) → i + m ≤ length (rows_of xs p) →
    pairs (fields 8 xs (key_at xs p i) m) (fields 4 xs (value_at xs p i) m) ≡ take m (drop i (rows_of xs p))
unfolding rows_of
rows_part xs p i m h =
    sym
    (ap (take m) (pairs_drop i keys values) ∙ pairs_take m (drop i keys) (drop i values)
    ∙ ap₂ pairs (fields_part 8 xs (key_at xs p 0) (used_of xs p) i m (key_at xs p i) within (omega arith))
    (fields_part 4 xs (value_at xs p 0) (used_of xs p) i m (value_at xs p i) within (omega arith)))
  where
    keys : List ℕ
    keys = fields 8 xs (key_at xs p 0) (used_of xs p)

    values : List ℕ
    values = fields 4 xs (value_at xs p 0) (used_of xs p)

    within : i + m ≤ used_of xs p
    within = omega (arith, h, count_is xs p)

-- their bytes are within the store
pub rows_within : (xs : List ℕ) → Formed xs → (p : ℕ) → p ≤ parts_of xs → (i m : ℕ) → i + m ≤ length (rows_of xs p) →
    (key_at xs p i + 8 * m ≤ length xs) × (value_at xs p i + 4 * m ≤ length xs)
rows_within xs f p l i m h =
    let s = f.shape.size in
    let b = before (cap_of xs) {p = p} {q = parts_of xs + 1} (omega arith) in
    (omega (arith, s, b, used_le xs f p l), omega (arith, s, b, used_le xs f p l))

-- ---- rows written behind the first n

-- byte j is none of the keys and none of the values of rows n to n + m
abbrev Elsewhere : (C n m j : ℕ) → Type 0
Elsewhere C n m j = (2 + 8 * n ≤ j → j < 2 + 8 * (n + m) → ⊥) × (2 + 8 * C + 4 * n ≤ j → j < 2 + 8 * C + 4 * (n + m) → ⊥)

module _ (C : ℕ) (bs cs : List ℕ) (n m : ℕ) (rs : List Row) (h : Holds C bs n rs) (long : length cs ≡ length bs) (fit : n + m ≤ C)
    (others : (j : ℕ) → Elsewhere C n m j → get_or cs j 0 ≡ get_or bs j 0) where
  first_keys : fields 8 cs 2 n ≡ fields 8 bs 2 n
  first_keys = fields_shift 8 n cs bs 2 2 (λ i l. others (2 + i) ((λ a b. omega arith), (λ a b. omega arith)))

  first_values : fields 4 cs (2 + 8 * C) n ≡ fields 4 bs (2 + 8 * C) n
  first_values = fields_shift 4 n cs bs (2 + 8 * C) (2 + 8 * C) (λ i l. others (2 + 8 * C + i) ((λ a b. omega arith), (λ a b. omega arith)))

  rows_more : first_rows C cs (n + m) ≡ rs ++ pairs (fields 8 cs (2 + 8 * n) m) (fields 4 cs (2 + 8 * C + 4 * n) m)
  unfolding first_rows
  rows_more =
      ap₂ pairs (fields_append 8 cs 2 (2 + 8 * n) n m (omega arith)) (fields_append 4 cs (2 + 8 * C) (2 + 8 * C + 4 * n) n m (omega arith))
      ∙ pairs_append (fields 8 cs 2 n) _ (fields 4 cs (2 + 8 * C) n) _ (length_fields 8 cs 2 n ∙ sym (length_fields 4 cs (2 + 8 * C) n))
      ∙ ap (λ (front : List Row). front ++ pairs (fields 8 cs (2 + 8 * n) m) (fields 4 cs (2 + 8 * C + 4 * n) m))
      (ap₂ pairs first_keys first_values ∙ (unfold first_rows in h.rows))

  holds_more : (more : List Row) → pairs (fields 8 cs (2 + 8 * n) m) (fields 4 cs (2 + 8 * C + 4 * n) m) ≡ more →
      Holds C cs (n + m) (rs ++ more)
  holds_more more e =
      record {
        long = long ∙ h.long;
        fit = fit;
        rows = rows_more ∙ ap (λ (l : List Row). rs ++ l) e;
        blank_keys =
            λ i a b. le_same 8 cs bs (2 + 8 * i) (λ j c d. others j ((λ x y. omega arith), (λ x y. omega arith)))
            ∙ h.blank_keys i (omega arith) b;
        blank_values =
            λ i a b. le_same 4 cs bs (2 + 8 * C + 4 * i) (λ j c d. others j ((λ x y. omega arith), (λ x y. omega arith)))
            ∙ h.blank_values i (omega arith) b;
      }

apart_from : (j at n : ℕ) → (at ≤ j → j < at + n → ⊥) → Apart j 1 at n
apart_from j at n h = go (dec_lt j at) (dec_lt j (at + n))
  where
    go : Dec (j < at) → Dec (j < at + n) → Apart j 1 at n
    go (yes a) d = inl (omega arith)
    go (no a) (yes b) = absurd (h (omega arith) b)
    go (no a) (no b) = inr (omega arith)

piece_long : (n at : ℕ) (l : List ℕ) → at + n ≤ length l → length (piece n at l) ≡ n
piece_long n at l h = simp (length-take, length-drop) (omega arith)

-- rows copied: two runs of bytes
module _ (C : ℕ) (bs xs : List ℕ) (n m ka va : ℕ) (rs : List Row) (h : Holds C bs n rs) (fit : n + m ≤ C) (hk : ka + 8 * m ≤ length xs)
    (hv : va + 4 * m ≤ length xs) where
  abbrev with_keys : List ℕ
  with_keys = sets bs (2 + 8 * n) (piece (8 * m) ka xs)

  abbrev with_both : List ℕ
  with_both = sets with_keys (2 + 8 * C + 4 * n) (piece (4 * m) va xs)

  keys_long : length (piece (8 * m) ka xs) ≡ 8 * m
  keys_long = piece_long (8 * m) ka xs hk

  values_long : length (piece (4 * m) va xs) ≡ 4 * m
  values_long = piece_long (4 * m) va xs hv

  both_long : length with_both ≡ length bs
  both_long = length-sets with_keys (2 + 8 * C + 4 * n) (piece (4 * m) va xs) ∙ length-sets bs (2 + 8 * n) (piece (8 * m) ka xs)

  others_stay : (j : ℕ) → Elsewhere C n m j → get_or with_both j 0 ≡ get_or bs j 0
  others_stay j e =
      sets_out (piece (4 * m) va xs) with_keys (2 + 8 * C + 4 * n) j
      (apart_from j (2 + 8 * C + 4 * n) (length (piece (4 * m) va xs)) (λ a b. e.1 a (omega (arith, values_long))))
      ∙ sets_out (piece (8 * m) ka xs) bs (2 + 8 * n) j
      (apart_from j (2 + 8 * n) (length (piece (8 * m) ka xs)) (λ a b. e.0 a (omega (arith, keys_long))))

  keys_copied : fields 8 with_both (2 + 8 * n) m ≡ fields 8 xs ka m
  keys_copied =
      fields_shift 8 m with_both xs (2 + 8 * n) ka
      (λ i l. let s : i < 8 * m = omega arith in
      sets_out (piece (4 * m) va xs) with_keys (2 + 8 * C + 4 * n) (2 + 8 * n + i) (inl (omega arith))
      ∙ sets_in (piece (8 * m) ka xs) bs (2 + 8 * n) i (omega (arith, keys_long, h.long)) (omega (arith, keys_long))
      ∙ get_or-take (8 * m) (drop ka xs) i 0 s ∙ get_or-drop ka xs i 0)

  values_copied : fields 4 with_both (2 + 8 * C + 4 * n) m ≡ fields 4 xs va m
  values_copied =
      fields_shift 4 m with_both xs (2 + 8 * C + 4 * n) va
      (λ i l. let s : i < 4 * m = omega arith in
      sets_in (piece (4 * m) va xs) with_keys (2 + 8 * C + 4 * n) i
      (omega (arith, values_long, length-sets bs (2 + 8 * n) (piece (8 * m) ka xs), h.long)) (omega (arith, values_long))
      ∙ get_or-take (4 * m) (drop va xs) i 0 s ∙ get_or-drop va xs i 0)

  holds_copied : Holds C with_both (n + m) (rs ++ pairs (fields 8 xs ka m) (fields 4 xs va m))
  holds_copied = holds_more C bs with_both n m rs h both_long fit others_stay _ (ap₂ pairs keys_copied values_copied)

-- Rows of a store's partition copied behind the first n.
pub copied_rows : (C : ℕ) (bs xs : List ℕ) (n p i m : ℕ) (rs : List Row) → Holds C bs n rs → n + m ≤ C → key_at xs p i + 8 * m ≤ length xs →
    value_at xs p i + 4 * m ≤ length xs → i + m ≤ length (rows_of xs p) →
    Holds C (sets (sets bs (2 + 8 * n) (piece (8 * m) (key_at xs p i) xs)) (2 + 8 * C + 4 * n) (piece (4 * m) (value_at xs p i) xs)) (n + m)
    (rs ++ take m (drop i (rows_of xs p)))
copied_rows C bs xs n p i m rs h fit hk hv l =
    let e = holds_copied C bs xs n m (key_at xs p i) (value_at xs p i) rs h fit hk hv in
    rw (← rows_part xs p i m l) e

-- One row put behind them.
pub added_row : (C : ℕ) (bs : List ℕ) (n k v : ℕ) (rs : List Row) → Holds C bs n rs → n < C → k < 256 ^ 8 → v < 256 ^ 4 →
    Holds C (put 4 (put 8 bs (2 + 8 * n) k) (2 + 8 * C + 4 * n) v) (n + 1) (rs ++ (k, v) ∷ [])
added_row C bs n k v rs h fit bk bv = holds_more C bs both n 1 rs h both_long (omega arith) stay ((k, v) ∷ []) new
  where
    one : List ℕ
    one = put 8 bs (2 + 8 * n) k

    both : List ℕ
    both = put 4 one (2 + 8 * C + 4 * n) v

    one_long : length one ≡ length bs
    one_long = length_put 8 bs (2 + 8 * n) k

    both_long : length both ≡ length bs
    both_long = length_put 4 one (2 + 8 * C + 4 * n) v ∙ one_long

    stay : (j : ℕ) → Elsewhere C n 1 j → get_or both j 0 ≡ get_or bs j 0
    stay j e = get_or_put 4 one (2 + 8 * C + 4 * n) v j (λ a b. e.1 a (omega arith))
        ∙ get_or_put 8 bs (2 + 8 * n) k j (λ a b. e.0 a (omega arith))

    key_new : le 8 both (2 + 8 * n) ≡ k
    key_new = le_put_other 8 4 one (2 + 8 * n) (2 + 8 * C + 4 * n) v (inl (omega arith))
        ∙ le_put 8 bs (2 + 8 * n) k (omega (arith, h.long)) bk

    value_new : le 4 both (2 + 8 * C + 4 * n) ≡ v
    value_new = le_put 4 one (2 + 8 * C + 4 * n) v (omega (arith, one_long, h.long)) bv

    new : pairs (fields 8 both (2 + 8 * n) 1) (fields 4 both (2 + 8 * C + 4 * n) 1) ≡ (k, v) ∷ []
    new = unfold pairs Words.fields in ap₂ (λ (a b : ℕ). (a, b) ∷ []) key_new value_new

-- ---- the first and the last of it

-- zeros hold no row
pub holds_none : (C n : ℕ) → n ≡ part_size C → Holds C (replicate n 0) 0 []
unfolding first_rows pairs Words.fields
holds_none C n e =
    record {
      long = length-replicate n 0 ∙ e;
      fit = omega arith;
      rows = refl;
      blank_keys = λ i a b. le_zero 8 (replicate n 0) (2 + 8 * i) (λ j c. all_zero j);
      blank_values = λ i a b. le_zero 4 (replicate n 0) (2 + 8 * C + 4 * i) (λ j c. all_zero j);
    }
  where
    all_zero : (j : ℕ) → ◌≡◌ {A = ℕ} (get_or (replicate n 0) j 0) 0
    all_zero j = go (dec_lt j n)
      where
        go : Dec (j < n) → ◌≡◌ {A = ℕ} (get_or (replicate n 0) j 0) 0
        go (yes l) = get_or-replicate {A = ℕ} n j 0 0 l
        go (no l) = get_or-eq_default (replicate n 0) 0 {n = j} (omega (arith, length-replicate {A = ℕ} n 0))

-- the used count is written last
pub holds_counted : (C : ℕ) (bs : List ℕ) (n : ℕ) (rs : List Row) → Holds C bs n rs → C ≤ 256 →
    Holds C (put 2 bs 0 n) n rs × (used_held (put 2 bs 0 n) ≡ n)
holds_counted C bs n rs h small = (
  record {
    long = length_put 2 bs 0 n ∙ h.long;
    fit = h.fit;
    rows = same_rows ∙ h.rows;
    blank_keys = λ i a b. le_put_other 8 2 bs (2 + 8 * i) 0 n (inr (omega arith)) ∙ h.blank_keys i a b;
    blank_values = λ i a b. le_put_other 4 2 bs (2 + 8 * C + 4 * i) 0 n (inr (omega arith)) ∙ h.blank_values i a b;
  },
  le_put 2 bs 0 n (omega (arith, h.long)) (let s : n < 65536 = omega (arith, h.fit) in s),
)
  where
    stays : (from i : ℕ) → 2 ≤ from → get_or (put 2 bs 0 n) (from + i) 0 ≡ get_or bs (from + i) 0
    stays from i l = get_or_put 2 bs 0 n (from + i) (λ a b. omega arith)

    same_rows : first_rows C (put 2 bs 0 n) n ≡ first_rows C bs n
    same_rows =
        unfold first_rows in
        ap₂ pairs (fields_shift 8 n (put 2 bs 0 n) bs 2 2 (λ i l. stays 2 i (omega arith)))
        (fields_shift 4 n (put 2 bs 0 n) bs (2 + 8 * C) (2 + 8 * C) (λ i l. stays (2 + 8 * C) i (omega arith)))
