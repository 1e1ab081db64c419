-- The rows of a store by its partitions' bytes, and question 11 by them: a change of one partition's bytes is a change of its rows, and
-- question 11 of it is that of the new bytes, wherever they lie.
use mathlib.Core.Bool.{Bool}
use mathlib.Core.List.{List, ◌∷◌, ◌++◌}
use mathlib.Core.Logic.{◌≢◌}
use mathlib.Core.Path.{◌≡◌, refl, sym, ap, ap₂, subst, ◌∙◌}
use Prim.Native.Nat.{ℕ, zero, suc, ◌+◌, ◌-◌, ◌*◌, ◌≤◌, ◌<◌}
use native.Mathlib.Decide.{dec_le, ℕ_discrete}
use native.Mathlib.Nat.{suc-mul, add-zero}
use native.Mathlib.Omega.{arith}
use borrow.Author.Tests.{lt-leb}
use lib.Dec.{eqb}
use lib.ListN.{length, get_or, drop, length-take, length-drop, get_or-append}
use lib.Seq.{get_or-take, get_or-drop, get_or-append-add}
use Rattle.words.specs.Words as Words
use Rattle.words.specs.Words.{le, fields}
use Rattle.words.proofs.Laws.{le_same}
use Rattle.questions.specs.Basics.{each_from}
use Rattle.store.specs.Layout.{parts_of, cap_of, store_length, keys_from, values_from, used_at, key_at, value_at, used_of}
use Rattle.store.specs.Rows.{Row, pairs, rows_of, store_of, alter}
use Rattle.store.specs.Questions.{blank_row, part_ok_at, part_ok_by}
use Rattle.store.specs.Sound.{Dimensions, Filled, Formed, Changed}
use Rattle.store.proofs.Bytes.{used_here, used_past, past_rows}
use Rattle.store.proofs.Lists.{altered}
use Rattle.store.specs.Parts.{keys_at, values_at, piece, part_size, bytes_in, with_part, used_held, first_rows, rows_held, Holds}
use Rattle.store.proofs.Parts.{keys_fit, values_fit, length_with, with_here, with_there, with_head}

-- 11 of a partition's bytes by themselves
abbrev pub part_ok_held : (keys : Bool → List ℕ → Bool) → (book : Bool) → (C : ℕ) → (bs : List ℕ) → Bool
part_ok_held keys b C bs = part_ok_at keys b bs C (used_held bs) 2 (2 + 8 * C)

-- ---- the same bytes at other places

pub le_shift : (w : ℕ) (xs ys : List ℕ) (at to : ℕ) → ((i : ℕ) → i < w → get_or xs (at + i) 0 ≡ get_or ys (to + i) 0) → le w xs at ≡ le w ys to
unfolding Words.le
le_shift zero xs ys at to h = refl
le_shift (suc w) xs ys at to h =
    ap₂ (λ (a b : ℕ). a + 256 * b)
    (ap (λ (i : ℕ). get_or xs i 0) (sym (add-zero at)) ∙ h 0 (omega arith) ∙ ap (λ (i : ℕ). get_or ys i 0) (add-zero to))
    (le_shift w xs ys (at + 1) (to + 1)
    (λ i l. ap (λ (j : ℕ). get_or xs j 0) (one at i) ∙ h (suc i) (omega arith) ∙ ap (λ (j : ℕ). get_or ys j 0) (sym (one to i))))
  where
    one : (a i : ℕ) → a + 1 + i ≡ a + suc i
    one a i = omega arith

pub fields_shift : (w n : ℕ) (xs ys : List ℕ) (at to : ℕ) → ((i : ℕ) → i < n * w → get_or xs (at + i) 0 ≡ get_or ys (to + i) 0) →
    fields w xs at n ≡ fields w ys to n
unfolding Words.fields
fields_shift w zero xs ys at to h = refl
fields_shift w (suc n) xs ys at to h =
    ap₂ ◌∷◌ (le_shift w xs ys at to (λ i l. h i (omega (arith, suc-mul n w))))
    (fields_shift w n xs ys (at + w) (to + w)
    (λ i l. ap (λ (j : ℕ). get_or xs j 0) (more at i) ∙ h (w + i) (omega (arith, suc-mul n w))
    ∙ ap (λ (j : ℕ). get_or ys j 0) (sym (more to i))))
  where
    more : (a i : ℕ) → a + w + i ≡ a + (w + i)
    more a i = omega arith

sum : (a b c : ℕ) → a + b + c ≡ a + (b + c)
sum a b c = omega arith

-- ---- question 11 goes by the bytes of a partition, wherever they lie

each_same : (f g : ℕ → Bool) (m i : ℕ) → ((j : ℕ) → j < i + m → f j ≡ g j) → each_from f m i ≡ each_from g m i
unfolding each_from
each_same f g zero i h = refl
each_same f g (suc m) i h = rw (h i (omega arith), each_same f g m (i + 1) (λ j l. h j (omega arith))) refl

module _ (xs ys : List ℕ) (C k v k' v' : ℕ) (hk : (i : ℕ) → i < 8 * C → get_or xs (k + i) 0 ≡ get_or ys (k' + i) 0)
    (hv : (i : ℕ) → i < 4 * C → get_or xs (v + i) 0 ≡ get_or ys (v' + i) 0) where
  same_key : (i : ℕ) → i < C → le 8 xs (k + 8 * i) ≡ le 8 ys (k' + 8 * i)
  same_key i h =
      le_shift 8 xs ys (k + 8 * i) (k' + 8 * i)
      (λ j l. ap (λ (m : ℕ). get_or xs m 0) (sum k (8 * i) j) ∙ hk (8 * i + j) (omega arith)
      ∙ ap (λ (m : ℕ). get_or ys m 0) (sym (sum k' (8 * i) j)))

  same_value : (i : ℕ) → i < C → le 4 xs (v + 4 * i) ≡ le 4 ys (v' + 4 * i)
  same_value i h =
      le_shift 4 xs ys (v + 4 * i) (v' + 4 * i)
      (λ j l. ap (λ (m : ℕ). get_or xs m 0) (sum v (4 * i) j) ∙ hv (4 * i + j) (omega arith)
      ∙ ap (λ (m : ℕ). get_or ys m 0) (sym (sum v' (4 * i) j)))

  same_blank : (i : ℕ) → i < C → blank_row xs k v i ≡ blank_row ys k' v' i
  unfolding blank_row
  same_blank i h = rw (same_key i h, same_value i h) refl

  pub part_elsewhere : (keys : Bool → List ℕ → Bool) (b : Bool) (n : ℕ) → part_ok_at keys b xs C n k v ≡ part_ok_at keys b ys C n k' v'
  unfolding part_ok_at
  part_elsewhere keys b n = go (dec_le n C)
    where
      go : Dec (n ≤ C) → part_ok_at keys b xs C n k v ≡ part_ok_at keys b ys C n k' v'
      go (yes h) =
          let q = fields_shift 8 n xs ys k k' (λ i l. hk i (omega arith)) in
          let e = each_same (blank_row xs k v) (blank_row ys k' v') (C - n) n (λ j l. same_blank j (omega arith)) in
          rw (q, e) refl
      go (no h) = rw (lt-leb n C (omega arith)) refl

-- ---- a partition's bytes, byte by byte

module _ (P C p : ℕ) (xs : List ℕ) (l : p ≤ P) (s : length xs ≡ store_length P C) where
  abbrev a₁ : List ℕ
  a₁ = piece 2 (used_at p) xs

  abbrev a₂ : List ℕ
  a₂ = piece (8 * C) (keys_at P C p) xs

  abbrev a₃ : List ℕ
  a₃ = piece (4 * C) (values_at P C p) xs

  n₁ : length a₁ ≡ 2
  n₁ = simp (length-take, length-drop) (omega (arith, keys_fit P C p l))

  n₂ : length a₂ ≡ 8 * C
  n₂ = simp (length-take, length-drop) (omega (arith, keys_fit P C p l))

  n₃ : length a₃ ≡ 4 * C
  n₃ = simp (length-take, length-drop) (omega (arith, values_fit P C p l))

  in_piece : (n at i : ℕ) → i < n → get_or (piece n at xs) i 0 ≡ get_or xs (at + i) 0
  in_piece n at i h = get_or-take n (drop at xs) i 0 h ∙ get_or-drop at xs i 0

  at_used : (i : ℕ) → i < 2 → get_or (bytes_in P C p xs) (0 + i) 0 ≡ get_or xs (used_at p + i) 0
  unfolding bytes_in
  at_used i h =
      let z : 0 + i ≡ i = omega arith in
      ap (λ (j : ℕ). get_or (a₁ ++ (a₂ ++ a₃)) j 0) z ∙ get_or-append a₁ (a₂ ++ a₃) 0 i (omega (arith, n₁)) ∙ in_piece 2 (used_at p) i h

  at_keys : (i : ℕ) → i < 8 * C → get_or (bytes_in P C p xs) (2 + i) 0 ≡ get_or xs (keys_at P C p + i) 0
  unfolding bytes_in
  at_keys i h =
      let z : 2 + i ≡ length a₁ + i = omega (arith, n₁) in
      ap (λ (j : ℕ). get_or (a₁ ++ (a₂ ++ a₃)) j 0) z ∙ get_or-append-add a₁ (a₂ ++ a₃) i 0 ∙ get_or-append a₂ a₃ 0 i (omega (arith, n₂))
      ∙ in_piece (8 * C) (keys_at P C p) i h

  at_values : (i : ℕ) → i < 4 * C → get_or (bytes_in P C p xs) (2 + 8 * C + i) 0 ≡ get_or xs (values_at P C p + i) 0
  unfolding bytes_in
  at_values i h =
      let z : 2 + 8 * C + i ≡ length a₁ + (length a₂ + i) = omega (arith, n₁, n₂) in
      ap (λ (j : ℕ). get_or (a₁ ++ (a₂ ++ a₃)) j 0) z ∙ get_or-append-add a₁ (a₂ ++ a₃) (length a₂ + i) 0 ∙ get_or-append-add a₂ a₃ i 0
      ∙ in_piece (4 * C) (values_at P C p) i h

  pub used_by : used_held (bytes_in P C p xs) ≡ le 2 xs (used_at p)
  used_by = le_shift 2 (bytes_in P C p xs) xs 0 (used_at p) at_used

  pub keys_by : (n : ℕ) → n ≤ C → fields 8 (bytes_in P C p xs) 2 n ≡ fields 8 xs (keys_at P C p) n
  keys_by n h = fields_shift 8 n (bytes_in P C p xs) xs 2 (keys_at P C p) (λ i k. at_keys i (omega arith))

  pub values_by : (n : ℕ) → n ≤ C → fields 4 (bytes_in P C p xs) (2 + 8 * C) n ≡ fields 4 xs (values_at P C p) n
  values_by n h = fields_shift 4 n (bytes_in P C p xs) xs (2 + 8 * C) (values_at P C p) (λ i k. at_values i (omega arith))

  -- one key, one value
  pub key_by : (i : ℕ) → i < C → le 8 (bytes_in P C p xs) (2 + 8 * i) ≡ le 8 xs (keys_at P C p + 8 * i)
  key_by i h =
      le_shift 8 (bytes_in P C p xs) xs (2 + 8 * i) (keys_at P C p + 8 * i)
      (λ j k. ap (λ (m : ℕ). get_or (bytes_in P C p xs) m 0) (sum 2 (8 * i) j) ∙ at_keys (8 * i + j) (omega arith)
      ∙ ap (λ (m : ℕ). get_or xs m 0) (sym (sum (keys_at P C p) (8 * i) j)))

  pub value_by : (i : ℕ) → i < C → le 4 (bytes_in P C p xs) (2 + 8 * C + 4 * i) ≡ le 4 xs (values_at P C p + 4 * i)
  value_by i h =
      le_shift 4 (bytes_in P C p xs) xs (2 + 8 * C + 4 * i) (values_at P C p + 4 * i)
      (λ j k. ap (λ (m : ℕ). get_or (bytes_in P C p xs) m 0) (sum (2 + 8 * C) (4 * i) j) ∙ at_values (4 * i + j) (omega arith)
      ∙ ap (λ (m : ℕ). get_or xs m 0) (sym (sum (values_at P C p) (4 * i) j)))

-- The rows of a partition are those that its bytes hold.
pub rows_by : (xs : List ℕ) (p : ℕ) → Dimensions xs → p ≤ parts_of xs → used_of xs p ≤ cap_of xs →
    rows_of xs p ≡ rows_held (cap_of xs) (bytes_in (parts_of xs) (cap_of xs) p xs)
unfolding rows_of first_rows
rows_by xs p s l fit =
    let u = used_here xs p l ∙ sym (used_by (parts_of xs) (cap_of xs) p xs l s.size) in
    let n : used_held (bytes_in (parts_of xs) (cap_of xs) p xs) ≤ cap_of xs = omega (arith, u, fit) in
    let k : key_at xs p 0 ≡ keys_at (parts_of xs) (cap_of xs) p = omega arith in
    let v : value_at xs p 0 ≡ values_at (parts_of xs) (cap_of xs) p = omega arith in
    rw (u, k, v) (sym (ap₂ pairs (keys_by (parts_of xs) (cap_of xs) p xs l s.size _ n)
    (values_by (parts_of xs) (cap_of xs) p xs l s.size _ n)))

-- Question 11 of a partition is that of its bytes by themselves.
pub part_by : (keys : Bool → List ℕ → Bool) (xs : List ℕ) (p : ℕ) → Dimensions xs → p ≤ parts_of xs
    → part_ok_by keys xs p ≡ part_ok_held keys (eqb p (parts_of xs)) (cap_of xs) (bytes_in (parts_of xs) (cap_of xs) p xs)
unfolding part_ok_by
part_by keys xs p s l =
    let bs = bytes_in (parts_of xs) (cap_of xs) p xs in
    let u : used_of xs p ≡ used_held bs = used_here xs p l ∙ sym (used_by (parts_of xs) (cap_of xs) p xs l s.size) in
    let k : key_at xs p 0 ≡ keys_at (parts_of xs) (cap_of xs) p = omega arith in
    let v : value_at xs p 0 ≡ values_at (parts_of xs) (cap_of xs) p = omega arith in
    rw (u, k, v)
    (part_elsewhere xs bs (cap_of xs) _ _ _ _ (λ i h. sym (at_keys (parts_of xs) (cap_of xs) p xs l s.size i h))
    (λ i h. sym (at_values (parts_of xs) (cap_of xs) p xs l s.size i h)) keys (eqb p (parts_of xs)) (used_held bs))

-- ---- a change of a partition's bytes is one of its rows

-- P and C stand in the head
same_numbers : (xs ys : List ℕ) → ((j : ℕ) → j < 3 → get_or ys j 0 ≡ get_or xs j 0) → (parts_of ys ≡ parts_of xs) × (cap_of ys ≡ cap_of xs)
same_numbers xs ys h = (le_same 1 ys xs 0 (λ j a b. h j (omega arith)), le_same 2 ys xs 1 (λ j a b. h j (omega arith)))

same_shape : (xs ys : List ℕ) → ((j : ℕ) → j < 3 → get_or ys j 0 ≡ get_or xs j 0) → length ys ≡ length xs → Dimensions xs → Dimensions ys
same_shape xs ys h l s =
    let e = same_numbers xs ys h in
    record {
      parts_low = omega (arith, e.0, s.parts_low);
      parts_high = omega (arith, e.0, s.parts_high);
      cap_low = omega (arith, e.1, s.cap_low);
      cap_high = omega (arith, e.1, s.cap_high);
      size = l ∙ s.size ∙ sym (ap₂ store_length e.0 e.1);
    }

module _ (xs : List ℕ) (p : ℕ) (bs : List ℕ) (s : Dimensions xs) (l : p ≤ parts_of xs) (long : length bs ≡ part_size (cap_of xs)) where
  abbrev P : ℕ
  P = parts_of xs

  abbrev C : ℕ
  C = cap_of xs

  abbrev ys : List ℕ
  ys = with_part P C p bs xs

  numbers : (parts_of ys ≡ P) × (cap_of ys ≡ C)
  numbers = same_numbers xs ys (with_head P C p bs xs l long s.size)

  size_ys : length ys ≡ store_length P C
  size_ys = length_with P C p bs xs l long s.size ∙ s.size

  pub with_shape : Dimensions ys
  with_shape = same_shape xs ys (with_head P C p bs xs l long s.size) (length_with P C p bs xs l long s.size) s

  -- p's used count and rows are those of bs
  used_new : used_of ys p ≡ used_held bs
  used_new =
      used_here ys p (omega (arith, numbers.0)) ∙ sym (used_by P C p ys l size_ys) ∙ ap used_held (with_here P C p bs xs l long s.size)

  pub rows_here : used_held bs ≤ C → rows_of ys p ≡ rows_held C bs
  rows_here fit =
      rows_by ys p with_shape (omega (arith, numbers.0)) (omega (arith, used_new, numbers.1))
      ∙ ap₂ (λ (a b : ℕ). rows_held b (bytes_in a b p ys)) numbers.0 numbers.1
      ∙ ap (rows_held C) (with_here P C p bs xs l long s.size)

  -- the others' are as they were
  used_old : (q : ℕ) → q ≢ p → used_of ys q ≡ used_of xs q
  used_old q n = go (dec_le q P)
    where
      go : Dec (q ≤ P) → used_of ys q ≡ used_of xs q
      go (yes h) =
          used_here ys q (omega (arith, numbers.0)) ∙ sym (used_by P C q ys h size_ys)
          ∙ ap used_held (with_there P C p bs xs l long s.size q h n)
          ∙ used_by P C q xs h s.size ∙ sym (used_here xs q h)
      go (no h) = used_past ys q (omega (arith, numbers.0)) ∙ sym (used_past xs q (omega arith))

  pub rows_there : (q : ℕ) → q ≢ p → ((q : ℕ) → q ≤ P → used_of xs q ≤ C) → rows_of ys q ≡ rows_of xs q
  rows_there q n fits = go (dec_le q P)
    where
      go : Dec (q ≤ P) → rows_of ys q ≡ rows_of xs q
      go (yes h) =
          rows_by ys q with_shape (omega (arith, numbers.0)) (omega (arith, used_old q n, fits q h, numbers.1))
          ∙ ap₂ (λ (a b : ℕ). rows_held b (bytes_in a b q ys)) numbers.0 numbers.1
          ∙ ap (rows_held C) (with_there P C p bs xs l long s.size q h n)
          ∙ sym (rows_by xs q s h (fits q h))
      go (no h) = past_rows ys q (omega (arith, numbers.0)) ∙ sym (past_rows xs q (omega arith))

  -- The store with p's bytes changed holds the store with p's rows changed.
  pub with_store_lem : used_held bs ≤ C → ((q : ℕ) → q ≤ P → used_of xs q ≤ C) → store_of ys ≡ alter p (λ rs. rows_held C bs) (store_of xs)
  with_store_lem fit fits =
      altered (store_of xs) (store_of ys) p (λ rs. rows_held C bs) numbers.0 numbers.1 (rows_here fit) (λ q n. rows_there q n fits)

  -- Question 11 of p is that of bs, wherever they lie, and of every other partition what it was.
  pub part_here : (keys : Bool → List ℕ → Bool) → part_ok_by keys ys p ≡ part_ok_held keys (eqb p P) C bs
  part_here keys =
      part_by keys ys p with_shape (omega (arith, numbers.0))
      ∙ ap₂ (λ (a b : ℕ). part_ok_held keys (eqb p a) b (bytes_in a b p ys)) numbers.0 numbers.1
      ∙ ap (part_ok_held keys (eqb p P) C) (with_here P C p bs xs l long s.size)

  pub part_there : (keys : Bool → List ℕ → Bool) (q : ℕ) → q ≤ P → q ≢ p → part_ok_by keys ys q ≡ part_ok_by keys xs q
  part_there keys q h n =
      part_by keys ys q with_shape (omega (arith, numbers.0))
      ∙ ap₂ (λ (a b : ℕ). part_ok_held keys (eqb q a) b (bytes_in a b q ys)) numbers.0 numbers.1
      ∙ ap (part_ok_held keys (eqb q P) C) (with_there P C p bs xs l long s.size q h n)
      ∙ sym (part_by keys xs q s h)

  key_now : (q : ℕ) → q ≤ P → (i : ℕ) → i < C → le 8 ys (key_at ys q i) ≡ le 8 (bytes_in P C q ys) (2 + 8 * i)
  key_now q h i k =
      ap (le 8 ys) (ap₂ (λ (a b : ℕ). keys_from a + 8 * (q * b + i)) numbers.0 numbers.1 ∙ omega arith)
      ∙ sym (key_by P C q ys h size_ys i k)

  value_now : (q : ℕ) → q ≤ P → (i : ℕ) → i < C → le 4 ys (value_at ys q i) ≡ le 4 (bytes_in P C q ys) (2 + 8 * C + 4 * i)
  value_now q h i k =
      ap (le 4 ys) (ap₂ (λ (a b : ℕ). values_from a b + 4 * (q * b + i)) numbers.0 numbers.1 ∙ omega arith)
      ∙ sym (value_by P C q ys h size_ys i k)

  -- p's unused rows are zero, and the others' stay so
  filled_here : (n : ℕ) (rs : List Row) → Holds C bs n rs → used_held bs ≡ n → Filled ys p
  filled_here n rs f e =
      record {
        fit = omega (arith, used_new, e, f.fit, numbers.1);
        blank_keys =
            λ i a b. key_now p l i (omega (arith, numbers.1))
            ∙ ap (λ (t : List ℕ). le 8 t (2 + 8 * i)) (with_here P C p bs xs l long s.size)
            ∙ f.blank_keys i (omega (arith, used_new, e)) (omega (arith, numbers.1));
        blank_values =
            λ i a b. value_now p l i (omega (arith, numbers.1))
            ∙ ap (λ (t : List ℕ). le 4 t (2 + 8 * C + 4 * i)) (with_here P C p bs xs l long s.size)
            ∙ f.blank_values i (omega (arith, used_new, e)) (omega (arith, numbers.1));
      }

  filled_there : (q : ℕ) → q ≤ P → q ≢ p → Filled xs q → Filled ys q
  filled_there q h n f =
      record {
        fit = omega (arith, used_old q n, f.fit, numbers.1);
        blank_keys =
            λ i a b. let k : i < C = omega (arith, numbers.1) in
            key_now q h i k ∙ ap (λ (t : List ℕ). le 8 t (2 + 8 * i)) (with_there P C p bs xs l long s.size q h n)
            ∙ key_by P C q xs h s.size i k ∙ ap (le 8 xs) (omega arith) ∙ f.blank_keys i (omega (arith, used_old q n)) k;
        blank_values =
            λ i a b. let k : i < C = omega (arith, numbers.1) in
            value_now q h i k ∙ ap (λ (t : List ℕ). le 4 t (2 + 8 * C + 4 * i)) (with_there P C p bs xs l long s.size q h n)
            ∙ value_by P C q xs h s.size i k ∙ ap (le 4 xs) (omega arith) ∙ f.blank_values i (omega (arith, used_old q n)) k;
      }

-- A partition's bytes that hold the rows rs, written to a store, make its rows rs, and change no other.
pub with_changed : (xs : List ℕ) (p : ℕ) (bs : List ℕ) (n : ℕ) (rs : List Row) → Formed xs → p ≤ parts_of xs → Holds (cap_of xs) bs n rs →
    used_held bs ≡ n → Changed xs (with_part (parts_of xs) (cap_of xs) p bs xs) p (λ old. rs)
with_changed xs p bs n rs f l h e =
    record {
      formed = record {
        shape = with_shape xs p bs f.shape l h.long;
        filled = λ q k. filled q (omega (arith, k, same)) (ℕ_discrete q p);
      };
      is =
          with_store_lem xs p bs f.shape l h.long (omega (arith, e, h.fit)) (λ q k. (f.filled q k).fit)
          ∙ ap (λ (now : List Row). alter p (λ old. now) (store_of xs)) (ap (first_rows (cap_of xs) bs) e ∙ h.rows);
    }
  where
    same : parts_of (with_part (parts_of xs) (cap_of xs) p bs xs) ≡ parts_of xs
    same = (numbers xs p bs f.shape l h.long).0

    filled : (q : ℕ) → q ≤ parts_of xs → Dec (q ≡ p) → Filled (with_part (parts_of xs) (cap_of xs) p bs xs) q
    filled q k (yes a) =
        subst (Filled (with_part (parts_of xs) (cap_of xs) p bs xs)) (sym a) (filled_here xs p bs f.shape l h.long n rs h e)
    filled q k (no a) = filled_there xs p bs f.shape l h.long q k a (f.filled q k)
