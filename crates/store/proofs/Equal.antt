-- Equal contents mean equal bytes: rows by rising key are told apart by what is found at each key, and bytes by their rows.
use mathlib.Core.Bool.{true}
use mathlib.Core.List.{List, [], ◌∷◌}
use mathlib.Core.Logic.{◌≢◌}
use mathlib.Core.Option.{Option, none, some}
use mathlib.Core.Path.{◌≡◌, refl, sym, ap, ap₂, subst, ◌∙◌}
use Prim.Native.Nat.{ℕ, zero, suc, ◌+◌, ◌-◌, ◌*◌, ◌≤◌, ◌<◌}
use native.Mathlib.Nat.{suc-mul, zero-mul}
use native.Mathlib.Omega.{arith}
use native.Mathlib.Decide.{dec_lt, ℕ_discrete}
use borrow.Author.Tests.{eq-eqb, ne_eqb}
use lib.ListN.{length, get_or}
use lib.Seq.{ext_get_or}
use Rattle.words.specs.Words.{le, fields}
use Rattle.words.proofs.Laws.{le_bytes, fields_bytes, length_fields, get_or_fields}
use Rattle.questions.proofs.Tests.{and_right}
use Rattle.store.specs.Layout.{AllBytes, parts_of, cap_of, keys_from, values_from, store_length, used_at, key_at, value_at, used_of}
use Rattle.store.specs.Rows.{Row, Store, keys_in, lookup, rows_of, store_of}
use Rattle.store.specs.Questions.{ahead, rising}
use Rattle.store.specs.Sound.{Formed}
use Rattle.store.proofs.Lists.{rises_lower, rises_none}
use Rattle.store.proofs.Bytes.{count_is, used_here, key_is, value_is}

-- ---- rows by rising key

head_found : (r : Row) (rs : List Row) → lookup r.0 (r ∷ rs) ≡ some r.1
unfolding lookup
head_found r rs = rw (eq-eqb r.0 r.0 refl) refl

past_head : (k : ℕ) (r : Row) (rs : List Row) → k ≢ r.0 → lookup k (r ∷ rs) ≡ lookup k rs
unfolding lookup
past_head k r rs n = rw (ne_eqb r.0 k (λ e. n (sym e))) refl

-- a key below the first has no row
low_none : (k : ℕ) (r : Row) (rs : List Row) → k < r.0 → rising (r.0 ∷ keys_in rs) ≡ true → lookup k (r ∷ rs) ≡ none
low_none k r rs l u = past_head k r rs (λ e. omega arith) ∙ rises_none k rs (rises_lower k r.0 rs l u)

none_some : {A : Type 0} (v : ℕ) (o : Option ℕ) → o ≡ none → o ≡ some v → A
none_some v o e f = let z : ◌≡◌ {A = ℕ} 0 1 = cc in absurd (omega arith)

pub same_rows : (rs qs : List Row) → rising (keys_in rs) ≡ true → rising (keys_in qs) ≡ true → ((k : ℕ) → lookup k rs ≡ lookup k qs) → rs ≡ qs
unfolding rising keys_in
same_rows [] [] u w h = refl
same_rows [] (q ∷ qs) u w h = none_some q.1 (lookup q.0 []) (unfold lookup in refl) (h q.0 ∙ head_found q qs)
same_rows (r ∷ rs) [] u w h = none_some r.1 (lookup r.0 []) (unfold lookup in refl) (sym (h r.0) ∙ head_found r rs)
same_rows (r ∷ rs) (q ∷ qs) u w h =
    go (same_rows rs qs (and_right (ahead r.0 (keys_in rs)) _ u) (and_right (ahead q.0 (keys_in qs)) _ w)) (dec_lt r.0 q.0)
    (dec_lt q.0 r.0)
  where
    tails : r.0 ≡ q.0 → (k : ℕ) → lookup k rs ≡ lookup k qs
    tails e k = at (ℕ_discrete k r.0)
      where
        at : Dec (k ≡ r.0) → lookup k rs ≡ lookup k qs
        at (yes a) =
            rises_none k rs (subst (λ (n : ℕ). rising (n ∷ keys_in rs) ≡ true) (sym a) u)
            ∙ sym (rises_none k qs (subst (λ (n : ℕ). rising (n ∷ keys_in qs) ≡ true) (sym (a ∙ e)) w))
        at (no n) = sym (past_head k r rs n) ∙ h k ∙ past_head k q qs (λ a. n (a ∙ sym e))

    go : (((k : ℕ) → lookup k rs ≡ lookup k qs) → rs ≡ qs) → Dec (r.0 < q.0) → Dec (q.0 < r.0) → ◌≡◌ {A = List Row} (r ∷ rs) (q ∷ qs)
    go ih (yes l) d = none_some r.1 (lookup r.0 (q ∷ qs)) (low_none r.0 q qs l w) (sym (h r.0) ∙ head_found r rs)
    go ih (no _) (yes l) = none_some q.1 (lookup q.0 (r ∷ rs)) (low_none q.0 r rs l u) (h q.0 ∙ head_found q qs)
    go ih (no a) (no b) =
        let e : r.0 ≡ q.0 = omega arith in
        let f : some r.1 ≡ some q.1 = sym (head_found r rs) ∙ h r.0 ∙ ap (λ (n : ℕ). lookup n (q ∷ qs)) e ∙ head_found q qs in
        let v : r.1 ≡ q.1 = cc in
        ap₂ ◌∷◌ (ap₂ (λ (x y : ℕ). (x, y)) e v) (ih (tails e))

-- ---- bytes

-- partition and row of an entry of the arrays
split : (C P q : ℕ) → q < (P + 1) * C → (p : ℕ) × (i : ℕ) × (p ≤ P) × (i < C) × (q ≡ p * C + i)
split C zero q h = (0, q, omega arith, omega (arith, suc-mul 0 C, zero-mul C), omega (arith, zero-mul C))
split C (suc P) q h = go (dec_lt q ((P + 1) * C)) (split C P q)
  where
    go : Dec (q < (P + 1) * C) → (q < (P + 1) * C → (p : ℕ) × (i : ℕ) × (p ≤ P) × (i < C) × (q ≡ p * C + i)) →
        (p : ℕ) × (i : ℕ) × (p ≤ suc P) × (i < C) × (q ≡ p * C + i)
    go (yes l) ih = let a = ih l in (a.0, a.1, omega (arith, a.2), a.3, a.4)
    go (no n) ih =
        let e : (P + 1) * C ≡ suc P * C = ap (λ (k : ℕ). k * C) (omega arith) in
        let f : (suc P + 1) * C ≡ suc P * C + C = ap (λ (k : ℕ). k * C) (omega arith) ∙ suc-mul (suc P) C in
        (suc P, q - (P + 1) * C, omega arith, omega (arith, e, f), omega (arith, e))

module _ (xs ys : List ℕ) (f : Formed xs) (g : Formed ys) (bx : AllBytes xs) (by : AllBytes ys) (e : store_of xs ≡ store_of ys) where
  parts_same : parts_of xs ≡ parts_of ys
  parts_same = ap (λ (st : Store). st.parts) e

  cap_same : cap_of xs ≡ cap_of ys
  cap_same = ap (λ (st : Store). st.cap) e

  rows_same : (p : ℕ) → rows_of xs p ≡ rows_of ys p
  rows_same p = ap (λ (st : Store). st.rows p) e

  used_same : (p : ℕ) → used_of xs p ≡ used_of ys p
  used_same p = sym (count_is xs p) ∙ ap length (rows_same p) ∙ count_is ys p

  key_place : (p i : ℕ) → key_at ys p i ≡ key_at xs p i
  key_place p i = ap₂ (λ (P C : ℕ). keys_from P + 8 * (p * C + i)) (sym parts_same) (sym cap_same)

  value_place : (p i : ℕ) → value_at ys p i ≡ value_at xs p i
  value_place p i = ap₂ (λ (P C : ℕ). values_from P C + 4 * (p * C + i)) (sym parts_same) (sym cap_same)

  key_same : (p i : ℕ) → p ≤ parts_of xs → i < cap_of xs → le 8 xs (key_at xs p i) ≡ le 8 ys (key_at xs p i)
  key_same p i l h = go (dec_lt i (used_of xs p))
    where
      go : Dec (i < used_of xs p) → le 8 xs (key_at xs p i) ≡ le 8 ys (key_at xs p i)
      go (yes u) =
          sym (key_is xs p i (omega (arith, count_is xs p))) ∙ ap (λ (rs : List Row). (get_or rs i (0, 0)).0) (rows_same p)
          ∙ key_is ys p i (omega (arith, count_is ys p, used_same p)) ∙ ap (le 8 ys) (key_place p i)
      go (no n) =
          (f.filled p l).blank_keys i (omega arith) h
          ∙ sym (ap (le 8 ys) (sym (key_place p i))
          ∙ (g.filled p (omega (arith, parts_same))).blank_keys i (omega (arith, used_same p)) (omega (arith, cap_same)))

  value_same : (p i : ℕ) → p ≤ parts_of xs → i < cap_of xs → le 4 xs (value_at xs p i) ≡ le 4 ys (value_at xs p i)
  value_same p i l h = go (dec_lt i (used_of xs p))
    where
      go : Dec (i < used_of xs p) → le 4 xs (value_at xs p i) ≡ le 4 ys (value_at xs p i)
      go (yes u) =
          sym (value_is xs p i (omega (arith, count_is xs p))) ∙ ap (λ (rs : List Row). (get_or rs i (0, 0)).1) (rows_same p)
          ∙ value_is ys p i (omega (arith, count_is ys p, used_same p)) ∙ ap (le 4 ys) (value_place p i)
      go (no n) =
          (f.filled p l).blank_values i (omega arith) h
          ∙ sym (ap (le 4 ys) (sym (value_place p i))
          ∙ (g.filled p (omega (arith, parts_same))).blank_values i (omega (arith, used_same p)) (omega (arith, cap_same)))

  abbrev all : ℕ
  all = (parts_of xs + 1) * cap_of xs

  used_fields : fields 2 xs 3 (parts_of xs + 1) ≡ fields 2 ys 3 (parts_of xs + 1)
  used_fields =
      ext_get_or 0 _ _ (length_fields 2 xs 3 (parts_of xs + 1) ∙ sym (length_fields 2 ys 3 (parts_of xs + 1)))
      (λ p h. let l : p ≤ parts_of xs = omega (arith, length_fields 2 xs 3 (parts_of xs + 1)) in
      get_or_fields 2 xs 3 (parts_of xs + 1) p (used_at p) (omega arith) (omega arith) ∙ sym (used_here xs p l) ∙ used_same p
      ∙ used_here ys p (omega (arith, parts_same)) ∙ sym (get_or_fields 2 ys 3 (parts_of xs + 1) p (used_at p) (omega arith) (omega arith)))

  key_fields : fields 8 xs (keys_from (parts_of xs)) all ≡ fields 8 ys (keys_from (parts_of xs)) all
  key_fields =
      ext_get_or 0 _ _ (length_fields 8 xs _ all ∙ sym (length_fields 8 ys _ all))
      (λ q h. let l : q < all = omega (arith, length_fields 8 xs (keys_from (parts_of xs)) all) in
      let s = split (cap_of xs) (parts_of xs) q l in
      get_or_fields 8 xs (keys_from (parts_of xs)) all q (key_at xs s.0 s.1) l (omega (arith, s.4)) ∙ key_same s.0 s.1 s.2 s.3
      ∙ sym (get_or_fields 8 ys (keys_from (parts_of xs)) all q (key_at xs s.0 s.1) l (omega (arith, s.4))))

  value_fields : fields 4 xs (values_from (parts_of xs) (cap_of xs)) all ≡ fields 4 ys (values_from (parts_of xs) (cap_of xs)) all
  value_fields =
      ext_get_or 0 _ _ (length_fields 4 xs _ all ∙ sym (length_fields 4 ys _ all))
      (λ q h. let l : q < all = omega (arith, length_fields 4 xs (values_from (parts_of xs) (cap_of xs)) all) in
      let s = split (cap_of xs) (parts_of xs) q l in
      get_or_fields 4 xs (values_from (parts_of xs) (cap_of xs)) all q (value_at xs s.0 s.1) l (omega (arith, s.4))
      ∙ value_same s.0 s.1 s.2 s.3
      ∙ sym (get_or_fields 4 ys (values_from (parts_of xs) (cap_of xs)) all q (value_at xs s.0 s.1) l (omega (arith, s.4))))

  -- stores that hold the same have the same bytes
  same_bytes : xs ≡ ys
  same_bytes =
      ext_get_or 0 xs ys (f.shape.size ∙ ap₂ store_length parts_same cap_same ∙ sym g.shape.size)
      (λ j h. go j h (dec_lt j 1) (dec_lt j 3) (dec_lt j (keys_from (parts_of xs))) (dec_lt j (values_from (parts_of xs) (cap_of xs))))
    where
      go : (j : ℕ) → j < length xs → Dec (j < 1) → Dec (j < 3) → Dec (j < keys_from (parts_of xs)) →
          Dec (j < values_from (parts_of xs) (cap_of xs)) → get_or xs j 0 ≡ get_or ys j 0
      go j h (yes a) b c d = le_bytes 1 xs ys 0 bx by parts_same j (omega arith) (omega arith)
      go j h (no a) (yes b) c d = le_bytes 2 xs ys 1 bx by cap_same j (omega arith) (omega arith)
      go j h (no a) (no b) (yes c) d = fields_bytes 2 (parts_of xs + 1) xs ys 3 bx by used_fields j (omega arith) (omega arith)
      go j h (no a) (no b) (no c) (yes d) = fields_bytes 8 all xs ys (keys_from (parts_of xs)) bx by key_fields j (omega arith) (omega arith)
      go j h (no a) (no b) (no c) (no d) =
          fields_bytes 4 all xs ys (values_from (parts_of xs) (cap_of xs)) bx by value_fields j (omega arith) (omega (arith, f.shape.size))

-- Stores with the same P and C whose rows are by rising key and the same by key have the same bytes.
pub equal_bytes : (xs ys : List ℕ) → Formed xs → Formed ys → AllBytes xs → AllBytes ys → parts_of xs ≡ parts_of ys → cap_of xs ≡ cap_of ys
    → ((p : ℕ) → rows_of xs p ≡ rows_of ys p) → xs ≡ ys
equal_bytes xs ys f g bx by ep ec er = same_bytes xs ys f g bx by (λ i. record { parts = ep i; cap = ec i; rows = λ p. er p i })
