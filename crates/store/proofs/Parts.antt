-- One partition's bytes, written to a store: that partition has them, and every other byte is as it was. A store is its head and its
-- partitions.
use mathlib.Core.List.{List, [], ◌∷◌, ◌++◌}
use mathlib.Core.Logic.{◌⊎◌, inl, inr, ⊎_elim, ◌≢◌}
use mathlib.Core.Path.{◌≡◌, refl, sym, ap, ap₂, ◌∙◌}
use Prim.Native.Nat.{ℕ, zero, suc, ◌+◌, ◌-◌, ◌*◌, ◌/◌, ◌%◌, ◌≤◌, ◌<◌}
use native.Mathlib.Decide.{dec_lt}
use native.Mathlib.Omega.{arith}
use native.Mathlib.Nat.{add-zero, mul-zero, mul-add, mul-le-mul_left, mul_left_comm, div-add-mod', div-lt_iff_lt-mul, mod-lt}
use lib.ListN.{length, get_or, take, drop, set, length-take, length-drop, length-set, take-append-drop}
use lib.Seq.{sets, length-sets, take_at, drop_at, length-take-le, take_all, take-suc, drop-drop}
use lib.Seq.{get_or-set_same, get_or-set_other, get_or-take, get_or-drop, ext_get_or}
use Rattle.words.specs.Words.{Apart}
use Rattle.store.specs.Layout.{keys_from, values_from, store_length, used_at}
use Rattle.store.proofs.Lists.{before}
use Rattle.store.specs.Parts.{keys_at, values_at, piece, bytes_in, with_part}

-- ---- a run of stores

pub sets_out : (bs l : List ℕ) (at j : ℕ) → Apart j 1 at (length bs) → get_or (sets l at bs) j 0 ≡ get_or l j 0
sets_out [] l at j h = refl
sets_out (b ∷ bs) l at j h =
    sets_out bs (set l at b) (suc at) j (⊎_elim (λ a. inl (omega arith)) (λ a. inr (omega arith)) h)
    ∙ get_or-set_other l at j b 0 (λ e. ⊎_elim (λ a. omega arith) (λ a. omega arith) h)

pub sets_in : (bs l : List ℕ) (at i : ℕ) → at + length bs ≤ length l → i < length bs → get_or (sets l at bs) (at + i) 0 ≡ get_or bs i 0
sets_in [] l at i h k = absurd (omega arith)
sets_in (b ∷ bs) l at zero h k =
    let e : at + 0 ≡ at = omega arith in
    rw e (sets_out bs (set l at b) (suc at) at (inl (omega arith)) ∙ get_or-set_same l at b 0 (omega arith))
sets_in (b ∷ bs) l at (suc i) h k =
    let e : at + suc i ≡ suc at + i = omega arith in
    rw e (sets_in bs (set l at b) (suc at) i (omega (arith, length-set l at b)) (omega arith))

piece_length : (n at : ℕ) (l : List ℕ) → at + n ≤ length l → length (piece n at l) ≡ n
piece_length n at l h = simp (length-take, length-drop) (omega arith)

-- what was written there
pub piece_same : (bs l : List ℕ) (at n : ℕ) → length bs ≡ n → at + n ≤ length l → piece n at (sets l at bs) ≡ bs
piece_same bs l at n e h =
    ext_get_or 0 _ _
    (omega (arith, piece_length n at (sets l at bs) (omega (arith, length-sets l at bs))))
    (λ i k. let s : i < n = omega (arith, piece_length n at (sets l at bs) (omega (arith, length-sets l at bs))) in
    get_or-take n (drop at (sets l at bs)) i 0 s ∙ get_or-drop at (sets l at bs) i 0 ∙ sets_in bs l at i (omega arith) (omega arith))

-- what was written elsewhere
pub piece_apart : (bs l : List ℕ) (at a n : ℕ) → Apart a n at (length bs) → a + n ≤ length l → piece n a (sets l at bs) ≡ piece n a l
piece_apart bs l at a n d h =
    ext_get_or 0 _ _
    (omega (arith, piece_length n a (sets l at bs) (omega (arith, length-sets l at bs)), piece_length n a l h))
    (λ i k. let s : i < n = omega (arith, piece_length n a (sets l at bs) (omega (arith, length-sets l at bs))) in
    get_or-take n (drop a (sets l at bs)) i 0 s ∙ get_or-drop a (sets l at bs) i 0
    ∙ sets_out bs l at (a + i) (⊎_elim (λ x. inl (omega arith)) (λ x. inr (omega arith)) d)
    ∙ sym (get_or-drop a l i 0) ∙ sym (get_or-take n (drop a l) i 0 s))

-- ---- a partition

module _ (P C p : ℕ) (l : p ≤ P) where
  -- its three ranges follow each other and fit
  pub keys_fit : keys_at P C p + 8 * C ≤ values_from P C
  keys_fit = omega (arith, before C {p = p} {q = P + 1} (omega arith))

  pub values_fit : values_at P C p + 4 * C ≤ store_length P C
  values_fit = omega (arith, before C {p = p} {q = P + 1} (omega arith))

-- three runs of stores
module _ (xs b₁ b₂ b₃ : List ℕ) (u k v : ℕ) where
  abbrev two : List ℕ
  two = sets (sets xs u b₁) k b₂

  abbrev three : List ℕ
  three = sets (sets (sets xs u b₁) k b₂) v b₃

  two_long : length two ≡ length xs
  two_long = length-sets (sets xs u b₁) k b₂ ∙ length-sets xs u b₁

  three_long : length three ≡ length xs
  three_long = length-sets two v b₃ ∙ two_long

  three_apart : (n a : ℕ) → Apart a n u (length b₁) → Apart a n k (length b₂) → Apart a n v (length b₃) → a + n ≤ length xs →
      piece n a three ≡ piece n a xs
  three_apart n a d₁ d₂ d₃ h =
      piece_apart b₃ two v a n d₃ (omega (arith, two_long)) ∙ piece_apart b₂ (sets xs u b₁) k a n d₂ (omega (arith, length-sets xs u b₁))
      ∙ piece_apart b₁ xs u a n d₁ h

  -- ranges in rising order
  module _ (n₁ n₂ n₃ : ℕ) (e₁ : length b₁ ≡ n₁) (e₂ : length b₂ ≡ n₂) (e₃ : length b₃ ≡ n₃) (o₁ : u + n₁ ≤ k) (o₂ : k + n₂ ≤ v)
      (o₃ : v + n₃ ≤ length xs) where
    three_first : piece n₁ u three ≡ b₁
    three_first =
        piece_apart b₃ two v u n₁ (inl (omega arith)) (omega (arith, two_long))
        ∙ piece_apart b₂ (sets xs u b₁) k u n₁ (inl (omega arith)) (omega (arith, length-sets xs u b₁))
        ∙ piece_same b₁ xs u n₁ e₁ (omega arith)

    three_second : piece n₂ k three ≡ b₂
    three_second = piece_apart b₃ two v k n₂ (inl (omega arith)) (omega (arith, two_long))
        ∙ piece_same b₂ (sets xs u b₁) k n₂ e₂ (omega (arith, length-sets xs u b₁))

    three_third : piece n₃ v three ≡ b₃
    three_third = piece_same b₃ two v n₃ e₃ (omega (arith, two_long))

-- another partition's n bytes at each row are others
either_side : (C p q w : ℕ) → q ≢ p → (w * (q * C) + w * C ≤ w * (p * C)) ⊎ (w * (p * C) + w * C ≤ w * (q * C))
either_side C p q w n = go (dec_lt q p)
  where
    go : Dec (q < p) → (w * (q * C) + w * C ≤ w * (p * C)) ⊎ (w * (p * C) + w * C ≤ w * (q * C))
    go (yes h) = inl (omega (arith, mul-add w (q * C) C, mul-le-mul_left w (before C {p = q} {q = p} h)))
    go (no h) = inr (omega (arith, mul-add w (p * C) C, mul-le-mul_left w (before C {p = p} {q = q} (omega arith))))

module _ (P C p : ℕ) (bs xs : List ℕ) (l : p ≤ P) (long : length bs ≡ 2 + 12 * C) (size : length xs ≡ store_length P C) where
  abbrev b₁ : List ℕ
  b₁ = take 2 bs

  abbrev b₂ : List ℕ
  b₂ = take (8 * C) (drop 2 bs)

  abbrev b₃ : List ℕ
  b₃ = take (4 * C) (drop (8 * C) (drop 2 bs))

  len₁ : length b₁ ≡ 2
  len₁ = simp length-take (omega arith)

  len₂ : length b₂ ≡ 8 * C
  len₂ = simp (length-take, length-drop) (omega arith)

  len₃ : length b₃ ≡ 4 * C
  len₃ = simp (length-take, length-drop) (omega arith)

  pub length_with : length (with_part P C p bs xs) ≡ length xs
  unfolding with_part
  length_with = three_long xs b₁ b₂ b₃ (used_at p) (keys_at P C p) (values_at P C p)

  -- the partition has the bytes
  pub with_here : bytes_in P C p (with_part P C p bs xs) ≡ bs
  unfolding with_part bytes_in
  with_here =
      let o₁ : used_at p + 2 ≤ keys_at P C p = omega arith in
      let o₂ : keys_at P C p + 8 * C ≤ values_at P C p = omega (arith, keys_fit P C p l) in
      let o₃ : values_at P C p + 4 * C ≤ length xs = omega (arith, values_fit P C p l) in
      ap₂ ◌++◌ (three_first xs b₁ b₂ b₃ (used_at p) (keys_at P C p) (values_at P C p) 2 (8 * C) (4 * C) len₁ len₂ len₃ o₁ o₂ o₃)
      (ap₂ ◌++◌ (three_second xs b₁ b₂ b₃ (used_at p) (keys_at P C p) (values_at P C p) 2 (8 * C) (4 * C) len₁ len₂ len₃ o₁ o₂ o₃)
      (three_third xs b₁ b₂ b₃ (used_at p) (keys_at P C p) (values_at P C p) 2 (8 * C) (4 * C) len₁ len₂ len₃ o₁ o₂ o₃
      ∙ take_all (4 * C) (drop (8 * C) (drop 2 bs)) (simp length-drop (omega arith)))
      ∙ take-append-drop (8 * C) (drop 2 bs))
      ∙ take-append-drop 2 bs

  -- every other one is as it was
  pub with_there : (q : ℕ) → q ≤ P → q ≢ p → bytes_in P C q (with_part P C p bs xs) ≡ bytes_in P C q xs
  unfolding with_part bytes_in
  with_there q h n =
      let k₁ = keys_fit P C p l in
      let k₂ = keys_fit P C q h in
      let v₁ = values_fit P C p l in
      let v₂ = values_fit P C q h in
      ap₂ ◌++◌ (three_apart xs b₁ b₂ b₃ (used_at p) (keys_at P C p) (values_at P C p) 2 (used_at q) (go (dec_lt q p)) (inl (omega arith))
      (inl (omega arith)) (omega arith))
      (ap₂ ◌++◌
      (three_apart xs b₁ b₂ b₃ (used_at p) (keys_at P C p) (values_at P C p) (8 * C) (keys_at P C q) (inr (omega (arith, len₁)))
      (⊎_elim (λ x. inl (omega arith)) (λ x. inr (omega (arith, len₂))) (either_side C p q 8 n)) (inl (omega arith)) (omega arith))
      (three_apart xs b₁ b₂ b₃ (used_at p) (keys_at P C p) (values_at P C p) (4 * C) (values_at P C q) (inr (omega (arith, len₁)))
      (inr (omega (arith, len₂))) (⊎_elim (λ x. inl (omega arith)) (λ x. inr (omega (arith, len₃))) (either_side C p q 4 n))
      (omega arith)))
    where
      go : Dec (q < p) → Apart (used_at q) 2 (used_at p) (length b₁)
      go (yes x) = inl (omega arith)
      go (no x) = inr (omega (arith, len₁))

  -- and so is the head
  pub with_head : (j : ℕ) → j < 3 → get_or (with_part P C p bs xs) j 0 ≡ get_or xs j 0
  unfolding with_part
  with_head j h =
      sets_out b₃ (sets (sets xs (used_at p) b₁) (keys_at P C p) b₂) (values_at P C p) j (inl (omega arith))
      ∙ sets_out b₂ (sets xs (used_at p) b₁) (keys_at P C p) j (inl (omega arith))
      ∙ sets_out b₁ xs (used_at p) j (inl (omega arith))

-- ---- a store is its head and its partitions

piece_at : (n a i : ℕ) (xs : List ℕ) → i < n → get_or xs (a + i) 0 ≡ get_or (piece n a xs) i 0
piece_at n a i xs h = sym (get_or-drop a xs i 0) ∙ sym (get_or-take n (drop a xs) i 0 h)

-- place j of an array of P + 1 parts of n each is one of them and a place in it
pub record InPart (P n j : ℕ) : Type 0 where
  pub part : ℕ
  pub off : ℕ
  pub low : part ≤ P
  pub inside : off < n
  pub is : j ≡ part * n + off

-- parts in which there is a place are not empty
some : (m n j : ℕ) → j < m * n → 0 < n
some m zero j h = absurd (omega (arith, h, mul-zero m))
some m (suc n) j h = omega arith

in_part : (P n j : ℕ) → j < (P + 1) * n → InPart P n j
in_part P n j h =
    let z = some (P + 1) n j h in
    record { part = j / n; off = j % n; low = omega (arith, (div-lt_iff_lt-mul z).1 h); inside = mod-lt j z; is = sym (div-add-mod' j n) }

module _ (P C : ℕ) (xs ys : List ℕ) (sx : length xs ≡ store_length P C) (sy : length ys ≡ store_length P C) where
  -- equal bytes of a partition are an equal used count, equal keys and equal values
  module _ (p : ℕ) (l : p ≤ P) (e : bytes_in P C p xs ≡ bytes_in P C p ys) where
    abbrev keys_of : List ℕ → List ℕ
    keys_of zs = piece (8 * C) (keys_at P C p) zs

    abbrev values_of : List ℕ → List ℕ
    values_of zs = piece (4 * C) (values_at P C p) zs

    used_long : (zs : List ℕ) → length zs ≡ store_length P C → length (piece 2 (used_at p) zs) ≡ 2
    used_long zs h = piece_length 2 (used_at p) zs (omega arith)

    keys_long : (zs : List ℕ) → length zs ≡ store_length P C → length (keys_of zs) ≡ 8 * C
    keys_long zs h = piece_length (8 * C) (keys_at P C p) zs (omega (arith, keys_fit P C p l))

    same_used : piece 2 (used_at p) xs ≡ piece 2 (used_at p) ys
    unfolding bytes_in
    same_used =
        sym (take_at (piece 2 (used_at p) xs) _ 2 (used_long xs sx)) ∙ ap (take 2) e ∙ take_at (piece 2 (used_at p) ys) _ 2 (used_long ys sy)

    same_rows : keys_of xs ++ values_of xs ≡ keys_of ys ++ values_of ys
    unfolding bytes_in
    same_rows =
        sym (drop_at (piece 2 (used_at p) xs) _ 2 (used_long xs sx)) ∙ ap (drop 2) e ∙ drop_at (piece 2 (used_at p) ys) _ 2 (used_long ys sy)

    same_keys : keys_of xs ≡ keys_of ys
    same_keys =
        sym (take_at (keys_of xs) (values_of xs) (8 * C) (keys_long xs sx)) ∙ ap (take (8 * C)) same_rows
        ∙ take_at (keys_of ys) (values_of ys) (8 * C) (keys_long ys sy)

    same_values : values_of xs ≡ values_of ys
    same_values =
        sym (drop_at (keys_of xs) (values_of xs) (8 * C) (keys_long xs sx)) ∙ ap (drop (8 * C)) same_rows
        ∙ drop_at (keys_of ys) (values_of ys) (8 * C) (keys_long ys sy)

  -- Stores with the same head and the same bytes in every partition are the same.
  pub same_parts : ((j : ℕ) → j < 3 → get_or xs j 0 ≡ get_or ys j 0) → ((p : ℕ) → p ≤ P → bytes_in P C p xs ≡ bytes_in P C p ys) → xs ≡ ys
  same_parts head parts = ext_get_or 0 xs ys (sx ∙ sym sy) (λ j h. go j h (dec_lt j 3) (dec_lt j (keys_from P)) (dec_lt j (values_from P C)))
    where
      one : (n a i j : ℕ) → j ≡ a + i → i < n → piece n a xs ≡ piece n a ys → get_or xs j 0 ≡ get_or ys j 0
      one n a i j e h q = rw e (piece_at n a i xs h ∙ ap (λ (t : List ℕ). get_or t i 0) q ∙ sym (piece_at n a i ys h))

      in_used : (j : ℕ) → 3 ≤ j → InPart P 2 (j - 3) → get_or xs j 0 ≡ get_or ys j 0
      in_used j h w =
          one 2 (used_at w.part) w.off j (omega (arith, w.is)) w.inside (same_used w.part w.low (parts w.part w.low))

      in_keys : (j : ℕ) → keys_from P ≤ j → InPart P (8 * C) (j - keys_from P) → get_or xs j 0 ≡ get_or ys j 0
      in_keys j h w =
          one (8 * C) (keys_at P C w.part) w.off j (omega (arith, w.is, mul_left_comm w.part 8 C)) w.inside
          (same_keys w.part w.low (parts w.part w.low))

      in_values : (j : ℕ) → values_from P C ≤ j → InPart P (4 * C) (j - values_from P C) → get_or xs j 0 ≡ get_or ys j 0
      in_values j h w =
          one (4 * C) (values_at P C w.part) w.off j (omega (arith, w.is, mul_left_comm w.part 4 C)) w.inside
          (same_values w.part w.low (parts w.part w.low))

      go : (j : ℕ) → j < length xs → Dec (j < 3) → Dec (j < keys_from P) → Dec (j < values_from P C) → get_or xs j 0 ≡ get_or ys j 0
      go j h (yes a) b d = head j a
      go j h (no a) (yes b) d = in_used j (omega arith) (in_part P 2 (j - 3) (omega arith))
      go j h (no a) (no b) (yes d) =
          in_keys j (omega arith) (in_part P (8 * C) (j - keys_from P) (omega (arith, mul_left_comm (P + 1) 8 C)))
      go j h (no a) (no b) (no d) =
          in_values j (omega arith) (in_part P (4 * C) (j - values_from P C) (omega (arith, mul_left_comm (P + 1) 4 C)))

-- ---- a copy, byte by byte

sets_snoc : (bs l : List ℕ) (at b : ℕ) → set (sets l at bs) (at + length bs) b ≡ sets l at (bs ++ b ∷ [])
sets_snoc [] l at b = ap (λ (k : ℕ). set l k b) (add-zero at)
sets_snoc (x ∷ bs) l at b =
    let e : at + suc (length bs) ≡ suc at + length bs = omega arith in
    ap (λ (k : ℕ). set (sets (set l at x) (suc at) bs) k b) e ∙ sets_snoc bs (set l at x) (suc at) b

-- one byte more
pub copy_more : (to from : List ℕ) (at start i : ℕ) → start + i < length from →
    set (sets to at (piece i start from)) (at + i) (get_or from (start + i) 0) ≡ sets to at (piece (i + 1) start from)
copy_more to from at start i h =
    let e : i + 1 ≡ suc i = omega arith in
    let k : i < length (drop start from) = simp length-drop (omega arith) in
    ap₂ (λ (n b : ℕ). set (sets to at (piece i start from)) (at + n) b) (sym (length-take-le i (drop start from) (omega arith)))
    (sym (get_or-drop start from i 0))
    ∙ sets_snoc (piece i start from) to at (get_or (drop start from) i 0)
    ∙ ap (sets to at) (sym (take-suc (drop start from) i 0 k) ∙ ap (λ (n : ℕ). take n (drop start from)) (sym e))

-- three copies are a partition's bytes
pub part_copied : (P C p : ℕ) (bs xs : List ℕ) (c u k v a : ℕ) → c ≡ C → u ≡ used_at p → k ≡ keys_at P C p → v ≡ values_at P C p →
    a ≡ 2 + 8 * c →
    sets (sets (sets xs u (piece 2 0 bs)) k (piece (8 * c) 2 bs)) v (piece (4 * c) a bs) ≡ with_part P C p bs xs
unfolding with_part
part_copied P C p bs xs c u k v a ec eu ek ev ea =
    let e : a ≡ 2 + 8 * C = omega (arith, ec, ea) in
    rw (ec, eu, ek, ev, e)
    (ap (λ (l : List ℕ). sets (sets (sets xs (used_at p) (take 2 bs)) (keys_at P C p) (take (8 * C) (drop 2 bs))) (values_at P C p)
    (take (4 * C) l)) (sym (drop-drop (8 * C) 2 bs)))
