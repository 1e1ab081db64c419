-- The bytes of the library's `from_le_bytes` and `to_le_bytes`, as numbers of w bytes.
use Rattle.std.proofs.Common.{ℕ, zero, suc, ◌≡◌, ◌+◌, ◌/◌, ◌%◌, ◌^◌, ◌-◌, ◌≤◌, ◌<◌, List, [], ◌∷◌, ◌++◌, length, arith, add-one, drop-drop, append_assoc}
use mathlib.Core.Path.{refl, ap, ◌∙◌}
use native.Mathlib.Nat.{pow-succ', div-div-eq-div-mul}
use lib.ListN.{get_or, set, take, drop, length-take, length-drop, get_or-append}
use lib.Seq.{get_or-take, get_or-drop, get_or-append_right, sets, sets-eq}
use lib.ListN.{replicate}
use Rattle.std.specs.Int.{from_le_bytes, to_le_bytes, w64}
use borrow.Rule.Slice.PartMut.{put_mid}
use Rattle.words.specs.Words.{le, put}
use Rattle.words.proofs.Laws.{le_zero}

-- ---- read

-- w bytes hold a number below 256 ^ w
pub le_below : (w : ℕ) (xs : List ℕ) (at : ℕ) → ((j : ℕ) → get_or xs j 0 < 256) → le w xs at < 256 ^ w
unfolding le
le_below zero xs at h = omega arith
le_below (suc w) xs at h = omega (arith, h at, le_below w xs (at + 1) h, pow-succ' 256 w)

-- m bytes hold the number of the w bytes that they begin with, where zeros stand behind these
le_behind : (w m : ℕ) (xs ys : List ℕ) (at from : ℕ) → w ≤ m
    → ((i j : ℕ) → at ≤ i → i < at + w → j + at ≡ i + from → get_or ys j 0 ≡ get_or xs i 0)
    → ((j : ℕ) → from + w ≤ j → get_or ys j 0 ≡ 0)
    → le m ys from ≡ le w xs at
unfolding le
le_behind zero m xs ys at from l same none = le_zero m ys from (λ j q. none j (omega arith))
le_behind (suc w) zero xs ys at from l same none = absurd (omega arith)
le_behind (suc w) (suc m) xs ys at from l same none =
    let first : get_or ys from 0 ≡ get_or xs at 0 = same at from (omega arith) (omega arith) (omega arith) in
    let rest : le m ys (from + 1) ≡ le w xs (at + 1) =
    le_behind w m xs ys (at + 1) (from + 1) (omega arith)
    (λ i j p q e. same i j (omega arith) (omega arith) (omega arith))
    (λ j p. none j (omega arith)) in
    rw (first, rest) refl

eight : (xs : List ℕ) → from_le_bytes w64 xs ≡ le 8 xs 0
unfolding le
eight xs = omega arith

-- the library's number of 8 bytes that begin with w of xs, with zeros behind them
pub from_part : (w : ℕ) (xs : List ℕ) (at : ℕ) → w ≤ 8 → at + w ≤ length xs →
    from_le_bytes w64 (take w (drop at xs) ++ drop w (replicate 8 0)) ≡ le w xs at
from_part w xs at h l =
    eight (take w (drop at xs) ++ drop w (replicate 8 0))
    ∙ le_behind w 8 xs (take w (drop at xs) ++ drop w (replicate 8 0)) at 0 h same none
  where
    long : length (take w (drop at xs)) ≡ w
    long = simp (length-take, length-drop) (omega arith)

    same : (i j : ℕ) → at ≤ i → i < at + w → j + at ≡ i + 0 → get_or (take w (drop at xs) ++ drop w (replicate 8 0)) j 0 ≡ get_or xs i 0
    same i j p q e =
        get_or-append (take w (drop at xs)) (drop w (replicate 8 0)) 0 j (omega (arith, long))
        ∙ get_or-take w (drop at xs) j 0 (omega arith)
        ∙ get_or-drop at xs j 0
        ∙ ap (λ (n : ℕ). get_or xs n 0) (omega arith)

    zeros : (n j : ℕ) → get_or (replicate {A = ℕ} n 0) j 0 ≡ 0
    zeros zero j = refl
    zeros (suc n) zero = refl
    zeros (suc n) (suc j) = zeros n j

    none : (j : ℕ) → 0 + w ≤ j → get_or (take w (drop at xs) ++ drop w (replicate 8 0)) j 0 ≡ 0
    none j p =
        get_or-append_right (take w (drop at xs)) (drop w (replicate 8 0)) j 0 (omega (arith, long))
        ∙ get_or-drop w (replicate 8 0) (j - length (take w (drop at xs))) 0
        ∙ zeros 8 (w + (j - length (take w (drop at xs))))

-- ---- write

-- the w low bytes of x, the lowest first
abbrev bytes : (w x : ℕ) → List ℕ
bytes zero x = []
bytes (suc w) x = x % 256 ∷ bytes w (x / 256)

length_bytes : (w x : ℕ) → length (bytes w x) ≡ w
length_bytes zero x = refl
length_bytes (suc w) x = ap suc (length_bytes w (x / 256))

take_bytes : (w n x : ℕ) → w ≤ n → take w (bytes n x) ≡ bytes w x
take_bytes zero n x l = refl
take_bytes (suc w) zero x l = absurd (omega arith)
take_bytes (suc w) (suc n) x l = ap (λ (t : List ℕ). x % 256 ∷ t) (take_bytes w n (x / 256) (omega arith))

put_bytes : (w : ℕ) (xs : List ℕ) (at x : ℕ) → put w xs at x ≡ sets xs at (bytes w x)
unfolding put
put_bytes zero xs at x = refl
put_bytes (suc w) xs at x =
    put_bytes w (set xs at (x % 256)) (at + 1) (x / 256)
    ∙ ap (λ (n : ℕ). sets (set xs at (x % 256)) n (bytes w (x / 256))) (add-one at)

eight_bytes : (x : ℕ) → to_le_bytes w64 x ≡ bytes 8 x
eight_bytes x = simp div-div-eq-div-mul

-- the w first of the library's 8 bytes of x, put in the place of the k from `at` on
pub put_part : (w k : ℕ) (xs : List ℕ) (at x : ℕ) → w ≤ 8 → k ≡ w → at + w ≤ length xs →
    put_mid at k xs (take w (to_le_bytes w64 x)) ≡ put w xs at x
put_part w k xs at x h e l =
    let t : take w (to_le_bytes w64 x) ≡ bytes w x = rw (eight_bytes x) (take_bytes w 8 x h) in
    let n = length_bytes w x in
    let s = sets-eq (bytes w x) xs at (omega arith) in
    rw (put_bytes w xs at x, s, t, e, n, drop-drop, append_assoc) refl
