-- Laws of numbers in bytes, each once over the width. A law takes a place as a number with an equation, as `at ≡ from + i * w`, so that a
-- caller writes the place as its code does.
use mathlib.Core.Path.{◌≡◌, refl, sym, ap, ap₂, subst, ◌∙◌}
use mathlib.Core.List.{List, ◌∷◌}
use mathlib.Core.Logic.{inl, inr, ⊎_elim}
use Prim.Native.Nat.{ℕ, zero, suc, ◌+◌, ◌*◌, ◌/◌, ◌%◌, ◌^◌, ◌≤◌, ◌<◌}
use native.Mathlib.Nat.{zero-mul, suc-mul, add-mul, pow-suc, pow-succ', one-le-pow, not-suc-le-zero}
use native.Mathlib.Decide.{ℕ_discrete, dec_lt}
use native.Mathlib.Omega.{arith}
use lib.Arith.{mod-mul}
use lib.ListN.{length, get_or, set, take, drop, length-set, length-take, length-drop}
use lib.Seq.{get_or-set_same, get_or-set_other, get_or-take, get_or-drop, ext_get_or}
use Rattle.words.specs.Words.{le, put, fields, Apart}

-- ---- one number

-- what lies above the n bytes of x is not written
pub put_mod : (n : ℕ) (xs : List ℕ) (at x : ℕ) → put n xs at (x % 256 ^ n) ≡ put n xs at x
unfolding put
put_mod zero xs at x = refl
put_mod (suc n) xs at x =
    let m : x % 256 ^ suc n ≡ (x / 256 % 256 ^ n) * 256 + x % 256 = rw pow-suc (mod-mul x (one-le-pow n 256 (omega arith)) (omega arith)) in
    let lo : x % 256 ^ suc n % 256 ≡ x % 256 = omega arith in
    let hi : x % 256 ^ suc n / 256 ≡ x / 256 % 256 ^ n = omega arith in
    rw (lo, hi) (put_mod n (set xs at (x % 256)) (at + 1) (x / 256))

-- a write keeps the length
pub length_put : (n : ℕ) (xs : List ℕ) (at x : ℕ) → length (put n xs at x) ≡ length xs
unfolding put
length_put zero xs at x = refl
length_put (suc n) xs at x = length_put n (set xs at (x % 256)) (at + 1) (x / 256) ∙ length-set xs at (x % 256)

-- what stands outside of the n bytes stays
pub get_or_put : (n : ℕ) (xs : List ℕ) (at x j : ℕ) → (at ≤ j → j < at + n → ⊥) → get_or (put n xs at x) j 0 ≡ get_or xs j 0
unfolding put
get_or_put zero xs at x j h = refl
get_or_put (suc n) xs at x j h =
    get_or_put n (set xs at (x % 256)) (at + 1) (x / 256) j (λ p q. h (omega arith) (omega arith))
    ∙ get_or-set_other xs at j (x % 256) 0 (λ e. h (omega arith) (omega arith))

-- two lists that agree at the n bytes hold one number there
pub le_same : (n : ℕ) (xs ys : List ℕ) (at : ℕ) → ((j : ℕ) → at ≤ j → j < at + n → get_or xs j 0 ≡ get_or ys j 0) → le n xs at ≡ le n ys at
unfolding le
le_same zero xs ys at h = refl
le_same (suc n) xs ys at h =
    let h0 = h at (omega arith) (omega arith) in
    let hs = le_same n xs ys (at + 1) (λ j p q. h j (omega arith) (omega arith)) in
    omega arith

-- read after write, at the same place
pub le_put : (n : ℕ) (xs : List ℕ) (at x : ℕ) → at + n ≤ length xs → x < 256 ^ n → le n (put n xs at x) at ≡ x
unfolding le put
le_put zero xs at x h f = let f1 : x < 1 = f in omega arith
le_put (suc n) xs at x h f =
    let k = length-set xs at (x % 256) in
    let p = pow-succ' 256 n in
    let b = get_or_put n (set xs at (x % 256)) (at + 1) (x / 256) at (λ p q. omega arith) ∙ get_or-set_same xs at (x % 256) 0 (omega arith) in
    let r = le_put n (set xs at (x % 256)) (at + 1) (x / 256) (omega arith) (omega arith) in
    omega arith

-- read after write, at another place: m bytes at `at` that have none of the n bytes at `to`
pub le_put_other : (m n : ℕ) (xs : List ℕ) (at to x : ℕ) → Apart at m to n → le m (put n xs to x) at ≡ le m xs at
le_put_other m n xs at to x h =
    le_same m (put n xs to x) xs at (λ j p q. get_or_put n xs to x j (λ r s. ⊎_elim (λ l. omega arith) (λ l. omega arith) h))

-- where all bytes from `at` on are zero, there stands 0
pub le_zero : (w : ℕ) (xs : List ℕ) (at : ℕ) → ((j : ℕ) → at ≤ j → get_or xs j 0 ≡ 0) → le w xs at ≡ 0
unfolding le
le_zero zero xs at h = refl
le_zero (suc w) xs at h = omega (arith, h at (omega arith), le_zero w xs (at + 1) (λ j l. h j (omega arith)))

-- equal numbers have equal bytes
pub le_bytes : (w : ℕ) (xs ys : List ℕ) (at : ℕ) → ((j : ℕ) → get_or xs j 0 < 256) → ((j : ℕ) → get_or ys j 0 < 256) → le w xs at ≡ le w ys at
    → (j : ℕ) → at ≤ j → j < at + w → get_or xs j 0 ≡ get_or ys j 0
unfolding le
le_bytes zero xs ys at bx by e j l h = absurd (omega arith)
le_bytes (suc w) xs ys at bx by e j l h =
    let high : le w xs (at + 1) ≡ le w ys (at + 1) = omega (arith, e, bx at, by at) in
    go (le_bytes w xs ys (at + 1) bx by high j) (ℕ_discrete at j)
  where
    low : get_or xs at 0 ≡ get_or ys at 0
    low = omega (arith, e, bx at, by at)

    go : (at + 1 ≤ j → j < at + 1 + w → get_or xs j 0 ≡ get_or ys j 0) → Dec (at ≡ j) → get_or xs j 0 ≡ get_or ys j 0
    go ih (yes q) = subst (λ (n : ℕ). get_or xs n 0 ≡ get_or ys n 0) q low
    go ih (no q) = ih (omega arith) (omega arith)

-- ---- numbers in a row

pub length_fields : (w : ℕ) (xs : List ℕ) (from n : ℕ) → length (fields w xs from n) ≡ n
unfolding fields
length_fields w xs from zero = refl
length_fields w xs from (suc n) = ap suc (length_fields w xs (from + w) n)

-- the number at i, whose place is `at`
pub get_or_fields : (w : ℕ) (xs : List ℕ) (from n i at : ℕ) → i < n → at ≡ from + i * w → get_or (fields w xs from n) i 0 ≡ le w xs at
unfolding fields
get_or_fields w xs from zero i at h e = absurd (not-suc-le-zero h)
get_or_fields w xs from (suc n) zero at h e = ap (le w xs) (omega (arith, zero-mul w))
get_or_fields w xs from (suc n) (suc i) at h e =
    get_or_fields w xs (from + w) n i at (omega arith) (omega (arith, suc-mul i w))

-- a write at a place that has none of their bytes leaves them
pub fields_apart : (w n u : ℕ) (xs : List ℕ) (from to x : ℕ) → Apart from (n * w) to u →
    fields w (put u xs to x) from n ≡ fields w xs from n
unfolding fields
fields_apart w zero u xs from to x h = refl
fields_apart w (suc n) u xs from to x (inl h) =
    ap₂ ◌∷◌
    (le_put_other w u xs from to x (inl (omega (arith, suc-mul n w))))
    (fields_apart w n u xs (from + w) to x (inl (omega (arith, suc-mul n w))))
fields_apart w (suc n) u xs from to x (inr h) =
    ap₂ ◌∷◌ (le_put_other w u xs from to x (inr h)) (fields_apart w n u xs (from + w) to x (inr (omega arith)))

-- the m of them from the one at a on, whose place is `at`
pub fields_part : (w : ℕ) (xs : List ℕ) (from n a m at : ℕ) → a + m ≤ n → at ≡ from + a * w →
    take m (drop a (fields w xs from n)) ≡ fields w xs at m
fields_part w xs from n a m at h e =
    ext_get_or 0 _ _
    (omega (arith, long, length_fields w xs at m))
    (λ i l. rw (get_or-take m (drop a (fields w xs from n)) i 0 (omega (arith, long)), get_or-drop a (fields w xs from n) i 0)
    (get_or_fields w xs from n (a + i) (at + i * w) (omega (arith, long)) (omega (arith, add-mul a i w))
    ∙ sym (get_or_fields w xs at m i (at + i * w) (omega (arith, long)) refl)))
  where
    long : length (take m (drop a (fields w xs from n))) ≡ m
    long = simp (length-take, length-drop, length_fields) (omega arith)

-- equal numbers in a row have equal bytes
pub fields_bytes : (w n : ℕ) (xs ys : List ℕ) (from : ℕ) → ((j : ℕ) → get_or xs j 0 < 256) → ((j : ℕ) → get_or ys j 0 < 256) →
    fields w xs from n ≡ fields w ys from n
    → (j : ℕ) → from ≤ j → j < from + n * w → get_or xs j 0 ≡ get_or ys j 0
unfolding fields
fields_bytes w zero xs ys from bx by e j l h = absurd (omega (arith, zero-mul w))
fields_bytes w (suc n) xs ys from bx by e j l h =
    go (fields_bytes w n xs ys (from + w) bx by (ap (drop 1) e) j) (dec_lt j (from + w))
  where
    go : (from + w ≤ j → j < from + w + n * w → get_or xs j 0 ≡ get_or ys j 0) → Dec (j < from + w) → get_or xs j 0 ≡ get_or ys j 0
    go ih (yes q) = le_bytes w xs ys from bx by (ap (λ (t : List ℕ). get_or t 0 0) e) j l q
    go ih (no q) = ih (omega arith) (omega (arith, suc-mul n w))
