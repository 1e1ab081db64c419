-- Numbers written in a row are read back, and what stands beside them stays.
use mathlib.Core.Path.{◌≡◌, refl, sym, ◌∙◌}
use mathlib.Core.List.{List}
use mathlib.Core.Logic.{inl, inr, ⊎_elim}
use Prim.Native.Nat.{ℕ, zero, suc, ◌+◌, ◌*◌, ◌^◌, ◌≤◌, ◌<◌}
use native.Mathlib.Nat.{suc-mul, mul-le-mul_right}
use native.Mathlib.Numerals.{add-one}
use native.Mathlib.Decide.{ℕ_discrete}
use native.Mathlib.Omega.{arith}
use lib.ListN.{length, get_or}
use lib.Seq.{ext_get_or}
use Rattle.words.specs.Words.{le, put, fields, Apart}
use Rattle.words.proofs.Laws.{length_put, le_put, le_put_other, length_fields, get_or_fields, fields_apart}
use Rattle.slots.specs.Records.{puts}

-- one number more
pub puts_more : (w : ℕ) (xs : List ℕ) (at : ℕ) (vs : List ℕ) (n : ℕ) →
    puts w xs at vs (n + 1) ≡ put w (puts w xs at vs n) (at + n * w) (get_or vs n 0)
unfolding puts
puts_more w xs at vs n = rw add-one

pub length_puts : (w : ℕ) (xs : List ℕ) (at : ℕ) (vs : List ℕ) (n : ℕ) → length (puts w xs at vs n) ≡ length xs
unfolding puts
length_puts w xs at vs zero = refl
length_puts w xs at vs (suc n) = length_put w (puts w xs at vs n) (at + n * w) (get_or vs n 0) ∙ length_puts w xs at vs n

-- the i-th of n numbers written is what stands at its place
pub le_puts : (w : ℕ) (xs : List ℕ) (at : ℕ) (vs : List ℕ) (n i : ℕ) → i < n → at + n * w ≤ length xs → ((j : ℕ) → get_or vs j 0 < 256 ^ w)
    → le w (puts w xs at vs n) (at + i * w) ≡ get_or vs i 0
unfolding puts
le_puts w xs at vs zero i h l f = absurd (omega arith)
le_puts w xs at vs (suc n) i h l f = go (ℕ_discrete i n) (λ h'. le_puts w xs at vs n i h' (omega (arith, suc-mul n w)) f)
  where
    room : at + n * w + w ≤ length (puts w xs at vs n)
    room = omega (arith, suc-mul n w, length_puts w xs at vs n)

    go : Dec (i ≡ n) → (i < n → le w (puts w xs at vs n) (at + i * w) ≡ get_or vs i 0) →
        le w (puts w xs at vs (suc n)) (at + i * w) ≡ get_or vs i 0
    go (yes e) ih = rw e (le_put w (puts w xs at vs n) (at + n * w) (get_or vs n 0) room (f n))
    go (no d) ih =
        le_put_other w w (puts w xs at vs n) (at + i * w) (at + n * w) (get_or vs n 0)
        (inl (omega (arith, suc-mul i w, mul-le-mul_right {m = suc i} {n = n} w (omega arith))))
        ∙ ih (omega arith)

-- numbers written in a row are read back
pub fields_puts : (w : ℕ) (xs : List ℕ) (at : ℕ) (vs : List ℕ) (n : ℕ) → length vs ≡ n → at + n * w ≤ length xs →
    ((j : ℕ) → get_or vs j 0 < 256 ^ w)
    → fields w (puts w xs at vs n) at n ≡ vs
fields_puts w xs at vs n e l f =
    ext_get_or 0 _ _ (length_fields w (puts w xs at vs n) at n ∙ sym e)
    (λ i h. let h' : i < n = omega (arith, length_fields w (puts w xs at vs n) at n) in
    get_or_fields w (puts w xs at vs n) at n i (at + i * w) h' refl ∙ le_puts w xs at vs n i h' l f)

-- numbers beside those written stay
pub fields_beside : (w u : ℕ) (xs : List ℕ) (from m to : ℕ) (vs : List ℕ) (n : ℕ) → Apart from (m * w) to (n * u)
    → fields w (puts u xs to vs n) from m ≡ fields w xs from m
unfolding puts
fields_beside w u xs from m to vs zero h = refl
fields_beside w u xs from m to vs (suc n) h =
    fields_apart w m u (puts u xs to vs n) from (to + n * u) (get_or vs n 0)
    (⊎_elim (λ l. inl (omega arith)) (λ l. inr (omega (arith, suc-mul n u))) h)
    ∙ fields_beside w u xs from m to vs n (⊎_elim inl (λ l. inr (omega (arith, suc-mul n u))) h)
