-- The rows with keys from a bound on: which they are, what is found among them, and how many they are; and a row put behind them.
use mathlib.Core.Bool.{Bool, true, false}
use mathlib.Core.List.{List, [], ◌∷◌, ◌++◌}
use mathlib.Core.Logic.{◌⊎◌, inl, inr}
use mathlib.Core.Option.{Option, none, some}
use mathlib.Core.Path.{◌≡◌, refl, sym, ap, ap₂, subst, ◌∙◌}
use Prim.Native.Nat.{ℕ, zero, suc, ◌+◌, ◌≤◌, ◌<◌}
use native.Mathlib.Omega.{arith}
use borrow.Author.Tests.{eq-eqb, ne_eqb, le-ltb, ltb-true, ltb-false, leb-true}
use lib.Dec.{eqb, ltb, leb}
use lib.ListN.{length, take, drop}
use Rattle.keys.specs.Keys.{is_form}
use Rattle.questions.specs.Basics.{if◌then◌otherwise◌, update, is_some, count_below}
use Rattle.questions.proofs.Counts.{sum_same, count_none, count_put}
use Rattle.questions.proofs.Tests.{and_left, and_right}
use Rattle.questions.proofs.Updates.{eqb_cases}
use Rattle.store.specs.Rows.{Row, keys_in, lookup, put_row, rows_from, rank_of}
use Rattle.store.specs.Questions.{ahead, rising, keys_ok, all_in}
use Rattle.store.proofs.Lists.{keys_drop, rising_drop, rises_none}
use Rattle.store.proofs.Sound.{keys_rise, apart_forms, keys_apart_lem, keys_rising}

-- ---- which rows they are

-- no key of rows that rise from a key on is below it
from_whole : (low x : ℕ) (rs : List Row) → low ≤ x → rising (x ∷ keys_in rs) ≡ true → rows_from low rs ≡ rs
unfolding rows_from rising ahead keys_in
from_whole low x [] h u = refl
from_whole low x (r ∷ rs) h u =
    let l : x < r.0 = ltb-true x r.0 (and_left (ltb x r.0) _ u) in
    rw (le-ltb r.0 low (omega arith)) (ap (◌∷◌ r) (from_whole low r.0 rs (omega arith) (and_right (ltb x r.0) _ u)))

-- where the keys rise they are the rows behind the smaller ones
pub from_drop : (low : ℕ) (rs : List Row) → rising (keys_in rs) ≡ true → rows_from low rs ≡ drop (rank_of low rs) rs
unfolding rows_from rank_of rising keys_in
from_drop low [] u = refl
from_drop low (r ∷ rs) u = go (from_drop low rs (and_right (ahead r.0 (keys_in rs)) _ u)) (ltb r.0 low) refl
  where
    go : rows_from low rs ≡ drop (rank_of low rs) rs → (b : Bool) → ltb r.0 low ≡ b →
        rows_from low (r ∷ rs) ≡ drop (rank_of low (r ∷ rs)) (r ∷ rs)
    go ih true e = rw e ih
    go ih false e = rw e (ap (◌∷◌ r) (from_whole low r.0 rs (omega (arith, ltb-false r.0 low e)) u))

-- ---- their keys

all_drop : (f : ℕ → Bool) (n : ℕ) (ks : List ℕ) → all_in f ks ≡ true → all_in f (drop n ks) ≡ true
unfolding all_in
all_drop f zero ks a = a
all_drop f (suc n) [] a = refl
all_drop f (suc n) (k ∷ ks) a = all_drop f n ks (and_right (f k) _ a)

-- what holds of every key holds of those from a row on; and they are in order, as all are
pub all_behind : (f : ℕ → Bool) (n : ℕ) (rs : List Row) → all_in f (keys_in rs) ≡ true → all_in f (keys_in (drop n rs)) ≡ true
all_behind f n rs a = ap (all_in f) (keys_drop n rs) ∙ all_drop f n (keys_in rs) a

pub rising_behind : (n : ℕ) (rs : List Row) → rising (keys_in rs) ≡ true → rising (keys_in (drop n rs)) ≡ true
rising_behind n rs u = ap rising (keys_drop n rs) ∙ rising_drop n (keys_in rs) u

pub keys_behind : (book : Bool) (n : ℕ) (rs : List Row) → keys_ok book (keys_in rs) ≡ true → keys_ok book (keys_in (drop n rs)) ≡ true
keys_behind book n rs h =
    keys_rise book (keys_in (drop n rs)) (all_behind (is_form book) n rs (apart_forms book (keys_in rs) (keys_apart_lem book (keys_in rs) h)))
    (rising_behind n rs (keys_rising book (keys_in rs) h))

pub rising_from : (low : ℕ) (rs : List Row) → rising (keys_in rs) ≡ true → rising (keys_in (rows_from low rs)) ≡ true
rising_from low rs u = ap (λ (qs : List Row). rising (keys_in qs)) (from_drop low rs u) ∙ rising_behind (rank_of low rs) rs u

pub keys_from_lem : (book : Bool) (low : ℕ) (rs : List Row) → keys_ok book (keys_in rs) ≡ true → keys_ok book (keys_in (rows_from low rs)) ≡ true
keys_from_lem book low rs h =
    ap (λ (qs : List Row). keys_ok book (keys_in qs)) (from_drop low rs (keys_rising book (keys_in rs) h))
    ∙ keys_behind book (rank_of low rs) rs h

-- ---- what is found among them

pub lookup_from : (low k : ℕ) (rs : List Row) → low ≤ k → lookup k (rows_from low rs) ≡ lookup k rs
unfolding rows_from lookup
lookup_from low k [] h = refl
lookup_from low k (r ∷ rs) h = go (lookup_from low k rs h) (ltb r.0 low) refl
  where
    go : lookup k (rows_from low rs) ≡ lookup k rs → (b : Bool) → ltb r.0 low ≡ b → lookup k (rows_from low (r ∷ rs)) ≡ lookup k (r ∷ rs)
    go ih true e = let l : r.0 < low = ltb-true r.0 low e in rw (e, ne_eqb r.0 k (omega arith)) ih
    go ih false e = rw e (ap (λ (o : Option ℕ). if◌then◌otherwise◌ (eqb r.0 k) (some r.1) o) ih)

pub lookup_below : (low k : ℕ) (rs : List Row) → k < low → lookup k (rows_from low rs) ≡ none
unfolding rows_from lookup
lookup_below low k [] h = refl
lookup_below low k (r ∷ rs) h = go (lookup_below low k rs h) (ltb r.0 low) refl
  where
    go : lookup k (rows_from low rs) ≡ none → (b : Bool) → ltb r.0 low ≡ b → lookup k (rows_from low (r ∷ rs)) ≡ none
    go ih true e = rw e ih
    go ih false e = let l = ltb-false r.0 low e in rw (e, ne_eqb r.0 k (omega arith)) ih

-- ---- how many they are

-- rows are the rows behind the first one, changed at its key
as_update : (r : Row) (rs : List Row) (k : ℕ) → lookup k (r ∷ rs) ≡ update (λ (i : ℕ). lookup i rs) r.0 (some r.1) k
unfolding lookup
as_update r rs k = go (eqb_cases r.0 k) (eqb_cases k r.0)
  where
    go : ((r.0 ≡ k) × (eqb r.0 k ≡ true)) ⊎ ((r.0 ≡ k → ⊥) × (eqb r.0 k ≡ false)) →
        ((k ≡ r.0) × (eqb k r.0 ≡ true)) ⊎ ((k ≡ r.0 → ⊥) × (eqb k r.0 ≡ false)) →
        if◌then◌otherwise◌ (eqb r.0 k) (some r.1) (lookup k rs) ≡ if◌then◌otherwise◌ (eqb k r.0) (some r.1) (lookup k rs)
    go (inl a) (inl b) = rw (a.1, b.1) refl
    go (inl a) (inr b) = absurd (b.0 (sym a.0))
    go (inr a) (inl b) = absurd (a.0 (sym b.0))
    go (inr a) (inr b) = rw (a.1, b.1) refl

-- As many rows are left out as keys below the bound have a value.
pub rows_from_lem : (low : ℕ) (rs : List Row) → rising (keys_in rs) ≡ true →
    length (rows_from low rs) + count_below low (λ k. is_some (lookup k rs)) ≡ length rs
unfolding rows_from rising keys_in
rows_from_lem low [] u = let z = count_none low in unfold lookup in omega arith
rows_from_lem low (r ∷ rs) u =
    ap (λ (n : ℕ). length (rows_from low (r ∷ rs)) + n)
    (sum_same low _ _ (λ k l. ap (λ (o : Option ℕ). if◌then◌otherwise◌ (is_some o) 1 0) (as_update r rs k))
    ∙ count_put low r.0 r.1 (λ (k : ℕ). lookup k rs) (rises_none r.0 rs u))
    ∙ go (ltb r.0 low) (rows_from_lem low rs (and_right (ahead r.0 (keys_in rs)) _ u))
  where
    old : ℕ
    old = count_below low (λ k. is_some (lookup k rs))

    go : (b : Bool) → length (rows_from low rs) + old ≡ length rs →
        length (if◌then◌otherwise◌ b (rows_from low rs) (r ∷ rows_from low rs)) + (if◌then◌otherwise◌ b 1 0 + old) ≡ suc (length rs)
    go true rec = omega arith
    go false rec = omega arith

-- ---- a row put behind all others

-- rows behind a key that none of them is above are none
none_behind : (k : ℕ) (rs : List Row) → rising (k ∷ keys_in rs) ≡ true → all_in (λ a. leb a k) (keys_in rs) ≡ true → rs ≡ []
unfolding rising ahead keys_in all_in
none_behind k [] u a = refl
none_behind k (r ∷ rs) u a =
    absurd (omega (arith, ltb-true k r.0 (and_left (ltb k r.0) _ u), leb-true r.0 k (and_left (leb r.0 k) _ a)))

-- where no key is above k, a put at k is k's row behind the rows of smaller keys
pub put_last : (k v : ℕ) (rs : List Row) → rising (keys_in rs) ≡ true → all_in (λ a. leb a k) (keys_in rs) ≡ true →
    put_row k v rs ≡ take (rank_of k rs) rs ++ (k, v) ∷ []
unfolding put_row rank_of rising keys_in all_in
put_last k v [] u a = refl
put_last k v (r ∷ rs) u a =
    go (put_last k v rs (and_right (ahead r.0 (keys_in rs)) _ u) (and_right (leb r.0 k) _ a)) (ltb r.0 k) refl
  where
    go : put_row k v rs ≡ take (rank_of k rs) rs ++ (k, v) ∷ [] → (b : Bool) → ltb r.0 k ≡ b →
        put_row k v (r ∷ rs) ≡ take (rank_of k (r ∷ rs)) (r ∷ rs) ++ (k, v) ∷ []
    go ih true e =
        let l : r.0 < k = ltb-true r.0 k e in
        rw (e, ne_eqb r.0 k (omega arith), le-ltb k r.0 (omega arith)) (ap (◌∷◌ r) ih)
    go ih false e =
        let q : r.0 ≡ k = omega (arith, ltb-false r.0 k e, leb-true r.0 k (and_left (leb r.0 k) _ a)) in
        let rest : rs ≡ [] =
        none_behind k rs (subst (λ (n : ℕ). rising (n ∷ keys_in rs) ≡ true) q u) (and_right (leb r.0 k) _ a) in
        rw (e, eq-eqb r.0 k q) (ap₂ (λ (n : ℕ) (qs : List Row). (n, v) ∷ qs) q rest)
