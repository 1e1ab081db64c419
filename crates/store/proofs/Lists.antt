-- Laws of rows and of parts of arrays, with no word of bytes.
use mathlib.Core.Bool.{Bool, true, false}
use mathlib.Core.List.{List, [], ◌∷◌}
use mathlib.Core.Logic.{◌≢◌}
use mathlib.Core.Option.{Option, none, some}
use mathlib.Core.Path.{◌≡◌, refl, sym, ap, subst, ◌∙◌, fun_ext}
use Prim.Native.Nat.{ℕ, zero, suc, ◌+◌, ◌*◌, ◌≤◌, ◌<◌}
use native.Mathlib.Nat.{le_of_suc-le-suc, suc-mul, mul-le-mul_right, not-suc-le-zero}
use native.Mathlib.Omega.{arith}
use native.Mathlib.Decide.{ℕ_discrete}
use borrow.Author.Tests.{eq-eqb, ne_eqb, eqb-true, eqb-false, lt-ltb, le-ltb, ltb-true, ltb-false}
use lib.Dec.{eqb, ltb}
use lib.ListN.{length, get_or, set, drop}
use Rattle.words.specs.Words.{le, fields}
use Rattle.questions.specs.Basics.{if◌then◌otherwise◌}
use Rattle.questions.proofs.Tests.{and_left, and_right, and_both}
use Rattle.store.specs.Questions.{keys_apart, ahead, rising, keys_ok}
use Rattle.store.specs.Rows.{Row, keys_in, pairs, lookup, row_place, index_of, rank_of, rank_in, set_value, insert_at, put_row, new_rows}
use Rattle.store.specs.Rows.{Store, alter}

-- ---- row numbers: row i of partition p of C rows each is p * C + i

-- a partition ends before a later one begins
pub before : (C : ℕ) {p q : ℕ} → p < q → p * C + C ≤ q * C
before C {p} {q} l = omega (arith, suc-mul p C, mul-le-mul_right C l)

-- a row is within the array
pub within : (C P p i : ℕ) → p ≤ P → i < C → p * C + i < (P + 1) * C
within C P p i l h = omega (arith, before C {p = p} {q = P + 1} (omega arith))

-- ---- rows

pub length_pairs : (ks vs : List ℕ) → length ks ≡ length vs → length (pairs ks vs) ≡ length ks
unfolding pairs
length_pairs [] vs e = refl
length_pairs (k ∷ ks) [] e = absurd (omega arith)
length_pairs (k ∷ ks) (v ∷ vs) e = ap suc (length_pairs ks vs (omega arith))

pub keys_pairs : (ks vs : List ℕ) → length ks ≡ length vs → keys_in (pairs ks vs) ≡ ks
unfolding pairs keys_in
keys_pairs [] vs e = refl
keys_pairs (k ∷ ks) [] e = absurd (omega arith)
keys_pairs (k ∷ ks) (v ∷ vs) e = ap (◌∷◌ k) (keys_pairs ks vs (omega arith))

pub pairs_set : (ks vs : List ℕ) (i v : ℕ) → pairs ks (set vs i v) ≡ set_value (pairs ks vs) i v
unfolding pairs set_value
pairs_set [] vs i v = refl
pairs_set (k ∷ ks) [] i v = refl
pairs_set (k ∷ ks) (w ∷ vs) zero v = refl
pairs_set (k ∷ ks) (w ∷ vs) (suc i) v = ap (◌∷◌ (k, w)) (pairs_set ks vs i v)

pub rank_within : (k : ℕ) (rs : List Row) → rank_of k rs ≤ length rs
unfolding rank_of
rank_within k [] = omega arith
rank_within k (r ∷ rs) = go (ltb r.0 k) (rank_within k rs)
  where
    go : (b : Bool) → rank_of k rs ≤ length rs → if◌then◌otherwise◌ b (suc (rank_of k rs)) 0 ≤ suc (length rs)
    go true h = omega arith
    go false h = omega arith

-- ---- a store with one partition changed

pub alter_here : (p : ℕ) (f : List Row → List Row) (st : Store) → (alter p f st).rows p ≡ f (st.rows p)
unfolding alter
alter_here p f st = rw (eq-eqb p p refl) refl

pub alter_there : (p q : ℕ) (f : List Row → List Row) (st : Store) → q ≢ p → (alter p f st).rows q ≡ st.rows q
unfolding alter
alter_there p q f st n = rw (ne_eqb q p n) refl

pub altered : (st st' : Store) (p : ℕ) (f : List Row → List Row) → st'.parts ≡ st.parts → st'.cap ≡ st.cap
    → st'.rows p ≡ f (st.rows p) → ((q : ℕ) → q ≢ p → st'.rows q ≡ st.rows q) → st' ≡ alter p f st
unfolding alter
altered st st' p f a b here there =
    λ i. record { parts = a i; cap = b i; rows = fun_ext {f = st'.rows} {g = (alter p f st).rows} (λ q. go q (ℕ_discrete q p)) i }
  where
    go : (q : ℕ) → Dec (q ≡ p) → st'.rows q ≡ (alter p f st).rows q
    go q (yes e) = subst (λ (n : ℕ). st'.rows n ≡ (alter p f st).rows n) (sym e) (here ∙ sym (alter_here p f st))
    go q (no n) = there q n ∙ sym (alter_there p q f st n)

-- ---- a search

-- the first of the keys still to be read is k
pub index_hit : (k : ℕ) (w : ℕ) (xs : List ℕ) (o m n : ℕ) → m ≡ suc n → le w xs o ≡ k → index_of k (fields w xs o m) ≡ 0
unfolding index_of fields
index_hit k w xs o m n e h = rw (e, eq-eqb (le w xs o) k h) refl

pub index_miss : (k : ℕ) (w : ℕ) (xs : List ℕ) (o m n : ℕ) → m ≡ suc n → (le w xs o ≡ k → ⊥) →
    index_of k (fields w xs o m) ≡ suc (index_of k (fields w xs (o + w) n))
unfolding index_of fields
index_miss k w xs o m n e h = rw (e, ne_eqb (le w xs o) k h) refl

pub index_none : (k : ℕ) (w : ℕ) (xs : List ℕ) (o m : ℕ) → m ≡ 0 → index_of k (fields w xs o m) ≡ 0
unfolding index_of fields
index_none k w xs o m e = rw e refl

rank_keys : (k : ℕ) (rs : List Row) → rank_of k rs ≡ rank_in k (keys_in rs)
unfolding rank_of rank_in keys_in
rank_keys k [] = refl
rank_keys k (r ∷ rs) = ap (λ (n : ℕ). if◌then◌otherwise◌ (ltb r.0 k) (suc n) 0) (rank_keys k rs)

pub rank_pairs : (k : ℕ) (ks vs : List ℕ) → length ks ≡ length vs → rank_of k (pairs ks vs) ≡ rank_in k ks
rank_pairs k ks vs e = rank_keys k (pairs ks vs) ∙ ap (rank_in k) (keys_pairs ks vs e)

pub keys_drop : (i : ℕ) (rs : List Row) → keys_in (drop i rs) ≡ drop i (keys_in rs)
unfolding keys_in
keys_drop zero rs = refl
keys_drop (suc i) [] = refl
keys_drop (suc i) (r ∷ rs) = keys_drop i rs

-- rising keys rise from any place on
pub rising_drop : (j : ℕ) (ks : List ℕ) → rising ks ≡ true → rising (drop j ks) ≡ true
unfolding rising
rising_drop zero ks u = u
rising_drop (suc j) [] u = u
rising_drop (suc j) (k ∷ ks) u = rising_drop j ks (and_right (ahead k ks) _ u)

-- the place of a key's row is its place among the keys
pub place_pairs : (k : ℕ) (ks vs : List ℕ) → length ks ≡ length vs → row_place k (pairs ks vs) ≡ index_of k ks
unfolding pairs row_place index_of
place_pairs k [] vs e = refl
place_pairs k (x ∷ ks) [] e = absurd (omega arith)
place_pairs k (x ∷ ks) (v ∷ vs) e = ap (λ (n : ℕ). if◌then◌otherwise◌ (eqb x k) 0 (suc n)) (place_pairs k ks vs (omega arith))

pub get_or_pairs : (ks vs : List ℕ) (i : ℕ) → length ks ≡ length vs → i < length ks → get_or (pairs ks vs) i (0, 0) ≡ (get_or ks i 0, get_or vs i 0)
unfolding pairs
get_or_pairs [] vs i e h = absurd (omega arith)
get_or_pairs (k ∷ ks) [] i e h = absurd (omega arith)
get_or_pairs (k ∷ ks) (v ∷ vs) zero e h = refl
get_or_pairs (k ∷ ks) (v ∷ vs) (suc i) e h = get_or_pairs ks vs i (omega arith) (omega arith)

-- what a search that found k's row tells, and one that found none
pub found_lookup : (k : ℕ) (rs : List Row) → row_place k rs < length rs → lookup k rs ≡ some (get_or rs (row_place k rs) (0, 0)).1
unfolding row_place lookup
found_lookup k [] h = absurd (omega arith)
found_lookup k (r ∷ rs) h = go (found_lookup k rs) (eqb r.0 k) refl
  where
    go : (row_place k rs < length rs → lookup k rs ≡ some (get_or rs (row_place k rs) (0, 0)).1) → (b : Bool) → eqb r.0 k ≡ b
        → lookup k (r ∷ rs) ≡ some (get_or (r ∷ rs) (row_place k (r ∷ rs)) (0, 0)).1
    go ih true e = rw e refl
    go ih false e = rw e (ih (le_of_suc-le-suc (rw e at h)))

pub missed_lookup : (k : ℕ) (rs : List Row) → length rs ≤ row_place k rs → lookup k rs ≡ none
unfolding row_place lookup
missed_lookup k [] h = refl
missed_lookup k (r ∷ rs) h = go (missed_lookup k rs) (eqb r.0 k) refl
  where
    go : (length rs ≤ row_place k rs → lookup k rs ≡ none) → (b : Bool) → eqb r.0 k ≡ b → lookup k (r ∷ rs) ≡ none
    go ih true e = absurd (not-suc-le-zero (rw e at h))
    go ih false e = rw e (ih (le_of_suc-le-suc (rw e at h)))

-- the keys behind a key are greater
rises_below : (k x : ℕ) (rs : List Row) → rising (x ∷ keys_in rs) ≡ true → row_place k rs < length rs → x < k
unfolding rising ahead keys_in row_place
rises_below k x [] u h = absurd (omega arith)
rises_below k x (r ∷ rs) u h = go (rises_below k r.0 rs (and_right (ltb x r.0) _ u)) (eqb r.0 k) refl
  where
    low : x < r.0
    low = ltb-true x r.0 (and_left (ltb x r.0) _ u)

    go : (row_place k rs < length rs → r.0 < k) → (b : Bool) → eqb r.0 k ≡ b → x < k
    go ih true e = omega (arith, low, eqb-true r.0 k e)
    go ih false e = omega (arith, low, ih (le_of_suc-le-suc (rw e at h)))

-- a value put at a key: in its row, or in one more where it belongs
pub put_found : (k v : ℕ) (rs : List Row) → rising (keys_in rs) ≡ true → row_place k rs < length rs →
    put_row k v rs ≡ set_value rs (row_place k rs) v
unfolding row_place put_row set_value keys_in rising
put_found k v [] u h = absurd (omega arith)
put_found k v (r ∷ rs) u h = go (put_found k v rs (and_right (ahead r.0 (keys_in rs)) _ u)) (eqb r.0 k) refl
  where
    go : (row_place k rs < length rs → put_row k v rs ≡ set_value rs (row_place k rs) v) → (b : Bool) → eqb r.0 k ≡ b
        → put_row k v (r ∷ rs) ≡ set_value (r ∷ rs) (row_place k (r ∷ rs)) v
    go ih true e = rw e refl
    go ih false e =
        let l : row_place k rs < length rs = le_of_suc-le-suc (rw e at h) in
        let b : r.0 < k = rises_below k r.0 rs u l in
        rw (e, le-ltb k r.0 (omega arith)) (ap (◌∷◌ r) (ih l))

pub put_missed : (k v : ℕ) (rs : List Row) → length rs ≤ row_place k rs → put_row k v rs ≡ insert_at rs (rank_of k rs) (k, v)
unfolding row_place put_row insert_at rank_of
put_missed k v [] h = refl
put_missed k v (r ∷ rs) h = go (put_missed k v rs) (eqb r.0 k) refl (ltb k r.0) refl
  where
    go : (length rs ≤ row_place k rs → put_row k v rs ≡ insert_at rs (rank_of k rs) (k, v)) → (b : Bool) → eqb r.0 k ≡ b → (c : Bool) →
        ltb k r.0 ≡ c
        → put_row k v (r ∷ rs) ≡ insert_at (r ∷ rs) (rank_of k (r ∷ rs)) (k, v)
    go ih true e c f = absurd (not-suc-le-zero (rw e at h))
    go ih false e true f = rw (e, f, le-ltb r.0 k (omega (arith, ltb-true k r.0 f))) refl
    go ih false e false f =
        rw (e, f, lt-ltb r.0 k (omega (arith, ltb-false k r.0 f, eqb-false r.0 k e)))
        (ap (◌∷◌ r) (ih (le_of_suc-le-suc (rw e at h))))

-- what callers know of a put: the table, and the number of rows
pub lookup_put_same : (k v : ℕ) (rs : List Row) → lookup k (put_row k v rs) ≡ some v
unfolding put_row lookup
lookup_put_same k v [] = rw (eq-eqb k k refl) refl
lookup_put_same k v (r ∷ rs) = go (lookup_put_same k v rs) (eqb r.0 k) refl (ltb k r.0) refl
  where
    go : lookup k (put_row k v rs) ≡ some v → (b : Bool) → eqb r.0 k ≡ b → (c : Bool) → ltb k r.0 ≡ c →
        lookup k (put_row k v (r ∷ rs)) ≡ some v
    go ih true e c f = rw (e, e) refl
    go ih false e true f = rw (e, f, eq-eqb k k refl) refl
    go ih false e false f = rw (e, f, e) ih

pub lookup_put_other : (k v j : ℕ) (rs : List Row) → j ≢ k → lookup j (put_row k v rs) ≡ lookup j rs
unfolding put_row lookup
lookup_put_other k v j [] n = rw (ne_eqb k j (λ e. n (sym e))) refl
lookup_put_other k v j (r ∷ rs) n = go (lookup_put_other k v j rs n) (eqb r.0 k) refl (ltb k r.0) refl
  where
    go : lookup j (put_row k v rs) ≡ lookup j rs → (b : Bool) → eqb r.0 k ≡ b → (c : Bool) → ltb k r.0 ≡ c →
        lookup j (put_row k v (r ∷ rs)) ≡ lookup j (r ∷ rs)
    go ih true e c f = let other : eqb r.0 j ≡ false = ne_eqb r.0 j (λ q. n (sym q ∙ eqb-true r.0 k e)) in rw (e, other) refl
    go ih false e true f = rw (e, f, ne_eqb k j (λ q. n (sym q))) refl
    go ih false e false f = rw (e, f) (ap (λ (o : Option ℕ). if◌then◌otherwise◌ (eqb r.0 j) (some r.1) o) ih)

-- a smaller key ahead of rising keys
pub rises_lower : (k x : ℕ) (rs : List Row) → k < x → rising (x ∷ keys_in rs) ≡ true → rising (k ∷ keys_in rs) ≡ true
unfolding rising ahead keys_in
rises_lower k x [] l u = refl
rises_lower k x (r ∷ rs) l u =
    and_both (ltb k r.0) _ (lt-ltb k r.0 (omega (arith, ltb-true x r.0 (and_left (ltb x r.0) _ u))))
    (and_right (ltb x r.0) _ u)

-- a key below the first of rising keys has no row
pub rises_none : (k : ℕ) (rs : List Row) → rising (k ∷ keys_in rs) ≡ true → lookup k rs ≡ none
unfolding rising ahead keys_in lookup
rises_none k [] u = refl
rises_none k (r ∷ rs) u =
    let l : k < r.0 = ltb-true k r.0 (and_left (ltb k r.0) _ u) in
    rw (ne_eqb r.0 k (omega arith)) (rises_none k rs (rises_lower k r.0 rs l (and_right (ltb k r.0) _ u)))

pub rows_after : (k v : ℕ) (rs : List Row) → rising (keys_in rs) ≡ true → length (put_row k v rs) ≡ length rs + new_rows (lookup k rs)
unfolding put_row lookup new_rows rising keys_in
rows_after k v [] u = refl
rows_after k v (r ∷ rs) u = go (rows_after k v rs (and_right (ahead r.0 (keys_in rs)) _ u)) (eqb r.0 k) refl (ltb k r.0) refl
  where
    go : length (put_row k v rs) ≡ length rs + new_rows (lookup k rs) → (b : Bool) → eqb r.0 k ≡ b → (c : Bool) → ltb k r.0 ≡ c →
        length (put_row k v (r ∷ rs)) ≡ length (r ∷ rs) + new_rows (lookup k (r ∷ rs))
    go ih true e c f = rw e (omega arith)
    go ih false e true f =
        let new : lookup k rs ≡ none = rises_none k rs (rises_lower k r.0 rs (ltb-true k r.0 f) u) in
        rw (e, f, new) (omega arith)
    go ih false e false f = rw (e, f) (omega arith)

-- The number of rows after a put among rising keys.
pub length_put : (book : Bool) (k v : ℕ) (rs : List Row) → keys_ok book (keys_in rs) ≡ true →
    length (put_row k v rs) ≡ length rs + new_rows (lookup k rs)
unfolding keys_ok
length_put book k v rs good = rows_after k v rs (and_right (keys_apart book (keys_in rs)) _ good)
