-- What the tests of questions 9 to 12 mean: bytes that pass them are sound, and sound bytes pass them. A put keeps good keys good.
use mathlib.Core.Bool.{Bool, true, false, not, ◌&&◌, ◌||◌}
use mathlib.Core.List.{List, [], ◌∷◌}
use mathlib.Core.Option.{Option, none}
use mathlib.Core.Path.{◌≡◌, refl, sym, ap, ap₂, subst, ◌∙◌}
use Prim.Native.Nat.{ℕ, zero, suc, ◌+◌, ◌-◌, ◌*◌, ◌/◌, ◌^◌, ◌≤◌, ◌<◌}
use native.Mathlib.Omega.{arith}
use native.Mathlib.Decide.{ℕ_discrete}
use borrow.Author.Tests.{leb-true, eqb-true, eqb-false, le-leb, lt-leb, lt-ltb, ltb-true, ltb-false, eq-eqb, ne_eqb, not-true}
use lib.Dec.{eqb, leb, ltb}
use lib.ListN.{length, get_or}
use Rattle.words.specs.Words.{le, fields}
use Rattle.questions.specs.Basics.{each_from}
use Rattle.keys.specs.Keys.{log_key, book_key, is_book_key, booked_id, is_floor_key, floor_at, is_form}
use Rattle.questions.specs.Questions.{number}
use Rattle.questions.proofs.Each.{each_at, each_all}
use Rattle.keys.proofs.Keys.{log_is, log_no_data, book_is, book_no_floor}
use Rattle.questions.proofs.Tests.{yes_no, and_left, and_right, and_both}
use Rattle.questions.proofs.Questions.{ask_none, ask_yes}
use Rattle.store.specs.Layout.{parts_of, cap_of, store_length, key_at, value_at, used_of}
use Rattle.store.specs.Rows.{Row, Store, pairs, keys_in, lookup, rows_of, store_of, put_row, put_all, new_rows, count_new, alter}
use Rattle.store.specs.Questions.{member, unlike, keys_apart, ahead, rising, keys_ok, blank_row, part_ok_at, part_ok_by, part_ok}
use Rattle.store.specs.Questions.{all_in, five, book_ok, from_floor, book_right, numbers_right}
use Rattle.store.specs.Questions.{question9, question10, question11, question12, store_refusal}
use Rattle.store.specs.Sound.{Dimensions, Filled, KeysGood, Sound, Changed, Stored}
use Rattle.store.proofs.Bytes.{rows_keys}
use Rattle.store.proofs.Lists.{length_put, lookup_put_other, alter_here, alter_there}

-- ---- questions 9 and 10

pub numbers_mean : (P C : ℕ) → numbers_right P C ≡ true → (1 ≤ P) × (P ≤ 8) × (5 ≤ C) × (C ≤ 256)
unfolding numbers_right
numbers_mean P C e =
    let a = and_left (leb 1 P && leb P 8 && leb 5 C) (leb C 256) e in
    let b = and_left (leb 1 P && leb P 8) (leb 5 C) a in (
      leb-true 1 P (and_left (leb 1 P) (leb P 8) b),
      leb-true P 8 (and_right (leb 1 P) (leb P 8) b),
      leb-true 5 C (and_right (leb 1 P && leb P 8) (leb 5 C) a),
      leb-true C 256 (and_right (leb 1 P && leb P 8 && leb 5 C) (leb C 256) e),
    )

numbers_pass : (P C : ℕ) → 1 ≤ P → P ≤ 8 → 5 ≤ C → C ≤ 256 → numbers_right P C ≡ true
unfolding numbers_right
numbers_pass P C a b c d = rw (le-leb 1 P a, le-leb P 8 b, le-leb 5 C c, le-leb C 256 d) refl

-- question 9 by its parts
module _ (xs : List ℕ) where
  pub nine_short : length xs < 3 → question9 xs ≡ false
  unfolding question9
  nine_short h = rw (lt-leb 3 (length xs) h) refl

  pub nine_numbers : (b : Bool) → 3 ≤ length xs → numbers_right (parts_of xs) (cap_of xs) ≡ b → question9 xs ≡ b
  unfolding question9
  nine_numbers b h e = rw (le-leb 3 (length xs) h, e) refl

  pub ten_no : (length xs ≡ store_length (parts_of xs) (cap_of xs) → ⊥) → question10 xs ≡ false
  unfolding question10
  ten_no n = ne_eqb (length xs) (store_length (parts_of xs) (cap_of xs)) n

pub shape_of : (xs : List ℕ) → numbers_right (parts_of xs) (cap_of xs) ≡ true → length xs ≡ store_length (parts_of xs) (cap_of xs) → Dimensions xs
shape_of xs e z =
    let n = numbers_mean (parts_of xs) (cap_of xs) e in
    record { parts_low = n.0; parts_high = n.1; cap_low = n.2; cap_high = n.3; size = z }

pub shape_ok : (xs : List ℕ) → question9 xs ≡ true → question10 xs ≡ true → Dimensions xs
unfolding question9 question10
shape_ok xs a b = shape_of xs (and_right (leb 3 (length xs)) _ a) (eqb-true (length xs) (store_length (parts_of xs) (cap_of xs)) b)

pub shape_passes : (xs : List ℕ) → Dimensions xs → (question9 xs ≡ true) × (question10 xs ≡ true)
unfolding question9 question10
shape_passes xs s = (
  nine_numbers xs true (omega (arith, s.size))
      (numbers_pass (parts_of xs) (cap_of xs) s.parts_low s.parts_high s.cap_low s.cap_high),
  eq-eqb (length xs) (store_length (parts_of xs) (cap_of xs)) s.size,
)

-- ---- question 11

-- the three tests of a partition wherever it lies, by what is asked of its keys
module _ (keys : Bool → List ℕ → Bool) (b : Bool) (xs : List ℕ) (C n k v : ℕ) where
  module _ (e : part_ok_at keys b xs C n k v ≡ true) where
    fits : leb n C && keys b (fields 8 xs k n) ≡ true
    unfolding part_ok_at
    fits = and_left _ (each_from (blank_row xs k v) (C - n) n) e

    at_fit : n ≤ C
    at_fit = leb-true n C (and_left (leb n C) _ fits)

    at_keys : keys b (fields 8 xs k n) ≡ true
    at_keys = and_right (leb n C) _ fits

    blank : (i : ℕ) → n ≤ i → i < C → blank_row xs k v i ≡ true
    unfolding part_ok_at
    blank i l h = each_at (blank_row xs k v) (C - n) n (and_right (leb n C && keys b (fields 8 xs k n)) _ e) i l (omega arith)

    at_blank : (i : ℕ) → n ≤ i → i < C → (le 8 xs (k + 8 * i) ≡ 0) × (le 4 xs (v + 4 * i) ≡ 0)
    unfolding blank_row
    at_blank i l h = (
      eqb-true (le 8 xs (k + 8 * i)) 0 (and_left (eqb (le 8 xs (k + 8 * i)) 0) _ (blank i l h)),
      eqb-true (le 4 xs (v + 4 * i)) 0 (and_right (eqb (le 8 xs (k + 8 * i)) 0) _ (blank i l h)),
    )

  at_passes : n ≤ C → keys b (fields 8 xs k n) ≡ true
      → ((i : ℕ) → n ≤ i → i < C → (le 8 xs (k + 8 * i) ≡ 0) × (le 4 xs (v + 4 * i) ≡ 0)) → part_ok_at keys b xs C n k v ≡ true
  unfolding part_ok_at blank_row
  at_passes f g z =
      and_both (leb n C && keys b (fields 8 xs k n)) _ (and_both (leb n C) _ (le-leb n C f) g)
      (each_all (blank_row xs k v) (C - n) n
      (λ i l h. let z' = z i l (omega (arith, f)) in
      and_both (eqb (le 8 xs (k + 8 * i)) 0) _ (eq-eqb (le 8 xs (k + 8 * i)) 0 z'.0) (eq-eqb (le 4 xs (v + 4 * i)) 0 z'.1)))

-- and of partition p
module _ (xs : List ℕ) (p i : ℕ) where
  key_there : key_at xs p 0 + 8 * i ≡ key_at xs p i
  key_there = omega arith

  value_there : value_at xs p 0 + 4 * i ≡ value_at xs p i
  value_there = omega arith

module _ (keys : Bool → List ℕ → Bool) (xs : List ℕ) (p : ℕ) (e : part_ok_by keys xs p ≡ true) where
  there : part_ok_at keys (eqb p (parts_of xs)) xs (cap_of xs) (used_of xs p) (key_at xs p 0) (value_at xs p 0) ≡ true
  unfolding part_ok_by
  there = e

  blank_there : (i : ℕ) → used_of xs p ≤ i → i < cap_of xs → (le 8 xs (key_at xs p 0 + 8 * i) ≡ 0) × (le 4 xs (value_at xs p 0 + 4 * i) ≡ 0)
  blank_there = at_blank keys (eqb p (parts_of xs)) xs (cap_of xs) (used_of xs p) (key_at xs p 0) (value_at xs p 0) there

  pub part_filled : Filled xs p
  part_filled =
      record {
        fit = at_fit keys (eqb p (parts_of xs)) xs (cap_of xs) (used_of xs p) (key_at xs p 0) (value_at xs p 0) there;
        blank_keys = λ i a b. ap (le 8 xs) (sym (key_there xs p i)) ∙ (blank_there i a b).0;
        blank_values = λ i a b. ap (le 4 xs) (sym (value_there xs p i)) ∙ (blank_there i a b).1;
      }

  pub part_keys : keys (eqb p (parts_of xs)) (keys_in (rows_of xs p)) ≡ true
  part_keys =
      ap (keys (eqb p (parts_of xs))) (rows_keys xs p)
      ∙ at_keys keys (eqb p (parts_of xs)) xs (cap_of xs) (used_of xs p) (key_at xs p 0) (value_at xs p 0) there

pub part_passes : (keys : Bool → List ℕ → Bool) (xs : List ℕ) (p : ℕ) → Filled xs p →
    keys (eqb p (parts_of xs)) (keys_in (rows_of xs p)) ≡ true → part_ok_by keys xs p ≡ true
unfolding part_ok_by
part_passes keys xs p f g =
    at_passes keys (eqb p (parts_of xs)) xs (cap_of xs) (used_of xs p) (key_at xs p 0) (value_at xs p 0) f.fit
    (ap (keys (eqb p (parts_of xs))) (sym (rows_keys xs p)) ∙ g)
    (λ i a b. (ap (le 8 xs) (key_there xs p i) ∙ f.blank_keys i a b, ap (le 4 xs) (value_there xs p i) ∙ f.blank_values i a b))

-- bytes of the right shape that pass question 11 are sound, and back
pub sound_of : (xs : List ℕ) → Dimensions xs → question11 xs ≡ true → Sound xs
unfolding question11 KeysGood
sound_of xs s e =
    let one : (p : ℕ) → p ≤ parts_of xs → part_ok xs p ≡ true =
    λ p l. each_at (part_ok xs) (parts_of xs + 1) 0 e p (omega arith) (omega arith) in
    record {
      formed = record { shape = s; filled = λ p l. part_filled keys_ok xs p (one p l) };
      keys = λ p l. part_keys keys_ok xs p (one p l);
    }

rows_pass : (xs : List ℕ) → Sound xs → question11 xs ≡ true
unfolding question11 KeysGood
rows_pass xs s = each_all (part_ok xs) (parts_of xs + 1) 0
    (λ p a b. part_passes keys_ok xs p (s.formed.filled p (omega arith)) (s.keys p (omega arith)))

-- ---- questions 9 to 12 together

pub store_ok : (xs : List ℕ) → store_refusal xs ≡ none → Sound xs × (question12 xs ≡ true)
unfolding store_refusal
store_ok xs e =
    let a = ask_none (number 9) (question9 xs) _ e in
    let b = ask_none (number 10) (question10 xs) _ a.1 in
    let c = ask_none (number 11) (question11 xs) _ b.1 in
    (sound_of xs (shape_ok xs a.0 b.0) c.0, (ask_none (number 12) (question12 xs) none c.1).0)

pub store_passes : (xs : List ℕ) → Sound xs → question12 xs ≡ true → store_refusal xs ≡ none
unfolding store_refusal
store_passes xs s t =
    let q = shape_passes xs s.formed.shape in
    ask_yes (number 9) (question9 xs) _ q.0
    ∙ ask_yes (number 10) (question10 xs) _ q.1
    ∙ ask_yes (number 11) (question11 xs) _ (rows_pass xs s)
    ∙ ask_yes (number 12) (question12 xs) none t

-- ---- a put keeps good keys good

-- keys that are of a form and rise are unlike
pub rises_unlike : (k : ℕ) (ks : List ℕ) → rising (k ∷ ks) ≡ true → member k ks ≡ false
unfolding rising ahead member
rises_unlike k [] u = refl
rises_unlike k (x ∷ ks) u =
    let l : k < x = ltb-true k x (and_left (ltb k x) _ u) in
    rw (ne_eqb x k (omega arith)) (rises_unlike k ks (lower ks (and_right (ltb k x) _ u)))
  where
    lower : (ks : List ℕ) → rising (x ∷ ks) ≡ true → rising (k ∷ ks) ≡ true
    lower [] w = refl
    lower (y ∷ ys) w = and_both (ltb k y) _
        (lt-ltb k y (omega (arith, ltb-true x y (and_left (ltb x y) _ w), ltb-true k x (and_left (ltb k x) _ u)))) (and_right (ltb x y) _ w)

rises_apart : (b : Bool) (ks : List ℕ) → all_in (is_form b) ks ≡ true → rising ks ≡ true → keys_apart b ks ≡ true
unfolding keys_apart all_in rising
rises_apart b [] a u = refl
rises_apart b (k ∷ ks) a u =
    and_both (is_form b k) _ (and_left (is_form b k) _ a)
    (and_both (not (member k ks)) _ (ap not (rises_unlike k ks u))
    (rises_apart b ks (and_right (is_form b k) _ a) (and_right (ahead k ks) _ u)))

pub keys_rise : (b : Bool) (ks : List ℕ) → all_in (is_form b) ks ≡ true → rising ks ≡ true → keys_ok b ks ≡ true
unfolding keys_ok
keys_rise b ks a u = and_both (keys_apart b ks) _ (rises_apart b ks a u) u

-- and back
pub apart_forms : (b : Bool) (ks : List ℕ) → keys_apart b ks ≡ true → all_in (is_form b) ks ≡ true
unfolding keys_apart all_in
apart_forms b [] h = refl
apart_forms b (k ∷ ks) h =
    and_both (is_form b k) _ (and_left (is_form b k) _ h) (apart_forms b ks (and_right (not (member k ks)) _ (and_right (is_form b k) _ h)))

-- a key of no form has no row
pub no_form : (b : Bool) (k : ℕ) (rows : List Row) → all_in (is_form b) (keys_in rows) ≡ true → is_form b k ≡ false → lookup k rows ≡ none
unfolding all_in keys_in lookup
no_form b k [] h n = refl
no_form b k (r ∷ rows) h n =
    rw (ne_eqb r.0 k (λ e. yes_no (sym (and_left (is_form b r.0) _ h) ∙ ap (is_form b) e ∙ n)))
    (no_form b k rows (and_right (is_form b r.0) _ h) n)

pub keys_apart_lem : (b : Bool) (ks : List ℕ) → keys_ok b ks ≡ true → keys_apart b ks ≡ true
unfolding keys_ok
keys_apart_lem b ks h = and_left (keys_apart b ks) (rising ks) h

pub keys_rising : (b : Bool) (ks : List ℕ) → keys_ok b ks ≡ true → rising ks ≡ true
unfolding keys_ok
keys_rising b ks h = and_right (keys_apart b ks) (rising ks) h

-- the keys of a partition of a sound store rise
pub rows_rise : (xs : List ℕ) → Sound xs → (p : ℕ) → p ≤ parts_of xs → rising (keys_in (rows_of xs p)) ≡ true
unfolding KeysGood
rows_rise xs s p l = keys_rising (eqb p (parts_of xs)) (keys_in (rows_of xs p)) (s.keys p l)

pub all_put : (f : ℕ → Bool) (k v : ℕ) (rs : List Row) → f k ≡ true → all_in f (keys_in rs) ≡ true → all_in f (keys_in (put_row k v rs)) ≡ true
unfolding all_in keys_in put_row
all_put f k v [] h a = and_both (f k) true h refl
all_put f k v (r ∷ rs) h a = go (all_put f k v rs h (and_right (f r.0) _ a)) (eqb r.0 k) refl (ltb k r.0) refl
  where
    go : all_in f (keys_in (put_row k v rs)) ≡ true → (t : Bool) → eqb r.0 k ≡ t → (u : Bool) → ltb k r.0 ≡ u →
        all_in f (keys_in (put_row k v (r ∷ rs))) ≡ true
    go ih true e u w = rw e a
    go ih false e true w = rw (e, w) (and_both (f k) _ h a)
    go ih false e false w = rw (e, w) (and_both (f r.0) _ (and_left (f r.0) _ a) ih)

ahead_put : (x k v : ℕ) (rs : List Row) → x < k → ahead x (keys_in rs) ≡ true → ahead x (keys_in (put_row k v rs)) ≡ true
unfolding ahead keys_in put_row
ahead_put x k v [] l h = lt-ltb x k l
ahead_put x k v (r ∷ rs) l h = go (eqb r.0 k) refl (ltb k r.0) refl
  where
    go : (t : Bool) → eqb r.0 k ≡ t → (u : Bool) → ltb k r.0 ≡ u → ahead x (keys_in (put_row k v (r ∷ rs))) ≡ true
    go true e u w = rw e h
    go false e true w = rw (e, w) (lt-ltb x k l)
    go false e false w = rw (e, w) h

pub rising_put : (k v : ℕ) (rs : List Row) → rising (keys_in rs) ≡ true → rising (keys_in (put_row k v rs)) ≡ true
unfolding rising ahead keys_in put_row
rising_put k v [] u = refl
rising_put k v (r ∷ rs) u = go (rising_put k v rs (and_right (ahead r.0 (keys_in rs)) _ u)) (eqb r.0 k) refl (ltb k r.0) refl
  where
    go : rising (keys_in (put_row k v rs)) ≡ true → (t : Bool) → eqb r.0 k ≡ t → (w : Bool) → ltb k r.0 ≡ w →
        rising (keys_in (put_row k v (r ∷ rs))) ≡ true
    go ih true e w f = rw e u
    go ih false e true f = rw (e, f) (and_both (ltb k r.0) _ f u)
    go ih false e false f =
        rw (e, f)
        (and_both (ahead r.0 (keys_in (put_row k v rs))) _
        (ahead_put r.0 k v rs (omega (arith, ltb-false k r.0 f, eqb-false r.0 k e)) (and_left (ahead r.0 (keys_in rs)) _ u))
        ih)

-- the keys after a put
keys_put : (b : Bool) (k v : ℕ) (rs : List Row) → is_form b k ≡ true → keys_ok b (keys_in rs) ≡ true →
    keys_ok b (keys_in (put_row k v rs)) ≡ true
keys_put b k v rs f h =
    keys_rise b (keys_in (put_row k v rs)) (all_put (is_form b) k v rs f (apart_forms b (keys_in rs) (keys_apart_lem b (keys_in rs) h)))
    (rising_put k v rs (keys_rising b (keys_in rs) h))

-- and after a run of puts
pub keys_put_all : (b : Bool) (ps rs : List Row) → all_in (is_form b) (keys_in ps) ≡ true → keys_ok b (keys_in rs) ≡ true →
    keys_ok b (keys_in (put_all ps rs)) ≡ true
unfolding put_all keys_in all_in
keys_put_all b [] rs a h = h
keys_put_all b (r ∷ ps) rs a h =
    keys_put_all b ps (put_row r.0 r.1 rs) (and_right (is_form b r.0) _ a)
    (keys_put b r.0 r.1 rs (and_left (is_form b r.0) _ a) h)

good_alter : (st : Store) (p : ℕ) (f : List Row → List Row) → KeysGood st → keys_ok (eqb p st.parts) (keys_in (f (st.rows p))) ≡ true →
    KeysGood (alter p f st)
unfolding KeysGood
good_alter st p f g k q l = go (ℕ_discrete q p)
  where
    same : (alter p f st).parts ≡ st.parts
    same = unfold alter in refl

    go : Dec (q ≡ p) → keys_ok (eqb q (alter p f st).parts) (keys_in ((alter p f st).rows q)) ≡ true
    go (yes e) = rw (same, e, alter_here p f st) k
    go (no n) = rw (same, alter_there p q f st n) (g q (subst (λ (n : ℕ). q ≤ n) same l))

-- a change of sound bytes that leaves the partition's keys in order leaves sound bytes
pub stored_by : (xs ys : List ℕ) (p : ℕ) (f : List Row → List Row) → Sound xs →
    keys_ok (eqb p (parts_of xs)) (keys_in (f (rows_of xs p))) ≡ true → Changed xs ys p f →
    Stored xs ys p f
stored_by xs ys p f s k c =
    record {
      sound = record { formed = c.formed; keys = subst KeysGood (sym c.is) (good_alter (store_of xs) p f s.keys k) };
      is = c.is;
    }

-- ---- tests of every key

-- what holds of every key holds of one of them
pub in_all : (f : ℕ → Bool) (ks : List ℕ) (k : ℕ) → all_in f ks ≡ true → member k ks ≡ true → f k ≡ true
unfolding all_in member
in_all f [] k a m = yes_no (sym m)
in_all f (x ∷ ks) k a m = go (in_all f ks k (and_right (f x) (all_in f ks) a)) (eqb x k) refl
  where
    go : (member k ks ≡ true → f k ≡ true) → (t : Bool) → eqb x k ≡ t → f k ≡ true
    go ih true e = ap f (sym (eqb-true x k e)) ∙ and_left (f x) (all_in f ks) a
    go ih false e = ih (rw e at m)

pub all_at : (f : ℕ → Bool) (ks : List ℕ) (i : ℕ) → all_in f ks ≡ true → i < length ks → f (get_or ks i 0) ≡ true
unfolding all_in
all_at f [] i a h = absurd (omega arith)
all_at f (k ∷ ks) zero a h = and_left (f k) (all_in f ks) a
all_at f (k ∷ ks) (suc i) a h = all_at f ks i (and_right (f k) (all_in f ks) a) (omega arith)

-- and back
pub all_members : (f : ℕ → Bool) (ks : List ℕ) → ((k : ℕ) → member k ks ≡ true → f k ≡ true) → all_in f ks ≡ true
unfolding all_in member
all_members f [] h = refl
all_members f (x ∷ ks) h =
    and_both (f x) (all_in f ks) (h x (rw (eq-eqb x x refl) refl)) (all_members f ks (λ k m. h k (go (eqb x k) m)))
  where
    go : {m : Bool} (b : Bool) → m ≡ true → (b || m) ≡ true
    go true e = refl
    go false e = e

-- ---- question 12

-- 12 by its two parts, and back
pub book_parts : (rows : List Row) → book_right rows ≡ true →
    (book_ok (keys_in rows) ≡ true) × (from_floor (floor_at (λ k. lookup k rows)) (keys_in rows) ≡ true)
unfolding book_right
book_parts rows b = (and_left (book_ok (keys_in rows)) _ b, and_right (book_ok (keys_in rows)) _ b)

pub book_whole : (rows : List Row) → book_ok (keys_in rows) ≡ true → from_floor (floor_at (λ k. lookup k rows)) (keys_in rows) ≡ true →
    book_right rows ≡ true
unfolding book_right
book_whole rows b f = and_both (book_ok (keys_in rows)) _ b f

-- the same of a store
pub twelve_parts : (xs : List ℕ) → question12 xs ≡ true →
    (book_ok (keys_in (rows_of xs (parts_of xs))) ≡ true)
    × (from_floor (floor_at (λ k. lookup k (rows_of xs (parts_of xs)))) (keys_in (rows_of xs (parts_of xs))) ≡ true)
unfolding question12
twelve_parts xs q = book_parts (rows_of xs (parts_of xs)) q

-- what is asked of each key but the floor's is asked of one that isn't it
past_floor : (f : ℕ → Bool) (ks : List ℕ) (k : ℕ) → all_in (λ i. is_floor_key i || f i) ks ≡ true → is_floor_key k ≡ false →
    member k ks ≡ true → f k ≡ true
past_floor f ks k a n m =
    ap (λ (b : Bool). b || f k) (sym n) ∙ in_all (λ i. is_floor_key i || f i) ks k a m

-- and back
each_past : (f : ℕ → Bool) (ks : List ℕ) → ((k : ℕ) → is_floor_key k ≡ false → member k ks ≡ true → f k ≡ true) →
    all_in (λ i. is_floor_key i || f i) ks ≡ true
each_past f ks h = all_members (λ i. is_floor_key i || f i) ks (λ k m. go k m (is_floor_key k) refl)
  where
    go : (k : ℕ) → member k ks ≡ true → (t : Bool) → is_floor_key k ≡ t → (is_floor_key k || f k) ≡ true
    go k m true e = rw e refl
    go k m false e = rw e (h k e m)

-- a booked id has all five rows: of a key that isn't the floor's
pub key_five : (ks : List ℕ) (k j : ℕ) → book_ok ks ≡ true → is_floor_key k ≡ false → member k ks ≡ true → j < 5 →
    member (book_key (k / 8) j) ks ≡ true
unfolding book_ok five
key_five ks k j b n m h =
    each_at (λ i. member (book_key (k / 8) i) ks) 5 0 (past_floor (λ i. five ks (i / 8)) ks k b n m) j (omega arith) (omega arith)

-- of a book key
pub book_five : (ks : List ℕ) (k j : ℕ) → book_ok ks ≡ true → is_book_key k ≡ true → member k ks ≡ true → j < 5 →
    member (book_key (k / 8) j) ks ≡ true
book_five ks k j b o m h = key_five ks k j b (book_no_floor k o) m h

-- and isn't below the floor
pub key_above : (floor : ℕ) (ks : List ℕ) (k : ℕ) → from_floor floor ks ≡ true → is_floor_key k ≡ false → member k ks ≡ true →
    floor ≤ booked_id k
unfolding from_floor
key_above floor ks k b n m = leb-true floor (booked_id k) (past_floor (λ i. leb floor (booked_id i)) ks k b n m)

pub book_above : (floor : ℕ) (ks : List ℕ) (k : ℕ) → from_floor floor ks ≡ true → is_book_key k ≡ true → member k ks ≡ true →
    floor ≤ booked_id k
book_above floor ks k b o m = key_above floor ks k b (book_no_floor k o) m

-- and back, by each key that isn't the floor's
pub all_five : (ks : List ℕ) → ((k : ℕ) → is_floor_key k ≡ false → member k ks ≡ true → five ks (booked_id k) ≡ true) → book_ok ks ≡ true
unfolding book_ok
all_five ks h = each_past (λ k. five ks (booked_id k)) ks h

pub all_above : (floor : ℕ) (ks : List ℕ) → ((k : ℕ) → is_floor_key k ≡ false → member k ks ≡ true → floor ≤ booked_id k) →
    from_floor floor ks ≡ true
unfolding from_floor
all_above floor ks h = each_past (λ k. leb floor (booked_id k)) ks (λ k n m. le-leb floor (booked_id k) (h k n m))

-- and back
pub five_all : (ks : List ℕ) (id : ℕ) → ((j : ℕ) → j < 5 → member (book_key id j) ks ≡ true) → five ks id ≡ true
unfolding five
five_all ks id h = each_all (λ i. member (book_key id i) ks) 5 0 (λ j a b. h j (omega arith))

-- ---- question 21: the rows that a run of puts adds

count_other : (ks : List ℕ) (k v : ℕ) (rs : List Row) → member k ks ≡ false → count_new ks (put_row k v rs) ≡ count_new ks rs
unfolding count_new member
count_other [] k v rs m = refl
count_other (j ∷ ks) k v rs m = go (count_other ks k v rs) (eqb j k) refl
  where
    go : (member k ks ≡ false → count_new ks (put_row k v rs) ≡ count_new ks rs) → (t : Bool) → eqb j k ≡ t →
        count_new (j ∷ ks) (put_row k v rs) ≡ count_new (j ∷ ks) rs
    go ih true e = yes_no (rw e at m)
    go ih false e = ap₂ (λ (o : Option ℕ) (n : ℕ). new_rows o + n) (lookup_put_other k v j rs (λ q. yes_no (sym (eq-eqb j k q) ∙ e)))
        (ih (rw e at m))

pub length_put_all : (book : Bool) (ks vs : List ℕ) (rs : List Row) → length ks ≡ length vs → unlike ks ≡ true →
    all_in (is_form book) ks ≡ true → keys_ok book (keys_in rs) ≡ true
    → length (put_all (pairs ks vs) rs) ≡ length rs + count_new ks rs
unfolding put_all pairs count_new unlike all_in
length_put_all book [] vs rs e u a h = omega arith
length_put_all book (k ∷ ks) [] rs e u a h = absurd (omega arith)
length_put_all book (k ∷ ks) (v ∷ vs) rs e u a h =
    omega (
      arith,
      length_put_all book ks vs (put_row k v rs) (omega arith) (and_right (not (member k ks)) (unlike ks) u)
          (and_right (is_form book k) (all_in (is_form book) ks) a)
          (keys_put book k v rs (and_left (is_form book k) (all_in (is_form book) ks) a) h),
      length_put book k v rs h,
      count_other ks k v rs (not-true (member k ks) (and_left (not (member k ks)) (unlike ks) u)),
    )

-- ---- the keys that callers make are of a form of their partition

pub log_form : (P p id t : ℕ) → p < P → id < 2 ^ 32 → t < 65536 → is_form (eqb p P) (log_key id t) ≡ true
unfolding is_form
log_form P p id t l h g = rw (ne_eqb p P (omega arith), log_no_data (log_key id t) (log_is id t h g), log_is id t h g) refl

pub book_form : (P id j : ℕ) → id < 2 ^ 32 → j ≤ 4 → is_form (eqb P P) (book_key id j) ≡ true
unfolding is_form
book_form P id j h g = rw (eq-eqb P P refl, book_is id j h g) refl
