-- The book by rising key: the five rows of an id stand side by side, so the fifth key is the last of the first one's five; all else is
-- forced, since each but the last is a book key.
use mathlib.Core.Bool.{Bool, true, false, ◌&&◌, ◌||◌, or-true}
use mathlib.Core.List.{List, [], ◌∷◌}
use mathlib.Core.Logic.{⊎_elim}
use mathlib.Core.Path.{◌≡◌, refl, sym, ap, ap₂, subst, ◌∙◌, fun_ext}
use Prim.Native.Nat.{ℕ, zero, suc, ◌+◌, ◌≤◌, ◌<◌}
use native.Mathlib.Nat.{add-zero}
use native.Mathlib.Omega.{arith}
use borrow.Author.Tests.{ltb-true, eqb-true, eqb-false, eq-eqb, ne_eqb}
use lib.Dec.{eqb, ltb}
use lib.ListN.{length, get_or}
use Rattle.words.specs.Words.{le, fields}
use Rattle.words.proofs.Laws.{length_fields}
use Rattle.questions.specs.Basics.{each}
use Rattle.keys.specs.Keys.{book_key, is_book_key, booked_id, book_row, last_of_five, is_floor_key, is_form}
use Rattle.keys.proofs.Keys.{book_again, form_book, form_floor, book_no_floor}
use Rattle.questions.proofs.Tests.{no_yes, and_left, and_right}
use Rattle.store.specs.Questions.{member, ahead, rising, keys_ok, all_in, five, book_ok}
use Rattle.store.proofs.Sound.{keys_rise, apart_forms, keys_apart_lem, keys_rising, all_at, in_all, key_five, five_all}
use Rattle.store_check.proofs.Steps.{member_behind, member_in}

-- ---- members of keys that rise

here : (k : ℕ) (ks : List ℕ) → member k (k ∷ ks) ≡ true
unfolding member
here k ks = rw (eq-eqb k k refl) refl

behind : (k x : ℕ) (ks : List ℕ) → (k ≡ x → ⊥) → member x (k ∷ ks) ≡ true → member x ks ≡ true
unfolding member
behind k x ks n m = rw (ne_eqb k x n) at m

rising_behind : (k : ℕ) (ks : List ℕ) → rising (k ∷ ks) ≡ true → rising ks ≡ true
unfolding rising
rising_behind k ks u = and_right (ahead k ks) (rising ks) u

rising_next : (k x : ℕ) (ks : List ℕ) → rising (k ∷ x ∷ ks) ≡ true → k < x
unfolding rising ahead
rising_next k x ks u = ltb-true k x (and_left (ltb k x) _ u)

pub forms : (ks : List ℕ) → keys_ok true ks ≡ true → all_in (is_form true) ks ≡ true
forms ks g = apart_forms true ks (keys_apart_lem true ks g)

keys_behind : (k : ℕ) (ks : List ℕ) → keys_ok true (k ∷ ks) ≡ true → keys_ok true ks ≡ true
unfolding all_in
keys_behind k ks g =
    keys_rise true ks (and_right (is_form true k) (all_in (is_form true) ks) (forms (k ∷ ks) g))
    (rising_behind k ks (keys_rising true (k ∷ ks) g))

row_low : (k : ℕ) → is_form true k ≡ true → book_row k ≤ 4
row_low k f = ⊎_elim (λ b. (book_again k b).1) (λ z. omega (arith, z)) (form_book k f)

-- a key that another follows is a book key: the floor's is the greatest
followed : (k x : ℕ) (ks : List ℕ) → keys_ok true (k ∷ x ∷ ks) ≡ true → is_book_key k ≡ true
unfolding all_in
followed k x ks g =
    let l = rising_next k x ks (keys_rising true (k ∷ x ∷ ks) g) in
    let f = forms (k ∷ x ∷ ks) g in
    let h = form_floor x (and_left (is_form true x) _ (and_right (is_form true k) _ f)) in
    ⊎_elim (λ b. b) (λ z. absurd (omega arith)) (form_book k (and_left (is_form true k) _ f))

-- the keys behind a key are greater
greater : (k x : ℕ) (ks : List ℕ) → rising (k ∷ ks) ≡ true → member x ks ≡ true → k < x
greater k x [] u m = no_yes (unfold member in m)
greater k x (y ∷ ks) u m = go (greater y x ks (rising_behind k (y ∷ ks) u)) (eqb y x) refl
  where
    go : (member x ks ≡ true → y < x) → (b : Bool) → eqb y x ≡ b → k < x
    go ih true e = omega (arith, rising_next k y ks u, eqb-true y x e)
    go ih false e = omega (arith, rising_next k y ks u, ih (behind y x ks (eqb-false y x e) m))

pub least : (k x : ℕ) (ks : List ℕ) → rising (k ∷ ks) ≡ true → member x (k ∷ ks) ≡ true → k ≤ x
least k x ks u m = go (eqb k x) refl
  where
    go : (b : Bool) → eqb k x ≡ b → k ≤ x
    go true e = omega (arith, eqb-true k x e)
    go false e = omega (arith, greater k x ks u (behind k x ks (eqb-false k x e) m))

-- where k is the first and k + 1 up to k + m are among them, these come next
side : (m k : ℕ) (ks : List ℕ) → rising (k ∷ ks) ≡ true → ((j : ℕ) → j ≤ m → member (k + j) (k ∷ ks) ≡ true)
    → (m < length (k ∷ ks)) × (get_or (k ∷ ks) m 0 ≡ k + m)
side zero k ks u h = (omega arith, sym (add-zero k))
side (suc m) k [] u h = no_yes (unfold member in behind k (k + 1) [] (λ e. omega arith) (h 1 (omega arith)))
side (suc m) k (x ∷ ks) u h =
    let next = rising_behind k (x ∷ ks) u in
    let low = rising_next k x ks u in
    let high = least x (k + 1) ks next (behind k (k + 1) (x ∷ ks) (λ e. omega arith) (h 1 (omega arith))) in
    let moved : (j : ℕ) → j ≤ m → member (x + j) (k ∷ x ∷ ks) ≡ true =
    λ j l. subst (λ (y : ℕ). member y (k ∷ x ∷ ks) ≡ true) (omega arith) (h (suc j) (omega arith)) in
    let r = side m x ks next (λ j l. behind k (x + j) (x ∷ ks) (λ e. omega arith) (moved j l)) in
    (omega (arith, r.0), r.1 ∙ omega arith)

-- ---- a book that has all five rows of the first key's id

module _ (k : ℕ) (ks : List ℕ) (n : is_floor_key k ≡ false) (u : rising (k ∷ ks) ≡ true) (b : book_ok (k ∷ ks) ≡ true) where
  first_is : book_row k ≡ 0
  first_is = omega (arith, least k (book_key (booked_id k) 0) ks u (key_five (k ∷ ks) k 0 b n (here k ks) (omega arith)))

  fifth_is : (4 < length (k ∷ ks)) × (get_or (k ∷ ks) 4 0 ≡ last_of_five k)
  fifth_is =
      side 4 k ks u
      (λ j l. subst (λ (y : ℕ). member y (k ∷ ks) ≡ true) (omega (arith, first_is)) (key_five (k ∷ ks) k j b n (here k ks) (omega arith)))

all_same : (f g : ℕ → Bool) (ks : List ℕ) → ((k : ℕ) → member k ks ≡ true → f k ≡ g k) → all_in f ks ≡ all_in g ks
unfolding all_in
all_same f g [] h = refl
all_same f g (x ∷ ks) h = ap₂ ◌&&◌ (h x (here x ks)) (all_same f g ks (λ k m. h k (member_behind x k ks m)))

-- ---- five rows side by side

module _ (k k1 k2 k3 k4 : ℕ) (ks : List ℕ) (g : keys_ok true (k ∷ k1 ∷ k2 ∷ k3 ∷ k4 ∷ ks) ≡ true) where
  abbrev all : List ℕ
  all = k ∷ k1 ∷ k2 ∷ k3 ∷ k4 ∷ ks

  keys_fifth : keys_ok true (k4 ∷ ks) ≡ true
  keys_fifth =
      keys_behind k3 (k4 ∷ ks)
      (keys_behind k2 (k3 ∷ k4 ∷ ks)
      (keys_behind k1 (k2 ∷ k3 ∷ k4 ∷ ks)
      (keys_behind k (k1 ∷ k2 ∷ k3 ∷ k4 ∷ ks) g)))

  keys_past : keys_ok true ks ≡ true
  keys_past = keys_behind k4 ks keys_fifth

  u : rising all ≡ true
  u = keys_rising true all g

  number_at : (i : ℕ) → i < 5 → book_row (get_or all i 0) ≤ 4
  number_at i h = row_low (get_or all i 0) (all_at (is_form true) all i (forms all g) (omega arith))

  module _ (e : k4 ≡ last_of_five k) where
    between : (k1 ≡ k + 1) × (k2 ≡ k + 2) × (k3 ≡ k + 3)
    between =
        let u1 = rising_behind k (k1 ∷ k2 ∷ k3 ∷ k4 ∷ ks) u in
        let u2 = rising_behind k1 (k2 ∷ k3 ∷ k4 ∷ ks) u1 in
        let l = rising_next k k1 (k2 ∷ k3 ∷ k4 ∷ ks) u in
        let l1 = rising_next k1 k2 (k3 ∷ k4 ∷ ks) u1 in
        let l2 = rising_next k2 k3 (k4 ∷ ks) u2 in
        let l3 = rising_next k3 k4 ks (rising_behind k2 (k3 ∷ k4 ∷ ks) u2) in
        (omega arith, omega arith, omega arith)

    -- five numbers in a row, each a book key: the first is row 0 of its id
    first : book_row k ≡ 0
    first =
        let b = between in
        let f0 : book_row k ≤ 4 = number_at 0 (omega arith) in
        let f1 : book_row k1 ≤ 4 = number_at 1 (omega arith) in
        let f2 : book_row k2 ≤ 4 = number_at 2 (omega arith) in
        let f3 : book_row k3 ≤ 4 = number_at 3 (omega arith) in
        let f4 : book_row k4 ≤ 4 = number_at 4 (omega arith) in
        omega arith

    -- their id has all its rows
    place : (j : ℕ) → j < 5 → get_or all j 0 ≡ book_key (booked_id k) j
    place zero h = omega (arith, first)
    place (suc zero) h = omega (arith, first, between)
    place (suc (suc zero)) h = omega (arith, first, between)
    place (suc (suc (suc zero))) h = omega (arith, first, between)
    place (suc (suc (suc (suc zero)))) h = omega (arith, first)
    place (suc (suc (suc (suc (suc j))))) h = absurd (omega arith)

    own : (x : ℕ) → booked_id x ≡ booked_id k → (is_floor_key x || five all (booked_id x)) ≡ true
    own x q =
        ap (λ (b : Bool). is_floor_key x || b)
        (ap (five all) q ∙ five_all all (booked_id k) (λ j h. member_in (book_key (booked_id k) j) all j (omega arith) (place j h)))
        ∙ or-true (is_floor_key x)

    -- a key behind is of another id, whose rows are behind
    past : (x : ℕ) → k4 < x → member x all ≡ member x ks
    unfolding member
    past x l =
        let b = between in
        let less : (y : ℕ) → y ≤ k4 → eqb y x ≡ false = λ y h. ne_eqb y x (λ q. omega arith) in
        rw (less k (omega arith), less k1 (omega arith), less k2 (omega arith), less k3 (omega arith), less k4 (omega arith)) refl

    later : (x : ℕ) → member x ks ≡ true → five all (booked_id x) ≡ five ks (booked_id x)
    unfolding five
    later x m =
        let z = first in
        let l = greater k4 x ks (keys_rising true (k4 ∷ ks) keys_fifth) m in
        let b = row_low x (in_all (is_form true) ks x (forms ks keys_past) m) in
        ap (each 5)
        (fun_ext {f = λ (j : ℕ). member (book_key (booked_id x) j) all} {g = λ (j : ℕ). member (book_key (booked_id x) j) ks}
        (λ j. past (book_key (booked_id x) j) (omega arith)))

    whole : book_ok all ≡ book_ok ks
    unfolding book_ok all_in
    whole =
        let z = first in
        let b = between in
        rw (own k refl, own k1 (omega arith), own k2 (omega arith), own k3 (omega arith), own k4 (omega arith))
        (all_same (λ (x : ℕ). is_floor_key x || five all (booked_id x)) (λ (x : ℕ). is_floor_key x || five ks (booked_id x)) ks
        (λ x m. ap (λ (b : Bool). is_floor_key x || b) (later x m)))

  -- The first five keys are those of one id, and the rest have all five rows of each of theirs.
  five_first : book_ok all ≡ (eqb k4 (last_of_five k) && book_ok ks)
  five_first = go (eqb k4 (last_of_five k)) refl (book_ok all) refl
    where
      go : (b : Bool) → eqb k4 (last_of_five k) ≡ b → (t : Bool) → book_ok all ≡ t → book_ok all ≡ (eqb k4 (last_of_five k) && book_ok ks)
      go true eb t et = rw eb (whole (eqb-true k4 (last_of_five k) eb))
      go false eb true et =
          let n = book_no_floor k (followed k k1 (k2 ∷ k3 ∷ k4 ∷ ks) g) in
          absurd (eqb-false k4 (last_of_five k) eb (fifth_is k (k1 ∷ k2 ∷ k3 ∷ k4 ∷ ks) n u et).1)
      go false eb false et = rw eb et

-- Of fewer than five keys each but the floor's is one of an id that lacks a row.
lacks : (k : ℕ) (ks : List ℕ) → is_floor_key k ≡ false → rising (k ∷ ks) ≡ true → length ks < 4 → book_ok (k ∷ ks) ≡ false
lacks k ks n u h = go (book_ok (k ∷ ks)) refl
  where
    go : (t : Bool) → book_ok (k ∷ ks) ≡ t → book_ok (k ∷ ks) ≡ false
    go true e = absurd (omega (arith, (fifth_is k ks n u e).0))
    go false e = e

five_one : (k : ℕ) → book_ok (k ∷ []) ≡ is_floor_key k
five_one k = go (is_floor_key k) refl
  where
    go : (t : Bool) → is_floor_key k ≡ t → book_ok (k ∷ []) ≡ is_floor_key k
    go true e = unfold book_ok all_in in rw e refl
    go false e = lacks k [] e (unfold rising ahead in refl) (omega arith) ∙ sym e

five_few : (ks : List ℕ) → keys_ok true ks ≡ true → (length ks ≡ 1 → ⊥) → length ks < 5 → book_ok ks ≡ eqb (length ks) 0
five_few [] g n h = unfold book_ok all_in in refl
five_few (k ∷ []) g n h = absurd (n refl)
five_few (k ∷ x ∷ ks) g n h =
    lacks k (x ∷ ks) (book_no_floor k (followed k x ks g)) (keys_rising true (k ∷ x ∷ ks) g) (omega arith)
    ∙ sym (ne_eqb (suc (suc (length ks))) 0 (λ e. omega arith))

-- ---- keys still to be read

pub book_few : (xs : List ℕ) (at m : ℕ) → keys_ok true (fields 8 xs at m) ≡ true → (m ≡ 1 → ⊥) → m < 5 → book_ok (fields 8 xs at m) ≡ eqb m 0
book_few xs at m g n h =
    let e = length_fields 8 xs at m in
    five_few (fields 8 xs at m) g (λ q. n (sym e ∙ q)) (omega (arith, e)) ∙ ap (λ (n : ℕ). eqb n 0) e

-- one is left, which was read
pub book_one : (xs : List ℕ) (at m k : ℕ) → m ≡ 1 → k ≡ le 8 xs at → book_ok (fields 8 xs at m) ≡ is_floor_key k
unfolding fields
book_one xs at m k e q = rw (e, q) (five_one (le 8 xs at))

-- at least five are left
module _ (xs : List ℕ) (at m n next : ℕ) (e : m ≡ suc (suc (suc (suc (suc n))))) (en : next ≡ at + 40) (g : keys_ok true (fields 8 xs at m) ≡ true) where
  abbrev rest : List ℕ
  rest = fields 8 xs next n

  spread : fields 8 xs at m ≡ le 8 xs at ∷ le 8 xs (at + 8) ∷ le 8 xs (at + 16) ∷ le 8 xs (at + 24) ∷ le 8 xs (at + 32) ∷ rest
  unfolding fields
  spread =
      let o2 : at + 8 + 8 ≡ at + 16 = omega arith in
      let o3 : at + 16 + 8 ≡ at + 24 = omega arith in
      let o4 : at + 24 + 8 ≡ at + 32 = omega arith in
      let o5 : at + 32 + 8 ≡ next = omega arith in
      rw (e, o2, o3, o4, o5) refl

  good : keys_ok true (le 8 xs at ∷ le 8 xs (at + 8) ∷ le 8 xs (at + 16) ∷ le 8 xs (at + 24) ∷ le 8 xs (at + 32) ∷ rest) ≡ true
  good = ap (keys_ok true) (sym spread) ∙ g

  pub book_next : keys_ok true rest ≡ true
  book_next = keys_past (le 8 xs at) (le 8 xs (at + 8)) (le 8 xs (at + 16)) (le 8 xs (at + 24)) (le 8 xs (at + 32)) rest good

  -- by the key that was read
  pub book_key_lem : (k : ℕ) → k ≡ le 8 xs at → is_book_key k ≡ true
  book_key_lem k q = rw q (followed (le 8 xs at) (le 8 xs (at + 8)) (le 8 xs (at + 16) ∷ le 8 xs (at + 24) ∷ le 8 xs (at + 32) ∷ rest) good)

  -- by the keys that were read
  module _ (k k4 : ℕ) (q : k ≡ le 8 xs at) (q4 : k4 ≡ le 8 xs (at + 32)) where
    book_step : book_ok (fields 8 xs at m) ≡ (eqb k4 (last_of_five k) && book_ok rest)
    book_step =
        ap book_ok spread
        ∙ five_first (le 8 xs at) (le 8 xs (at + 8)) (le 8 xs (at + 16)) (le 8 xs (at + 24)) (le 8 xs (at + 32)) rest good
        ∙ rw (q, q4) refl

    pub book_no : (k4 ≡ last_of_five k → ⊥) → book_ok (fields 8 xs at m) ≡ false
    book_no h = book_step ∙ rw (ne_eqb k4 (last_of_five k) h) refl

    pub book_more : k4 ≡ last_of_five k → book_ok (fields 8 xs at m) ≡ book_ok rest
    book_more h = book_step ∙ rw (eq-eqb k4 (last_of_five k) h) refl
