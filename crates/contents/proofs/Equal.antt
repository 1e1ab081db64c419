-- Equal contents mean equal bytes: two stores that pass 9 to 12, with the same P, that mean the same store of the rules are byte for byte
-- the same.
use mathlib.Core.Bool.{Bool, true, false}
use mathlib.Core.List.{List}
use mathlib.Core.Option
use mathlib.Core.Option.{Option, none, some, some-injective}
use mathlib.Core.Path.{◌≡◌, refl, sym, ap, subst, ◌∙◌, fun_ext}
use Prim.Native.Nat.{ℕ, zero, suc, ◌^◌, ◌≤◌, ◌<◌}
use native.Mathlib.Omega.{arith}
use native.Mathlib.Decide.{dec_lt, ℕ_discrete}
use borrow.Author.Tests.{lt-ltb, eq-eqb, ne_eqb}
use lib.Dec.{eqb, ltb}
use lib.ListN.{length, get_or}
use Rattle.contents.specs.Wrote.{Wrote}
use Rattle.contents.specs.Contents.{value_in, arguments_of, request_of, book_of, contents_of}
use Rattle.questions.specs.Basics.{if◌then◌otherwise◌, is_some}
use Rattle.keys.specs.Keys.{is_data_key, data_of, is_log_key, id_of, step_of, book_key, is_book_key, booked_id, book_row, table_of, log_of}
use Rattle.keys.specs.Keys.{floor_key, is_floor_key}
use Rattle.keys.specs.Keys as Keys
use Rattle.keys.proofs.Keys.{data_said, log_said, book_again, book_is, floor_bounds}
use Rattle.rules.specs.Store.{Request}
use Rattle.rules.specs.Store as Rules
use Rattle.questions.proofs.Tests.{no_yes}
use Rattle.questions.proofs.Updates.{none_some}
use Rattle.store.specs.Layout.{AllBytes, parts_of}
use Rattle.store.specs.Ordered.{InOrder}
use Rattle.store.specs.Rows.{Row, keys_in, lookup, rows_of, store_of}
use Rattle.store.specs.Questions.{member, keys_apart, keys_ok, book_ok, question12, store_refusal}
use Rattle.store.specs.Sound.{Sound}
use Rattle.store.specs.Sound as Sounds
use Rattle.store.proofs.Bytes.{past_rows}
use Rattle.store.proofs.Sound.{store_ok, apart_forms, no_form, keys_apart_lem, keys_rising, book_five, twelve_parts}
use Rattle.store.proofs.Order.{member_is}
use Rattle.store.proofs.Equal.{same_rows, equal_bytes}
use Rattle.contents.specs.Equal.{EqualContents}

-- two partitions that mean the same
same_part : (rs qs : List Row) → keys_apart false (keys_in rs) ≡ true → keys_apart false (keys_in qs) ≡ true
    → ((k : ℕ) → table_of (value_in rs) k ≡ table_of (value_in qs) k) → ((id t : ℕ) → log_of (value_in rs) id t ≡ log_of (value_in qs) id t) →
    (k : ℕ) → lookup k rs ≡ lookup k qs
unfolding Keys.is_form
same_part rs qs a b d l k = go (is_data_key k) refl (is_log_key k) refl
  where
    go : (x : Bool) → is_data_key k ≡ x → (y : Bool) → is_log_key k ≡ y → lookup k rs ≡ lookup k qs
    go true e y f = sym (data_said (value_in rs) k e) ∙ d (data_of k) ∙ data_said (value_in qs) k e
    go false e true f = sym (log_said (value_in rs) k f) ∙ l (id_of k) (step_of k) ∙ log_said (value_in qs) k f
    go false e false f = no_form false k rs (apart_forms false _ a) (rw (e, f) refl)
        ∙ sym (no_form false k qs (apart_forms false _ b) (rw (e, f) refl))

-- ---- the book

some_same : (o o' : Option ℕ) → is_some o ≡ true → is_some o' ≡ true → Option.get_or o 0 ≡ Option.get_or o' 0 → o ≡ o'
some_same none o' a b e = no_yes a
some_same (some v) none a b e = no_yes b
some_same (some v) (some v') a b e = ap some e

module _ (rows : List Row) (whole : book_ok (keys_in rows) ≡ true) (id : ℕ) where
  -- an id whose first row is missing has none
  pub none_booked : (k : ℕ) → is_book_key k ≡ true → booked_id k ≡ id → lookup (book_key id 0) rows ≡ none → lookup k rows ≡ none
  none_booked k b e z = go (lookup k rows) refl
    where
      go : (o : Option ℕ) → lookup k rows ≡ o → lookup k rows ≡ none
      go none f = f
      go (some v) f =
          let m : member (book_key (booked_id k) 0) (keys_in rows) ≡ true =
          book_five (keys_in rows) k 0 whole b (member_is k rows ∙ ap is_some f) (omega arith) in
          no_yes (sym (ap is_some z) ∙ sym (member_is (book_key id 0) rows) ∙ ap (λ (i : ℕ). member (book_key i 0) (keys_in rows)) (sym e) ∙ m)

  -- and one whose first row is there has all five
  all_booked : id < 2 ^ 32 → (w : ℕ) → lookup (book_key id 0) rows ≡ some w → (j : ℕ) → j < 5 → is_some (lookup (book_key id j) rows) ≡ true
  all_booked low w f j h =
      let e : booked_id (book_key id 0) ≡ id = omega arith in
      sym (member_is (book_key id j) rows) ∙ ap (λ (i : ℕ). member (book_key i j) (keys_in rows)) (sym e)
      ∙ book_five (keys_in rows) (book_key id 0) j whole (book_is id 0 low (omega arith)) (member_is (book_key id 0) rows ∙ ap is_some f) h

module _ (rs qs : List Row) (a : keys_apart true (keys_in rs) ≡ true) (b : keys_apart true (keys_in qs) ≡ true)
    (c : book_ok (keys_in rs) ≡ true) (d : book_ok (keys_in qs) ≡ true)
    (h : (id : ℕ) → book_of (value_in rs) id ≡ book_of (value_in qs) id) (same_floor : lookup floor_key rs ≡ lookup floor_key qs) where
  abbrev Same : (k : ℕ) → Type 0
  Same k = lookup k rs ≡ lookup k qs

  by_row : (id w w' : ℕ) → id < 2 ^ 32 → lookup (book_key id 0) rs ≡ some w → lookup (book_key id 0) qs ≡ some w' → w ≡ w' →
      arguments_of (value_in rs) id ≡ arguments_of (value_in qs) id
      → (j : ℕ) → j ≤ 4 → Same (book_key id j)
  by_row id w w' low f g e l zero z = f ∙ ap some e ∙ sym g
  by_row id w w' low f g e l (suc zero) z =
      some_same _ _ (all_booked rs c id low w f 1 (omega arith)) (all_booked qs d id low w' g 1 (omega arith))
      (ap (λ (x : List ℕ). get_or x 0 0) l)
  by_row id w w' low f g e l (suc (suc zero)) z =
      some_same _ _ (all_booked rs c id low w f 2 (omega arith)) (all_booked qs d id low w' g 2 (omega arith))
      (ap (λ (x : List ℕ). get_or x 1 0) l)
  by_row id w w' low f g e l (suc (suc (suc zero))) z =
      some_same _ _ (all_booked rs c id low w f 3 (omega arith)) (all_booked qs d id low w' g 3 (omega arith))
      (ap (λ (x : List ℕ). get_or x 2 0) l)
  by_row id w w' low f g e l (suc (suc (suc (suc zero)))) z =
      some_same _ _ (all_booked rs c id low w f 4 (omega arith)) (all_booked qs d id low w' g 4 (omega arith))
      (ap (λ (x : List ℕ). get_or x 3 0) l)
  by_row id w w' low f g e l (suc (suc (suc (suc (suc j))))) z = absurd (omega arith)

  by_first : (k : ℕ) → is_book_key k ≡ true → booked_id k < 2 ^ 32 → book_row k ≤ 4 → book_key (booked_id k) (book_row k) ≡ k → (o o' : Option ℕ) →
      lookup (book_key (booked_id k) 0) rs ≡ o → lookup (book_key (booked_id k) 0) qs ≡ o' → request_of o
      (arguments_of (value_in rs) (booked_id k)) ≡ request_of o' (arguments_of (value_in qs) (booked_id k)) → Same k
  unfolding request_of
  by_first k b low z is none none f g e = none_booked rs c (booked_id k) k b refl f ∙ sym (none_booked qs d (booked_id k) k b refl g)
  by_first k b low z is none (some w') f g e =
      none_some (record { workflow = w'; arguments = arguments_of (value_in qs) (booked_id k) }) refl e
  by_first k b low z is (some w) none f g e =
      none_some (record { workflow = w; arguments = arguments_of (value_in rs) (booked_id k) }) refl (sym e)
  by_first k b low z is (some w) (some w') f g e =
      let r = some-injective (record { workflow = w; arguments = arguments_of (value_in rs) (booked_id k) })
      (record { workflow = w'; arguments = arguments_of (value_in qs) (booked_id k) }) e in
      subst Same is (by_row (booked_id k) w w' low f g (ap (λ (x : Request). x.workflow) r) (ap (λ (x : Request). x.arguments) r)
      (book_row k) z)

  same_book : (k : ℕ) → Same k
  unfolding Keys.is_form
  same_book k = go (is_book_key k) refl
    where
      go : (x : Bool) → is_book_key k ≡ x → Same k
      go true e =
          let l = book_again k e in
          by_first k e l.0 l.1 l.2 (lookup (book_key (booked_id k) 0) rs) (lookup (book_key (booked_id k) 0) qs) refl refl
          (unfold book_of in rw (lt-ltb (booked_id k) (2 ^ 32) l.0) at (h (booked_id k)))
      go false e = past (is_floor_key k) refl
        where
          past : (y : Bool) → is_floor_key k ≡ y → Same k
          past true f = subst Same (sym (floor_bounds k f)) same_floor
          past false f = no_form true k rs (apart_forms true _ a) (rw (e, f) refl)
              ∙ sym (no_form true k qs (apart_forms true _ b) (rw (e, f) refl))

-- ---- whole stores

pub equal_contents : EqualContents
unfolding contents_of Sounds.KeysGood
equal_contents xs ys bx by px py ep e =
    equal_bytes xs ys sx.0.formed sy.0.formed bx by ep (ap (λ (s : Rules.Store). s.room) e) rows
  where
    sx : Sound xs × (question12 xs ≡ true)
    sx = store_ok xs px

    sy : Sound ys × (question12 ys ≡ true)
    sy = store_ok ys py

    good : (zs : List ℕ) → Sound zs → (p : ℕ) → p ≤ parts_of zs → keys_ok (eqb p (parts_of zs)) (keys_in (rows_of zs p)) ≡ true
    good zs s p l = s.keys p l

    found : (p : ℕ) → Dec (p < parts_of xs) → Dec (p ≡ parts_of xs) → rows_of xs p ≡ rows_of ys p
    found p (yes l) m =
        let gx : keys_ok false (keys_in (rows_of xs p)) ≡ true =
        rw (ne_eqb p (parts_of xs) (omega arith)) at (good xs sx.0 p (omega arith)) in
        let gy : keys_ok false (keys_in (rows_of ys p)) ≡ true =
        rw (ne_eqb p (parts_of ys) (omega (arith, ep))) at (good ys sy.0 p (omega (arith, ep))) in
        same_rows (rows_of xs p) (rows_of ys p) (keys_rising false _ gx) (keys_rising false _ gy)
        (same_part (rows_of xs p) (rows_of ys p) (keys_apart_lem false _ gx) (keys_apart_lem false _ gy)
        (λ k. rw (lt-ltb p (parts_of xs) l, lt-ltb p (parts_of ys) (omega (arith, ep))) at (ap (λ (s : Rules.Store). s.rows p k) e))
        (λ id t. rw (
          lt-ltb p (parts_of xs) l,
          lt-ltb p (parts_of ys) (omega (arith, ep)),
        ) at (ap (λ (s : Rules.Store). s.log.usual p id t) e)))
    found p (no l) (yes m) =
        let gx : keys_ok true (keys_in (rows_of xs p)) ≡ true = rw (eq-eqb p (parts_of xs) m) at (good xs sx.0 p (omega arith)) in
        let gy : keys_ok true (keys_in (rows_of ys p)) ≡ true =
        rw (eq-eqb p (parts_of ys) (m ∙ ep)) at (good ys sy.0 p (omega (arith, ep))) in
        same_rows (rows_of xs p) (rows_of ys p) (keys_rising true _ gx) (keys_rising true _ gy)
        (same_book (rows_of xs p) (rows_of ys p) (keys_apart_lem true _ gx) (keys_apart_lem true _ gy)
        (ap (λ (n : ℕ). book_ok (keys_in (rows_of xs n))) m ∙ (twelve_parts xs sx.1).0)
        (ap (λ (n : ℕ). book_ok (keys_in (rows_of ys n))) (m ∙ ep) ∙ (twelve_parts ys sy.1).0)
        (λ id. ap (λ (n : ℕ). book_of (value_in (rows_of xs n)) id) m ∙ ap (λ (s : Rules.Store). s.book id) e
        ∙ ap (λ (n : ℕ). book_of (value_in (rows_of ys n)) id) (sym (m ∙ ep)))
        (ap (λ (n : ℕ). lookup floor_key (rows_of xs n)) m ∙ ap (λ (s : Rules.Store). s.floor) e
        ∙ ap (λ (n : ℕ). lookup floor_key (rows_of ys n)) (sym (m ∙ ep))))
    found p (no l) (no m) = past_rows xs p (omega arith) ∙ sym (past_rows ys p (omega (arith, ep)))

    rows : (p : ℕ) → rows_of xs p ≡ rows_of ys p
    rows p = found p (dec_lt p (parts_of xs)) (ℕ_discrete p (parts_of xs))

-- The bytes that hold a store of the rules are the only ones.
pub only_bytes : (store store' : List ℕ) (s : Rules.Store) → parts_of store' ≡ parts_of store → contents_of (store_of store') ≡ s →
    AllBytes store' →
    store_refusal store' ≡ none → (other : List ℕ) → AllBytes other → store_refusal other ≡ none → parts_of other ≡ parts_of store →
    contents_of (store_of other) ≡ s → other ≡ store'
only_bytes store store' s p h b r other bo ro po ho = equal_contents other store' bo b ro r (po ∙ sym p) (ho ∙ sym h)

-- ---- rows in another order mean the same

module _ (xs ys : List ℕ) (o : InOrder xs ys) where
  same_values : (p : ℕ) → value_in (rows_of ys p) ≡ value_in (rows_of xs p)
  same_values p = fun_ext {f = value_in (rows_of ys p)} {g = value_in (rows_of xs p)} (o.same p)

  book_values : value_in (rows_of ys (parts_of ys)) ≡ value_in (rows_of xs (parts_of xs))
  book_values = ap (λ (n : ℕ). value_in (rows_of ys n)) o.parts ∙ same_values (parts_of xs)

  book_count : length (rows_of ys (parts_of ys)) ≡ length (rows_of xs (parts_of xs))
  book_count = ap (λ (n : ℕ). length (rows_of ys n)) o.parts ∙ o.count (parts_of xs)

  pub ordered_contents : contents_of (store_of ys) ≡ contents_of (store_of xs)
  unfolding contents_of
  ordered_contents = λ i.
      record {
        room = o.cap i;
        used = λ p. if◌then◌otherwise◌ (ltb p (o.parts i)) (o.count p i) 0;
        rows = λ p k. if◌then◌otherwise◌ (ltb p (o.parts i)) (table_of (same_values p i) k) none;
        log = record { usual = λ p id t. if◌then◌otherwise◌ (ltb p (o.parts i)) (log_of (same_values p i) id t) none };
        book_used = book_count i;
        book = book_of (book_values i);
        floor = book_values i floor_key;
      }

-- nothing written
pub wrote_nothing : (store : List ℕ) → Wrote store store (contents_of (store_of store))
wrote_nothing store =
    record {
      parts = refl;
      cap = refl;
      sound = λ e. e;
      holds = refl;
      only = only_bytes store store (contents_of (store_of store)) refl refl;
      bytes = λ r e. refl;
    }
