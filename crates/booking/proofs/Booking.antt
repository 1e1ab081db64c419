-- A request booked: what the book's rows are then, and what they mean.
use mathlib.Core.Bool.{Bool, true, false, ◌&&◌}
use mathlib.Core.List.{List, [], ◌∷◌}
use mathlib.Core.Logic.{◌≢◌}
use mathlib.Core.Option
use mathlib.Core.Option.{Option, none, some}
use mathlib.Core.Path.{◌≡◌, refl, sym, ◌∙◌, ap, subst, fun_ext, ap₂}
use Prim.Native.Nat.{ℕ, zero, suc, ◌+◌, ◌/◌, ◌^◌, ◌≤◌, ◌<◌}
use native.Mathlib.Decide.{ℕ_discrete}
use native.Mathlib.Omega.{arith}
use borrow.Author.Tests.{lt-ltb, le-leb, lt-leb, eq-eqb, eqb-true}
use lib.Dec.{eqb, ltb}
use lib.ListN.{length, get_or}
use Rattle.contents.specs.Wrote.{Wrote}
use Rattle.contents.specs.Contents.{contents_of, value_in, arguments_of, request_of, book_of, book_rows}
use Rattle.questions.specs.Basics.{if◌then◌otherwise◌, update, is_some}
use Rattle.keys.specs.Keys.{book_key, is_form, book_keys, floor_key, is_floor_key, floor_at}
use Rattle.keys.proofs.Keys.{key_no_floor}
use Rattle.questions.specs.Questions.{No, number}
use Rattle.questions.specs.Questions as Questions
use Rattle.std.specs.Prelude.{Ok, Err}
use Rattle.questions.specs.Verdicts.{Verdict, verdict_of}
use Rattle.questions.specs.declared.Refusal.{Refusal}
use Rattle.rules.specs.Store.{Request, Store, booked, same_arguments, same_request, with_book}
use Rattle.questions.proofs.Updates.{update_same, update_other, none_some, false_true}
use Rattle.questions.proofs.Tests.{and_left, and_right}
use Rattle.store.specs.Rows.{Row, lookup, pairs, put_all, new_rows, count_new, rows_of, store_of, keys_in}
use Rattle.store.specs.Layout.{parts_of, cap_of}
use Rattle.store.specs.Questions.{member, unlike, ahead, rising, five, all_in, book_ok, from_floor, book_right, store_refusal, keys_ok}
use Rattle.store.specs.Sound as Sounds
use Rattle.store.specs.Sound.{Sound, Stored, StoredIfRoom}
use Rattle.store.specs.Answers.{found_in}
use Rattle.store.specs.Questions as StoreQuestions
use Rattle.store.proofs.Lists.{lookup_put_same, lookup_put_other}
use Rattle.store.proofs.Sound.{key_five, key_above, all_five, all_above, book_parts, book_whole, twelve_parts}
use Rattle.store.proofs.Sound.{length_put_all, book_form, store_ok, store_passes, five_all}
use Rattle.store.proofs.Search.{at_lookup, no_lookup, changed_parts, changed_cap, changed_here}
use Rattle.contents.proofs.Book.{book_row_lem}
use Rattle.contents.proofs.Contents.{contents_book}
use Rattle.store.proofs.Order.{rising_unlike, member_is}
use Rattle.contents.proofs.Equal.{only_bytes, wrote_nothing}
use Rattle.booking.specs.Booking.{with_request, book_refusal, ensured, Booked}

-- ── the rows of a request ──

-- a request of four arguments
abbrev request : (w a0 a1 a2 a3 : ℕ) → Request
request w a0 a1 a2 a3 = record { workflow = w; arguments = a0 ∷ a1 ∷ a2 ∷ a3 ∷ [] }

pub keys_rise : (id : ℕ) → rising (book_keys id) ≡ true
unfolding rising ahead
keys_rise id =
    rw (
      lt-ltb (book_key id 0) (book_key id 1) (omega arith),
      lt-ltb (book_key id 1) (book_key id 2) (omega arith),
      lt-ltb (book_key id 2) (book_key id 3) (omega arith),
      lt-ltb (book_key id 3) (book_key id 4) (omega arith),
    )
    refl

keys_unlike : (id : ℕ) → unlike (book_keys id) ≡ true
keys_unlike id = rising_unlike (book_keys id) (keys_rise id)

keys_formed : (id : ℕ) → id < 2 ^ 32 → all_in (is_form true) (book_keys id) ≡ true
unfolding all_in
keys_formed id h =
    rw (
      book_form 0 id 0 h (omega arith),
      book_form 0 id 1 h (omega arith),
      book_form 0 id 2 h (omega arith),
      book_form 0 id 3 h (omega arith),
      book_form 0 id 4 h (omega arith),
    )
    refl

-- the book's keys are book keys
pub book_keys_lem : (xs : List ℕ) → Sound xs → keys_ok true (keys_in (book_rows xs)) ≡ true
unfolding Sounds.KeysGood
book_keys_lem xs s = subst (λ (b : Bool). keys_ok b (keys_in (book_rows xs)) ≡ true) (eq-eqb (parts_of xs) (parts_of xs) refl)
    (s.keys (parts_of xs) (omega arith))

module _ (id w a0 a1 a2 a3 : ℕ) (rows : List Row) where
  abbrev after : List Row
  after = with_request id (request w a0 a1 a2 a3) rows

  -- the five rows, and all others
  pub row_0 : lookup (book_key id 0) after ≡ some w
  unfolding pairs put_all
  row_0 =
      lookup_put_other _ _ _ _ (λ e. omega arith) ∙ lookup_put_other _ _ _ _ (λ e. omega arith)
      ∙ lookup_put_other _ _ _ _ (λ e. omega arith)
      ∙ lookup_put_other _ _ _ _ (λ e. omega arith) ∙ lookup_put_same _ _ _

  pub row_1 : lookup (book_key id 1) after ≡ some a0
  unfolding pairs put_all
  row_1 =
      lookup_put_other _ _ _ _ (λ e. omega arith) ∙ lookup_put_other _ _ _ _ (λ e. omega arith)
      ∙ lookup_put_other _ _ _ _ (λ e. omega arith) ∙ lookup_put_same _ _ _

  pub row_2 : lookup (book_key id 2) after ≡ some a1
  unfolding pairs put_all
  row_2 = lookup_put_other _ _ _ _ (λ e. omega arith) ∙ lookup_put_other _ _ _ _ (λ e. omega arith) ∙ lookup_put_same _ _ _

  pub row_3 : lookup (book_key id 3) after ≡ some a2
  unfolding pairs put_all
  row_3 = lookup_put_other _ _ _ _ (λ e. omega arith) ∙ lookup_put_same _ _ _

  pub row_4 : lookup (book_key id 4) after ≡ some a3
  unfolding pairs put_all
  row_4 = lookup_put_same _ _ _

  pub row_other : (k : ℕ) → k / 8 ≢ id → lookup k after ≡ lookup k rows
  unfolding pairs put_all
  row_other k n =
      lookup_put_other _ _ _ _ (λ e. n (omega arith)) ∙ lookup_put_other _ _ _ _ (λ e. n (omega arith))
      ∙ lookup_put_other _ _ _ _ (λ e. n (omega arith))
      ∙ lookup_put_other _ _ _ _ (λ e. n (omega arith)) ∙ lookup_put_other _ _ _ _ (λ e. n (omega arith))

  -- the book has one request more
  pub book_after : id < 2 ^ 32 →
      book_of (value_in after) ≡ update (book_of (value_in rows)) id (some (record { workflow = w; arguments = a0 ∷ a1 ∷ a2 ∷ a3 ∷ [] }))
  unfolding book_of request_of
  book_after h = fun_ext {f = book_of (value_in after)} {g = update (book_of (value_in rows)) id q} (λ i. go i (ℕ_discrete i id))
    where
      q : Option Request
      q = some (record { workflow = w; arguments = a0 ∷ a1 ∷ a2 ∷ a3 ∷ [] })

      here : book_of (value_in after) id ≡ q
      here =
          ap (λ (b : Bool). if◌then◌otherwise◌ b (request_of (lookup (book_key id 0) after) (arguments_of (value_in after) id)) none)
          (lt-ltb id (2 ^ 32) h)
          ∙ (λ i. request_of (row_0 i)
          (Option.get_or (row_1 i) 0 ∷ Option.get_or (row_2 i) 0 ∷ Option.get_or (row_3 i) 0 ∷ Option.get_or (row_4 i) 0 ∷ []))

      go : (i : ℕ) → Dec (i ≡ id) → book_of (value_in after) i ≡ update (book_of (value_in rows)) id q i
      go i (yes e) = ap (book_of (value_in after)) e ∙ here ∙ sym (update_same (book_of (value_in rows)) id q)
          ∙ ap (update (book_of (value_in rows)) id q) (sym e)
      go i (no n) =
          (λ t.
          if◌then◌otherwise◌ (ltb i (2 ^ 32))
          (request_of (row_other (book_key i 0) (λ e. n (omega arith)) t)
          (Option.get_or (row_other (book_key i 1) (λ e. n (omega arith)) t) 0
          ∷ Option.get_or (row_other (book_key i 2) (λ e. n (omega arith)) t) 0
          ∷ Option.get_or (row_other (book_key i 3) (λ e. n (omega arith)) t) 0
          ∷ Option.get_or (row_other (book_key i 4) (λ e. n (omega arith)) t) 0
          ∷ []))
          none)
          ∙ sym (update_other (book_of (value_in rows)) id q i n)

  there : (j : ℕ) → j < 5 → is_some (lookup (book_key id j) after) ≡ true
  there zero h = ap is_some row_0
  there (suc zero) h = ap is_some row_1
  there (suc (suc zero)) h = ap is_some row_2
  there (suc (suc (suc zero))) h = ap is_some row_3
  there (suc (suc (suc (suc zero)))) h = ap is_some row_4
  there (suc (suc (suc (suc (suc j))))) h = absurd (omega arith)

  -- a row of another id was there before
  was_there : (k : ℕ) → (k / 8 ≡ id → ⊥) → member k (keys_in after) ≡ true → member k (keys_in rows) ≡ true
  was_there k n m = member_is k rows ∙ ap is_some (sym (row_other k n)) ∙ sym (member_is k after) ∙ m

  -- no id comes to stand below the floor
  above_after : (floor : ℕ) → floor ≤ id → from_floor floor (keys_in rows) ≡ true → from_floor floor (keys_in after) ≡ true
  above_after floor l f = all_above floor (keys_in after) (λ k z m. go k z m (ℕ_discrete (k / 8) id))
    where
      go : (k : ℕ) → is_floor_key k ≡ false → member k (keys_in after) ≡ true → Dec (k / 8 ≡ id) → floor ≤ k / 8
      go k z m (yes e) = omega (arith, e, l)
      go k z m (no n) = key_above floor (keys_in rows) k f z (was_there k n m)

  -- the floor row stays
  pub floor_after_lem : id < 2 ^ 32 → lookup floor_key after ≡ lookup floor_key rows
  floor_after_lem h = row_other floor_key (λ e. omega arith)

  -- the book is whole
  module _ (whole : book_ok (keys_in rows) ≡ true) where
    whole_after : book_ok (keys_in after) ≡ true
    whole_after = all_five (keys_in after) (λ k z m. go k z m (ℕ_discrete (k / 8) id))
      where
        go : (k : ℕ) → is_floor_key k ≡ false → member k (keys_in after) ≡ true → Dec (k / 8 ≡ id) → five (keys_in after) (k / 8) ≡ true
        go k z m (yes e) = ap (five (keys_in after)) e ∙ five_all (keys_in after) id (λ j h. member_is (book_key id j) after ∙ there j h)
        go k z m (no n) =
            five_all (keys_in after) (k / 8)
            (λ j h.
            member_is (book_key (k / 8) j) after ∙ ap is_some (row_other (book_key (k / 8) j) (λ e. n (omega arith)))
            ∙ sym (member_is (book_key (k / 8) j) rows)
            ∙ key_five (keys_in rows) k j whole z (was_there k n m) h)

    absent : id < 2 ^ 32 → lookup (book_key id 0) rows ≡ none → (j : ℕ) → j < 5 → lookup (book_key id j) rows ≡ none
    absent low e j h = go (lookup (book_key id j) rows) refl
      where
        go : (o : Option ℕ) → lookup (book_key id j) rows ≡ o → lookup (book_key id j) rows ≡ none
        go none p = p
        go (some v) p =
            let m : member (book_key id j) (keys_in rows) ≡ true = member_is (book_key id j) rows ∙ ap is_some p in
            let f = key_five (keys_in rows) (book_key id j) 0 whole (key_no_floor id j low (omega arith)) m (omega arith) in
            let d : book_key id j / 8 ≡ id = omega arith in
            false_true (ap is_some e) (sym (member_is (book_key id 0) rows) ∙ ap (λ (i : ℕ). member (book_key i 0) (keys_in rows)) (sym d) ∙ f)

    -- five rows more
    pub length_after : id < 2 ^ 32 → keys_ok true (keys_in rows) ≡ true → lookup (book_key id 0) rows ≡ none → length after ≡ length rows + 5
    unfolding count_new new_rows
    length_after h formed e =
        length_put_all true (book_keys id) (w ∷ a0 ∷ a1 ∷ a2 ∷ a3 ∷ []) rows refl (keys_unlike id) (keys_formed id h) formed
        ∙ ap (λ (n : ℕ). length rows + n)
        (λ i.
        new_rows (absent h e 0 (omega arith) i)
        + (new_rows (absent h e 1 (omega arith) i) + (new_rows
        (absent h e 2 (omega arith) i) + (new_rows (absent h e 3 (omega arith) i) + (new_rows (absent h e 4 (omega arith) i) + 0)))))

  -- 12 still says yes
  pub right_after : id < 2 ^ 32 → floor_at (value_in rows) ≤ id → book_right rows ≡ true → book_right after ≡ true
  right_after h l b =
      let parts = book_parts rows b in
      book_whole after (whole_after parts.0)
      (subst (λ (o : Option ℕ). from_floor (Option.get_or o 0) (keys_in after) ≡ true) (sym (floor_after_lem h))
      (above_after (floor_at (value_in rows)) l parts.1))

-- ── the five rows, written ──

module _ (xs : List ℕ) (p id : ℕ) (q : Request) (e : p ≡ parts_of xs) where
  pub keys_right : id < 2 ^ 32 → all_in (is_form (eqb p (parts_of xs))) (book_keys id) ≡ true
  keys_right h = subst (λ (b : Bool). all_in (is_form b) (book_keys id) ≡ true) (sym (eq-eqb p (parts_of xs) e)) (keys_formed id h)

  pub first_belongs : (i : ℕ) → found_in (book_key id 0) (keys_in (book_rows xs)) ≡ Err i →
      found_in (book_key id 0) (keys_in (rows_of xs p)) ≡ Err i
  first_belongs i f = ap (λ (p' : ℕ). found_in (book_key id 0) (keys_in (rows_of xs p'))) e ∙ f

  pub five_stored : (ks ys : List ℕ) (answer : Bool) → ks ≡ book_keys id → length (with_request id q (book_rows xs)) ≤ cap_of xs →
      StoredIfRoom xs ys p (put_all (pairs ks (q.workflow ∷ q.arguments))) answer → Stored xs ys (parts_of xs) (with_request id q)
  five_stored ks ys answer k room s =
      go answer
      (subst (λ (p' : ℕ). StoredIfRoom xs ys p' (with_request id q) answer) e
      (subst (λ (l : List ℕ). StoredIfRoom xs ys p (put_all (pairs l (q.workflow ∷ q.arguments))) answer) k s))
    where
      go : (answer : Bool) → StoredIfRoom xs ys (parts_of xs) (with_request id q) answer → Stored xs ys (parts_of xs) (with_request id q)
      go true t = unfold Sounds.StoredIfRoom in t.1
      go false t = absurd (unfold Sounds.StoredIfRoom in omega (arith, room, t.0))

-- ── what the book has of an id, by the search for its first row ──

module _ (rows : List Row) (id i : ℕ) (h : id < 2 ^ 32) where
  pub found_some : found_in (book_key id 0) (keys_in rows) ≡ Ok i →
      book_of (value_in rows) id ≡ some (record { workflow = (get_or rows i (0, 0)).1; arguments = arguments_of (value_in rows) id })
  unfolding request_of
  found_some f = book_row_lem rows id h ∙ ap (λ o. request_of o (arguments_of (value_in rows) id)) (at_lookup (book_key id 0) rows i f)

  pub found_none : found_in (book_key id 0) (keys_in rows) ≡ Err i → book_of (value_in rows) id ≡ none
  unfolding request_of
  found_none f = book_row_lem rows id h ∙ ap (λ o. request_of o (arguments_of (value_in rows) id)) (no_lookup (book_key id 0) rows i f)

-- ── a new request ──

module _ (store store' : List ℕ) (id w a0 a1 a2 a3 : ℕ) where
  abbrev asks : Request
  asks = record { workflow = w; arguments = a0 ∷ a1 ∷ a2 ∷ a3 ∷ [] }

  abbrev s : Store
  s = contents_of (store_of store)

  abbrev g : List Row → List Row
  g = with_request id (request w a0 a1 a2 a3)

  module _ (e : store_refusal store ≡ none) (h : id < 2 ^ 32) (above : floor_at (value_in (book_rows store)) ≤ id)
      (none_there : lookup (book_key id 0) (book_rows store) ≡ none) (st : Stored store store' (parts_of store) g) where
    whole : book_ok (keys_in (book_rows store)) ≡ true
    whole = (twelve_parts store (store_ok store e).1).0

    rows_after : book_rows store' ≡ g (book_rows store)
    rows_after = ap (rows_of store') (changed_parts store store' (parts_of store) g st.is)
        ∙ changed_here store store' (parts_of store) g st.is

    passes : store_refusal store' ≡ none
    unfolding StoreQuestions.question12
    passes = store_passes store' st.sound
        (subst (λ (r : List Row). book_right r ≡ true) (sym rows_after)
        (right_after id w a0 a1 a2 a3 (book_rows store) h above (store_ok store e).1))

    more : length (g (book_rows store)) ≡ length (book_rows store) + 5
    more = length_after id w a0 a1 a2 a3 (book_rows store) whole h (book_keys_lem store (store_ok store e).0) none_there

    contents : contents_of (store_of store') ≡ booked s id asks
    unfolding contents_of
    contents =
        ap contents_of st.is ∙ contents_book (store_of store) g (floor_after_lem id w a0 a1 a2 a3 (book_rows store) h)
        ∙ ap₂ (with_book s) more (book_after id w a0 a1 a2 a3 (book_rows store) h)

    pub wrote_request : Wrote store store' (booked s id asks)
    unfolding contents_of
    wrote_request =
        record {
          parts = changed_parts store store' (parts_of store) g st.is;
          cap = changed_cap store store' (parts_of store) g st.is;
          sound = λ _. passes;
          holds = contents;
          only = only_bytes store store' (booked s id asks) (changed_parts store store' (parts_of store) g st.is) contents;
          bytes = λ e p. absurd
              (let z : length (book_rows store) ≡ length (book_rows store) + 5 = ap (λ (x : Store). x.book_used) p in omega arith);
        }

-- ── question 18 ──

-- workflow and four arguments compared one by one
pub same_fields : (w w' a a' b b' c c' d d' : ℕ) →
    (eqb w w' && (eqb a a' && (eqb b b' && (eqb c c' && eqb d d')))) ≡ same_request (request w a b c d) (request w' a' b' c' d')
same_fields w w' a a' b b' c c' d d' = ap (λ t. eqb w w' && (eqb a a' && (eqb b b' && (eqb c c' && t)))) (and_last (eqb d d'))
  where
    and_last : (t : Bool) → t ≡ (t && true)
    and_last true = refl
    and_last false = refl

same_list : (xs ys : List ℕ) → same_arguments xs ys ≡ true → xs ≡ ys
same_list [] [] e = refl
same_list [] (y ∷ ys) e = false_true refl e
same_list (x ∷ xs) [] e = false_true refl e
same_list (x ∷ xs) (y ∷ ys) e =
    let i = same_list xs ys (and_right (eqb x y) (same_arguments xs ys) e) in
    λ j. eqb-true x y (and_left (eqb x y) (same_arguments xs ys) e) j ∷ i j

-- a known id asks for the same
pub same_asked : (q r : Request) → same_request q r ≡ true → q ≡ r
same_asked q r e =
    let l = same_list q.arguments r.arguments (and_right (eqb q.workflow r.workflow) _ e) in
    λ j. record { workflow = eqb-true q.workflow r.workflow (and_left (eqb q.workflow r.workflow) _ e) j; arguments = l j }

-- ── one question's verdict ──

module _ (n : ℕ) (yes : Bool) (v : Verdict) (e : v ≡ verdict_of (Questions.ask (number n) yes none)) where
  pub said_yes : v ≡ Ok tt → yes ≡ true
  unfolding Questions.ask
  said_yes q = go yes e
    where
      go : (t : Bool) → v ≡ verdict_of (Questions.ask (number n) t none) → t ≡ true
      go true p = refl
      go false p = let z : ◌≡◌ {A = ℕ} 0 1 = cc in absurd (omega arith)

  pub said_no : (r : Refusal) → v ≡ Err r → (yes ≡ false) × (v ≡ verdict_of (some (number n)))
  unfolding Questions.ask
  said_no r q = go yes e
    where
      go : (t : Bool) → v ≡ verdict_of (Questions.ask (number n) t none) → (t ≡ false) × (v ≡ verdict_of (some (number n)))
      go true p = let z : ◌≡◌ {A = ℕ} 0 1 = cc in absurd (omega arith)
      go false p = (refl, p)

-- ── what the booking of a request comes to ──

module _ (store : List ℕ) (id : ℕ) (q : Request) where
  abbrev here : Store
  here = contents_of (store_of store)

  refused_18 : (known : Request) → here.book id ≡ some known → same_request q known ≡ false → book_refusal here id q ≡ some (number 18)
  unfolding book_refusal Questions.ask
  refused_18 known b t = rw (b, t) refl

  refused_19 : here.book id ≡ none → here.room < here.book_used + 5 → book_refusal here id q ≡ some (number 19)
  unfolding book_refusal Questions.ask
  refused_19 b t = rw (b, lt-leb (here.book_used + 5) here.room t) refl

  known_yes : (known : Request) → here.book id ≡ some known → same_request q known ≡ true → book_refusal here id q ≡ none
  unfolding book_refusal Questions.ask
  known_yes known b t = rw (b, t) refl

  new_yes : here.book id ≡ none → here.book_used + 5 ≤ here.room → book_refusal here id q ≡ none
  unfolding book_refusal Questions.ask
  new_yes b t = rw (b, le-leb (here.book_used + 5) here.room t) refl

  kept_by : (n : No) (r : Verdict) → book_refusal here id q ≡ some n → r ≡ verdict_of (some n) → Booked store store id q r
  kept_by n r e a = record { answer = a ∙ ap verdict_of (sym e); kept = λ m p. refl; written = λ p. none_some n p e }

  taken : (store' : List ℕ) (r : Verdict) → book_refusal here id q ≡ none → r ≡ verdict_of none →
      Wrote store store' (ensured here id q (here.book id)) → Booked store store' id q r
  taken store' r e a w = record { answer = a ∙ ap verdict_of (sym e); kept = λ n p. none_some n e p; written = λ p. w }

  module _ (r : Verdict) where
    -- a known id, by the answer to question 18
    pub booked_known : (known : Request) → here.book id ≡ some known →
        r ≡ verdict_of (Questions.ask (number 18) (same_request q known) none) → Booked store store id q r
    unfolding ensured Questions.ask
    booked_known known b a = go (same_request q known) refl a
      where
        go : (t : Bool) → same_request q known ≡ t → r ≡ verdict_of (Questions.ask (number 18) t none) → Booked store store id q r
        go true t a =
            taken store r (known_yes known b t) a
            (subst (λ (o : Option Request). Wrote store store (ensured here id q o)) (sym b) (wrote_nothing store))
        go false t a = kept_by (number 18) r (refused_18 known b t) a

    -- a new one that question 19 refuses, and one that is booked
    pub booked_19 : here.book id ≡ none → here.room < here.book_used + 5 → r ≡ verdict_of (some (number 19)) → Booked store store id q r
    booked_19 b t a = kept_by (number 19) r (refused_19 b t) a

    pub booked_new : (store' : List ℕ) → here.book id ≡ none → here.book_used + 5 ≤ here.room → Wrote store store' (booked here id q) →
        r ≡ verdict_of none →
        Booked store store' id q r
    unfolding ensured
    booked_new store' b t w a =
        taken store' r (new_yes b t) a (subst (λ (o : Option Request). Wrote store store' (ensured here id q o)) (sym b) w)
