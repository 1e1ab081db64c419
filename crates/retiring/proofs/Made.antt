-- What the bytes hold after a retire: the store of the rules that retiring leaves.
use mathlib.Core.Bool.{Bool, true, false}
use mathlib.Core.List.{List, [], ◌∷◌}
use mathlib.Core.Option.{Option, none, get_or}
use mathlib.Core.Path.{◌≡◌, refl, sym, ap, ap₂, subst, ◌∙◌}
use Prim.Native.Nat.{ℕ, ◌-◌, ◌^◌, ◌≤◌, ◌<◌}
use native.Mathlib.Omega.{arith}
use borrow.Author.Tests.{lt-ltb, le-leb, ltb-true, ltb-false, eq-eqb}
use lib.Dec.{eqb, ltb, leb}
use lib.ListN.{length}
use Rattle.questions.specs.Basics.{if◌then◌otherwise◌, is_some, sum_below, count_below}
use Rattle.questions.proofs.Counts.{count_some}
use Rattle.questions.proofs.Tests.{no_yes}
use Rattle.keys.specs.Keys.{log_key, book_key, data_key, floor_key, is_form, table_of, log_of}
use Rattle.keys.proofs.Keys.{form_floor, floor_form}
use Rattle.rules.specs.Store.{Request, booked_below, logged_below, retired}
use Rattle.rules.specs.Store as Rules
use Rattle.store.specs.Layout.{parts_of, cap_of}
use Rattle.store.specs.Questions.{all_in, keys_ok, book_right, question12, store_refusal}
use Rattle.store.specs.Rows.{Row, rows_of, store_of, keys_in, lookup, put_row, rows_from}
use Rattle.store.specs.Sound.{KeysGood, Sound, Stored}
use Rattle.store.proofs.Bytes.{used_le}
use Rattle.store.proofs.From.{lookup_from, lookup_below}
use Rattle.store.proofs.Search.{changed_parts, changed_cap, changed_here, changed_there}
use Rattle.store.proofs.Sound.{store_ok, store_passes, rows_rise, keys_apart_lem, apart_forms, in_all, all_members}
use Rattle.contents.specs.Contents.{value_in, arguments_of, request_of, book_of, contents_of}
use Rattle.contents.specs.Wrote.{Wrote}
use Rattle.contents.proofs.Book.{book_row_lem}
use Rattle.contents.proofs.Equal.{only_bytes}
use Rattle.retiring.specs.Retiring.{book_from, log_from, LogsFrom}
use Rattle.retiring.proofs.Counts.{log_count}
use Rattle.retiring.proofs.Book.{not_floor, floor_there, key_stays, key_gone, right_still, rows_gone, book_used_lem}

-- ---- a partition

module _ (floor : ℕ) (rows : List Row) (small : floor < 2 ^ 32) where
  -- data rows don't change
  table_same : (k : ℕ) → table_of (value_in (log_from floor rows)) k ≡ table_of (value_in rows) k
  table_same k = ap (λ (o : Option ℕ). if◌then◌otherwise◌ (ltb k (2 ^ 32)) o none) (lookup_from (log_key floor 0) (data_key k) rows (omega arith))

  -- log rows of smaller ids are gone, and the others are as they were
  log_left : (id t : ℕ) → log_of (value_in (log_from floor rows)) id t ≡ if◌then◌otherwise◌ (ltb id floor) none (log_of (value_in rows) id t)
  log_left id t = go (ltb id floor) refl (ltb id (2 ^ 32)) (ltb t 65536) refl
    where
      go : (b : Bool) → ltb id floor ≡ b → (c d : Bool) → ltb t 65536 ≡ d →
          if◌then◌otherwise◌ c (if◌then◌otherwise◌ d (lookup (log_key id t) (log_from floor rows)) none) none
          ≡ if◌then◌otherwise◌ b none (if◌then◌otherwise◌ c (if◌then◌otherwise◌ d (lookup (log_key id t) rows) none) none)
      go true e true true f =
          lookup_below (log_key floor 0) (log_key id t) rows (omega (arith, ltb-true id floor e, ltb-true t 65536 f))
      go false e true true f = lookup_from (log_key floor 0) (log_key id t) rows (omega (arith, ltb-false id floor e))
      go true e true false f = refl
      go false e true false f = refl
      go true e false d f = refl
      go false e false d f = refl

-- ---- the book

module _ (floor : ℕ) (rows : List Row) where
  -- the requests of smaller ids are gone
  book_below : (id : ℕ) → id < floor → id < 2 ^ 32 → book_of (value_in (book_from floor rows)) id ≡ none
  unfolding request_of
  book_below id l h =
      book_row_lem (book_from floor rows) id h
      ∙ ap (λ (o : Option ℕ). request_of o (arguments_of (value_in (book_from floor rows)) id))
      (key_gone floor rows (book_key id 0) (not_floor id 0 h (omega arith)) (omega arith))

  -- and the others are as they were
  book_above : (id : ℕ) → floor ≤ id → id < 2 ^ 32 → book_of (value_in (book_from floor rows)) id ≡ book_of (value_in rows) id
  book_above id l h =
      book_row_lem (book_from floor rows) id h
      ∙ ap₂ request_of (same 0 (omega arith)) arguments_same
      ∙ sym (book_row_lem rows id h)
    where
      same : (j : ℕ) → j < 5 → lookup (book_key id j) (book_from floor rows) ≡ lookup (book_key id j) rows
      same j a = key_stays floor rows (book_key id j) (not_floor id j h (omega arith)) (omega arith)

      arguments_same : arguments_of (value_in (book_from floor rows)) id ≡ arguments_of (value_in rows) id
      arguments_same = λ i.
          get_or (same 1 (omega arith) i) 0
          ∷ get_or (same 2 (omega arith) i) 0
          ∷ get_or (same 3 (omega arith) i) 0
          ∷ get_or (same 4 (omega arith) i) 0
          ∷ []

  book_left : floor < 2 ^ 32 → (id : ℕ) →
      book_of (value_in (book_from floor rows)) id ≡ if◌then◌otherwise◌ (ltb id floor) none (book_of (value_in rows) id)
  book_left small id = go (ltb id floor) refl (ltb id (2 ^ 32)) refl
    where
      past : ltb id (2 ^ 32) ≡ false → (f : ℕ → Option ℕ) → book_of f id ≡ none
      past e f = unfold book_of in rw e refl

      go : (b : Bool) → ltb id floor ≡ b → (c : Bool) → ltb id (2 ^ 32) ≡ c →
          book_of (value_in (book_from floor rows)) id ≡ if◌then◌otherwise◌ b none (book_of (value_in rows) id)
      go true e c f = let l = ltb-true id floor e in book_below id l (omega arith)
      go false e true f = book_above id (ltb-false id floor e) (ltb-true id (2 ^ 32) f)
      go false e false f = past f (value_in (book_from floor rows)) ∙ sym (past f (value_in rows))

-- ---- the store

module _ (xs : List ℕ) (floor : ℕ) (small : floor < 2 ^ 32) (ok : store_refusal xs ≡ none)
    (some_booked : 0 < booked_below (contents_of (store_of xs)) floor) where
  abbrev P : ℕ
  P = parts_of xs

  sound : Sound xs
  sound = (store_ok xs ok).0

  book_good : keys_ok true (keys_in (rows_of xs P)) ≡ true
  unfolding KeysGood
  book_good = rw (eq-eqb P P refl) at (sound.keys P (omega arith))

  book_right_lem : book_right (rows_of xs P) ≡ true
  unfolding question12
  book_right_lem = (store_ok xs ok).1

  -- What is asked for the book's change: there is a free row, and no key is greater than the floor's.
  pub book_asked : (p low key : ℕ) → p ≡ P → low ≡ book_key floor 0 → key ≡ floor_key →
      (length (rows_from low (rows_of xs p)) < cap_of xs) × (is_form (eqb p P) key ≡ true)
      × (all_in (λ k. leb k key) (keys_in (rows_of xs p)) ≡ true)
  unfolding booked_below contents_of
  book_asked p low key ep el ek =
      rw (ep, el, ek) (
        omega (
          arith,
          some_booked,
          rows_gone floor (rows_of xs P) book_good book_right_lem small,
          used_le xs sound.formed P (omega arith),
        ),
        ap (λ (b : Bool). is_form b floor_key) (eq-eqb P P refl) ∙ floor_form,
        all_members (λ k. leb k floor_key) (keys_in (rows_of xs P))
            (λ k m. le-leb k floor_key
            (form_floor k (in_all (is_form true) (keys_in (rows_of xs P)) k
            (apart_forms true (keys_in (rows_of xs P)) (keys_apart_lem true (keys_in (rows_of xs P)) book_good)) m))),
      )

  module _ (zs : List ℕ) (parts : parts_of zs ≡ P) (cap : cap_of zs ≡ cap_of xs)
      (logs : (p : ℕ) → p < P → rows_of zs p ≡ log_from floor (rows_of xs p))
      (book : rows_of zs P ≡ book_from floor (rows_of xs P)) where
    used_is : (p : ℕ) →
        if◌then◌otherwise◌ (ltb p (parts_of zs)) (length (rows_of zs p)) 0
        ≡ if◌then◌otherwise◌ (ltb p P) (length (rows_of xs p)) 0 - sum_below floor
        (λ id. count_below (2 ^ 16) (λ t. is_some (if◌then◌otherwise◌ (ltb p P) (log_of (value_in (rows_of xs p)) id t) none)))
    used_is p = ap (λ (n : ℕ). if◌then◌otherwise◌ (ltb p n) (length (rows_of zs p)) 0) parts ∙ go (ltb p P) refl
      where
        go : (b : Bool) → ltb p P ≡ b →
            if◌then◌otherwise◌ b (length (rows_of zs p)) 0
            ≡ if◌then◌otherwise◌ b (length (rows_of xs p)) 0 - sum_below floor
            (λ id. count_below (2 ^ 16) (λ t. is_some (if◌then◌otherwise◌ b (log_of (value_in (rows_of xs p)) id t) none)))
        go true e =
            let l : p < P = ltb-true p P e in
            ap length (logs p l) ∙ log_count floor (rows_of xs p) (omega arith) (rows_rise xs sound p (omega arith))
        go false e = omega arith

    rows_is : (p k : ℕ) →
        if◌then◌otherwise◌ (ltb p (parts_of zs)) (table_of (value_in (rows_of zs p)) k) none
        ≡ if◌then◌otherwise◌ (ltb p P) (table_of (value_in (rows_of xs p)) k) none
    rows_is p k = ap (λ (n : ℕ). if◌then◌otherwise◌ (ltb p n) (table_of (value_in (rows_of zs p)) k) none) parts ∙ go (ltb p P) refl
      where
        go : (b : Bool) → ltb p P ≡ b →
            if◌then◌otherwise◌ b (table_of (value_in (rows_of zs p)) k) none ≡ if◌then◌otherwise◌ b (table_of (value_in (rows_of xs p)) k) none
        go true e =
            ap (λ (rs : List Row). table_of (value_in rs) k) (logs p (ltb-true p P e)) ∙ table_same floor (rows_of xs p) small k
        go false e = refl

    log_is : (p id t : ℕ) →
        if◌then◌otherwise◌ (ltb p (parts_of zs)) (log_of (value_in (rows_of zs p)) id t) none
        ≡ if◌then◌otherwise◌ (ltb id floor) none (if◌then◌otherwise◌ (ltb p P) (log_of (value_in (rows_of xs p)) id t) none)
    log_is p id t =
        ap (λ (n : ℕ). if◌then◌otherwise◌ (ltb p n) (log_of (value_in (rows_of zs p)) id t) none) parts ∙ go (ltb p P) refl
      where
        none_left : (b : Bool) → ◌≡◌ {A = Option ℕ} none (if◌then◌otherwise◌ b none none)
        none_left true = refl
        none_left false = refl

        go : (b : Bool) → ltb p P ≡ b →
            if◌then◌otherwise◌ b (log_of (value_in (rows_of zs p)) id t) none
            ≡ if◌then◌otherwise◌ (ltb id floor) none (if◌then◌otherwise◌ b (log_of (value_in (rows_of xs p)) id t) none)
        go true e =
            ap (λ (rs : List Row). log_of (value_in rs) id t) (logs p (ltb-true p P e)) ∙ log_left floor (rows_of xs p) small id t
        go false e = none_left (ltb id floor)

    book_rows_lem : rows_of zs (parts_of zs) ≡ book_from floor (rows_of xs P)
    book_rows_lem = ap (rows_of zs) parts ∙ book

    -- the bytes hold what retiring leaves
    holds : contents_of (store_of zs) ≡ retired (contents_of (store_of xs)) floor
    unfolding contents_of booked_below logged_below
    holds = λ i.
        record {
          room = cap i;
          used = λ p. used_is p i;
          rows = λ p k. rows_is p k i;
          log = record { usual = λ p id t. log_is p id t i };
          book_used = (ap length book_rows_lem ∙ book_used_lem floor (rows_of xs P) book_good book_right_lem small) i;
          book = λ id. (ap (λ (rs : List Row). book_of (value_in rs) id) book_rows_lem ∙ book_left floor (rows_of xs P) small id) i;
          floor = (ap (lookup floor_key) book_rows_lem ∙ floor_there floor (rows_of xs P)) i;
        }

    passes : Sound zs → store_refusal zs ≡ none
    passes s =
        store_passes zs s (unfold question12 in (ap book_right book_rows_lem ∙ right_still floor (rows_of xs P) book_right_lem))

    -- a smaller id that was booked is gone, so the rows have changed
    changed : contents_of (store_of xs) ≡ retired (contents_of (store_of xs)) floor → ⊥
    unfolding booked_below
    changed e =
        let before = contents_of (store_of xs) in
        let one = count_some floor (λ id. is_some (before.book id)) some_booked in
        no_yes
        (sym (ap (λ (s : Rules.Store). is_some (s.book one.0)) e
        ∙ ap (λ (b : Bool). is_some {A = Request} (if◌then◌otherwise◌ b none (before.book one.0))) (lt-ltb one.0 floor one.1))
        ∙ one.2)

    wrote : Sound zs → Wrote xs zs (retired (contents_of (store_of xs)) floor)
    wrote s =
        record {
          parts = parts;
          cap = cap;
          sound = λ e. passes s;
          holds = holds;
          only = only_bytes xs zs (retired (contents_of (store_of xs)) floor) parts holds;
          bytes = λ r e. absurd (changed e);
        }

  -- The book's change, and then the logs', are a retire.
  pub made : (ys zs : List ℕ) (p low key : ℕ) → p ≡ P → low ≡ book_key floor 0 → key ≡ floor_key →
      Stored xs ys p (λ rs. put_row key floor (rows_from low rs)) → LogsFrom floor ys zs (parts_of ys) →
      Wrote xs zs (retired (contents_of (store_of xs)) floor)
  made ys zs p low key ep el ek stored g =
      wrote zs (g.parts ∙ same_parts) (g.cap ∙ changed_cap xs ys P (book_from floor) s.is)
      (λ q l. g.done q (omega (arith, same_parts))
      ∙ ap (log_from floor) (changed_there xs ys P (book_from floor) s.is q (omega arith)))
      (g.left P (omega (arith, same_parts)) ∙ changed_here xs ys P (book_from floor) s.is) g.sound
    where
      s : Stored xs ys P (book_from floor)
      s =
          subst (λ (n : ℕ). Stored xs ys n (book_from floor)) ep
          (subst (λ (k : ℕ). Stored xs ys p (λ rs. put_row k floor (rows_from (book_key floor 0) rs))) ek
          (subst (λ (k : ℕ). Stored xs ys p (λ rs. put_row key floor (rows_from k rs))) el stored))

      same_parts : parts_of ys ≡ P
      same_parts = changed_parts xs ys P (book_from floor) s.is
