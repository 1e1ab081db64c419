-- What the sums of W-207 count at each key, by the store of the rules that the bytes hold.
use mathlib.Core.Bool.{Bool, true, false, ◌&&◌}
use mathlib.Core.List.{List}
use mathlib.Core.Option
use mathlib.Core.Option.{Option, none, some}
use mathlib.Core.Path.{◌≡◌, refl, sym, ◌∙◌, ap}
use Prim.Native.Nat.{ℕ, ◌^◌, ◌<◌}
use native.Mathlib.Omega.{arith}
use borrow.Author.Tests.{lt-ltb, ltb-true, eq-eqb, ne_eqb, eqb-true}
use lib.Dec.{eqb, ltb}
use lib.ListN.{get_or}
use Rattle.questions.specs.Basics.{if◌then◌otherwise◌, is_some}
use Rattle.questions.proofs.Tests.{and_left}
use Rattle.questions.proofs.Updates.{none_some}
use Rattle.keys.specs.Keys.{is_data_key, data_of, log_key, book_key, is_book_key, is_floor_key, booked_id, book_row, table_of}
use Rattle.keys.specs.Keys as Keys
use Rattle.keys.proofs.Keys.{data_said, book_again, floor_bounds}
use Rattle.rules.specs.Blocks.{Table}
use Rattle.rules.specs.Store.{Request}
use Rattle.contents.specs.Contents.{contents_of, value_in, arguments_of, request_of, book_of, book_rows}
use Rattle.store.specs.Layout.{parts_of}
use Rattle.store.specs.Rows.{Row, keys_in, lookup, rows_of, store_of}
use Rattle.store.specs.Questions.{rising, keys_ok, book_ok, store_refusal}
use Rattle.store.specs.Sound as Sounds
use Rattle.store.proofs.Sound.{store_ok, apart_forms, no_form, keys_apart_lem, keys_rising, twelve_parts}
use Rattle.contents.proofs.Equal.{none_booked}
use Rattle.chain.specs.NothingLost.{any_below, data_value, is_logged, amount_row, amount_if}
use Rattle.chain.proofs.Sums.{count_at, any_same, any_none, any_some}

-- a data row
abbrev pub data_at : Table → (stored : ℕ) → ℕ
data_at table k = if is_data_key k then Option.get_or (table (data_of k)) 0 otherwise 0

-- the amount of a request, if it is booked
abbrev pub amount_of : Option Request → ℕ
amount_of none = 0
amount_of (some q) = get_or q.arguments 2 0

-- a book row
abbrev pub amount_at : (under_way : (id : ℕ) → Bool) → (book : (id : ℕ) → Option Request) → (stored : ℕ) → ℕ
amount_at under_way book k = if is_book_key k && (eqb (book_row k) amount_row && under_way (booked_id k)) then amount_of (book (booked_id k)) otherwise 0

-- ── What is found lies in one of P partitions, under a data key or an id of 32 bits ──

within : {A : Type 0} (b : Bool) (o : Option ℕ) (v : ℕ) → (b ≡ true → o ≡ some v → A) → if◌then◌otherwise◌ b o none ≡ some v → A
within true o v h e = h refl e
within false o v h e = none_some v refl e

module _ (store : List ℕ) where
  pub row_found_within : (p k v : ℕ) → (contents_of (store_of store)).rows p k ≡ some v → (p < parts_of store) × (k < 2 ^ 32)
  unfolding contents_of
  row_found_within p k v =
      within (ltb p (parts_of store)) _ v
      (λ b. within (ltb k (2 ^ 32)) _ v (λ c e. (ltb-true p (parts_of store) b, ltb-true k (2 ^ 32) c)))

  pub log_found_within : (p id t v : ℕ) → (contents_of (store_of store)).log.usual p id t ≡ some v → (p < parts_of store) × (id < 2 ^ 32)
  unfolding contents_of
  log_found_within p id t v =
      within (ltb p (parts_of store)) _ v
      (λ b. within (ltb id (2 ^ 32)) _ v (λ c e. (ltb-true p (parts_of store) b, ltb-true id (2 ^ 32) c)))

-- ── What each key counts ──

module _ (store : List ℕ) (passes : store_refusal store ≡ none) where
  -- the keys of a partition, and of the book
  part_keys : (p : ℕ) → p < parts_of store → keys_ok false (keys_in (rows_of store p)) ≡ true
  unfolding Sounds.KeysGood
  part_keys p l = rw (ne_eqb p (parts_of store) (omega arith)) at ((store_ok store passes).0.keys p (omega arith))

  book_keys_lem : keys_ok true (keys_in (book_rows store)) ≡ true
  unfolding Sounds.KeysGood
  book_keys_lem = rw (eq-eqb (parts_of store) (parts_of store) refl) at ((store_ok store passes).0.keys (parts_of store) (omega arith))

  pub part_rises : (p : ℕ) → p < parts_of store → rising (keys_in (rows_of store p)) ≡ true
  part_rises p l = keys_rising false _ (part_keys p l)

  pub book_rises : rising (keys_in (book_rows store)) ≡ true
  book_rises = keys_rising true _ book_keys_lem

  -- data
  pub data_counted : (p : ℕ) → p < parts_of store → (k : ℕ) →
      count_at data_value k (lookup k (rows_of store p)) ≡ data_at ((contents_of (store_of store)).rows p) k
  unfolding contents_of
  data_counted p l k = rw (lt-ltb p (parts_of store) l) (go (is_data_key k) refl (lookup k (rows_of store p)) refl)
    where
      go : (b : Bool) → is_data_key k ≡ b → (o : Option ℕ) → lookup k (rows_of store p) ≡ o →
          count_at data_value k o ≡ data_at (table_of (value_in (rows_of store p))) k
      go true d o e = counted o ∙ rw d (ap (λ x. Option.get_or x 0) (sym (data_said (value_in (rows_of store p)) k d ∙ e)))
        where
          counted : (o : Option ℕ) → count_at data_value k o ≡ Option.get_or o 0
          counted none = refl
          counted (some v) = rw d refl
      go false d none e = rw d refl
      go false d (some v) e = rw d refl

  -- amounts
  abbrev rows : List Row
  rows = book_rows store

  pub amount_counted : (u : ℕ → Bool) (k : ℕ) →
      count_at (amount_if u) k (lookup k (book_rows store)) ≡ amount_at u (contents_of (store_of store)).book k
  unfolding contents_of Keys.is_form book_of request_of
  amount_counted u k = go (is_book_key k) refl (eqb (book_row k) amount_row && u (booked_id k)) refl
    where
      whole : book_ok (keys_in rows) ≡ true
      whole = (twelve_parts store (store_ok store passes).1).0

      -- a row that isn't counted, and one that is
      passed_over : (o : Option ℕ) → (eqb (book_row k) amount_row && u (booked_id k)) ≡ false → count_at (amount_if u) k o ≡ 0
      passed_over none c = refl
      passed_over (some v) c = rw c refl

      counted : (o : Option ℕ) → (eqb (book_row k) amount_row && u (booked_id k)) ≡ true → count_at (amount_if u) k o ≡ Option.get_or o 0
      counted none c = refl
      counted (some v) c = rw c refl

      -- the floor's row isn't row 3 of an id, and no other key that isn't a book key has a row
      no_book_key : is_book_key k ≡ false → (f : Bool) → is_floor_key k ≡ f → count_at (amount_if u) k (lookup k rows) ≡ 0
      no_book_key b true f =
          let other = ne_eqb (book_row k) amount_row (λ r. omega (arith, floor_bounds k f, r)) in
          passed_over (lookup k rows) (ap (λ x. x && u (booked_id k)) other)
      no_book_key b false f =
          ap (count_at (amount_if u) k) (no_form true k rows (apart_forms true _ (keys_apart_lem true _ book_keys_lem)) (rw (b, f) refl))

      booked : (o : Option ℕ) → lookup (book_key (booked_id k) 0) rows ≡ o → is_book_key k ≡ true → k ≡ book_key (booked_id k) amount_row →
          Option.get_or (lookup k rows) 0 ≡ amount_of (request_of o (arguments_of (value_in rows) (booked_id k)))
      booked none e b is = ap (λ x. Option.get_or x 0) (none_booked rows whole (booked_id k) k b refl e)
      booked (some w) e b is = ap (λ n. Option.get_or (lookup n rows) 0) is

      go : (b : Bool) → is_book_key k ≡ b → (c : Bool) → (eqb (book_row k) amount_row && u (booked_id k)) ≡ c →
          count_at (amount_if u) k (lookup k rows) ≡ amount_at u (book_of (value_in rows)) k
      go false b c d = no_book_key b (is_floor_key k) refl ∙ rw b refl
      go true b false d = passed_over (lookup k rows) d ∙ rw (b, d) refl
      go true b true d =
          let l = book_again k b in
          let row = eqb-true (book_row k) amount_row (and_left (eqb (book_row k) amount_row) _ d) in
          counted (lookup k rows) d
          ∙ rw (b, d, lt-ltb (booked_id k) (2 ^ 32) l.0)
          (booked (lookup (book_key (booked_id k) 0) rows) refl b (sym l.2 ∙ ap (book_key (booked_id k)) row))

  -- log rows
  module _ (id t : ℕ) (h : id < 2 ^ 32) (g : t < 65536) where
    log_row : (p : ℕ) → p < parts_of store → (contents_of (store_of store)).log.usual p id t ≡ lookup (log_key id t) (rows_of store p)
    unfolding contents_of
    log_row p l = rw (lt-ltb p (parts_of store) l, lt-ltb id (2 ^ 32) h, lt-ltb t 65536 g) refl

    -- is the step logged, by the rules' log?
    pub logged_as : is_logged store id t ≡ any_below (parts_of store) (λ p. is_some ((contents_of (store_of store)).log.usual p id t))
    logged_as =
        any_same (parts_of store) (λ p. is_some (lookup (log_key id t) (rows_of store p)))
        (λ p. is_some ((contents_of (store_of store)).log.usual p id t)) (λ p l. ap is_some (sym (log_row p l)))

    -- no partition has its row
    pub none_logged : ((p : ℕ) → (contents_of (store_of store)).log.usual p id t ≡ none) → is_logged store id t ≡ false
    none_logged n = logged_as ∙ any_none (parts_of store) _ (λ p. ap is_some (n p))

    -- one has
    pub there_logged : (p v : ℕ) → p < parts_of store → (contents_of (store_of store)).log.usual p id t ≡ some v → is_logged store id t ≡ true
    there_logged p v l e = logged_as ∙ any_some (parts_of store) _ p l (ap is_some e)
