-- How the sums of W-207 change with the store of the rules: by a request booked, by what a retire removes, and by a block of MOVE.
use mathlib.Core.Bool.{Bool, true, false}
use mathlib.Core.List.{List}
use mathlib.Core.Logic.{◌⊎◌, inl, inr}
use mathlib.Core.Option.{Option, none, some, get_or}
use mathlib.Core.Path.{◌≡◌, refl, sym, ◌∙◌, ap, ap₂, subst}
use Prim.Native.Nat.{ℕ, suc, ◌+◌, ◌-◌, ◌%◌, ◌^◌, ◌≤◌, ◌<◌}
use native.Mathlib.Omega.{arith}
use native.Mathlib.Decide.{ℕ_discrete}
use borrow.Author.Tests.{ltb-true, eq-eqb, eqb-true}
use lib.Dec.{eqb, ltb, nltb→le}
use Rattle.questions.specs.Basics.{if◌then◌otherwise◌, is_some, update, sum_below}
use Rattle.questions.proofs.Updates.{none_some, update_same, update_other}
use Rattle.keys.specs.Keys.{is_data_key, data_key, data_of, book_key, is_book_key, booked_id, book_row}
use Rattle.keys.proofs.Keys.{data_is, data_bounds, book_is, book_again}
use Rattle.rules.specs.Blocks.{Table, Result, Block}
use Rattle.rules.specs.Store.{Request, sought, found, booked, with_row, written, retired}
use Rattle.rules.specs.Store as Rules
use Rattle.rules.proofs.Follow.{Free, Same, row_cases, row_elsewhere, row_later, row_here}
use Rattle.rules.proofs.Retire.{kept_from, gone_below}
use Rattle.contents.specs.Contents.{contents_of, book_rows}
use Rattle.store.specs.Layout.{parts_of}
use Rattle.store.specs.Rows.{lookup, rows_of, store_of}
use Rattle.store.specs.Questions.{store_refusal}
use Rattle.chain.specs.NothingLost.{any_below, sum_over, data_value, all_data, is_logged, between_steps, is_under_way}
use Rattle.chain.specs.NothingLost.{amount_row, amount_if, amounts_under_way, AddsUp}
use Rattle.chain.proofs.Sums.{count_at, same_sum, changed_sum, same_below, changed_below}
use Rattle.chain.proofs.Counted.{data_at, amount_of, amount_at, part_rises, book_rises, data_counted}
use Rattle.chain.proofs.Counted.{amount_counted, logged_as, none_logged}
use Rattle.chain.proofs.Counted.{there_logged, row_found_within, log_found_within}

module _ (store store' : List ℕ) (passes : store_refusal store ≡ none) (passes' : store_refusal store' ≡ none)
    (parts : parts_of store' ≡ parts_of store) where
  abbrev s : Rules.Store
  s = contents_of (store_of store)

  abbrev s' : Rules.Store
  s' = contents_of (store_of store')

  abbrev P : ℕ
  P = parts_of store

  -- ── data ──

  abbrev data_in : (bytes : List ℕ) → (partition : ℕ) → ℕ
  data_in bytes p = sum_over data_value (rows_of bytes p)

  -- all data values, over as many partitions as before
  over_parts : all_data store' ≡ sum_below P (data_in store')
  over_parts = ap (λ n. sum_below n (data_in store')) parts

  same_in : (p : ℕ) → p < P → ((k : ℕ) → data_at (s'.rows p) k ≡ data_at (s.rows p) k) → data_in store p ≡ data_in store' p
  same_in p l h =
      same_sum data_value data_value (rows_of store p) (rows_of store' p) (part_rises store passes p l)
      (part_rises store' passes' p (omega (arith, parts)))
      (λ k. data_counted store passes p l k ∙ sym (h k) ∙ sym (data_counted store' passes' p (omega (arith, parts)) k))

  -- the tables are as they were
  data_stays : ((p : ℕ) → s'.rows p ≡ s.rows p) → all_data store' ≡ all_data store
  data_stays h = over_parts
      ∙ sym (same_below P (data_in store) (data_in store') (λ p l. same_in p l (λ k. ap (λ (T : Table). data_at T k) (h p))))

  -- one data row is put
  data_put : (p key v : ℕ) → p < P → key < 2 ^ 32 → s'.rows p ≡ update (s.rows p) key (some v) →
      ((q : ℕ) → (q ≡ p → ⊥) → s'.rows q ≡ s.rows q) → all_data store' + get_or (s.rows p key) 0 ≡ all_data store + v
  data_put p key v l b here there =
      omega (
        arith,
        over_parts,
        changed_below P (data_in store) (data_in store') p l
            (λ q m n. same_in q m (λ k. ap (λ (T : Table). data_at T k) (there q n))),
        in_its_part,
        before,
        after,
      )
    where
      before : count_at data_value (data_key key) (lookup (data_key key) (rows_of store p)) ≡ get_or (s.rows p key) 0
      before = data_counted store passes p l (data_key key)
          ∙ rw (data_is key b) (ap (λ n. get_or (s.rows p n) 0) (omega arith))

      after : count_at data_value (data_key key) (lookup (data_key key) (rows_of store' p)) ≡ v
      after = data_counted store' passes' p (omega (arith, parts)) (data_key key)
          ∙ rw (data_is key b) (ap (λ n. get_or (s'.rows p n) 0) (omega arith) ∙ ap (λ (T : Table). get_or (T key) 0) here
          ∙ ap (λ o. get_or o 0) (update_same (s.rows p) key (some v)))

      other : (k : ℕ) → (k ≡ data_key key → ⊥) → data_at (s.rows p) k ≡ data_at (s'.rows p) k
      other k n = go (is_data_key k) refl
        where
          go : (d : Bool) → is_data_key k ≡ d → data_at (s.rows p) k ≡ data_at (s'.rows p) k
          go false d = rw d refl
          go true d = rw d (ap (λ o. get_or o 0) (sym (ap (λ (T : Table). T (data_of k)) here
              ∙ update_other (s.rows p) key (some v) (data_of k) (λ e. n (let z = data_bounds k d in omega arith)))))

      in_its_part : data_in store' p + count_at data_value (data_key key) (lookup (data_key key) (rows_of store p))
          ≡ data_in store p + count_at data_value (data_key key) (lookup (data_key key) (rows_of store' p))
      in_its_part =
          changed_sum data_value data_value (data_key key) (rows_of store p) (rows_of store' p) (part_rises store passes p l)
          (part_rises store' passes' p (omega (arith, parts)))
          (λ k n. data_counted store passes p l k ∙ other k n ∙ sym (data_counted store' passes' p (omega (arith, parts)) k))

  -- ── amounts ──

  -- what counts of a request, by whether it is under way and what the book has of it
  abbrev due : Bool → Option Request → ℕ
  due under_way o = if under_way then amount_of o otherwise 0

  -- the row of an amount counts as before, if its request does
  same_at : (k : ℕ) →
      (is_book_key k ≡ true → book_row k ≡ amount_row →
      due (is_under_way store (booked_id k)) (s.book (booked_id k)) ≡ due (is_under_way store' (booked_id k)) (s'.book (booked_id k))) →
      count_at (amount_if (is_under_way store)) k (lookup k (book_rows store))
      ≡ count_at (amount_if (is_under_way store')) k (lookup k (book_rows store'))
  same_at k h =
      amount_counted store passes (is_under_way store) k ∙ go (is_book_key k) refl (eqb (book_row k) amount_row) refl
      ∙ sym (amount_counted store' passes' (is_under_way store') k)
    where
      go : (b : Bool) → is_book_key k ≡ b → (c : Bool) → eqb (book_row k) amount_row ≡ c →
          amount_at (is_under_way store) s.book k ≡ amount_at (is_under_way store') s'.book k
      go false b c d = rw b refl
      go true b false d = rw (b, d) refl
      go true b true d = rw (b, d) (h b (eqb-true (book_row k) amount_row d))

  -- requests count as before
  amounts_stay :
      ((id : ℕ) → id < 2 ^ 32 → due (is_under_way store id) (s.book id) ≡ due (is_under_way store' id) (s'.book id)) →
      amounts_under_way store' ≡ amounts_under_way store
  amounts_stay h =
      sym (same_sum (amount_if (is_under_way store)) (amount_if (is_under_way store')) (book_rows store) (book_rows store')
      (book_rises store passes) (book_rises store' passes') (λ k. same_at k (λ b r. h (booked_id k) (book_again k b).0)))

  -- all but one do
  amounts_change : (id : ℕ) → id < 2 ^ 32 →
      ((j : ℕ) → j < 2 ^ 32 → (j ≡ id → ⊥) → due (is_under_way store j) (s.book j) ≡ due (is_under_way store' j) (s'.book j)) →
      amounts_under_way store' + due (is_under_way store id) (s.book id) ≡ amounts_under_way store + due (is_under_way store' id) (s'.book id)
  amounts_change id b h =
      omega (
        arith,
        changed,
        here (is_under_way store) s.book,
        here (is_under_way store') s'.book,
        amount_counted store passes (is_under_way store) K,
        amount_counted store' passes' (is_under_way store') K,
      )
    where
      K : ℕ
      K = book_key id amount_row

      here : (u : ℕ → Bool) (book : ℕ → Option Request) → amount_at u book K ≡ due (u id) (book id)
      here u book =
          let r : eqb (book_row K) amount_row ≡ true = eq-eqb (book_row K) amount_row (omega arith) in
          let i : booked_id K ≡ id = omega arith in
          rw (book_is id amount_row b (omega arith), r) (ap (λ j. due (u j) (book j)) i)

      changed : amounts_under_way store' + count_at (amount_if (is_under_way store)) K (lookup K (book_rows store))
          ≡ amounts_under_way store + count_at (amount_if (is_under_way store')) K (lookup K (book_rows store'))
      changed =
          changed_sum (amount_if (is_under_way store)) (amount_if (is_under_way store')) K (book_rows store) (book_rows store')
          (book_rises store passes) (book_rises store' passes')
          (λ k n. same_at k (λ w r. let g = book_again k w in h (booked_id k) g.0
          (λ e. n (sym g.2 ∙ ap₂ book_key e r))))

  -- ── steps logged ──

  -- a step that has no new row is logged as before
  logged_stays : (id t : ℕ) → id < 2 ^ 32 → t < 65536 → ((p : ℕ) → s'.log.usual p id t ≡ s.log.usual p id t) →
      is_logged store' id t ≡ is_logged store id t
  logged_stays id t h g e =
      logged_as store' passes' id t h g ∙ (λ i. any_below (parts i) (λ p. is_some (e p i))) ∙ sym (logged_as store passes id t h g)

  -- so a request that has no new row is under way as before
  way_stays : (id : ℕ) → id < 2 ^ 32 → ((p t : ℕ) → s'.log.usual p id t ≡ s.log.usual p id t) →
      is_under_way store id ≡ is_under_way store' id
  way_stays id h e =
      sym (ap₂ between_steps (logged_stays id 0 h (omega arith) (λ p. e p 0))
      (logged_stays id 1 h (omega arith) (λ p. e p 1)))

  -- a step whose row is found is logged
  pub was_logged : (id u p : ℕ) (r : Result) → id < 2 ^ 32 → u < 65536 → found s.log p id u ≡ some r → is_logged store id u ≡ true
  was_logged id u p r l h f = go (s.log.usual p id u) refl f
    where
      go : (o : Option ℕ) → s.log.usual p id u ≡ o → sought o ≡ some r → is_logged store id u ≡ true
      go none w f = none_some r refl f
      go (some x) w f = there_logged store passes id u l h p x (log_found_within store p id u x w).0 w

  -- ── a request booked ──

  -- one that has no log row yet counts nothing
  pub by_booking : (id : ℕ) (q : Request) → s' ≡ booked s id q → ((p t : ℕ) → s.log.usual p id t ≡ none) →
      all_data store' + amounts_under_way store' ≡ all_data store + amounts_under_way store
  by_booking id q e unlogged =
      omega (arith, data_stays (λ p. ap (λ (x : Rules.Store). x.rows p) e), amounts_stay (λ j l. go j l (ℕ_discrete j id)))
    where
      log_same : (j p t : ℕ) → s'.log.usual p j t ≡ s.log.usual p j t
      log_same j p t = ap (λ (x : Rules.Store). x.log.usual p j t) e

      not_under_way : (j : ℕ) → j < 2 ^ 32 → j ≡ id → is_under_way store j ≡ false
      not_under_way j l same =
          ap (λ b. between_steps b (is_logged store j 1))
          (none_logged store passes j 0 l (omega arith) (λ p. ap (λ i. s.log.usual p i 0) same ∙ unlogged p 0))

      go : (j : ℕ) → j < 2 ^ 32 → Dec (j ≡ id) → due (is_under_way store j) (s.book j) ≡ due (is_under_way store' j) (s'.book j)
      go j l (yes same) =
          let u = not_under_way j l same in
          ap (λ b. due b (s.book j)) u ∙ ap (λ b. due b (s'.book j)) (sym u ∙ way_stays j l (log_same j))
      go j l (no n) =
          ap₂ due (way_stays j l (log_same j))
          (sym (ap (λ (x : Rules.Store). x.book j) e ∙ update_other s.book id (some q) j n))

  -- ── what a retire removes ──

  -- what isn't booked counts nothing
  none_due : (under_way : Bool) → due under_way none ≡ 0
  none_due true = refl
  none_due false = refl

  -- where no booked request below the floor is under way, none counted that is removed
  pub by_retiring : (floor : ℕ) → s' ≡ retired s floor →
      ((id : ℕ) (q : Request) → id < 2 ^ 32 → id < floor → s.book id ≡ some q → is_under_way store id ≡ false) →
      all_data store' + amounts_under_way store' ≡ all_data store + amounts_under_way store
  by_retiring floor e over =
      omega (arith, data_stays (λ p. ap (λ (x : Rules.Store). x.rows p) e), amounts_stay (λ j l. go j l (ltb j floor) refl))
    where
      removed : (j : ℕ) → j < 2 ^ 32 → j < floor → (o : Option Request) → s.book j ≡ o → due (is_under_way store j) (s.book j) ≡ 0
      removed j l below none b = ap (due (is_under_way store j)) b ∙ none_due (is_under_way store j)
      removed j l below (some q) b = ap (λ x. due x (s.book j)) (over j q l below b)

      go : (j : ℕ) → j < 2 ^ 32 → (b : Bool) → ltb j floor ≡ b →
          due (is_under_way store j) (s.book j) ≡ due (is_under_way store' j) (s'.book j)
      go j l true b =
          let below = ltb-true j floor b in
          removed j l below (s.book j) refl
          ∙ sym (ap (due (is_under_way store' j)) (ap (λ (x : Rules.Store). x.book j) e ∙ gone_below floor j (s.book j) below)
          ∙ none_due (is_under_way store' j))
      go j l false b =
          let from = nltb→le j floor (rw b tt) in
          ap₂ due
          (way_stays j l (λ p t. ap (λ (x : Rules.Store). x.log.usual p j t) e ∙ kept_from floor j (s.log.usual p j t) from))
          (sym (ap (λ (x : Rules.Store). x.book j) e ∙ kept_from floor j (s.book j) from))

  -- ── a block that puts one data row ──

  module _ (p id t : ℕ) (b : Block) (e : s' ≡ written s p id t b) (key v : ℕ) (puts : b.table ≡ update (s.rows p) key (some v)) where
    rows_here : s'.rows p ≡ update (s.rows p) key (some v)
    rows_here = ap (λ (x : Rules.Store). x.rows p) e ∙ update_same s.rows p b.table ∙ puts

    rows_there : (q : ℕ) → (q ≡ p → ⊥) → s'.rows q ≡ s.rows q
    rows_there q n = ap (λ (x : Rules.Store). x.rows q) e ∙ update_other s.rows p b.table q n

    key_within : (p < parts_of store') × (key < 2 ^ 32)
    key_within = row_found_within store' p key v (ap (λ (T : Table). T key) rows_here ∙ update_same (s.rows p) key (some v))

    by_put : all_data store' + get_or (s.rows p key) 0 ≡ all_data store + v
    by_put = data_put p key v (omega (arith, key_within.0, parts)) key_within.1 rows_here rows_there

    -- its log row stands
    row_there : (r : ℕ) × (s'.log.usual p id t ≡ some r)
    row_there = go (s'.log.usual p id t) (ap (λ (x : Rules.Store). found x.log p id t) e ∙ row_here s.log p id t b.result)
      where
        go : (o : Option ℕ) → sought o ≡ some b.result → (r : ℕ) × (o ≡ some r)
        go none f = none_some b.result refl f
        go (some r) f = (r, refl)

    abbrev bounds : (p < parts_of store') × (id < 2 ^ 32)
    bounds = log_found_within store' p id t row_there.0 row_there.1

    other_rows : (j : ℕ) → (j ≡ id → ⊥) → (q u : ℕ) → s'.log.usual q j u ≡ s.log.usual q j u
    other_rows j n q u =
        ap (λ (x : Rules.Store). x.log.usual q j u) e ∙ row_elsewhere s.log p id t b.result q j u n

    book_same : (j : ℕ) → s'.book j ≡ s.book j
    book_same j = ap (λ (x : Rules.Store). x.book j) e

    by_log : amounts_under_way store' + due (is_under_way store id) (s.book id)
        ≡ amounts_under_way store + due (is_under_way store' id) (s.book id)
    by_log =
        amounts_change id bounds.1 (λ j l n. ap₂ due (way_stays j l (other_rows j n)) (sym (book_same j)))
        ∙ ap (λ o. amounts_under_way store + due (is_under_way store' id) o) (book_same id)

    -- its step is logged
    now_logged : t < 65536 → is_logged store' id t ≡ true
    now_logged l = there_logged store' passes' id t bounds.1 l p row_there.0 bounds.0 row_there.1

    -- a later one isn't, where none was before
    later_unlogged : (u : ℕ) → suc t ≤ u → u < 65536 → ((q : ℕ) → Free s.log q id u) → is_logged store' id u ≡ false
    later_unlogged u l h free =
        none_logged store' passes' id u bounds.1 h
        (λ q. ap (λ (x : Rules.Store). x.log.usual q id u) e ∙ row_later s.log p id t b.result q u l (free q))

    -- a step that isn't its own is logged as before
    others_logged : (u : ℕ) → (u ≡ t → ⊥) → u < 65536 → is_logged store' id u ≡ is_logged store id u
    others_logged u n h = logged_stays id u bounds.1 h (λ q. go q (row_cases s.log p id t b.result q id u))
      where
        go : (q : ℕ) → ((q ≡ p) × (id ≡ id) × (u ≡ t)) ⊎ Same s.log (with_row s.log p id t b.result) q id u →
            s'.log.usual q id u ≡ s.log.usual q id u
        go q (inl w) = absurd (n w.2)
        go q (inr w) = ap (λ (x : Rules.Store). x.log.usual q id u) e ∙ w

    -- and before it none of its step was
    not_yet : (u : ℕ) → u < 65536 → ((q : ℕ) → Free s.log q id u) → is_logged store id u ≡ false
    not_yet u h free = none_logged store passes id u bounds.1 h free

    -- ── a block of MOVE ──

    module _ (q : Request) (book : s.book id ≡ some q) (small : amount_of (some q) < 2 ^ 32) where
      abbrev amount : ℕ
      amount = amount_of (some q)

      -- the first one takes the amount from a value; from then on it is under way
      pub by_first : t ≡ 0 → ((u : ℕ) → 0 ≤ u → (q : ℕ) → Free s.log q id u) →
          v ≡ (get_or (s.rows p key) 0 + 2 ^ 32 - amount) % 2 ^ 32 → AddsUp store → AddsUp store'
      by_first first free value adds_up = omega (arith, by_put, way, small, value, adds_up)
        where
          before : is_under_way store id ≡ false
          before = ap (λ x. between_steps x (is_logged store id 1)) (not_yet 0 (omega arith) (free 0 (omega arith)))

          after : is_under_way store' id ≡ true
          after = ap₂ between_steps (subst (λ n. is_logged store' id n ≡ true) first (now_logged (omega (arith, first))))
              (later_unlogged 1 (omega (arith, first)) (omega arith) (free 1 (omega arith)))

          way : amounts_under_way store' + 0 ≡ amounts_under_way store + amount
          way = rw (before, after, book) at by_log

      -- the second one adds it to a value, and it is under way no longer
      pub by_second : t ≡ 1 → (r : Result) → found s.log 0 id 0 ≡ some r → ((u : ℕ) → 1 ≤ u → (q : ℕ) → Free s.log q id u) →
          v ≡ (get_or (s.rows p key) 0 + amount) % 2 ^ 32 → AddsUp store → AddsUp store'
      by_second second r logged free value adds_up = omega (arith, by_put, way, value, adds_up)
        where
          first_logged : is_logged store id 0 ≡ true
          first_logged = was_logged id 0 0 r bounds.1 (omega arith) logged

          before : is_under_way store id ≡ true
          before = ap₂ between_steps first_logged (not_yet 1 (omega arith) (free 1 (omega arith)))

          after : is_under_way store' id ≡ false
          after = ap₂ between_steps (others_logged 0 (λ z. omega (arith, z, second)) (omega arith) ∙ first_logged)
              (subst (λ n. is_logged store' id n ≡ true) second (now_logged (omega (arith, second))))

          way : amounts_under_way store' + amount ≡ amounts_under_way store + 0
          way = rw (before, after, book) at by_log
