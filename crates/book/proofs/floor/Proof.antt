-- `book::floor` meets its contract.
use borrow.Author.Rules.{rules}
use mathlib.Core.List.{List}
use mathlib.Core.Path.{◌≡◌, sym, ◌∙◌, ap}
use Prim.Native.Nat.{ℕ, suc, ◌-◌, ◌<◌}
use native.Mathlib.Omega.{arith}
use lib.ListN.{length, get_or}
use Rattle.keys.specs.Keys.{is_floor_key}
use Rattle.store.specs.Rows.{rows_of}
use Rattle.contents.specs.Contents.{book_rows}
use Rattle.store.proofs.Bytes.{row_within, key_read, used_le}
use Rattle.book.proofs.LastRow.{floor_empty, floor_there, floor_missing}
use Rattle.book.proofs.floor.Statement.{statement}
use Rattle.book.proofs.floor.Tie as tie

-- how many rows the book has
rows_are : (c : tie.After-used_count-rows) → c.used_count-rows.result ≡ length (book_rows c.args.store.now)
rows_are c =
    c.used_count-rows.ensures
    ∙ ap (λ (p : ℕ). length (rows_of c.args.store.now p)) c.partition_count-book.ensures

-- the store's bytes, and the book's number
abbrev bytes : tie.After-used_count-rows → List ℕ
bytes c = c.args.store.now

abbrev book : tie.After-used_count-rows → ℕ
book c = c.partition_count-book.result

-- the book has a last row, and both its places lie within the store
last_there : (c : tie.Else-rows-eq0) → c.used_count-rows.result - 1 < length (rows_of (bytes c.before) (book c.before))
last_there c = omega (arith, c.used_count-rows.ensures, c.if-rows-eq0.false)

-- as many as one more than that row's number
length_is : (c : tie.Else-rows-eq0) → length (book_rows (bytes c.before)) ≡ suc (c.used_count-rows.result - 1)
length_is c = omega (arith, rows_are c.before, c.if-rows-eq0.false)

-- what is read there is its key
key_there : (c : tie.After-read64) →
    let u = c.before.before.before in
    c.read64.result ≡ (get_or (book_rows (bytes u)) (u.used_count-rows.result - 1) (0, 0)).0
key_there c =
    let e = c.before.before in
    let u = e.before in
    key_read (bytes u) (book u) (u.used_count-rows.result - 1) (last_there e) _ _ c.key_place-place.ensures c.read64.ensures
    ∙ ap (λ (p : ℕ). (get_or (rows_of (bytes u) p) (u.used_count-rows.result - 1) (0, 0)).0) u.partition_count-book.ensures

-- and whether that is the floor's
floor_key_lem : (c : tie.After-is_floor) →
    let u = c.before.before.before.before in
    c.is_floor.result ≡ is_floor_key (get_or (book_rows (bytes u)) (u.used_count-rows.result - 1) (0, 0)).0
floor_key_lem c = c.is_floor.ensures ∙ ap is_floor_key (key_there c.before)

pub floor_spec : {M : Type 1} → statement M
floor_spec =
    tie.close
    (tie.spec
    (λ c κs. search rules)
    (λ c κs. search rules)
    (λ c. floor_empty _ (sym (rows_are c.before) ∙ c.if-rows-eq0.true))
    (λ c. search rules)
    (λ c κs.
    let u = c.before in
    let st = u in
    let l = used_le (bytes u) st.requires.formed (book u) (omega (arith, u.partition_count-book.ensures)) in (
      st.requires.formed.shape,
      omega (arith, u.partition_count-book.ensures),
      omega (arith, u.used_count-rows.ensures, l),
    ))
    (λ c κs.
    let e = c.before in
    let u = e.before in
    let st = u in
    let h = row_within (bytes u) st.requires.formed (book u) (omega (arith, u.partition_count-book.ensures))
    (u.used_count-rows.result - 1) (last_there e) in
    omega (arith, c.key_place-place.ensures, h.0))
    (λ c κs. search rules)
    (λ c κs. search rules)
    (λ c.
    let k = c.before.before in
    let e = k.before.before.before in
    let u = e.before in
    c.value_at.ensures
    ∙ ap (λ (p : ℕ). (get_or (rows_of (bytes u) p) (u.used_count-rows.result - 1) (0, 0)).1) u.partition_count-book.ensures
    ∙ floor_there (bytes u) u.requires (u.used_count-rows.result - 1) (length_is e)
    (sym (floor_key_lem k) ∙ c.if-is_floor.true))
    (λ c.
    let k = c.before in
    let e = k.before.before.before in
    let u = e.before in
    floor_missing (bytes u) u.requires (u.used_count-rows.result - 1) (length_is e)
    (sym (floor_key_lem k) ∙ c.if-is_floor.false)))
