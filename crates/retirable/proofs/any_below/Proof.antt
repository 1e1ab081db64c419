-- `retirable::any_below` meets its contract.
use borrow.Author.Rules.{rules}
use mathlib.Core.Path.{◌≡◌, ◌∙◌, ap, ap₂}
use Prim.Native.Nat.{ℕ, ◌<◌}
use native.Mathlib.Omega.{arith}
use lib.Dec.{ltb}
use lib.ListN.{length}
use Rattle.store.specs.Rows.{rows_of}
use Rattle.store.proofs.Bytes.{row_within, key_read}
use Rattle.store.proofs.Sound.{store_ok}
use Rattle.contents.specs.Contents.{book_rows}
use Rattle.retirable.proofs.Walk.{key_here}
use Rattle.retirable.proofs.First.{no_rows, by_first}
use Rattle.retirable.proofs.any_below.Statement.{statement}
use Rattle.retirable.proofs.any_below.Tie as tie

-- the rows of the book are as many as are used
as_many : (c : tie.After-used_count) → c.used_count.result ≡ length (book_rows c.args.store.now)
as_many c =
    let p = c in
    c.used_count.ensures ∙ ap (λ (q : ℕ). length (rows_of p.args.store.now q)) p.partition_count-book.ensures

-- there is a first one
some_row : (c : tie.Else-used_count-eq0) →
    let p = c in 0 < length (rows_of p.args.store.now p.partition_count-book.result)
some_row c = omega (arith, c.used_count.ensures, c.if-used_count-eq0.false)

pub any_below_spec : {M : Type 1} → statement M
any_below_spec =
    tie.close
    (tie.spec
    (λ c κs. let s = (store_ok _ c.requires).0 in search rules)
    (λ c κs. let s = (store_ok _ c.requires).0 in search rules)
    (λ c. no_rows _ _ _ (as_many c.before) c.if-used_count-eq0.true)
    (λ c κs. let s = (store_ok _ c.requires).0 in search rules)
    (λ c κs.
    let e = c.before in
    let s = (store_ok _ e.requires).0 in
    let h = row_within _ s.formed e.partition_count-book.result (omega arith) 0 (some_row e) in
    omega (arith, c.key_place.ensures, h.0))
    (λ c κs. search rules)
    (λ c.
    let e = c.before.before.before in
    let p = e in
    let f = c in
    let k = key_read _ p.partition_count-book.result 0 (some_row e) _ _ f.key_place.ensures f.read64-first.ensures in
    ap₂ ltb (key_here _ _ _ _ p.partition_count-book.ensures k) c.book_key.ensures.0
    ∙ by_first _ _ p.requires (omega (arith, as_many e.before, e.if-used_count-eq0.false)) c.book_key.ensures.1))
