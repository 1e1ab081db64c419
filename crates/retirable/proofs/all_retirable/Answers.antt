use Rattle.std.proofs.Common.{rules, sym, ap, ◌∙◌, ℕ, length, arith}
use Rattle.store.specs.Rows.{rows_of}
use Rattle.store.proofs.Sound.{store_ok}
use Rattle.retirable.proofs.Walk.{key_inside, key_there, key_in_book, can_start, can_past, can_no, can_on, can_done_lem}
use Rattle.retirable.proofs.all_retirable.Goals as goal

pub partition_count-book-requires : goal.partition_count-book-requires
partition_count-book-requires c = let s = (store_ok _ c.requires.1).0 in search rules

pub used_count-rows-requires : goal.used_count-rows-requires
used_count-rows-requires c = let s = (store_ok _ c.requires.1).0 in search rules

pub key_place-keys_at-requires : goal.key_place-keys_at-requires
key_place-keys_at-requires c = let s = (store_ok _ c.requires.1).0 in search rules

pub loop-row-init : goal.loop-row-init
loop-row-init c =
    can_start _ _ _ _ (c.used_count-rows.ensures ∙ ap (λ (p : ℕ). length (rows_of c.args.store.now p)) c.partition_count-book.ensures)

pub overflow_mul-row : goal.overflow_mul-row
overflow_mul-row c = let h = key_inside _ (store_ok _ c.requires.1).0 _ _ _ c.loop-row.row c.partition_count-book.ensures c.used_count-rows.ensures c.loop-row-test.true
    c.key_place-keys_at.ensures in omega (arith, h)

pub overflow_add-keys_at : goal.overflow_add-keys_at
overflow_add-keys_at c = let h = key_inside _ (store_ok _ c.requires.1).0 _ _ _ c.loop-row.row c.partition_count-book.ensures c.used_count-rows.ensures c.loop-row-test.true
    c.key_place-keys_at.ensures in omega (arith, h)

pub read64-key-requires : goal.read64-key-requires
read64-key-requires c =
    key_inside _ (store_ok _ c.requires.1).0 _ _ _ c.loop-row.row c.partition_count-book.ensures c.used_count-rows.ensures c.loop-row-test.true
    c.key_place-keys_at.ensures

pub returns-then-end-key : goal.returns-then-end-key
returns-then-end-key c =
    let there =
    key_there _ (store_ok _ c.requires.1).0 _ _ _ c.loop-row.row c.partition_count-book.ensures c.used_count-rows.ensures c.loop-row-test.true
    c.key_place-keys_at.ensures _ c.read64-key.ensures in
    sym (can_past _ _ _ _ c.loop-row.row _ _ (omega arith) c.partition_count-book.ensures there (store_ok _ c.requires.1).0
    (c.used_count-rows.ensures ∙ ap (λ (p : ℕ). length (rows_of c.args.store.now p)) c.partition_count-book.ensures) (omega (arith, c.book_key-end.ensures.0)))
    ∙ c.loop-row.invariant

pub row_retirable-requires-clause-is_book_key : goal.row_retirable-requires-clause-is_book_key
row_retirable-requires-clause-is_book_key c =
    key_in_book _ (store_ok _ c.requires.1).0 _ _ _ c.loop-row.row c.partition_count-book.ensures c.used_count-rows.ensures c.loop-row-test.true
    c.key_place-keys_at.ensures _ c.read64-key.ensures

pub returns-then-not-row_retirable : goal.returns-then-not-row_retirable
returns-then-not-row_retirable c =
    let there =
    key_there _ (store_ok _ c.requires.1).0 _ _ _ c.loop-row.row c.partition_count-book.ensures c.used_count-rows.ensures c.loop-row-test.true
    c.key_place-keys_at.ensures _ c.read64-key.ensures in
    sym (can_no _ _ _ _ c.loop-row.row _ _ (omega arith) c.partition_count-book.ensures there (omega (arith, c.book_key-end.ensures.0)) _
    c.row_retirable.ensures c.if-not-row_retirable.true)
    ∙ c.loop-row.invariant

pub loop-row-preserved : goal.loop-row-preserved
loop-row-preserved c =
    let there =
    key_there _ (store_ok _ c.requires.1).0 _ _ _ c.loop-row.row c.partition_count-book.ensures c.used_count-rows.ensures c.loop-row-test.true
    c.key_place-keys_at.ensures _ c.read64-key.ensures in
    sym (can_on _ _ _ _ c.loop-row.row _ _ (omega arith) c.partition_count-book.ensures there (omega (arith, c.book_key-end.ensures.0)) _
    c.row_retirable.ensures c.if-not-row_retirable.false)
    ∙ c.loop-row.invariant

pub returns : goal.returns
returns c = sym (can_done_lem _ _ _ _ _ (omega arith)) ∙ c.loop-row.invariant
