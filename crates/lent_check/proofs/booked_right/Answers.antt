-- `lent_check::booked_right`: what is left answers the whole.
use Rattle.std.proofs.Common.{◌≡◌, ◌+◌, ◌*◌, ◌<◌, ◌≤◌, ℕ, refl, sym, ◌∙◌, ap, length, arith}
use Rattle.store.specs.Rows.{rows_of}
use Rattle.lent_check.proofs.Steps.{row_bytes, row_key, row_value, booked_start, booked_no, booked_on, booked_done}
use Rattle.lent_check.proofs.booked_right.Goals as goal

pub loop-row-init : goal.loop-row-init
loop-row-init c =
    booked_start _ _ _ (c.used_count-rows.ensures ∙ ap (λ (p : ℕ). length (rows_of c.args.store.now p)) c.partition_count-book.ensures)

pub overflow_mul-row : goal.overflow_mul-row
overflow_mul-row c =
    omega (
      arith,
      (row_bytes c.args.store.now c.requires.1.formed _ _ _ _ _ c.partition_count-book.ensures c.used_count-rows.ensures
          c.loop-row-test.true c.key_place-keys_at.ensures c.value_place-values_at.ensures).0,
    )

pub overflow_add-keys_at : goal.overflow_add-keys_at
overflow_add-keys_at c =
    omega (
      arith,
      (row_bytes c.args.store.now c.requires.1.formed _ _ _ _ _ c.partition_count-book.ensures c.used_count-rows.ensures
          c.loop-row-test.true c.key_place-keys_at.ensures c.value_place-values_at.ensures).0,
    )

pub read64-key-requires : goal.read64-key-requires
read64-key-requires c =
    omega (
      arith,
      (row_bytes c.args.store.now c.requires.1.formed _ _ _ _ _ c.partition_count-book.ensures c.used_count-rows.ensures
          c.loop-row-test.true c.key_place-keys_at.ensures c.value_place-values_at.ensures).0,
    )

pub overflow_mul-row-in-loop-row : goal.overflow_mul-row-in-loop-row
overflow_mul-row-in-loop-row c =
    omega (
      arith,
      (row_bytes c.args.store.now c.requires.1.formed _ _ _ _ _ c.partition_count-book.ensures c.used_count-rows.ensures
          c.loop-row-test.true c.key_place-keys_at.ensures c.value_place-values_at.ensures).1,
    )

pub overflow_add-values_at : goal.overflow_add-values_at
overflow_add-values_at c =
    omega (
      arith,
      (row_bytes c.args.store.now c.requires.1.formed _ _ _ _ _ c.partition_count-book.ensures c.used_count-rows.ensures
          c.loop-row-test.true c.key_place-keys_at.ensures c.value_place-values_at.ensures).1,
    )

pub read32-value-requires : goal.read32-value-requires
read32-value-requires c =
    omega (
      arith,
      (row_bytes c.args.store.now c.requires.1.formed _ _ _ _ _ c.partition_count-book.ensures c.used_count-rows.ensures
          c.loop-row-test.true c.key_place-keys_at.ensures c.value_place-values_at.ensures).1,
    )

pub returns-then-not-books_below : goal.returns-then-not-books_below
returns-then-not-books_below c =
    sym (booked_no c.args.pack.now c.args.store.now _ c.loop-row.row _ _ _ _ _ c.loop-row-test.true c.count_of-workflows.ensures
    c.partition_count-book.ensures
    (row_key c.args.store.now c.requires.1.formed _ _ _ _ _ c.partition_count-book.ensures c.used_count-rows.ensures
    c.loop-row-test.true c.key_place-keys_at.ensures c.value_place-values_at.ensures _ c.read64-key.ensures)
    (row_value c.args.store.now c.requires.1.formed _ _ _ _ _ c.partition_count-book.ensures c.used_count-rows.ensures
    c.loop-row-test.true c.key_place-keys_at.ensures c.value_place-values_at.ensures _ c.read32-value.ensures)
    c.books_below.ensures c.if-not-books_below.true)
    ∙ c.loop-row.invariant

pub loop-row-preserved : goal.loop-row-preserved
loop-row-preserved c =
    sym (booked_on c.args.pack.now c.args.store.now _ c.loop-row.row _ _ _ _ _ c.loop-row-test.true c.count_of-workflows.ensures
    c.partition_count-book.ensures
    (row_key c.args.store.now c.requires.1.formed _ _ _ _ _ c.partition_count-book.ensures c.used_count-rows.ensures
    c.loop-row-test.true c.key_place-keys_at.ensures c.value_place-values_at.ensures _ c.read64-key.ensures)
    (row_value c.args.store.now c.requires.1.formed _ _ _ _ _ c.partition_count-book.ensures c.used_count-rows.ensures
    c.loop-row-test.true c.key_place-keys_at.ensures c.value_place-values_at.ensures _ c.read32-value.ensures)
    c.books_below.ensures c.if-not-books_below.false)
    ∙ c.loop-row.invariant

pub returns : goal.returns
returns c = sym (booked_done _ _ _ _ c.loop-row-test.false) ∙ c.loop-row.invariant
