use Rattle.std.proofs.Common.{◌+◌, ◌<◌, length, refl, arith}
use Rattle.store.specs.Rows.{rows_of}
use Rattle.store.proofs.Bytes.{key_read, value_read}
use Rattle.listing.proofs.Printing.{printing_none, printing_more, printing_done}
use Rattle.listing.proofs.Steps.{lines_all, lines_none, lines_more, row_places}
use Rattle.listing.proofs.print_rows.Goals as goal

pub loop-row-init : goal.loop-row-init
loop-row-init c = (printing_none _ _ _ _ (omega arith) (lines_all _ _ _ _), omega arith)

pub overflow_mul-row : goal.overflow_mul-row
overflow_mul-row c =
    let there : c.loop-row.row < length (rows_of c.args.store.now c.args.partition) = omega (arith, c.loop-row-test.true, c.requires.3) in
    omega (arith, (row_places _ _ _ _ _ c.requires.0 c.requires.1 there c.key_place-keys_at.ensures c.value_place-values_at.ensures).0)

pub overflow_add-keys_at : goal.overflow_add-keys_at
overflow_add-keys_at c =
    let there : c.loop-row.row < length (rows_of c.args.store.now c.args.partition) = omega (arith, c.loop-row-test.true, c.requires.3) in
    omega (arith, (row_places _ _ _ _ _ c.requires.0 c.requires.1 there c.key_place-keys_at.ensures c.value_place-values_at.ensures).0)

pub read64-key-requires : goal.read64-key-requires
read64-key-requires c =
    let there : c.loop-row.row < length (rows_of c.args.store.now c.args.partition) = omega (arith, c.loop-row-test.true, c.requires.3) in
    omega (arith, (row_places _ _ _ _ _ c.requires.0 c.requires.1 there c.key_place-keys_at.ensures c.value_place-values_at.ensures).0)

pub overflow_mul-row-in-loop-row : goal.overflow_mul-row-in-loop-row
overflow_mul-row-in-loop-row c =
    let there : c.loop-row.row < length (rows_of c.args.store.now c.args.partition) = omega (arith, c.loop-row-test.true, c.requires.3) in
    omega (arith, (row_places _ _ _ _ _ c.requires.0 c.requires.1 there c.key_place-keys_at.ensures c.value_place-values_at.ensures).1)

pub overflow_add-values_at : goal.overflow_add-values_at
overflow_add-values_at c =
    let there : c.loop-row.row < length (rows_of c.args.store.now c.args.partition) = omega (arith, c.loop-row-test.true, c.requires.3) in
    omega (arith, (row_places _ _ _ _ _ c.requires.0 c.requires.1 there c.key_place-keys_at.ensures c.value_place-values_at.ensures).1)

pub read32-value-requires : goal.read32-value-requires
read32-value-requires c =
    let there : c.loop-row.row < length (rows_of c.args.store.now c.args.partition) = omega (arith, c.loop-row-test.true, c.requires.3) in
    omega (arith, (row_places _ _ _ _ _ c.requires.0 c.requires.1 there c.key_place-keys_at.ensures c.value_place-values_at.ensures).1)

pub loop-row-preserved : goal.loop-row-preserved
loop-row-preserved c =
    let h = c.loop-row-test.true in
    let s = c.args.store.now in
    let there : c.loop-row.row < length (rows_of s c.args.partition) = omega (arith, c.requires.3) in
    let key = key_read s c.args.partition c.loop-row.row there _ _ (omega (arith, c.key_place-keys_at.ensures)) c.read64-key.ensures in
    let value = value_read s c.args.partition c.loop-row.row there _ _ (omega (arith, c.value_place-values_at.ensures)) c.read32-value.ensures in (
      printing_more c.loop-row.invariant.0 _ _
          (lines_more c.args.partition (rows_of s c.args.partition) c.args.end c.loop-row.row (c.loop-row.row + 1) _ _ refl h c.requires.3 key value)
          c.stored_line-written.ensures.0,
      omega (arith, c.stored_line-written.ensures.1, c.loop-row.invariant.1),
    )

pub returns : goal.returns
returns c = (printing_done c.loop-row.invariant.0 (lines_none _ _ _ _ (omega arith)), omega arith)
