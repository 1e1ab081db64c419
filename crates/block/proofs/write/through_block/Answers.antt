use Rattle.std.proofs.Common.{sym, refl, ap, ◌∙◌, arith}
use mathlib.Core.Option.{some}
use Rattle.keys.specs.Keys.{log_key}
use Rattle.store.specs.Rows.{rows_of}
use Rattle.store.proofs.Search.{at_row}
use Rattle.block.proofs.Writes.{log_none, log_some, through_logged}
use Rattle.block.proofs.write.through_block.Goals as goal

pub value_at-requires : goal.value_at-requires
value_at-requires c = (
  c.requires.sound,
  omega (arith, c.requires.below),
  at_row (log_key c.args.id c.args.step) (rows_of c.args.store.now c.args.partition) _ (sym c.log_row.ensures ∙ c.in-Ok.is),
)

pub returns-in-Ok : goal.returns-in-Ok
returns-in-Ok c =
    let a = c.args in
    through_logged _ _ _ _ _ _ _ _
    (log_some (rows_of a.store.now a.partition) a.id a.step _ (omega (arith, c.ranges.id.fits)) (omega (arith, c.ranges.step.fits))
    (sym c.log_row.ensures ∙ c.in-Ok.is)
    ∙ ap some (sym c.value_at.ensures)) refl

-- there is no such row: the block is run, and where there is room
-- what it puts is written with its log row
pub returns-in-Err : goal.returns-in-Err
returns-in-Err c =
    let a = c.args in
    rw (log_none (rows_of a.store.now a.partition) a.id a.step _ (omega (arith, c.ranges.id.fits)) (omega (arith, c.ranges.step.fits))
    (sym c.log_row.ensures ∙ c.in-Err.is))
    c.run_and_write.ensures
