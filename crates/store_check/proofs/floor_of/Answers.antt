use Rattle.std.proofs.Common.{◌-◌, sym, ◌∙◌, arith}
use Rattle.store_check.proofs.Floor.{floor_empty, floor_there, floor_absent}
use Rattle.store_check.proofs.floor_of.Goals as goal

pub returns-then-rows-eq0 : goal.returns-then-rows-eq0
returns-then-rows-eq0 c = floor_empty _ _ _ _ c.if-rows-eq0.true

pub returns-then-is_floor : goal.returns-then-is_floor
returns-then-is_floor c =
    c.value.ensures
    ∙ floor_there _ _ _ _ c.requires.1 (c.args.rows.now.used - 1) (omega arith) _ c.key.ensures (sym c.is_floor.ensures ∙ c.if-is_floor.true)

pub returns-else-is_floor : goal.returns-else-is_floor
returns-else-is_floor c =
    floor_absent _ _ _ _ c.requires.1 (c.args.rows.now.used - 1) (omega arith) _ c.key.ensures (sym c.is_floor.ensures ∙ c.if-is_floor.false)
