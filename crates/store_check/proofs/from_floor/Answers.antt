use Rattle.std.proofs.Common.{◌-◌, sym, ap, ◌∙◌, arith, leb, eq-eqb}
use Rattle.words.specs.Words.{le}
use Rattle.store_check.proofs.Floor.{from_first, from_none}
use Rattle.store_check.proofs.from_floor.Goals as goal

pub returns-then-rows-eq0 : goal.returns-then-rows-eq0
returns-then-rows-eq0 c = eq-eqb _ 0 c.if-rows-eq0.true ∙ sym (from_none _ _ _ _ c.if-rows-eq0.true)

pub returns-else-rows-eq0 : goal.returns-else-rows-eq0
returns-else-rows-eq0 c =
    let r = c.args.rows.now in
    let none = c.if-rows-eq0.false in
    ap (leb c.args.floor) c.booked_id.ensures
    ∙ sym (from_first c.args.floor (omega arith) _ _ _ (r.used - 1) _ (omega arith) (c.key.ensures ∙ ap (le 8 r.store.now) (omega arith))
    c.requires.1)
