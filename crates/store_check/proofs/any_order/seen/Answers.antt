use Rattle.std.proofs.Common.{sym, ◌∙◌, ne_eqb}
use Rattle.store_check.proofs.Marks.{unmarked}
use Rattle.store_check.proofs.any_order.seen.Goals as goal

pub returns-else-marks-key : goal.returns-else-marks-key
returns-else-marks-key c =
    ne_eqb _ _ c.if-marks-key.false ∙ sym (unmarked c.args.marks.now c.args.mark c.args.key _ c.requires.marked c.if-marks-key.false)
