use Rattle.std.proofs.Common.{◌≡◌, ◌+◌, ◌-◌, arith}
use mathlib.Core.Path.{◌∙◌}
use Rattle.words.proofs.Library.{le_below, from_part}
use Rattle.words.proofs.read.Goals as goal

pub returns-clause-number : goal.returns-clause-number
returns-clause-number g c =
    let n : c.args.at + g.row.W - c.args.at ≡ g.row.W = omega arith in
    rw (c.copy_from_slice.ensures.after, n) at c.from_le_bytes.ensures
    ∙ from_part g.row.W c.args.s.now c.args.at c.requires.width c.requires.within

pub returns-clause-fits : goal.returns-clause-fits
returns-clause-fits g c =
    rw (returns-clause-number g c)
    (le_below g.row.W c.args.s.now c.args.at (λ j. let byte = c.type_inv.s j in omega arith))
