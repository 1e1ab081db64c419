use Rattle.std.proofs.Common.{◌≡◌, suc, ◌+◌, ◌∙◌, ap, arith}
use Rattle.code.specs.Questions.{inside_at}
use Rattle.code.proofs.Parts.{part_byte, part_length}
use Rattle.code.proofs.is_inside.Goals as goal

pub loop-byte-preserved : goal.loop-byte-preserved
unfolding inside_at
loop-byte-preserved c =
    let i = c.loop-byte.byte-index in
    let next : c.args.start + (i + 1) ≡ suc (c.args.start + i) = omega arith in
    let byte = part_byte c.args.ops.now c.args.start c.args.index i c.requires.bounds.0 c.requires.bounds.1 c.loop-byte-test.true in
    rw (next, ← c.loop-byte.invariant, ← byte) c.inside_behind-inside.ensures

pub returns : goal.returns
returns c =
    let bytes = part_length c.args.ops.now c.args.start c.args.index c.requires.bounds.0 c.requires.bounds.1 in
    c.loop-byte.invariant ∙ ap (inside_at c.args.ops.now) (omega arith)
