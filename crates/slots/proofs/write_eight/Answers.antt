use Rattle.std.proofs.Common.{refl, ap, ◌∙◌, arith}
use Rattle.slots.specs.Records.{puts}
use Rattle.slots.proofs.Words.{puts_more}
use Rattle.slots.proofs.write_eight.Goals as goal

pub loop-i-init : goal.loop-i-init
unfolding puts
loop-i-init c = refl

pub loop-i-preserved : goal.loop-i-preserved
loop-i-preserved c =
    let more = puts_more 4 c.args.bytes.now c.args.first c.args.eight c.loop-i.i in
    cc

pub returns : goal.returns
returns c = c.loop-i.invariant ∙ ap (puts 4 c.args.bytes.now c.args.first c.args.eight) (omega arith)
