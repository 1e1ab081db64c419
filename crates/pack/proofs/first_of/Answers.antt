use Rattle.std.proofs.Common.{refl, arith}
use Rattle.pack.specs.Layout.{first_of}
use Rattle.pack.proofs.Sizes.{first_next}
use Rattle.pack.proofs.first_of.Goals as goal

pub loop-earlier-init : goal.loop-earlier-init
unfolding first_of
loop-earlier-init c = record { sum = refl; small = omega arith }

pub loop-earlier-preserved : goal.loop-earlier-preserved
loop-earlier-preserved c =
    record {
      sum = omega (arith, first_next c.args.pack.now c.loop-earlier.earlier, c.read16.ensures);
      small = omega (arith, c.read16.type_inv);
    }
