-- The sum is that of the sizes of the earlier workflows.
use Rattle.std.proofs.Common.{◌≡◌, ◌*◌, ◌≤◌}
use Rattle.pack.specs.Layout.{first_of}
use Rattle.pack.proofs.first_of.Given as goal

abbrev pub invariant-loop-earlier : goal.invariant-loop-earlier
invariant-loop-earlier l = record { sum : l.sum ≡ first_of l.pack l.earlier; small : l.sum ≤ 65535 * l.earlier }
