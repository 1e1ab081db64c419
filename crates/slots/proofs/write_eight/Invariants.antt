use Rattle.std.proofs.Common.{◌≡◌}
use Rattle.slots.specs.Records.{puts}
use Rattle.slots.proofs.write_eight.Given as goal

-- the first i words stand in their places
abbrev pub invariant-loop-i : goal.invariant-loop-i
invariant-loop-i l = l.bytes ≡ puts 4 l.initial.bytes l.first l.fn.eight l.i
