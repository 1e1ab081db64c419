-- The flag is the side of the instruction that comes next.
use Rattle.std.proofs.Common.{◌≡◌, ◌+◌}
use Rattle.code.specs.Questions.{inside_at}
use Rattle.code.proofs.is_inside.Given as goal

abbrev pub invariant-loop-byte : goal.invariant-loop-byte
invariant-loop-byte l = l.inside ≡ inside_at l.ops (l.start + l.byte-index)
