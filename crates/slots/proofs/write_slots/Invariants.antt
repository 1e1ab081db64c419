use Rattle.std.proofs.Common.{◌≡◌}
use Rattle.slots.specs.Records.{with_records}
use Rattle.slots.proofs.write_slots.Given as goal

-- the first records stand in their places
abbrev pub invariant-loop-slot : goal.invariant-loop-slot
invariant-loop-slot l = l.bytes ≡ with_records l.initial.bytes l.fn.slots l.slot
