use Rattle.std.proofs.Common.{◌≡◌}
use Rattle.worklist.specs.Bytes.{with_entries}
use Rattle.worklist.proofs.write_list.Given as goal

-- the entries before this place stand in their places
abbrev pub invariant-loop-place : goal.invariant-loop-place
invariant-loop-place l = l.bytes ≡ with_entries l.initial.bytes l.fn.l.places l.place
