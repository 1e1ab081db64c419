-- `edges::print_edges` is safe and ends: an edge that is passed has a byte at the least.
use Rattle.std.proofs.Common.{◌-◌, ◌≤◌, length}
use Rattle.edges.proofs.print_edges.Given as goal

abbrev pub invariant-loop-passed : goal.invariant-loop-passed
invariant-loop-passed g l = l.passed ≤ length l.edges

abbrev pub decreases-loop-passed : goal.decreases-loop-passed
decreases-loop-passed g l = length l.edges - l.passed
