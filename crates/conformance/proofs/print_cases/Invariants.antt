-- `conformance::print_cases` is safe and ends: a case that is passed has a byte at the least.
use Rattle.std.proofs.Common.{◌-◌, ◌≤◌, length}
use Rattle.conformance.proofs.print_cases.Given as goal

abbrev pub invariant-loop-passed : goal.invariant-loop-passed
invariant-loop-passed g l = (l.passed ≤ length l.file) × (l.number ≤ l.passed)

abbrev pub decreases-loop-passed : goal.decreases-loop-passed
decreases-loop-passed g l = length l.file - l.passed
