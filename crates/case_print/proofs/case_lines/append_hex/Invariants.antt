use Rattle.std.proofs.Common.{◌+◌, ◌*◌, ◌≤◌, ◌≡◌, length}
use Rattle.case_print.proofs.case_lines.append_hex.Given as goal

abbrev pub invariant-loop-byte : goal.invariant-loop-byte
invariant-loop-byte l = (l.reached ≤ l.written + 2 * l.byte-index) × (length l.out ≡ length l.fn.out)
