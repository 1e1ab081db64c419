use Rattle.std.proofs.Common.{◌+◌, ◌*◌, ◌≤◌, ◌≡◌, length}
use Rattle.case_print.proofs.case_lines.append_words.Given as goal

abbrev pub invariant-loop-i : goal.invariant-loop-i
invariant-loop-i l = (l.reached ≤ l.written + 21 * l.i) × (length l.out ≡ length l.fn.out)
