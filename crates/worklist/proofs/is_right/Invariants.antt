use Rattle.std.proofs.Common.{◌≡◌, length}
use Rattle.worklist.proofs.Means.{right_from}
use Rattle.worklist.proofs.is_right.Given as goal

-- what is left answers the whole
abbrev pub invariant-loop-i : goal.invariant-loop-i
invariant-loop-i l = right_from l.entries (length l.entries) l.i ≡ right_from l.entries (length l.entries) 0
