use Rattle.std.proofs.Common.{◌≡◌, ◌≤◌, ◌<◌, ℕ}
use Rattle.worklist.specs.Worklist.{place_at, waiting}
use Rattle.worklist.proofs.mark_waiting.Given as goal

-- the entries before this one are waiting, and the others as they were
abbrev pub invariant-loop-e : goal.invariant-loop-e
invariant-loop-e l =
    ((k : ℕ) → k < l.e-index → place_at l.entries k ≡ waiting (place_at l.initial.entries k))
    × ((k : ℕ) → l.e-index ≤ k → place_at l.entries k ≡ place_at l.initial.entries k)
