-- The rows of the book before this one have what they should.
use Rattle.std.proofs.Common.{◌≡◌, ◌≤◌}
use Rattle.meaning.specs.Questions.{booked_right}
use Rattle.lent_check.proofs.Steps.{booked_from}
use Rattle.lent_check.proofs.booked_right.Given as goal

abbrev pub invariant-loop-row : goal.invariant-loop-row
invariant-loop-row l = booked_from l.pack l.store l.rows l.row ≡ booked_right l.pack l.store
