-- The instructions before this one open what they may.
use Rattle.std.proofs.Common.{◌≡◌}
use Rattle.meaning.specs.Questions.{opens_right}
use Rattle.lent_check.proofs.Steps.{opens_from}
use Rattle.lent_check.proofs.opens_right.Given as goal

abbrev pub invariant-loop-instruction : goal.invariant-loop-instruction
invariant-loop-instruction l = opens_from l.pack l.store l.instructions l.instruction ≡ opens_right l.pack l.store
