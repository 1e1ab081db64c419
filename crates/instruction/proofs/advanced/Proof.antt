-- `instruction::advanced` meets its contract.
use borrow.Author.Rules.{rules}
use Rattle.instruction.proofs.Steps.{next_at_lem}
use Rattle.instruction.proofs.advanced.Statement.{statement}
use Rattle.instruction.proofs.advanced.Tie as tie

pub advanced_spec : {M : Type 1} → statement M
advanced_spec = tie.close (tie.spec (λ c. search rules) (λ c. next_at_lem c.args.x))
