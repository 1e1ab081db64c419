-- `instruction::jumped` meets its contract.
use mathlib.Core.Path.{refl}
use borrow.Author.Rules.{rules}
use Rattle.instruction.proofs.jumped.Statement.{statement}
use Rattle.instruction.proofs.jumped.Tie as tie

pub jumped_spec : {M : Type 1} → statement M
jumped_spec =
    tie.close
    (tie.spec
    (λ c. rw c.if-taken.true refl)
    (λ c κs. search rules)
    (λ c. rw c.if-taken.false c.advanced.ensures))
