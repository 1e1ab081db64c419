-- `instruction::with_register` meets its contract.
use borrow.Author.Rules.{rules}
use Rattle.instruction.proofs.Steps.{becomes_at}
use Rattle.instruction.proofs.with_register.Statement.{statement}
use Rattle.instruction.proofs.with_register.Tie as tie

pub with_register_spec : {M : Type 1} → statement M
with_register_spec =
    tie.close
    (tie.spec
    (λ c. search rules)
    (λ c. search rules)
    (λ c. search rules)
    (λ c. let a = c.args in becomes_at a.x a.d a.value))
