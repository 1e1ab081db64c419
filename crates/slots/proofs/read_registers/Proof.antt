-- `slots::read_registers` meets its contract.
use borrow.Author.Rules.{rules}
use native.Mathlib.Nat.{add_assoc}
use Rattle.words.specs.Words as Words
use Rattle.slots.proofs.read_registers.Statement.{statement}
use Rattle.slots.proofs.read_registers.Tie as tie

pub read_registers_spec : {M : Type 1} → statement M
unfolding Words.fields
read_registers_spec =
    tie.close
    (tie.spec
    (λ c κs. search rules)
    (λ c. search rules)
    (λ c κs. search rules)
    (λ c. search rules)
    (λ c κs. search rules)
    (λ c. search rules)
    (λ c κs. search rules)
    (λ c. search rules)
    (λ c κs. search rules)
    (λ c. search rules)
    (λ c κs. search rules)
    (λ c. search rules)
    (λ c κs. search rules)
    (λ c. search rules)
    (λ c κs. search rules)
    (λ c. simp add_assoc cc))
