-- `slots::read_slots` meets its contract.
use borrow.Author.Rules.{rules}
use Rattle.slots.specs.Records.{records_in}
use Rattle.slots.proofs.read_slots.Statement.{statement}
use Rattle.slots.proofs.read_slots.Tie as tie

pub read_slots_spec : {M : Type 1} → statement M
unfolding records_in
read_slots_spec =
    tie.close
    (tie.spec
    (λ c κs. search rules)
    (λ c κs. search rules)
    (λ c κs. search rules)
    (λ c κs. search rules)
    (λ c κs. search rules)
    (λ c κs. search rules)
    (λ c κs. search rules)
    (λ c κs. search rules)
    (λ c. cc))
