-- `worklist::write_entry` meets its contract.
use borrow.Author.Rules.{rules}
use Rattle.worklist.proofs.write_entry.Statement.{statement}
use Rattle.worklist.proofs.write_entry.Tie as tie

pub write_entry_spec : {M : Type 1} → statement M
write_entry_spec =
    tie.close
    (tie.spec
    (λ c. search rules)
    (λ c. search rules)
    (λ c κs. search rules)
    (λ c. search rules)
    (λ c. search rules)
    (λ c κs. search rules)
    (λ c. search rules)
    (λ c. cc))
