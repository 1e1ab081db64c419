-- `worklist::read_entry` meets its contract.
use borrow.Author.Rules.{rules}
use Rattle.worklist.proofs.read_entry.Statement.{statement}
use Rattle.worklist.proofs.read_entry.Tie as tie

pub read_entry_spec : {M : Type 1} → statement M
read_entry_spec =
    tie.close
    (tie.spec
    (λ c. search rules)
    (λ c. search rules)
    (λ c κs. search rules)
    (λ c. search rules)
    (λ c. search rules)
    (λ c κs. search rules)
    (λ c. cc))
