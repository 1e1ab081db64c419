-- `keys::data_of` meets its contract.
use borrow.Author.Rules.{rules}
use native.Mathlib.Omega.{arith}
use Rattle.keys.proofs.Keys.{data_bounds}
use Rattle.keys.proofs.data_of.Statement.{statement}
use Rattle.keys.proofs.data_of.Tie as tie

pub data_of_spec : {M : Type 1} → statement M
data_of_spec = tie.close (tie.spec (λ c. let b = data_bounds _ c.requires in omega arith) (λ c. search rules))
