-- `keys::last_of_five` meets its contract.
use borrow.Author.Rules.{rules}
use native.Mathlib.Omega.{arith}
use Rattle.keys.proofs.Keys.{book_bounds}
use Rattle.keys.proofs.last_of_five.Statement.{statement}
use Rattle.keys.proofs.last_of_five.Tie as tie

pub last_of_five_spec : {M : Type 1} → statement M
last_of_five_spec = tie.close (tie.spec (λ c. let b = book_bounds _ c.requires in omega arith) (λ c. search rules))
