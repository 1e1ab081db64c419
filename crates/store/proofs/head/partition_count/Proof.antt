-- `store::head::partition_count` meets its contract: one byte is a number of one byte.
use borrow.Author.Rules.{rules}
use native.Mathlib.Omega.{arith}
use Rattle.words.specs.Words as Words
use Rattle.store.proofs.head.partition_count.Statement.{statement}
use Rattle.store.proofs.head.partition_count.Tie as tie

pub partition_count_spec : {M : Type 1} → statement M
unfolding Words.le
partition_count_spec =
    tie.close
    (tie.spec
    (λ c. search rules)
    (λ c. omega (arith, c.shared_slice_known-1.given 0))
    (λ c. omega arith))
