-- `store::head::numbers_right` meets its contract, by the tests that led to each return.
use borrow.Author.Tests.{lt-leb, le-leb}
use Rattle.store.specs.Questions.{numbers_right}
use Rattle.store.proofs.head.numbers_right.Statement.{statement}
use Rattle.store.proofs.head.numbers_right.Tie as tie

ruleset tests = (lt-leb, le-leb)

pub numbers_right_spec : {M : Type 1} → statement M
unfolding numbers_right
numbers_right_spec =
    tie.close
    (tie.spec
    (λ c. search tests)
    (λ c. search tests)
    (λ c. search tests)
    (λ c. search tests))
