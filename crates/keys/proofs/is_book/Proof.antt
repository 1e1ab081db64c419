-- `keys::is_book` meets its contract, by the tests that led to each return.
use mathlib.Core.Path.{refl}
use borrow.Author.Tests.{lt-ltb, le-ltb}
use Rattle.keys.specs.Keys.{is_book_key}
use Rattle.keys.proofs.is_book.Statement.{statement}
use Rattle.keys.proofs.is_book.Tie as tie

pub is_book_spec : {M : Type 1} → statement M
unfolding is_book_key
is_book_spec = tie.close (tie.spec (λ c. rw (lt-ltb _ _ c.if-stored-lt34359738368.true) refl) (λ c. rw (le-ltb _ _ c.if-stored-lt34359738368.false) refl))
