-- `keys::is_data` meets its contract, by the tests that led to each return.
use mathlib.Core.Path.{refl}
use borrow.Author.Tests.{le-leb, lt-leb}
use Rattle.keys.specs.Keys.{is_data_key}
use Rattle.keys.proofs.is_data.Statement.{statement}
use Rattle.keys.proofs.is_data.Tie as tie

pub is_data_spec : {M : Type 1} → statement M
unfolding is_data_key
is_data_spec = tie.close (tie.spec (λ c. rw (le-leb _ _ c.if-stored-ge9223372036854775808.true) refl) (λ c. rw (lt-leb _ _ c.if-stored-ge9223372036854775808.false) refl))
