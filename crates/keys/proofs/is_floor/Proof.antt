-- `keys::is_floor` meets its contract.
use mathlib.Core.Path.{refl}
use Rattle.keys.specs.Keys.{is_floor_key}
use Rattle.keys.proofs.is_floor.Statement.{statement}
use Rattle.keys.proofs.is_floor.Tie as tie

pub is_floor_spec : {M : Type 1} → statement M
unfolding is_floor_key
is_floor_spec = tie.close (tie.spec (λ c. refl))
