-- `keys::is_log` meets its contract.
use mathlib.Core.Path.{refl}
use Rattle.keys.specs.Keys.{is_log_key}
use Rattle.keys.proofs.is_log.Statement.{statement}
use Rattle.keys.proofs.is_log.Tie as tie

pub is_log_spec : {M : Type 1} → statement M
unfolding is_log_key
is_log_spec = tie.close (tie.spec (λ c. refl))
