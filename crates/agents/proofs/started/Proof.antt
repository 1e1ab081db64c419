-- `agents::started` meets its contract.
use mathlib.Core.Path.{refl}
use Rattle.agents.specs.Slots.{record_of}
use Rattle.agents.proofs.started.Statement.{statement}
use Rattle.agents.proofs.started.Tie as tie

pub started_spec : {M : Type 1} → statement M
unfolding record_of
started_spec = tie.close (tie.spec (λ c. refl))
