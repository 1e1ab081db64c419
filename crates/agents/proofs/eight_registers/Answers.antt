-- `agents::eight_registers`: by the type of an array lent by value.
use Rattle.agents.proofs.Typed as Typed
use Rattle.agents.proofs.eight_registers.Goals as goal

pub returns : goal.returns
returns c = Typed.eight_registers c.args.records _ c.well_formed.0
