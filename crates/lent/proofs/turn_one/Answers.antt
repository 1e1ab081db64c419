-- The runtime's turn on slots in which the record is alone.
use Rattle.std.proofs.Common.{refl}
use Rattle.lent.proofs.Alone.{one_turned}
use Rattle.lent.proofs.turn_one.Goals as goal

pub returns : goal.returns
returns c = one_turned _ _ _ _ _ _ _ _ c.no_agents-slots.ensures refl c.turn-answer.ensures
