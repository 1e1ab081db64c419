-- States by their parts.
use mathlib.Core.Path.{◌≡◌}
use Rattle.rules.specs.Calls.{State}

-- two states with the same store, the same slots and the same worklist are the same
pub same_state : {s s' : State} → s.store ≡ s'.store → s.slots ≡ s'.slots → s.work ≡ s'.work → s ≡ s'
same_state e f w = λ i. record { store = e i; slots = f i; work = w i }
