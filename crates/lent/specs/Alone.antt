-- The turn of one record, by that of eight slots.
use Rattle.std.specs.Prelude.{List, ◌∷◌, ℕ, replicate}
use Rattle.rules.specs.Calls.{turn}
use Rattle.agents.specs.declared.Agent.{Agent}
use Rattle.agents.specs.Answers.{Answer}
use Rattle.agents.specs.Slots.{no_agent}
use Rattle.worklist.specs.declared.Worklist.{Worklist}
use Rattle.meaning.specs.Carried.{Carried}

-- eight slots: this record in slot 0, and seven empty ones
abbrev pub alone : Agent → List Agent
alone a = a ∷ replicate 7 no_agent

-- A turn on pack, store and a record gave an answer and left another record and store: it is the turn of slot 0 of the slots in which the
-- record is alone, with every question of a turn, beside any worklist. Refused, record and store are as they were.
abbrev pub TurnedAlone : (pack store : List ℕ) → Agent → Answer → (left : Agent) → (store' : List ℕ) → Type 0
TurnedAlone pack store a answer left store' =
    (list : Worklist) → Carried pack (record { store = store; records = alone a; list = list }) (turn 0) answer
    (record { store = store'; records = alone left; list = list })
