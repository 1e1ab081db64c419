-- A request in the code, in the rules' words.
use Rattle.std.specs.Prelude.{[], ◌∷◌}
use Rattle.rules.specs.Store as Rules
use Rattle.agents.specs.declared.Request.{Request}

-- its workflow number and its arguments
abbrev pub asked : Request → Rules.Request
asked q = record { workflow = q.workflow; arguments = q.a0 ∷ q.a1 ∷ q.a2 ∷ q.a3 ∷ [] }
