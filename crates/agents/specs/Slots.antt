-- What agent records mean as the slots of the rules, and the records of given slots.
use Rattle.std.specs.Prelude.{true, false, Bool, ◌&&◌, List, [], ◌∷◌, ◌⊎◌, ◌≡◌, ℕ, zero, suc, ◌<◌, length, get_or, replicate, eqb}
use Rattle.std.proofs.Math.Option.{Option, none, some}
use Rattle.rules.specs.Instructions.{Place}
use Rattle.rules.specs.Store.{Request}
use Rattle.questions.specs.Basics.{if◌then◌otherwise◌, each}
use Rattle.rules.specs.Courses.{going}
use Rattle.rules.specs.Calls as Rules
use Rattle.agents.specs.declared.Agent.{Agent}

-- An empty slot is all zero.
abbrev pub no_agent : Agent
no_agent = record { in_use = false; id = 0; position = 0; step = 0; registers = replicate 8 0 }

-- The record in a slot. (Past the last slot, where nothing reads, it is what the language's logic has there.)
abbrev pub agent_at : List Agent → (slot : ℕ) → Agent
agent_at records slot = get_or records slot (record { in_use = false; id = 0; position = 0; step = 0; registers = [] })

-- the agent of a record in use
abbrev pub held : Agent → Rules.Agent
held r = record { id = r.id; course = going (record { position = r.position; registers = r.registers }); step = r.step }

-- what a record means: an agent, or none
unfoldable pub agent_of : Agent → Option Rules.Agent
agent_of r = if r.in_use then some (held r) otherwise none

-- and back: the record of what a slot holds
unfoldable pub record_of : Option Rules.Agent → Agent
record_of none = no_agent
record_of (some a) =
    record { in_use = true; id = a.id; position = a.course.place.position; step = a.step; registers = a.course.place.registers }

-- the slots that records stand for: none from the last record on
unfoldable pub slots_of : List Agent → (slot : ℕ) → Option Rules.Agent
slots_of records slot = agent_of (agent_at records slot)

-- the records of the n slots from i on
unfoldable pub records_from : ((slot : ℕ) → Option Rules.Agent) → (n i : ℕ) → List Agent
records_from slots zero i = []
records_from slots (suc n) i = record_of (slots i) ∷ records_from slots n (suc i)

-- Eight slots.
abbrev pub records_of : ((slot : ℕ) → Option Rules.Agent) → List Agent
records_of slots = records_from slots 8 0

-- a record is in use or all zero
abbrev pub Whole : Agent → Type 0
Whole r = (r.in_use ≡ true) ⊎ (r ≡ no_agent)

-- eight records, each in use or all zero: what question 14 leaves
pub record Tidy (records : List Agent) : Type 0 where
  pub eight : length records ≡ 8
  pub whole : (slot : ℕ) → slot < 8 → Whole (agent_at records slot)

-- the record of an agent that is started: position 0, step 0, the arguments in registers 0 to 3, zero in 4 to 7
abbrev pub started_with : (id : ℕ) → Request → Agent
started_with id q = record_of (some (record { id = id; course = Rules.start q; step = 0 }))

-- an agent's record at another place and step
abbrev pub placed : Agent → Place → (step : ℕ) → Agent
placed a to t = record { in_use = true; id = a.id; position = to.position; step = t; registers = to.registers }

-- Is it all zero but for the flag? An empty slot is all zero.
unfoldable pub is_blank : Agent → Bool
is_blank r =
    eqb r.id 0
    && (eqb r.position 0
    && (eqb r.step 0
    && each 8 (λ i. eqb (get_or r.registers i 0) 0)))
