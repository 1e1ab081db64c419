-- A run of a schedule, and what it prints.
use Rattle.std.specs.Prelude.{List, [], ◌∷◌, ◌++◌, ◌≡◌, ℕ, length, take, drop}
use Rattle.std.proofs.Math.Option.{none, some}
use Rattle.questions.specs.Questions.{No}
use Rattle.rules.specs.Calls.{Call}
use Rattle.rules.specs.Plain.{Event}
use Rattle.store.specs.Layout.{parts_of, cap_of, store_length}
use Rattle.agents.specs.declared.Agent.{Agent}
use Rattle.lines.specs.Lines.{events_line, refused_line, answer_line}
use Rattle.listing.specs.Store.{store_text}
use Rattle.worklist.specs.Worklist.{no_worklist}
use Rattle.chain.specs.Chain.{Chain}
use Rattle.schedule_check.specs.Layout.{event_count}
use Rattle.schedule_check.specs.Questions.{schedule_refusal}
use Rattle.schedule.specs.Events.{calls_of}

-- the calls that were made, the latest first
unfoldable pub made_in : List Event → List Call
made_in [] = []
made_in (e ∷ before) = e.made ∷ made_in before

-- the lines of the answers, each with its event's number
unfoldable pub answer_lines : List Event → List ℕ
answer_lines [] = []
answer_lines (e ∷ before) = answer_lines before ++ answer_line (length before) e.answer

-- The calls of a schedule's first `count` events were made, in order, each with its answer, from a fresh store of the schedule's P and C,
-- and left this store. Demand 3 speaks of every such list (crate `chain`).
pub record Ran (pack schedule : List ℕ) (count : ℕ) (events : List Event) (store : List ℕ) (records : List Agent) : Type 0 where
  pub chain : Chain pack (parts_of schedule) (cap_of schedule) events (record { store = store; records = records; list = no_worklist })
  pub calls : made_in events ≡ calls_of schedule count

-- A run of all events that leaves this store prints the event total, the answers, and the store.
pub record RunPrints (pack schedule store text : List ℕ) : Type 0 where
  pub events : List Event
  pub records : List Agent
  pub ran : Ran pack schedule (event_count schedule) events store records
  pub prints : text ≡ events_line (event_count schedule) ++ (answer_lines events ++ store_text store)

-- how many bytes the store of a schedule's P and C has
abbrev pub store_size : (schedule : List ℕ) → ℕ
store_size s = store_length (parts_of s) (cap_of s)

-- A whole run, by what was lent for the store before it and after: its first bytes, as many as the store has, are then the store that is
-- left; the bytes behind them stay as they were.
pub record WholeRun (pack schedule lent lent' text : List ℕ) : Type 0 where
  pub run : RunPrints pack schedule (take (store_size schedule) lent') text
  pub behind : drop (store_size schedule) lent' ≡ drop (store_size schedule) lent

-- What the program prints of any pack and schedule: only the first no, and what was lent for the store is unchanged; or else the run.
pub record Printed (pack schedule lent lent' text : List ℕ) : Type 0 where
  pub refused : (n : No) → schedule_refusal pack schedule ≡ some n → (text ≡ refused_line n.question) × (lent' ≡ lent)
  pub run : schedule_refusal pack schedule ≡ none → WholeRun pack schedule lent lent' text
