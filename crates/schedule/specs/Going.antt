-- A run under way.
use Rattle.std.specs.Prelude.{List, ℕ}
use Rattle.rules.specs.Plain.{Event}
use Rattle.agents.specs.declared.Agent.{Agent}
use Rattle.text.specs.Text.{Appended}
use Rattle.schedule_check.specs.Layout.{event_count}
use Rattle.schedule.specs.Run.{answer_lines, Ran}

-- the first `count` events were run, and their answers printed
pub record Going (pack schedule out : List ℕ) (written count : ℕ) (store : List ℕ) (records : List Agent) (out' : List ℕ)
    (written' : ℕ) : Type 0 where
  pub events : List Event
  pub ran : Ran pack schedule count events store records
  pub said : Appended out written (answer_lines events) out' written'

-- all were
pub record Went (pack schedule out : List ℕ) (written : ℕ) (store out' : List ℕ) (written' : ℕ) : Type 0 where
  pub records : List Agent
  pub going : Going pack schedule out written (event_count schedule) store records out' written'
