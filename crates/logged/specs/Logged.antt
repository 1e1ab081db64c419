-- What is known of an id from book and log; and where a move by the log leads, as the code has it.
use Rattle.std.specs.Prelude.{List, ◌≡◌, ℕ, ◌≤◌, ◌<◌, length}
use Rattle.std.proofs.Math.Option.{Option, none, some}
use Rattle.rules.specs.Instructions.{BEGIN, instruction_at}
use Rattle.rules.specs.Shapes.{outside}
use Rattle.rules.specs.Blocks.{Result, yields}
use Rattle.rules.specs.Checked.{side_at}
use Rattle.rules.specs.Courses.{going}
use Rattle.rules.specs.Store.{Request}
use Rattle.rules.specs.Logged as Rules
use Rattle.code.specs.Meaning.{code_of}
use Rattle.code.specs.Right.{Right}
use Rattle.store.specs.Layout.{parts_of}
use Rattle.store.specs.Sound.{Sound}
use Rattle.instruction.specs.declared.Spot.{Spot}
use Rattle.instruction.specs.Step.{place_of}
use Rattle.logged.specs.declared.Logged.{Logged}
use Rattle.logged.specs.declared.Logged.TheVariants.{Unbooked, NotYet, Through}
use Rattle.logged.specs.declared.Stage.{Stage}
use Rattle.logged.specs.declared.Stage.TheVariants.{UnderWay, Finished}
use Rattle.std.specs.Prelude as Code

-- of a booked id, by the reply that can be worked out from the log
abbrev pub by_reply : Option Result → Logged
by_reply none = NotYet
by_reply (some (yields v)) = Through v

-- by what the book has of the id, and the reply that can be worked out from the log
abbrev pub logged_by : Option Request → Option Result → Logged
logged_by none o = Unbooked
logged_by (some q) o = by_reply o

-- the rules' stage of what the code has
abbrev pub stage_at : Stage → Rules.Stage
stage_at (UnderWay place step) = Rules.at (going (place_of place)) step
stage_at (Finished v) = Rules.finished (yields v)

-- and behind a move; none, where the log leads no further
abbrev pub stage_of : Code.Option Stage → Option Rules.Stage
stage_of Code.None = none
stage_of (Code.Some s) = some (stage_at s)

-- What questions 1 to 13 say of the workflow whose request is followed, and of the store: each BEGIN's partition is below P.
pub record Followed (ops ws store : List ℕ) : Type 0 where
  pub right : Right ops ws
  pub short : length ops ≤ 256
  pub sound : Sound store
  pub opens : (i p : ℕ) → i < length ops → instruction_at (code_of ops ws) i ≡ BEGIN p → p < parts_of store

-- a request under way stands in its code and outside a block, at a step no further than its position
pub record StandsAt (ops ws : List ℕ) (place : Spot) (step : ℕ) : Type 0 where
  pub in_code : place.position < length ops
  pub side : side_at (code_of ops ws) place.position ≡ outside
  pub few_steps : step ≤ place.position
