-- How far its log leads a request: where it stands after some moves, if each block among them has its log row; and logged through.
use Rattle.std.specs.Prelude.{Bool, [], ◌∷◌, ◌++◌, ℕ, zero, suc, length, get_or}
use Rattle.std.proofs.Math.Option.{Option, none, some}
use Rattle.questions.specs.Basics.{is_some}
use Rattle.rules.specs.Instructions.{Code, Pack}
use Rattle.rules.specs.Blocks.{Result}
use Rattle.rules.specs.Courses.{Course, going, Next, goes, does, says, next_of}
use Rattle.rules.specs.Store.{Request, Log, found}

-- the code of a booked request's workflow
abbrev pub request_code : Pack → Request → Code
request_code pack q = get_or pack q.workflow []

-- A started agent has position 0, step 0, the arguments in registers 0 to 3, zero in 4 to 7.
abbrev pub start : Request → Course
start q = going (record { position = 0; registers = q.arguments ++ 0 ∷ 0 ∷ 0 ∷ 0 ∷ [] })

-- how far a request has come: it is under way, where it stands and with a step number; or it has come to its reply
pub data Stage : Type 0 where
  at : (course : Course) (step : ℕ) → Stage
  finished : Result → Stage

-- behind a block, by what its log row says: where there is none, the log leads no further
unfoldable pub behind : (onto : Result → Course) → (step : ℕ) → Option Result → Option Stage
behind onto t none = none
behind onto t (some r) = some (at (onto r) (suc t))

-- One move by the log, by what the agent does next: what a turn does, but a block only where it is logged.
abbrev pub by_next : Log → (id step : ℕ) → Next → Option Stage
by_next log id t (goes to) = some (at to t)
by_next log id t (says r) = some (finished r)
by_next log id t (does from p onto) = behind onto t (found log p id t)

-- one move more, as long as the log has led so far and there is no reply yet
abbrev pub onward : Log → (id : ℕ) → Code → Option Stage → Option Stage
onward log id code none = none
onward log id code (some (at c t)) = by_next log id t (next_of code c)
onward log id code (some (finished r)) = none

-- How far its log leads a request: where it stands after so many moves, each block among them taken from its log row; none behind a row
-- that isn't there, and behind the reply.
unfoldable pub follow : Log → (id : ℕ) → Code → Request → (moves : ℕ) → Option Stage
follow log id code q zero = some (at (start q) 0)
follow log id code q (suc n) = onward log id code (follow log id code q n)

-- the reply, if the request has come to it; the rest, if it is under way
abbrev pub reply_or : Option Stage → (rest : Option Result) → Option Result
reply_or none rest = none
reply_or (some (at c t)) rest = rest
reply_or (some (finished r)) rest = some r

-- the reply to which the log leads from a stage on, within so many moves
unfoldable pub reply_from : Log → (id : ℕ) → Code → (ahead : ℕ) → Option Stage → Option Result
reply_from log id code zero stage = reply_or stage none
reply_from log id code (suc ahead) stage = reply_or stage (reply_from log id code ahead (onward log id code stage))

-- The reply that can be worked out from the log, of what the book has of an id. It takes no more moves than the workflow has instructions
-- (`reply_within`). What isn't booked has none.
unfoldable pub reply_logged : Pack → Log → (id : ℕ) → Option Request → Option Result
reply_logged pack log id none = none
reply_logged pack log id (some q) = reply_from log id (request_code pack q) (length (request_code pack q)) (some (at (start q) 0))

-- Logged through: the log leads through to the reply.
abbrev pub logged_through : Pack → Log → (id : ℕ) → Option Request → Bool
logged_through pack log id o = is_some (reply_logged pack log id o)
