-- Demand 3: one claim about any list of calls from a fresh store without agents.
use Rattle.std.specs.Prelude.{true, ◌≡◌, ℕ, ◌≤◌, ◌<◌, length}
use mathlib.Core.List.{List, ◌∷◌, reverse, Memᴰ}
use Rattle.std.proofs.Math.Option.{some}
use Rattle.rules.specs.Instructions.{Pack}
use Rattle.rules.specs.Blocks.{Result}
use Rattle.rules.specs.Store.{Request}
use Rattle.rules.specs.Calls.{Call, request_code, Agent, State, History, turn, reply, state_after, answer_to}
use Rattle.rules.specs.Plain.{Reply, accepted, machine_after, tallies_after, replies_after, first_replies}
use Rattle.rules.specs.Shapes.{outside}
use Rattle.rules.specs.Checked.{side_at, CheckedPack}

-- An accepted turn on a slot is one of the agent there: the how many-th of its agent's turns it is, and the agent's booked request. The
-- turns are at most the workflow's size, and if they come to it, this one replies.
pub record InTime (pack : Pack) (room : ℕ) (calls : History) (slot : ℕ) : Type 0 where
  pub agent : Agent
  pub turns : ℕ
  pub request : Request
  pub in_slot : (state_after pack room calls).slots slot ≡ some agent
  pub counted : tallies_after pack room (turn slot ∷ calls) slot ≡ some (record { id = agent.id; turns = turns })
  pub booked : (state_after pack room calls).store.book agent.id ≡ some request
  pub at_most : turns ≤ length (request_code pack request)
  pub last : turns ≡ length (request_code pack request) → (value : Result) × (answer_to pack room calls (turn slot) ≡ reply agent.id value)

-- What holds after the calls.
pub record PlainRun (pack : Pack) (room : ℕ) (calls : History) : Type 0 where
  -- each partition's data rows have exactly the data keys and values of the machine's table for it
  pub rows : (partition key : ℕ) →
      (state_after pack room calls).store.rows partition key ≡ (machine_after pack room calls).tables partition key
  -- the first replies in order are the machine's replies
  pub replies : first_replies (replies_after pack room calls) ≡ (machine_after pack room calls).replies
  -- each later reply to an id is equal to the first: all replies to one id are equal
  pub equal : (r r' : Reply) → Memᴰ r (replies_after pack room calls) → Memᴰ r' (replies_after pack room calls) →
      r.id ≡ r'.id → r.value ≡ r'.value
  -- an agent replies within as many accepted turns as its workflow has instructions
  pub in_time : (slot : ℕ) → accepted (answer_to pack room calls (turn slot)) ≡ true → InTime pack room calls slot

-- Demand 3, for the calls in the order in which they are made, and so after each of them.
abbrev pub Demand3 : Type 0
Demand3 = (pack : Pack) → CheckedPack pack → (room : ℕ) (calls : List Call) → PlainRun pack room (reverse calls)

-- A sound record has its id in the book, its position below its workflow's size and outside a block, and a step number at most its
-- position.
pub record SoundAgent (pack : Pack) (s : State) (a : Agent) : Type 0 where
  pub request : Request
  pub booked : s.store.book a.id ≡ some request
  pub below : a.course.place.position < length (request_code pack request)
  pub side : side_at (request_code pack request) a.course.place.position ≡ outside
  pub steps : a.step ≤ a.course.place.position
