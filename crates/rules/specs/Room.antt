-- W-202, room for a request: its figures of rows are free when it is booked; and no other request's block runs in a call.
use Rattle.std.proofs.Math.Option.{none, some}
use Rattle.std.specs.Prelude.{◌≡◌, ℕ, ◌+◌, ◌≤◌, ◌<◌}
use Rattle.rules.specs.Instructions.{Pack, Place}
use Rattle.rules.specs.Blocks.{Result}
use Rattle.rules.specs.Courses.{Course, does, next_of}
use Rattle.rules.specs.Store.{Request, Store, found}
use Rattle.rules.specs.Calls.{Agent, State, Call, turn, request_code, code_by}
use Rattle.rules.specs.Routes.{by_rows, MostOf}

-- Before its arrival: the id is new, none of the P partitions has a log row of it, and in each the figure of its workflow's rows is free.
pub record FindsRoom (pack : Pack) (P : ℕ) (s : Store) (id : ℕ) (q : Request) : Type 0 where
  pub new : s.book id ≡ none
  pub no_log : (p t : ℕ) → p < P → found s.log p id t ≡ none
  pub free : (p : ℕ) → p < P → (n : ℕ) × MostOf (by_rows p) (request_code pack q) n × (s.used p + n ≤ s.room)

-- The call is a turn of an agent of this id that does a block next which isn't logged: if it is accepted, the block runs.
pub record BlockAhead (pack : Pack) (s : State) (c : Call) (id : ℕ) : Type 0 where
  pub slot : ℕ
  pub agent : Agent
  pub begin : Place
  pub partition : ℕ
  pub onto : Result → Course
  pub made : c ≡ turn slot
  pub in_slot : s.slots slot ≡ some agent
  pub its_id : agent.id ≡ id
  pub block : next_of (code_by pack (s.store.book id)) agent.course ≡ does begin partition onto
  pub not_logged : found s.store.log partition id agent.step ≡ none

-- no other request's block runs in the call, if it is accepted
abbrev pub NoOther : Pack → (id : ℕ) → State → Call → Type 0
NoOther pack id s c = (other : ℕ) → BlockAhead pack s c other → other ≡ id
