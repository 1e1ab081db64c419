-- The turn of one agent: what must hold before it, and what it comes to.
use Rattle.std.specs.Prelude.{Ok, Err, true, false, List, ◌≡◌, ℕ, suc}
use Rattle.std.proofs.Math.Option.{none, some, get_or}
use Rattle.contents.specs.Wrote.{Wrote}
use Rattle.contents.specs.Contents.{contents_of, value_in, book_of, book_rows}
use Rattle.keys.specs.Keys.{book_key}
use Rattle.rules.specs.Instructions.{Code, Place}
use Rattle.rules.specs.Blocks.{yields}
use Rattle.rules.specs.Courses.{passed}
use Rattle.rules.specs.Calls.{gives, with_slot, can_turn, turn_in, with_store}
use Rattle.rules.specs.Calls as Calls
use Rattle.pack.specs.Refusal.{pack_refusal}
use Rattle.pack.specs.Meaning.{pack_of}
use Rattle.store.specs.Rows.{lookup, store_of}
use Rattle.store.specs.Questions.{store_refusal}
use Rattle.agents.specs.declared.Agent.{Agent}
use Rattle.agents.specs.declared.Accepted.TheVariants.{Moved, Reply}
use Rattle.agents.specs.Slots.{no_agent, held, agent_of, Whole, placed}
use Rattle.agents.specs.Answers.{answer_of}
use Rattle.block.specs.Through.{BlockOutcome}
use Rattle.questions.specs.Questions.{number}
use Rattle.questions.specs.Verdicts.{refusal_of}
use Rattle.meaning.specs.Questions.{question13, is_sound}
use Rattle.turn.specs.declared.Turned.{Turned}

-- What questions 1 to 14 say of an agent in a slot, with its pack and store.
pub record Turnable (pack store : List ℕ) (a : Agent) : Type 0 where
  pub accepted : pack_refusal pack ≡ none
  pub stored : store_refusal store ≡ none
  pub right : question13 pack store ≡ true
  pub used : a.in_use ≡ true
  pub sound : is_sound pack a (book_of (value_in (book_rows store)) a.id) ≡ true

-- the workflow that the book has of an id. (By question 14 it is there, and 0 is never taken for one.)
abbrev pub workflow_in : (store : List ℕ) → (id : ℕ) → ℕ
workflow_in store id = get_or (lookup (book_key id 0) (book_rows store)) 0

-- an agent that moved
abbrev pub moved_to : Agent → Place → (step : ℕ) → Turned
moved_to a to step = record { answer = Ok Moved; agent = placed a to step }

-- an agent that replied: its slot is empty
abbrev pub replied : Agent → (value : ℕ) → Turned
replied a value = record { answer = Ok (Reply a.id value); agent = no_agent }

-- an agent that question 21 refuses
abbrev pub refused_by_21 : Agent → Turned
refused_by_21 a = record { answer = Err (refusal_of (number 21)); agent = a }

-- an agent whose block opens at a place, by what the block came to: behind it with its result, and step rises by 1; or no to question 21
abbrev pub behind_block : Code → Agent → (begin : Place) → BlockOutcome → Turned
behind_block code a begin (Ok value) = moved_to a (passed code begin (yields value)).place (suc a.step)
behind_block code a begin (Err e) = refused_by_21 a

-- A turn of agent a gave r and left store': refused by 21, agent and bytes are as they were; else answer and agent are those of the rule,
-- in any slot and beside any other agents, and the store holds the rule's rows.
pub record TurnedBy (pack store : List ℕ) (a : Agent) (r : Turned) (store' : List ℕ) : Type 0 where
  pub refused : can_turn (pack_of pack) (contents_of (store_of store)) (some (held a)) ≡ false →
      (r ≡ refused_by_21 a) × (store' ≡ store)
  pub whole : Whole r.agent
  pub written : Wrote store store' (contents_of (store_of store'))
  pub turned : can_turn (pack_of pack) (contents_of (store_of store)) (some (held a)) ≡ true →
      (others : Calls.State) (slot : ℕ) →
      turn_in (pack_of pack) (with_store others (contents_of (store_of store))) slot (some (held a))
      ≡ gives (answer_of r.answer) (with_slot (with_store others (contents_of (store_of store'))) slot (agent_of r.agent))
