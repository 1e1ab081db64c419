-- An agent that stands where the log leads its request: its turn, what the turn counts, and that the last one which its workflow's size
-- allows is a reply.
use mathlib.Core.Path.{◌≡◌, ap}
use mathlib.Core.Option.{Option, some}
use Prim.Native.Nat.{ℕ, suc, ◌≤◌}
use native.Mathlib.Omega.{arith}
use lib.ListN.{length, get_or}
use Rattle.questions.specs.Basics.{update}
use Rattle.rules.specs.Instructions.{Code, Pack, act, act_at}
use Rattle.rules.specs.Blocks.{Result, yields}
use Rattle.rules.specs.Courses.{next_by, next_of}
use Rattle.rules.specs.Checked.{Checked}
use Rattle.rules.specs.Store.{Request, Store}
use Rattle.rules.specs.Logged.{request_code, at, follow}
use Rattle.rules.specs.Calls.{code_by, Agent, State, turn, reply, turn_on, turn_in}
use Rattle.rules.specs.Plain.{Tally, Tallies, feeds, tallied, one_more}
use Rattle.rules.proofs.Positions.{follow_position}

-- an agent of a booked request stands where the log leads that in as many moves as the agent has had turns
pub record StandsByLog (pack : Pack) (s : Store) (tally : Option Tally) (a : Agent) : Type 0 where
  pub request : Request
  pub moves : ℕ
  pub counted : tally ≡ some (record { id = a.id; turns = moves })
  pub book_is : s.book a.id ≡ some request
  pub there : follow s.log a.id (request_code pack request) request moves ≡ some (at a.course a.step)

module _ (pack : Pack) (s : State) (t : Tallies) (slot : ℕ) (a : Agent) (h : StandsByLog pack s.store (t slot) a) where
  abbrev code : Code
  code = request_code pack h.request

  -- its turn is by its booked workflow
  pub turn_is : turn_in pack s slot (some a) ≡ turn_on s slot a code (next_of code a.course)
  unfolding turn_in
  turn_is = ap (λ (q : Option Request). turn_on s slot a (code_by pack q) (next_of (code_by pack q) a.course)) h.book_is

  -- and counts one more
  pub turn_counted : tallied t (feeds (turn slot)) ≡ update t slot (some (record { id = a.id; turns = suc h.moves }))
  unfolding tallied one_more
  turn_counted = ap (λ o. update t slot (one_more o)) h.counted

  module _ (c : Checked code) where
    -- its turns are at most its workflow's size
    pub turns_at_most : suc h.moves ≤ length code
    turns_at_most =
        let p = follow_position code c s.store.log a.id h.request h.moves a.course a.step h.there in
        let p₀ = p.0 in
        let p₁ = p.1 in
        omega arith

    -- and if they come to it, the last is a reply
    pub last_replies : suc h.moves ≡ length code →
        (v : Result) × ((turn_on s slot a code (next_of code a.course)).answer ≡ reply a.id v)
    unfolding turn_on next_of next_by act_at act
    last_replies e =
        let p = follow_position code c s.store.log a.id h.request h.moves a.course a.step h.there in
        let p₀ = p.0 in
        let p₁ = p.1 in
        let l = c.last_returns a.course.place.position (omega arith) in (
          yields (get_or a.course.place.registers l.0 0),
          ap (λ x. (turn_on s slot a code (next_by code a.course.place (act x a.course.place))).answer) l.1,
        )
