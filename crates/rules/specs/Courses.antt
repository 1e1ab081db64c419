-- Where an agent stands and what it does next: one definition, which the turn, the plain machine and the walk by the log act on.
use Rattle.std.specs.Prelude.{ℕ}
use Rattle.rules.specs.Instructions.{Code, Place, next, Act, moves, opens, closes, reads, puts, returns, act_at}
use Rattle.rules.specs.Blocks.{Result, yields, after_block}

-- Where an agent stands, and all that decides what it does next: today its place alone.
pub record Course : Type 0 where
  pub place : Place

-- the course of an agent that goes on from a place
abbrev pub going : Place → Course
going at = record { place = at }

-- What an agent does next: it goes on, and stands elsewhere after one instruction; it does the whole block that opens at a place, in a
-- partition, and then stands where the block's result leads; or it says its reply.
pub data Next : Type 0 where
  goes : (to : Course) → Next
  does : (begin : Place) (partition : ℕ) (onto : Result → Course) → Next
  says : Result → Next

-- Behind a block that opens at a place: only register 0 changes, to the result; position goes behind END.
unfoldable pub passed : Code → (begin : Place) → Result → Course
passed code begin (yields v) = going (after_block code begin v)

-- At RETURN it replies. At BEGIN it does the whole block. Else it does one instruction. (GET, PUT, HAS and END stand inside a block: no
-- agent meets them, by `sound_agents`.)
unfoldable pub next_by : Code → Place → Act → Next
next_by code at (returns v) = says (yields v)
next_by code at (opens p) = does at p (passed code at)
next_by code at (moves to) = goes (going to)
next_by code at (closes v) = goes (going (next at))
next_by code at (reads k to) = goes (going (next at))
next_by code at (puts k v) = goes (going (next at))

-- what the agent does next, by its instruction
unfoldable pub next_of : Code → Course → Next
next_of code c = next_by code c.place (act_at code c.place)
