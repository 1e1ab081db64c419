-- The plain machine, what it is fed, and the replies: the plain run of document 01.
use Rattle.std.specs.Prelude.{Bool, true, false, List, [], ◌∷◌, ◌++◌, ℕ, suc, ltb, eqb}
use Rattle.std.proofs.Math.Option.{Option, none, some}
use Rattle.questions.specs.Basics.{if◌then◌otherwise◌, update}
use Rattle.rules.specs.Instructions.{Code, Pack}
use Rattle.rules.specs.Blocks.{Table, Result, run_block}
use Rattle.rules.specs.Courses.{Course, Next, goes, does, says, next_of}
use Rattle.rules.specs.Store.{Request}
use Rattle.rules.specs.Logged.{request_code, start}
use Rattle.rules.specs.Calls.{Call, arrival, retry, turn, crash, restart, order, stopped, History, answer_to}
use Rattle.rules.specs.Calls.{list_add, list_take, list_done, retire}
use Rattle.rules.specs.Calls.{Answer, done, moved, reply, given, refused}

-- a reply: id and value
pub record Reply : Type 0 where
  pub id : ℕ
  pub value : Result

-- ── The plain machine ──

-- a booked request, where its one agent stands, and the number of its moves
pub record Run : Type 0 where
  pub request : Request
  pub course : Course
  pub move_count : ℕ

-- The plain machine: a table for each partition, a run for each booked request, and the list of replies.
pub record Machine : Type 0 where
  pub tables : (partition : ℕ) → Table
  pub runs : (id : ℕ) → Option Run
  pub replies : List Reply

-- at first empty
abbrev pub empty : Machine
empty = record { tables = λ p k. none; runs = λ id. none; replies = [] }

-- Booking: adds the request with a started agent and no moves.
abbrev pub booking : Machine → (id : ℕ) → Request → Machine
booking m id q =
    record {
      tables = m.tables;
      runs = update m.runs id (some (record { request = q; course = start q; move_count = 0 }));
      replies = m.replies;
    }

-- the run of this id stands elsewhere, and the number of its moves rises by 1
abbrev pub runs_with : Machine → (id : ℕ) → Run → Course → (id : ℕ) → Option Run
runs_with m id r to = update m.runs id (some (record { request = r.request; course = to; move_count = suc r.move_count }))

-- A move of a run, by what its agent does next: what a turn does, but a block runs on the machine's table as one whose log row isn't
-- found, writes no log row and always has room; a reply goes to the end of the replies.
unfoldable pub move_on : Machine → (id : ℕ) → Run → Code → Next → Machine
move_on m id r code (says v) =
    record {
      tables = m.tables;
      runs = runs_with m id r r.course;
      replies = m.replies ++ record { id = id; value = v } ∷ [];
    }
move_on m id r code (does from p onto) =
    let b = run_block code from (m.tables p) in
    record {
      tables = update m.tables p b.table;
      runs = runs_with m id r (onto b.result);
      replies = m.replies;
    }
move_on m id r code (goes to) = record { tables = m.tables; runs = runs_with m id r to; replies = m.replies }

-- Move (id), of the run that the machine has of it.
unfoldable pub move : Pack → Machine → (id : ℕ) → Run → Machine
move pack m id r = move_on m id r (request_code pack r.request) (next_of (request_code pack r.request) r.course)

-- ── What it is fed ──

-- a call that was made, and the answer that it got
pub record Event : Type 0 where
  pub made : Call
  pub answer : Answer

-- whether a call was accepted
abbrev pub accepted : Answer → Bool
accepted done = true
accepted moved = true
accepted (reply id v) = true
accepted (given id) = true
accepted (refused n) = false

-- What a call feeds: an agent starts in a slot, and with an arrival its request may be booked; a move; nothing.
pub data Feed : Type 0 where
  starts : (slot id : ℕ) (request : Option Request) → Feed
  moves : (slot : ℕ) → Feed
  nothing : Feed

-- what an accepted call feeds, said once for each call
abbrev pub feeds : Call → Feed
feeds (arrival slot id w args) = starts slot id (some (record { workflow = w; arguments = args }))
feeds (retry slot id) = starts slot id none
feeds (turn slot) = moves slot
feeds (crash slot) = nothing
feeds restart = nothing
feeds order = nothing
feeds (list_add id) = nothing
feeds list_take = nothing
feeds (list_done id) = nothing
feeds (retire floor) = nothing
feeds (stopped n) = nothing

-- by its answer: a call that isn't accepted feeds nothing. (A later answer that is neither accepted nor refused has its place here.)
abbrev pub feed_of : Event → Feed
feed_of e = if accepted e.answer then feeds e.made otherwise nothing

-- Of a slot: the id that the last accepted arrival or retry there named, and the number of accepted turns there since.
pub record Tally : Type 0 where
  pub id : ℕ
  pub turns : ℕ

abbrev pub Tallies : Type 0
Tallies = (slot : ℕ) → Option Tally

-- one accepted turn more
unfoldable pub one_more : Option Tally → Option Tally
one_more none = none
one_more (some t) = some (record { id = t.id; turns = suc t.turns })

-- the tallies behind what a call feeds
unfoldable pub tallied : Tallies → Feed → Tallies
tallied t (starts slot id q) = update t slot (some (record { id = id; turns = 0 }))
tallied t (moves slot) = update t slot (one_more (t slot))
tallied t nothing = t

-- Accepted arrival of an id that the machine hasn't booked: one booking.
unfoldable pub fed_arrival : Machine → (id : ℕ) → Request → Option Run → Machine
fed_arrival m id q none = booking m id q
fed_arrival m id q (some r) = m

-- Accepted turn, the k-th on its slot since the last accepted arrival or retry there: one move of the id which that named, if this id has
-- fewer than k moves; otherwise nothing.
unfoldable pub fed_run : Pack → Machine → (id k : ℕ) → Option Run → Machine
fed_run pack m id k none = m
fed_run pack m id k (some r) = if ltb r.move_count k then move pack m id r otherwise m

unfoldable pub fed_turn : Pack → Machine → Option Tally → Machine
fed_turn pack m none = m
fed_turn pack m (some t) = fed_run pack m t.id (suc t.turns) (m.runs t.id)

-- the machine behind what a call feeds; t is what the tallies were before it
unfoldable pub fed : Pack → Machine → Tallies → Feed → Machine
fed pack m t (starts slot id (some q)) = fed_arrival m id q (m.runs id)
fed pack m t (starts slot id none) = m
fed pack m t (moves slot) = fed_turn pack m (t slot)
fed pack m t nothing = m

-- The tallies after the events, of which the latest stands first.
unfoldable pub tallies_of : List Event → Tallies
tallies_of [] = λ slot. none
tallies_of (e ∷ before) = tallied (tallies_of before) (feed_of e)

-- The plain machine after the events: fed by the calls' arguments, in order, and by whether each was accepted.
unfoldable pub machine_of : Pack → List Event → Machine
machine_of pack [] = empty
machine_of pack (e ∷ before) = fed pack (machine_of pack before) (tallies_of before) (feed_of e)

-- ── Replies ──

-- the replies with what an answer adds, the latest first
abbrev pub with_answer : Answer → List Reply → List Reply
with_answer (reply id v) rs = record { id = id; value = v } ∷ rs
with_answer done rs = rs
with_answer moved rs = rs
with_answer (given id) rs = rs
with_answer (refused n) rs = rs

-- the replies among the answers, the latest first
unfoldable pub replies_of : List Event → List Reply
replies_of [] = []
replies_of (e ∷ before) = with_answer e.answer (replies_of before)

-- did an earlier turn reply to this id?
abbrev pub answered : (id : ℕ) → (earlier : List Reply) → Bool
answered id [] = false
answered id (r ∷ earlier) = if eqb id r.id then true otherwise answered id earlier

-- The first replies, in order: those to an id which no earlier turn replied to.
unfoldable pub first_replies : List Reply → List Reply
first_replies [] = []
first_replies (r ∷ earlier) =
    if answered r.id earlier then first_replies earlier otherwise first_replies earlier ++ r ∷ []

-- ── Of a list of calls ──

-- each call, with the answer that it gets after those before it
unfoldable pub events_after : Pack → (room : ℕ) → History → List Event
events_after pack room [] = []
events_after pack room (c ∷ before) = record { made = c; answer = answer_to pack room before c } ∷ events_after pack room before

-- the tallies after the calls
abbrev pub tallies_after : Pack → (room : ℕ) → History → Tallies
tallies_after pack room calls = tallies_of (events_after pack room calls)

-- the plain machine after the calls
abbrev pub machine_after : Pack → (room : ℕ) → History → Machine
machine_after pack room calls = machine_of pack (events_after pack room calls)

-- the replies among the answers to the calls, the latest first
abbrev pub replies_after : Pack → (room : ℕ) → History → List Reply
replies_after pack room calls = replies_of (events_after pack room calls)
