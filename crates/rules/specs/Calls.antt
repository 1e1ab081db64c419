-- Agents, slots and the worklist, and the ten calls: the questions from 15 on of each, then what it does.
use Rattle.std.specs.Prelude.{Bool, true, false, not, ◌&&◌, List, [], ◌∷◌, ℕ, suc, ◌+◌, eqb, ltb, leb, length}
use Rattle.std.proofs.Math.Option.{Option, none, some}
use Rattle.questions.specs.Basics.{update, is_some, each}
use Rattle.questions.specs.Questions.{No, number, ask}
use Rattle.rules.specs.Instructions.{Code, Pack, Place}
use Rattle.rules.specs.Blocks.{Result, run_block, rows_needed}
use Rattle.rules.specs.Courses.{Course, Next, goes, does, says, next_of}
use Rattle.rules.specs.Store.{Request, same_request, Store, fresh_store, rows_per_request, booked, found, written}
use Rattle.rules.specs.Store.{floor_of, booked_below, retired}
use Rattle.rules.specs.Logged.{logged_through}
use Rattle.rules.specs.Worklist.{Worklist, listed, list_right, can_list, first_waiting, taken_on, added, took_first, without, restarted}
pub use Rattle.rules.specs.Logged.{request_code, start}

-- an agent in a slot: id, where it stands, step number
pub record Agent : Type 0 where
  pub id : ℕ
  pub course : Course
  pub step : ℕ

-- the store, the slots and the worklist; an empty slot holds none
pub record State : Type 0 where
  pub store : Store
  pub slots : (slot : ℕ) → Option Agent
  pub work : Worklist

-- The calls. A call that is added later and works on store, slots or worklist is a further constructor.
pub data Call : Type 0 where
  arrival : (slot id workflow : ℕ) (arguments : List ℕ) → Call
  retry : (slot id : ℕ) → Call
  turn : (slot : ℕ) → Call
  crash : (slot : ℕ) → Call
  restart : Call
  -- W-203: puts the rows of an earlier store in order
  order : Call
  -- W-208: puts an id on the worklist, gives the first waiting one, and removes one that is done
  list_add : (id : ℕ) → Call
  list_take : Call
  list_done : (id : ℕ) → Call
  -- W-209: removes the book and log rows of every id below the floor
  retire : (floor : ℕ) → Call
  -- a call of any kind to which a question before 15 says no
  stopped : No → Call

-- the answer of a call
pub data Answer : Type 0 where
  done : Answer
  moved : Answer
  reply : (id : ℕ) (value : Result) → Answer
  -- the id that a take gives
  given : (id : ℕ) → Answer
  refused : No → Answer

-- ── The questions ──

-- the code of an agent's workflow, by what the book has of its id: it is there, by question 14
abbrev pub code_by : Pack → Option Request → Code
code_by pack none = []
code_by pack (some q) = request_code pack q

-- If the id is known, are workflow and arguments those booked?
abbrev pub as_booked : Request → Option Request → Bool
as_booked q none = true
as_booked q (some known) = same_request q known

-- If it is new, are five book rows free?
abbrev pub can_book : Store → Option Request → Bool
can_book s none = leb (s.book_used + rows_per_request) s.room
can_book s (some known) = true

-- Has a block that opens at a place, of partition p, by what its log row says, enough free rows, if it isn't logged?
unfoldable pub can_write : Store → Code → (begin : Place) (partition : ℕ) → (log : Option Result) → Bool
can_write s code from p none = leb (s.used p + rows_needed (run_block code from (s.rows p))) s.room
can_write s code from p (some r) = true

-- the same of a turn, by what the agent does next
unfoldable pub can_do : Store → (id step : ℕ) → Code → Next → Bool
can_do s id t code (does from p onto) = can_write s code from p (found s.log p id t)
can_do s id t code (goes to) = true
can_do s id t code (says r) = true

unfoldable pub can_turn : Pack → Store → Option Agent → Bool
can_turn pack s none = true
can_turn pack s (some a) =
    can_do s a.id a.step (code_by pack (s.book a.id)) (next_of (code_by pack (s.book a.id)) a.course)

-- Is an id booked?
abbrev pub is_booked : Store → (id : ℕ) → Bool
is_booked s id = is_some (s.book id)

-- Is an id listed as taken, and does its log lead through to RETURN? (What isn't booked has no log that leads anywhere.)
unfoldable pub can_done : Pack → State → (id : ℕ) → Bool
can_done pack s id = taken_on id s.work && logged_through pack s.store.log id (s.store.book id)

-- is it an agent of this id?
abbrev pub is_of : (id : ℕ) → Option Agent → Bool
is_of id none = false
is_of id (some a) = eqb a.id id

-- Is no agent of this id in a slot?
unfoldable pub in_no_slot : (slots : (slot : ℕ) → Option Agent) → (id : ℕ) → Bool
in_no_slot slots id = each 8 (λ slot. not (is_of id (slots slot)))

-- If the id is booked, is it logged through, in no slot and not on the worklist?
unfoldable pub can_retire : Pack → State → (id : ℕ) → Option Request → Bool
can_retire pack s id none = true
can_retire pack s id (some q) =
    logged_through pack s.store.log id (some q) && (in_no_slot s.slots id && not (listed id s.work))

-- The questions from 15 on that each call puts, in order: the first no. 24, is an arrival's id other than 0, is asked between 16 and 17,
-- whatever the book has of 0, and behind it 30, is its id not below the floor; a retry puts neither. 20 of an add comes last, and is put to
-- any id, a listed one too. 28 of a retire is asked of each smaller id, 29 is whether one of them is booked.
unfoldable pub refusal : Pack → State → Call → Option No
refusal pack s (arrival slot id w args) =
    ask (number 15) (ltb slot 8)
    (ask (number 16) (not (is_some (s.slots slot)))
    (ask (number 24) (not (eqb id 0))
    (ask (number 30) (leb (floor_of s.store) id)
    (ask (number 17) (ltb w (length pack))
    (ask (number 18) (as_booked (record { workflow = w; arguments = args }) (s.store.book id))
    (ask (number 19) (can_book s.store (s.store.book id)) none))))))
refusal pack s (retry slot id) =
    ask (number 15) (ltb slot 8)
    (ask (number 16) (not (is_some (s.slots slot)))
    (ask (number 20) (is_some (s.store.book id)) none))
refusal pack s (turn slot) =
    ask (number 15) (ltb slot 8)
    (ask (number 16) (is_some (s.slots slot))
    (ask (number 21) (can_turn pack s.store (s.slots slot)) none))
refusal pack s (crash slot) =
    ask (number 15) (ltb slot 8)
    (ask (number 16) (is_some (s.slots slot)) none)
refusal pack s restart = none
refusal pack s order = none
refusal pack s (list_add id) =
    ask (number 25) (list_right s.work)
    (ask (number 26) (can_list id s.work)
    (ask (number 20) (is_booked s.store id) none))
refusal pack s list_take =
    ask (number 25) (list_right s.work)
    (ask (number 27) (is_some (first_waiting s.work)) none)
refusal pack s (list_done id) =
    ask (number 25) (list_right s.work)
    (ask (number 27) (can_done pack s id) none)
refusal pack s (retire floor) =
    ask (number 25) (list_right s.work)
    (ask (number 28) (each floor (λ id. can_retire pack s id (s.store.book id)))
    (ask (number 29) (ltb 0 (booked_below s.store floor)) none))
refusal pack s (stopped n) = some n

-- ── What the calls do ──

pub record Outcome : Type 0 where
  pub answer : Answer
  pub state : State

abbrev pub gives : Answer → State → Outcome
gives a s = record { answer = a; state = s }

-- the state with another store
abbrev pub with_store : State → Store → State
with_store s store = record { store = store; slots = s.slots; work = s.work }

-- the state with something else in one slot
abbrev pub with_slot : State → (slot : ℕ) → Option Agent → State
with_slot s slot a = record { store = s.store; slots = update s.slots slot a; work = s.work }

-- the state with every slot empty
abbrev pub emptied : State → State
emptied s = record { store = s.store; slots = λ slot. none; work = s.work }

-- the state with another worklist
abbrev pub with_work : State → Worklist → State
with_work s work = record { store = s.store; slots = s.slots; work = work }

abbrev pub started : State → (slot id : ℕ) → Request → State
started s slot id q = with_slot s slot (some (record { id = id; course = start q; step = 0 }))

-- Arrival, by what the book has of the id: books a new id, then starts an agent. A known id only starts an agent.
unfoldable pub arrive : State → (slot id : ℕ) → Request → Option Request → Outcome
arrive s slot id q none = gives done (started (with_store s (booked s.store id q)) slot id q)
arrive s slot id q (some known) = gives done (started s slot id known)

-- Retry starts an agent from the book. (An id that isn't booked is refused, by 20.)
unfoldable pub again : State → (slot id : ℕ) → Option Request → Outcome
again s slot id none = gives done s
again s slot id (some known) = gives done (started s slot id known)

-- the agent stands elsewhere
abbrev pub moves_to : State → (slot : ℕ) → Agent → Course → (step : ℕ) → Outcome
moves_to s slot a to t = gives moved (with_slot s slot (some (record { id = a.id; course = to; step = t })))

-- A block first seeks its log row (id, step) in its own partition. If found, no row changes and what is logged is the result. If not,
-- the block runs, and data rows and log row are written together. Either way step rises by 1.
unfoldable pub through_block : State → (slot : ℕ) → Agent → Code → (begin : Place) (partition : ℕ) (onto : Result → Course) →
    (log : Option Result) → Outcome
through_block s slot a code from p onto (some r) = moves_to s slot a (onto r) (suc a.step)
through_block s slot a code from p onto none =
    let b = run_block code from (s.store.rows p) in
    moves_to (with_store s (written s.store p a.id a.step b)) slot a (onto b.result) (suc a.step)

-- Turn, by what the agent does next: one instruction; a whole block; or it replies with id and value and empties the slot.
unfoldable pub turn_on : State → (slot : ℕ) → Agent → Code → Next → Outcome
turn_on s slot a code (says r) = gives (reply a.id r) (with_slot s slot none)
turn_on s slot a code (does from p onto) = through_block s slot a code from p onto (found s.store.log p a.id a.step)
turn_on s slot a code (goes to) = moves_to s slot a to a.step

-- the turn of what a slot holds. (An empty slot is refused, by 16.)
unfoldable pub turn_in : Pack → State → (slot : ℕ) → Option Agent → Outcome
turn_in pack s slot none = gives moved s
turn_in pack s slot (some a) =
    turn_on s slot a (code_by pack (s.store.book a.id)) (next_of (code_by pack (s.store.book a.id)) a.course)

-- Take, by the first waiting id: it is marked and given. (With none waiting it is refused, by 27.)
unfoldable pub takes : State → Option ℕ → Outcome
takes s none = gives done s
takes s (some id) = gives (given id) (with_work s (took_first s.work))

-- What a call does when no question says no.
unfoldable pub rule : Pack → State → Call → Outcome
rule pack s (arrival slot id w args) = arrive s slot id (record { workflow = w; arguments = args }) (s.store.book id)
rule pack s (retry slot id) = again s slot id (s.store.book id)
rule pack s (turn slot) = turn_in pack s slot (s.slots slot)
rule pack s (crash slot) = gives done (with_slot s slot none)
rule pack s restart = gives done (with_work (emptied s) (restarted s.work))
rule pack s order = gives done s
rule pack s (list_add id) = gives done (with_work s (added id s.work))
rule pack s list_take = takes s (first_waiting s.work)
rule pack s (list_done id) = gives done (with_work s (without id s.work))
rule pack s (retire floor) = gives done (with_store s (retired s.store floor))
rule pack s (stopped n) = gives done s

-- The first no is the answer, and nothing is changed.
unfoldable pub unless : Option No → State → Outcome → Outcome
unless none s o = o
unless (some n) s o = gives (refused n) s

-- A call: its questions first, then its rule.
unfoldable pub call : Pack → State → Call → Outcome
call pack s c = unless (refusal pack s c) s (rule pack s c)

-- ── Lists of calls ──

-- what an accepted create leaves, all slots empty, nothing on the worklist
abbrev pub fresh : (room : ℕ) → State
fresh room = record { store = fresh_store room; slots = λ slot. none; work = [] }

-- A list of calls, the latest first; each gets the store, slots and worklist that the one before left.
abbrev pub History : Type 0
History = List Call

unfoldable pub state_after : Pack → (room : ℕ) → History → State
state_after pack room [] = fresh room
state_after pack room (c ∷ before) = (call pack (state_after pack room before) c).state

-- the answer that a call gets after those before it
abbrev pub answer_to : Pack → (room : ℕ) → (before : History) → Call → Answer
answer_to pack room before c = (call pack (state_after pack room before) c).answer
