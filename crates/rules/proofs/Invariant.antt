-- What holds after each call of a list: the invariant, and how its parts change.
use mathlib.Core.Path.{◌≡◌, sym, ◌∙◌, ap, subst}
use mathlib.Core.List.{List, Memᴰ}
use mathlib.Core.Option.{Option, none, some}
use Prim.Native.Nat.{ℕ, ◌≤◌, ◌<◌}
use native.Mathlib.Omega.{arith}
use lib.ListN.{length}
use Rattle.questions.specs.Basics.{update}
use Rattle.rules.specs.Instructions.{Pack}
use Rattle.rules.specs.Blocks.{Result}
use Rattle.rules.specs.Store.{Request, Log, Store, floor_of}
use Rattle.rules.specs.Logged.{request_code, Stage, at, finished, follow}
use Rattle.rules.specs.Calls.{Agent, State}
use Rattle.rules.specs.Plain.{Reply, Run, Machine, Tally, Tallies, first_replies}
use Rattle.questions.proofs.Updates.{update_same, update_other, update_each}
use Rattle.rules.proofs.Follow.{Free, Grows, follow_stays}
use Rattle.rules.proofs.Replies.{reply_to}

-- the follow of a request that is booked under this id
abbrev pub followed : Pack → Log → (id : ℕ) → Request → (moves : ℕ) → Option Stage
followed pack log id q n = follow log id (request_code pack q) q n

-- How far a booked request has come in all: the machine's run of it is followed by the log; and it is under way with no log row from its
-- step on and no reply, or it has come to the reply that the machine has given.
pub data Progress (pack : Pack) (log : Log) (replies : List Reply) (id : ℕ) (r : Run) : Type 0 where
  underway : (t : ℕ) → followed pack log id r.request r.move_count ≡ some (at r.course t) →
      ((p t' : ℕ) → t ≤ t' → Free log p id t') → reply_to id replies ≡ none → Progress pack log replies id r
  over : (v : Result) → followed pack log id r.request r.move_count ≡ some (finished v) → reply_to id replies ≡ some v →
      Progress pack log replies id r

-- What the machine has of a request that is in the book: its run, with the same workflow and arguments, and how far it has come.
pub record Counterpart (pack : Pack) (log : Log) (runs : ℕ → Option Run) (replies : List Reply) (id : ℕ) (q : Request) : Type 0 where
  pub run : Run
  pub run_is : runs id ≡ some run
  pub request_is : run.request ≡ q
  pub progress : Progress pack log replies id run

abbrev pub Book : Type 0
Book = (id : ℕ) → Option Request

-- An agent with k turns stands where its request stands after k moves, the request has come at least so far, and it is in the book.
pub record Live (pack : Pack) (log : Log) (book : Book) (runs : ℕ → Option Run) (tally : Option Tally) (a : Agent) : Type 0 where
  pub run : Run
  pub turns : ℕ
  pub tally_is : tally ≡ some (record { id = a.id; turns = turns })
  pub run_is : runs a.id ≡ some run
  pub book_is : book a.id ≡ some run.request
  pub behind : turns ≤ run.move_count
  pub there : followed pack log a.id run.request turns ≡ some (at a.course a.step)

abbrev pub Slots : Pack → Log → Book → (ℕ → Option Run) → Tallies → ((slot : ℕ) → Option Agent) → Type 0
Slots pack log book runs t slots = (slot : ℕ) (a : Agent) → slots slot ≡ some a → Live pack log book runs (t slot) a

-- agents are in the eight slots only
abbrev pub Eight : ((slot : ℕ) → Option Agent) → Type 0
Eight slots = (slot : ℕ) (a : Agent) → slots slot ≡ some a → slot < 8

-- no booked id is below the floor
abbrev pub Above : Store → Type 0
Above s = (id : ℕ) (q : Request) → s.book id ≡ some q → floor_of s ≤ id

pub record Core (pack : Pack) (s : Store) (m : Machine) (rs : List Reply) : Type 0 where
  pub tables : s.rows ≡ m.tables
  -- what is booked here is booked there, and the log follows its run
  pub counterpart : (id : ℕ) (q : Request) → s.book id ≡ some q → Counterpart pack s.log m.runs m.replies id q
  pub valid : (id : ℕ) (q : Request) → s.book id ≡ some q → q.workflow < length pack
  pub above : Above s
  -- from the floor on, a new id is new there too: what is booked there and not here is below the floor
  pub unbooked : (id : ℕ) → floor_of s ≤ id → s.book id ≡ none → m.runs id ≡ none
  pub unlogged : (id : ℕ) → m.runs id ≡ none → (p t : ℕ) → Free s.log p id t
  pub unreplied : (id : ℕ) → m.runs id ≡ none → reply_to id m.replies ≡ none
  -- a reply that was given is the machine's
  pub settled : (r : Reply) → Memᴰ r rs → reply_to r.id m.replies ≡ some r.value
  pub firsts : first_replies rs ≡ m.replies

pub record Inv (pack : Pack) (s : State) (m : Machine) (t : Tallies) (rs : List Reply) : Type 0 where
  pub core : Core pack s.store m rs
  pub slots : Slots pack s.store.log s.store.book m.runs t s.slots
  pub eight : Eight s.slots

-- ── Slots ──

-- there is a run of this id that is at least as far on
pub record Ahead (runs : ℕ → Option Run) (id : ℕ) (r : Run) : Type 0 where
  pub run : Run
  pub run_is : runs id ≡ some run
  pub request_is : run.request ≡ r.request
  pub further : r.move_count ≤ run.move_count

abbrev pub AllAhead : (ℕ → Option Run) → (ℕ → Option Run) → Type 0
AllAhead runs runs' = (id : ℕ) (r : Run) → runs id ≡ some r → Ahead runs' id r

-- an id that is booked stays booked, and the log has each row of it that it had
abbrev pub Remains : Log → Log → Book → Book → (id : ℕ) → Type 0
Remains log log' book book' id = (q : Request) → book id ≡ some q → (book' id ≡ some q) × Grows log log' id

module _ (pack : Pack) (log log' : Log) (book book' : Book) (runs runs' : ℕ → Option Run) (further : AllAhead runs runs') where
  live_stays : (tally : Option Tally) (a : Agent) → Remains log log' book book' a.id → Live pack log book runs tally a →
      Live pack log' book' runs' tally a
  live_stays tally a g l =
      let h = further a.id l.run l.run_is in
      let k = g l.run.request l.book_is in
      record {
        run = h.run;
        turns = l.turns;
        tally_is = l.tally_is;
        run_is = h.run_is;
        book_is = k.0 ∙ ap some (sym h.request_is);
        behind = omega (arith, l.behind, h.further);
        there =
            subst (λ q. followed pack log' a.id q l.turns ≡ some (at a.course a.step)) (sym h.request_is)
            (follow_stays log log' a.id (request_code pack l.run.request) l.run.request l.turns (at a.course a.step)
            k.1 l.there);
      }

  pub slots_stay : (t : Tallies) (slots : ℕ → Option Agent) →
      ((slot : ℕ) (a : Agent) → slots slot ≡ some a → Remains log log' book book' a.id) →
      Slots pack log book runs t slots → Slots pack log' book' runs' t slots
  slots_stay t slots g h slot a e = live_stays (t slot) a (g slot a e) (h slot a e)

module _
    (pack : Pack)
    (log : Log)
    (book : Book)
    (runs : ℕ → Option Run)
    (t : Tallies)
    (slots : ℕ → Option Agent)
    (h : Slots pack log book runs t slots)
    (slot : ℕ)
  where
    -- something else in one slot
    pub slots_set : (tally : Option Tally) (o : Option Agent) → ((a : Agent) → o ≡ some a → Live pack log book runs tally a) →
        Slots pack log book runs (update t slot tally) (update slots slot o)
    slots_set tally o new =
        update_each slots slot o (λ j a. Live pack log book runs (update t slot tally j) a)
        (λ a e. subst (λ w. Live pack log book runs w a) (sym (update_same t slot tally)) (new a e))
        (λ j a n e. subst (λ w. Live pack log book runs w a) (sym (update_other t slot tally j n)) (h j a e))

pub eight_set : (slots : ℕ → Option Agent) → Eight slots → (slot : ℕ) (o : Option Agent) → slot < 8 → Eight (update slots slot o)
eight_set slots h slot o low = update_each slots slot o (λ j a. j < 8) (λ a e. low) (λ j a n e. h j a e)
