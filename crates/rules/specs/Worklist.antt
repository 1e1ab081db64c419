-- W-208, the worklist: up to 16 ids in order of entry, each waiting or taken.
use Rattle.std.specs.Prelude.{Bool, true, false, not, ◌&&◌, List, [], ◌∷◌, ◌++◌, ℕ, ltb, leb, eqb, length}
use Rattle.std.proofs.Math.Option.{Option, none, some}
use Rattle.questions.specs.Basics.{if◌then◌otherwise◌}

-- a mark; only a lent list has one that is neither waiting nor taken
pub data Mark : Type 0 where
  waiting taken : Mark
  neither : (number : ℕ) → Mark

pub record Entry : Type 0 where
  pub id : ℕ
  pub mark : Mark

-- the entries in the order in which they came, the first one first
abbrev pub Worklist : Type 0
Worklist = List Entry

-- the most ids that a list has
abbrev pub most_listed : ℕ
most_listed = 16

abbrev pub is_waiting : Mark → Bool
is_waiting waiting = true
is_waiting taken = false
is_waiting (neither m) = false

abbrev pub is_taken : Mark → Bool
is_taken waiting = false
is_taken taken = true
is_taken (neither m) = false

-- is this id listed?
abbrev pub listed : (id : ℕ) → Worklist → Bool
listed id [] = false
listed id (e ∷ rest) = if eqb id e.id then true otherwise listed id rest

-- ── The questions ──

-- is no id listed twice?
abbrev pub all_once : Worklist → Bool
all_once [] = true
all_once (e ∷ rest) = not (listed e.id rest) && all_once rest

-- is each mark waiting or taken?
abbrev pub is_marked : Mark → Bool
is_marked waiting = true
is_marked taken = true
is_marked (neither m) = false

abbrev pub all_marked : Worklist → Bool
all_marked [] = true
all_marked (e ∷ rest) = is_marked e.mark && all_marked rest

-- 25. Has the list at most 16 ids, none of them twice, and only marks that are waiting or taken?
unfoldable pub list_right : Worklist → Bool
list_right l = leb (length l) most_listed && (all_once l && all_marked l)

-- 26. If the id is new to the list, are fewer than 16 listed?
unfoldable pub can_list : (id : ℕ) → Worklist → Bool
can_list id l = if listed id l then true otherwise ltb (length l) most_listed

-- the first waiting id; 27 asks of a take that there is one
abbrev pub first_waiting : Worklist → Option ℕ
first_waiting [] = none
first_waiting (e ∷ rest) = if is_waiting e.mark then some e.id otherwise first_waiting rest

-- is this id listed as taken? 27 asks it of the id that done names.
abbrev pub taken_on : (id : ℕ) → Worklist → Bool
taken_on id [] = false
taken_on id (e ∷ rest) = if eqb id e.id then is_taken e.mark otherwise taken_on id rest

-- ── What the calls leave of it ──

-- Add: a new id goes to the end, waiting. Adding a listed id changes nothing.
unfoldable pub added : (id : ℕ) → Worklist → Worklist
added id l = if listed id l then l otherwise l ++ record { id = id; mark = waiting } ∷ []

-- Take marks the first waiting id.
abbrev pub took_first : Worklist → Worklist
took_first [] = []
took_first (e ∷ rest) = if is_waiting e.mark then record { id = e.id; mark = taken } ∷ rest otherwise e ∷ took_first rest

-- Done removes an id.
abbrev pub without : (id : ℕ) → Worklist → Worklist
without id [] = []
without id (e ∷ rest) = if eqb id e.id then rest otherwise e ∷ without id rest

-- all are marked as waiting
abbrev pub all_waiting : Worklist → Worklist
all_waiting [] = []
all_waiting (e ∷ rest) = record { id = e.id; mark = waiting } ∷ all_waiting rest

-- Restart marks all as waiting in a list that passes 25 and doesn't touch another.
unfoldable pub restarted : Worklist → Worklist
restarted l = if list_right l then all_waiting l otherwise l
