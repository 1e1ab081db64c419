-- What a worklist of sixteen places means as a worklist of the rules.
use Rattle.std.specs.Prelude.{Bool, List, [], ◌∷◌, ◌≡◌, ℕ, zero, suc, ◌≤◌, eqb, length, get_or, replicate}
use Rattle.std.specs.Prelude as Code
use Rattle.std.proofs.Math.Option.{Option, none, some}
use Rattle.rules.specs.Worklist as Rules
use Rattle.worklist.specs.declared.Entry.{Entry}
use Rattle.worklist.specs.declared.Worklist.{Worklist}
use Rattle.worklist.specs.declared.Took.{Took}

-- what a mark's number means
abbrev pub mark_of : (number : ℕ) → Rules.Mark
mark_of zero = Rules.waiting
mark_of (suc zero) = Rules.taken
mark_of (suc (suc n)) = Rules.neither (suc (suc n))

abbrev pub entry_of : Entry → Rules.Entry
entry_of e = record { id = e.id; mark = mark_of e.mark }

-- a place that was never written is all zero
abbrev pub no_entry : Entry
no_entry = record { id = 0; mark = 0 }

-- the entry at a place
abbrev pub place_at : List Entry → (place : ℕ) → Entry
place_at places place = get_or places place no_entry

-- The first `count` entries; behind the last place zeros are read. (A list of more than sixteen is refused by 25 for its number.)
unfoldable pub entries_of : (places : List Entry) (count : ℕ) → Rules.Worklist
entries_of es zero = []
entries_of [] (suc n) = entry_of no_entry ∷ entries_of [] n
entries_of (e ∷ es) (suc n) = entry_of e ∷ entries_of es n

-- what a worklist means
abbrev pub worklist_of : Worklist → Rules.Worklist
worklist_of l = entries_of l.places l.count

-- the empty list, all zero
abbrev pub no_worklist : Worklist
no_worklist = record { count = 0; places = replicate 16 no_entry }

-- The list `after` has these entries, and nothing is written behind the last of them. With it each byte of the list is determined.
pub record Kept (before after : Worklist) (work : Rules.Worklist) : Type 0 where
  pub means : worklist_of after ≡ work
  pub places : length after.places ≡ length before.places
  pub behind : (place : ℕ) → length work ≤ place → place_at after.places place ≡ place_at before.places place

-- an answer of the code, where there may be none
abbrev pub given : Code.Option ℕ → Option ℕ
given Code.None = none
given (Code.Some id) = some id

-- the id that a take found, if it did
abbrev pub found_id : Took → Option ℕ
found_id t = given t.id

-- ── Entries, as the code seeks and writes them ──

-- has the entry this id?
abbrev pub has_id : (id : ℕ) → Entry → Bool
has_id id e = eqb id e.id

-- does the entry wait?
abbrev pub waits : Entry → Bool
waits e = eqb e.mark 0

-- the entry, marked as waiting
abbrev pub waiting : Entry → Entry
waiting e = record { id = e.id; mark = 0 }
