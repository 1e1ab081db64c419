-- The shape of each instruction, in one table: where it stands, what begins behind it, where it leads.
use Rattle.std.specs.Prelude.{Bool, true, false, ◌≡◌, ℕ}
use Rattle.std.proofs.Math.Option.{Option, none, some}
use Rattle.rules.specs.Instructions.{Instruction, SET, COPY, ADD, SUB, JLT, JEQ, BEGIN, END, GET, PUT, HAS, RETURN}

-- inside a block, or outside
pub data Side : Type 0 where
  outside inside : Side

-- the shape of an instruction, whatever it does to registers and tables
pub record Shape : Type 0 where
  -- the side on which it stands; none: anywhere
  pub stands : Option Side
  -- the side that begins behind it; none: that on which it stands itself
  pub behind : Option Side
  -- the index to which it may jump; none: it is no jump
  pub target : Option ℕ
  -- whether the instruction behind it may come next
  pub leads_on : Bool

abbrev pub anywhere : Shape
anywhere = record { stands = none; behind = none; target = none; leads_on = true }

abbrev pub jumping : (target : ℕ) → Shape
jumping target = record { stands = none; behind = none; target = some target; leads_on = true }

abbrev pub only : Side → Shape
only side = record { stands = some side; behind = none; target = none; leads_on = true }

abbrev pub crossing : (before after : Side) → Shape
crossing before after = record { stands = some before; behind = some after; target = none; leads_on = true }

abbrev pub final : Side → Shape
final side = record { stands = some side; behind = none; target = none; leads_on = false }

-- GET, PUT, HAS and END stand inside; BEGIN and RETURN stand outside; the rest anywhere.
abbrev pub shape : Instruction → Shape
shape (SET d w) = anywhere
shape (COPY d s) = anywhere
shape (ADD d s) = anywhere
shape (SUB d s) = anywhere
shape (JLT d s target) = jumping target
shape (JEQ d s target) = jumping target
shape (BEGIN p) = crossing outside inside
shape (END d) = crossing inside outside
shape (GET d s) = only inside
shape (PUT d s) = only inside
shape (HAS d s) = only inside
shape (RETURN d) = final outside

-- behind it comes the next instruction, on the same side: it is neither BEGIN, END nor RETURN
pub record GoesOn (s : Shape) : Type 0 where
  pub same_side : s.behind ≡ none
  pub leads_on : s.leads_on ≡ true
