-- What the pack check guarantees of each workflow: the hypothesis of demand 3, which the pack's crate proves of every accepted pack.
use Rattle.std.specs.Prelude.{◌≡◌, [], ◌∷◌, ℕ, zero, suc, ◌<◌, length, get_or}
use Rattle.std.proofs.Math.Option
use Rattle.std.proofs.Math.Option.{Option, none, some}
use Rattle.rules.specs.Instructions.{Code, Pack, Instruction, RETURN, instruction_at}
use Rattle.rules.specs.Shapes.{Side, outside, inside, shape}
use Rattle.rules.specs.Blocks.{behind_end}

-- the side behind an instruction
abbrev pub side_behind : Side → Instruction → Side
side_behind side x = Option.get_or (shape x).behind side

-- the side of the instruction at an index of the code, where the code's first stands on the side given
abbrev pub side_from : Side → Code → (index : ℕ) → Side
side_from side code zero = side
side_from side [] (suc i) = side
side_from side (x ∷ rest) (suc i) = side_from (side_behind side x) rest i

-- An instruction is inside a block if the last BEGIN or END before it is a BEGIN.
abbrev pub side_at : Code → (index : ℕ) → Side
side_at code i = side_from outside code i

-- A jump from outside lands outside. A jump from inside passes no END before its target.
abbrev pub Lands : Side → Code → (index target : ℕ) → Type 0
Lands outside code i target = side_at code target ≡ outside
Lands inside code i target = target < behind_end code i

-- The target is greater than the jump's own index and below the workflow's size.
abbrev pub Jumps : Code → (index target : ℕ) → Type 0
Jumps code i target = (i < target) × (target < length code) × Lands (side_at code i) code i target

-- it stands on its side, if it has one
abbrev pub StandsOn : Side → (own : Option Side) → Type 0
StandsOn side none = Unit {0}
StandsOn side (some own) = side ≡ own

-- only a jump goes elsewhere
abbrev pub GoesTo : Code → (index : ℕ) → (target : Option ℕ) → Type 0
GoesTo code i none = Unit {0}
GoesTo code i (some target) = Jumps code i target

-- An instruction stands, and its jump lands, on the right side.
abbrev pub Stands : Code → (index : ℕ) → Instruction → Type 0
Stands code i x = StandsOn (side_at code i) (shape x).stands × GoesTo code i (shape x).target

-- a workflow that passes: it has an instruction, each stands right, the last is RETURN
pub record Checked (code : Code) : Type 0 where
  pub some_instruction : 0 < length code
  pub stands : (i : ℕ) → i < length code → Stands code i (instruction_at code i)
  pub last_returns : (i : ℕ) → suc i ≡ length code → (d : ℕ) × (instruction_at code i ≡ RETURN d)

-- each workflow of a pack passes
abbrev pub CheckedPack : Pack → Type 0
CheckedPack pack = (w : ℕ) → w < length pack → Checked (get_or pack w [])
