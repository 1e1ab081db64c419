-- The table of a figure, filled from a workflow's end to its beginning: what each of its numbers is.
use Rattle.std.specs.Prelude.{Bool, true, false, List, ◌≡◌, ℕ, ◌≤◌, ◌<◌, length, get_or}
use Rattle.rules.specs.Blocks.{behind_end}
use Rattle.rules.specs.Checked.{side_at}
use Rattle.rules.specs.Routes.{Counting, by_turns, by_rows, MostFrom}
use Rattle.operation.specs.declared.Operand.{Operand}
use Rattle.operation.specs.declared.Operand.TheVariants.{Any, Below8, Jump, Zero}
use Rattle.code.specs.Meaning.{code_of}
use Rattle.code.specs.Questions.{inside_at}
use Rattle.code.specs.Right.{Right}
use Rattle.figures.specs.declared.Counted.{Counted}
use Rattle.figures.specs.declared.Counted.TheVariants.{Turns, Rows}

-- what is counted on a route
abbrev pub counting_of : Counted → Counting
counting_of Turns = by_turns
counting_of (Rows partition) = by_rows partition

-- is it the operand of a jump?
abbrev pub is_jump : Operand → Bool
is_jump Any = false
is_jump Below8 = false
is_jump Jump = true
is_jump Zero = false

-- n is the most from an instruction on, of a workflow in bytes
abbrev pub MostAt : Counted → (ops ws : List ℕ) (index n : ℕ) → Type 0
MostAt by ops ws index n = MostFrom (counting_of by) (code_of ops ws) (side_at (code_of ops ws) index) index n

-- the table has the most from each instruction on, from the one at `first` to the last
pub record Filled (by : Counted) (ops ws : List ℕ) (first : ℕ) (most : List ℕ) : Type 0 where
  pub long : length ops ≤ length most
  pub each : (index : ℕ) → first ≤ index → index < length ops → MostAt by ops ws index (get_or most index 0)

-- a workflow's bytes: questions 4 to 8 say yes to them, and they are of 1 to 256 instructions
pub record Sized (ops ws : List ℕ) : Type 0 where
  pub right : Right ops ws
  pub some_instruction : 1 ≤ length ops
  pub few : length ops ≤ 256

-- the loop stands at an instruction of such a workflow, and knows its side and the index behind the next END
pub record Reached (ops ws : List ℕ) (index : ℕ) (inside : Bool) (behind : ℕ) : Type 0 where
  pub sized : Sized ops ws
  pub in_code : index < length ops
  pub side : inside ≡ inside_at ops index
  pub end : behind ≡ behind_end (code_of ops ws) index
