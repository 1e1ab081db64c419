-- A block's run under way, and one instruction of it, as the rules have it.
use Rattle.std.specs.Prelude.{List, ◌≡◌, ℕ, ◌+◌, ◌%◌, ◌≤◌, ◌<◌, eqb}
use Rattle.questions.specs.Basics.{if◌then◌otherwise◌}
use Rattle.rules.specs.Instructions.{Place, Act, moves, opens, closes, reads, puts, returns}
use Rattle.rules.specs.Blocks.{Work, Block, within}
use Rattle.keys.specs.Keys.{data_key, table_of}
use Rattle.store.specs.Rows.{Row, put_row}
use Rattle.operation.specs.Parts.{operation_of, source_of}
use Rattle.operation.specs.Operations.{op_set, op_jlt, op_jeq, op_begin, op_end, op_put, op_return}
use Rattle.instruction.specs.declared.Spot.{Spot}
use Rattle.instruction.specs.declared.Running.{Running}
use Rattle.instruction.specs.Pending.{seen, rows_in, new_in, SameBehind, Kept}

-- the rules' place of a spot
abbrev pub place_of : Spot → Place
place_of x = record { position = x.position; registers = x.registers }

-- the run as the rules have it, over the partition's rows rs
abbrev pub work_of : (rs : List Row) → Running → Work
work_of rs x =
    record {
      place = place_of x.place;
      table = table_of (seen (rows_in x.pending) rs);
      new_keys = new_in x.pending rs;
    }

-- the pending rows behind what an instruction asks for: a PUT has its row among them, and the rest leaves them as they are
unfoldable pub rows_behind : Act → List Row → List Row
rows_behind (puts key value) rows = put_row (data_key key) value rows
rows_behind (moves to) rows = rows
rows_behind (reads key to) rows = rows
rows_behind (opens partition) rows = rows
rows_behind (closes value) rows = rows
rows_behind (returns value) rows = rows

-- What an instruction asks for makes y of x, and the block goes on from there; at most `more` keys more are pending. Rows, and what stands
-- behind them in the arrays, settle all that is pending (`step_settles`).
pub record Stepped (a : Act) (rs : List Row) (x y : Running) (more : ℕ) : Type 0 where
  pub goes : (onward : Work → Block) → within a (work_of rs x) onward ≡ onward (work_of rs y)
  pub rows : rows_in y.pending ≡ rows_behind a (rows_in x.pending)
  pub kept : Kept y.pending
  pub few : y.pending.count ≤ x.pending.count + more
  pub behind : SameBehind x.pending y.pending

-- the keys that an operation may add to the pending ones: PUT one, the rest none
abbrev pub puts_of : (op : ℕ) → ℕ
puts_of op = if eqb op op_put then 1 otherwise 0

-- the number of the register s: of a jump w is 16 × target + s
abbrev pub source_by : (op word : ℕ) → ℕ
source_by op word = if eqb op op_jlt then source_of word otherwise if eqb op op_jeq then source_of word otherwise word

-- s is the low three bits of w, in every operation but SET, whose w is any
abbrev pub Sourced : (op word : ℕ) → Type 0
Sourced op word = (op ≡ op_set → ⊥) → source_by op word ≡ word % 8

-- what the questions say of an instruction inside a block, other than END: operation and operand, and that PUT has room
pub record Fits (byte word : ℕ) (x : Running) : Type 0 where
  pub known : operation_of byte < op_return
  pub no_begin : operation_of byte ≡ op_begin → ⊥
  pub no_end : operation_of byte ≡ op_end → ⊥
  pub sourced : Sourced (operation_of byte) word
  pub room : operation_of byte ≡ op_put → x.pending.count < 16
