-- The run of a block, one definition for runtime and plain machine; its result, the rows that it needs, and the position behind END.
use Rattle.std.specs.Prelude.{Bool, true, false, [], ◌∷◌, ◌≡◌, ℕ, zero, suc, ◌+◌, ◌-◌, ◌<◌, length, set, drop}
use Rattle.std.proofs.Math.Option.{Option, none, some}
use Rattle.questions.specs.Basics.{if◌then◌otherwise◌, update, is_some}
use Rattle.rules.specs.Instructions.{Code, Instruction, END, instruction_at, Place, register, next}
use Rattle.rules.specs.Instructions.{Act, moves, opens, closes, reads, puts, returns, act_at}
use Rattle.rules.specs.Shapes.{Side, outside, inside, shape}

-- a table from data key to value, if the key is present
abbrev pub Table : Type 0
Table = (key : ℕ) → Option ℕ

-- A block's run under way: the place in the code, with a copy of the registers; the partition's table so far, so that later GETs see
-- earlier PUTs; and how many different keys were new when they were PUT.
pub record Work : Type 0 where
  pub place : Place
  pub table : Table
  pub new_keys : ℕ

-- What a block comes to, and a request: a value. It is a type of its own, so that one day they can come to something else.
pub data Result : Type 0 where
  yields : (value : ℕ) → Result

-- what a run comes to
pub record Block : Type 0 where
  pub table : Table
  pub new_keys : ℕ
  pub result : Result

-- END: the result is given
abbrev pub close : Work → Result → Block
close w r = record { table = w.table; new_keys = w.new_keys; result = r }

-- One instruction inside a block; `onward` runs the rest of it. (BEGIN and RETURN stand outside: no checked block meets them.)
unfoldable pub within : Act → Work → (onward : Work → Block) → Block
within (moves to) w onward = onward (record { place = to; table = w.table; new_keys = w.new_keys })
within (reads k on_found) w onward = onward (record { place = on_found (w.table k); table = w.table; new_keys = w.new_keys })
within (puts k v) w onward =
    onward
    (record {
      place = next w.place;
      table = update w.table k (some v);
      new_keys = if is_some (w.table k) then w.new_keys otherwise suc w.new_keys;
    })
within (closes v) w onward = close w (yields v)
within (opens p) w onward = close w (yields 0)
within (returns v) w onward = close w (yields 0)

-- at most `ahead` instructions of a block
unfoldable pub run_from : Code → (ahead : ℕ) → Work → Block
run_from code zero w = close w (yields 0)
run_from code (suc ahead) w = within (act_at code w.place) w (λ w'. run_from code ahead w')

-- The block that BEGIN at this place opens, run on a table. It comes to END within the instructions ahead (`block_ends`).
unfoldable pub run_block : Code → Place → Table → Block
run_block code at table =
    run_from code (length code - suc at.position) (record { place = next at; table = table; new_keys = 0 })

-- The rows that a block needs: one for its log row, plus one per different new key it PUTs.
abbrev pub rows_needed : Block → ℕ
rows_needed b = 1 + b.new_keys

-- does what begins behind it close a block?
abbrev pub closing : Option Side → Bool
closing none = false
closing (some inside) = false
closing (some outside) = true

-- is it END?
abbrev pub is_end : Instruction → Bool
is_end i = closing (shape i).behind

-- how many instructions there are up to the first END, and with it
abbrev pub through_end : Code → ℕ
through_end [] = 0
through_end (i ∷ rest) = if is_end i then 1 otherwise suc (through_end rest)

-- the position behind the END of the block that BEGIN at this index opens
abbrev pub behind_end : Code → (begin : ℕ) → ℕ
behind_end code begin = suc begin + through_end (drop (suc begin) code)

-- After a block, run or found in the log: only register 0 changes, to the result; position goes behind END.
unfoldable pub after_block : Code → Place → (result : ℕ) → Place
after_block code at v = record { position = behind_end code at.position; registers = set at.registers 0 v }

-- A block that opens at an index comes to END: its run stops at the first END behind BEGIN, the one behind which the agent goes on, and
-- its result is what the register of that END holds.
pub record Closed (code : Code) (begin : ℕ) (b : Block) : Type 0 where
  -- the run where it stops, and the register that END names there
  pub last : Work
  pub d : ℕ
  pub value : ℕ
  pub at_end : instruction_at code last.place.position ≡ END d
  pub its_register : value ≡ register last.place d
  -- the END stands behind BEGIN, and none stands between
  pub behind_begin : begin < last.place.position
  pub the_first : (i : ℕ) → begin < i → i < last.place.position → is_end (instruction_at code i) ≡ false
  pub goes_on : suc last.place.position ≡ behind_end code begin
  pub closed : b ≡ close last (yields value)
