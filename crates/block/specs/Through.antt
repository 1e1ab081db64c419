-- What a block comes to, and what it leaves of the store's bytes.
use Rattle.std.specs.Prelude.{Result, Ok, Err, Bool, true, false, List, ◌≢◌, ◌≡◌, ℕ, ◌+◌, ◌<◌, leb, length}
use Rattle.std.proofs.Math.Option.{Option, none, some}
use Rattle.contents.specs.Contents.{value_in}
use Rattle.questions.specs.Basics.{if◌then◌otherwise◌, update}
use Rattle.rules.specs.Blocks.{Block, yields, run_block, rows_needed}
use Rattle.rules.specs.Blocks as Rules
use Rattle.keys.specs.Keys.{table_of, log_of}
use Rattle.store.specs.Rows.{rows_of}
use Rattle.store.specs.Layout.{parts_of, cap_of}
use Rattle.store.specs.Sound.{Sound}
use Rattle.operation.specs.Operations as Operations
use Rattle.code.specs.Layout.{operation_at}
use Rattle.code.specs.Meaning.{code_of}
use Rattle.code.specs.Right.{Right}
use Rattle.block.specs.declared.write.NoRoom.{NoRoom}

-- what a block comes to, as the code has it: its result, or a no to question 21
abbrev pub BlockOutcome : Type 0
BlockOutcome = Result ℕ NoRoom

abbrev pub no_room : BlockOutcome
no_room = Err (record {})

-- what a block's result is to the code, and in its log row
abbrev pub outcome_of : Rules.Result → BlockOutcome
outcome_of (yields v) = Ok v

abbrev pub logged_value : Rules.Result → ℕ
logged_value (yields v) = v

-- BEGIN at `begin` opens a block of the partition, in a workflow that is right, over a sound store
pub record Ready (ops ws xs : List ℕ) (partition begin : ℕ) : Type 0 where
  pub right : Right ops ws
  pub sound : Sound xs
  pub below : partition < parts_of xs
  pub in_code : begin < length ops
  pub begins : operation_at ops begin ≡ Operations.op_begin

-- the rules' run of that block, on the partition's table
abbrev pub block_at : (ops ws xs : List ℕ) (partition begin : ℕ) → (registers : List ℕ) → Block
block_at ops ws xs partition begin registers =
    run_block (code_of ops ws) (record { position = begin; registers = registers }) (table_of (value_in (rows_of xs partition)))

-- 21. Has a block that isn't logged enough free rows: one, plus one per different new key it PUTs?
abbrev pub has_room : (xs : List ℕ) (partition : ℕ) → Block → Bool
has_room xs partition b = leb (length (rows_of xs partition) + rows_needed b) (cap_of xs)

-- Data rows and log row of a block are written together: ys is xs's store with them in the partition, and with nothing else changed.
pub record Committed (xs ys : List ℕ) (partition id step : ℕ) (b : Block) : Type 0 where
  pub sound : Sound ys
  pub parts : parts_of ys ≡ parts_of xs
  pub cap : cap_of ys ≡ cap_of xs
  pub table : table_of (value_in (rows_of ys partition)) ≡ b.table
  pub log : log_of (value_in (rows_of ys partition)) ≡ update (log_of (value_in (rows_of xs partition))) id
      (update (log_of (value_in (rows_of xs partition)) id) step (some (logged_value b.result)))
  pub used : length (rows_of ys partition) ≡ length (rows_of xs partition) + rows_needed b
  pub others : (q : ℕ) → q ≢ partition → rows_of ys q ≡ rows_of xs q

-- A block of the partition for a step of request id, by what its log row says: what it comes to, and the bytes ys that it leaves. If the
-- row is found, no byte changes and the logged value is the result. If not, and question 21 says no, no byte changes either.
unfoldable pub Through : (xs ys : List ℕ) (partition id step : ℕ) → Block → BlockOutcome → (log : Option ℕ) → Type 0
Through xs ys partition id step b r (some v) = (r ≡ Ok v) × (ys ≡ xs)
Through xs ys partition id step b r none =
    if has_room xs partition b then ((r ≡ outcome_of b.result) × Committed xs ys partition id step b) otherwise ((r ≡ no_room) × (ys ≡ xs))

-- had the block room, by what it came to?
abbrev pub had_room : BlockOutcome → Bool
had_room (Ok v) = true
had_room (Err e) = false
