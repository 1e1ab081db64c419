-- The run of a block from where it stands to END, as the rules have it.
use Rattle.std.specs.Prelude.{true, List, ◌≡◌, ℕ, ◌-◌, ◌≤◌, length}
use Rattle.rules.specs.Blocks.{Block, yields, run_from}
use Rattle.keys.specs.Keys.{table_of}
use Rattle.store.specs.Rows.{Row}
use Rattle.code.specs.Questions.{inside_at, puts_before}
use Rattle.code.specs.Meaning.{code_of}
use Rattle.instruction.specs.declared.Running.{Running}
use Rattle.instruction.specs.Pending.{seen, rows_in, new_in, Kept}
use Rattle.instruction.specs.Step.{work_of}
use Rattle.block.specs.declared.run.Ran.{Ran}

-- a run stands inside a block, with no more pending keys than the block has had PUTs
pub record Inside (ops : List ℕ) (x : Running) : Type 0 where
  pub inside : inside_at ops x.place.position ≡ true
  pub kept : Kept x.pending
  pub few : x.pending.count ≤ puts_before ops x.place.position

-- the rules' run from where x stands
abbrev pub run_of : (ops ws : List ℕ) → (rs : List Row) → Running → Block
run_of ops ws rs x = run_from (code_of ops ws) (length ops - x.place.position) (work_of rs x)

-- what a run that came to END stands for
abbrev pub block_of : (rs : List Row) → Ran → Block
block_of rs r = record { table = table_of (seen (rows_in r.pending) rs); new_keys = new_in r.pending rs; result = yields r.result }
