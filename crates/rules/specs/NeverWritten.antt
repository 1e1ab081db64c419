-- W-206, reading a key never written: what the changed line of the table of operations comes to.
use Rattle.std.proofs.Math.Option.{none, some, get_or}
use Rattle.std.specs.Prelude.{◌≡◌, ℕ, suc, ◌<◌, length}
use Rattle.questions.specs.Basics.{if◌then◌otherwise◌, is_some}
use Rattle.rules.specs.Instructions.{Code, SET, END, GET, PUT, HAS, Place, register, next, becomes, act, instruction_at}
use Rattle.rules.specs.Blocks.{Table, Work, Block, yields, within, run_block}

-- the run at another place: its table, and what it counts, as they are
abbrev pub work_at : Work → Place → Work
work_at w to = record { place = to; table = w.table; new_keys = w.new_keys }

-- GET d s at any point of any block's run w. The registers are those of the block's copy; a key is absent, or has its value, in the
-- partition's table as the block sees it at that point.
pub record NeverWritten (d s : ℕ) (w : Work) (onward : Work → Block) : Type 0 where
  -- an absent key leaves d as it was, and every other register: the block goes on with the next instruction
  pub absent : w.table (register w.place s) ≡ none →
      within (act (GET d s) w.place) w onward ≡ onward (work_at w (next w.place))
  -- a key that has a value gives it, 0 included
  pub present : (v : ℕ) → w.table (register w.place s) ≡ some v →
      within (act (GET d s) w.place) w onward ≡ onward (work_at w (becomes w.place d v))
  -- behind a PUT of the same key, from register v at the key in register k, d becomes what was PUT, whatever the table had there
  pub behind_put : (k v : ℕ) → register w.place s ≡ register w.place k →
      within (act (PUT k v) w.place) w (λ w'. within (act (GET d s) w'.place) w' onward)
      ≡ within (act (PUT k v) w.place) w (λ w'. onward (work_at w' (becomes w'.place d (register w.place v))))
  -- into a register that is still 0 it reads as before: 0 if absent
  pub still_zero : register w.place d ≡ 0 →
      within (act (GET d s) w.place) w onward
      ≡ onward (work_at w (becomes w.place d (get_or (w.table (register w.place s)) 0)))
  -- HAS is as it was: 1, or 0 if absent
  pub has : within (act (HAS d s) w.place) w onward
      ≡ onward (work_at w (becomes w.place d (if is_some (w.table (register w.place s)) then 1 otherwise 0)))

-- The register is that of the block's copy and not of the record, which stands at the BEGIN and has the registers of `at`: a block that
-- SETs d and then reads an absent key into it comes to what it has SET.
abbrev pub OfTheCopy : Type 0
OfTheCopy =
    (code : Code) (at : Place) (table : Table) (d s v : ℕ) → d < length at.registers →
    instruction_at code (suc at.position) ≡ SET d v →
    instruction_at code (suc (suc at.position)) ≡ GET d s →
    instruction_at code (suc (suc (suc at.position))) ≡ END d →
    table (register (becomes at d v) s) ≡ none → (run_block code at table).result ≡ yields v
