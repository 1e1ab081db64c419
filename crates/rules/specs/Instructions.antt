-- The instructions of a workflow, and the table of operations, once: what each asks for.
use Rattle.std.specs.Prelude.{List, ℕ, suc, ◌+◌, ◌-◌, ◌%◌, ◌^◌, ltb, eqb, get_or, set}
use Rattle.std.proofs.Math.Option
use Rattle.std.proofs.Math.Option.{Option}
use Rattle.questions.specs.Basics.{if◌then◌otherwise◌, is_some}

-- An instruction with its operands: d and s are the numbers of registers, w is the operand word, a target is an index in the workflow.
pub data Instruction : Type 0 where
  SET : (d w : ℕ) → Instruction
  COPY ADD SUB : (d s : ℕ) → Instruction
  JLT JEQ : (d s target : ℕ) → Instruction
  BEGIN : (partition : ℕ) → Instruction
  END : (d : ℕ) → Instruction
  GET PUT HAS : (d s : ℕ) → Instruction
  RETURN : (d : ℕ) → Instruction

-- a workflow: its instructions, counted from 0
abbrev pub Code : Type 0
Code = List Instruction

-- a pack: its workflows, counted from 0
abbrev pub Pack : Type 0
Pack = List Code

-- where a request stands in its workflow: the position of its next instruction, and what its registers hold
pub record Place : Type 0 where
  pub position : ℕ
  pub registers : List ℕ

-- what register r holds
abbrev pub register : Place → (r : ℕ) → ℕ
register at r = get_or at.registers r 0

-- on to the next instruction
abbrev pub next : Place → Place
next at = record { position = suc at.position; registers = at.registers }

-- go to target
abbrev pub goto : Place → (target : ℕ) → Place
goto at target = record { position = target; registers = at.registers }

-- d becomes v, and on to the next instruction
abbrev pub becomes : Place → (d v : ℕ) → Place
becomes at d v = record { position = suc at.position; registers = set at.registers d v }

-- What an instruction asks for at a place: to go on from another place; to open a block of a partition, or to close it with a result; to
-- go on by what a data key's value is, if it is present; to put a value at a data key; or to reply.
pub data Act : Type 0 where
  moves : (to : Place) → Act
  opens : (partition : ℕ) → Act
  closes : (result : ℕ) → Act
  reads : (key : ℕ) (on_found : Option ℕ → Place) → Act
  puts : (key value : ℕ) → Act
  returns : (reply : ℕ) → Act

-- The table of operations. ADD and SUB keep the remainder by 2^32; GET of an absent key leaves d as it was.
unfoldable pub act : Instruction → Place → Act
act (SET d w) at = moves (becomes at d w)
act (COPY d s) at = moves (becomes at d (register at s))
act (ADD d s) at = moves (becomes at d ((register at d + register at s) % 2 ^ 32))
act (SUB d s) at = moves (becomes at d ((register at d + 2 ^ 32 - register at s) % 2 ^ 32))
act (JLT d s target) at = moves (if ltb (register at d) (register at s) then goto at target otherwise next at)
act (JEQ d s target) at = moves (if eqb (register at d) (register at s) then goto at target otherwise next at)
act (BEGIN p) at = opens p
act (END d) at = closes (register at d)
act (GET d s) at = reads (register at s) (λ found. becomes at d (Option.get_or found (register at d)))
act (PUT d s) at = puts (register at d) (register at s)
act (HAS d s) at = reads (register at s) (λ found. becomes at d (if is_some found then 1 otherwise 0))
act (RETURN d) at = returns (register at d)

-- the instruction at an index. (Past the end of the code nothing stands; no checked workflow gets there.)
abbrev pub instruction_at : Code → (index : ℕ) → Instruction
instruction_at code i = get_or code i (RETURN 0)

-- what the instruction at a place asks for
unfoldable pub act_at : Code → Place → Act
act_at code at = act (instruction_at code at.position) at
