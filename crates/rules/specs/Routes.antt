-- W-202, how much a workflow takes: its routes, the turns and the rows of a route, and the most of each over all routes.
use Rattle.std.proofs.Math.Option.{some}
use Rattle.std.specs.Prelude.{◌≡◌, ℕ, suc, ◌+◌, ◌≤◌, ◌<◌, eqb}
use Rattle.questions.specs.Basics.{if◌then◌otherwise◌}
use Rattle.rules.specs.Instructions.{Code, Instruction, SET, COPY, ADD, SUB, JLT, JEQ, BEGIN, END, GET, PUT, HAS, RETURN}
use Rattle.rules.specs.Instructions.{instruction_at}
use Rattle.rules.specs.Shapes.{Side, outside, inside, shape, GoesOn}
use Rattle.rules.specs.Blocks.{behind_end}

-- ── Routes ──

-- A way through a block, from an index inside it to its END. A jump may go either way: on, or to its target.
pub data Way (code : Code) : (index : ℕ) → Type 0 where
  ends : (i d : ℕ) → instruction_at code i ≡ END d → Way code i
  passes : (i : ℕ) → GoesOn (shape (instruction_at code i)) → Way code (suc i) → Way code i
  leaps : (i target : ℕ) → (shape (instruction_at code i)).target ≡ some target → Way code target → Way code i

-- A route from an index outside blocks to RETURN. A jump may go either way; a block is a way through it, then on behind its END.
pub data Route (code : Code) : (index : ℕ) → Type 0 where
  replies : (i d : ℕ) → instruction_at code i ≡ RETURN d → Route code i
  goes : (i : ℕ) → GoesOn (shape (instruction_at code i)) → Route code (suc i) → Route code i
  jumps : (i target : ℕ) → (shape (instruction_at code i)).target ≡ some target → Route code target → Route code i
  through : (i p : ℕ) → instruction_at code i ≡ BEGIN p → Way code (suc i) → Route code (behind_end code i) → Route code i

-- ── What a route counts ──

-- one for PUT
abbrev pub puts_of : Instruction → ℕ
puts_of (SET d w) = 0
puts_of (COPY d s) = 0
puts_of (ADD d s) = 0
puts_of (SUB d s) = 0
puts_of (JLT d s target) = 0
puts_of (JEQ d s target) = 0
puts_of (BEGIN p) = 0
puts_of (END d) = 0
puts_of (GET d s) = 0
puts_of (PUT d s) = 1
puts_of (HAS d s) = 0
puts_of (RETURN d) = 0

-- the PUTs that a way through a block passes, the same key or not
unfoldable pub puts_on : (code : Code) (index : ℕ) → Way code index → ℕ
puts_on code _ (ends i d e) = 0
puts_on code _ (passes i g w) = puts_of (instruction_at code i) + puts_on code (suc i) w
puts_on code _ (leaps i target e w) = puts_on code target w

-- what is counted: for each instruction outside blocks, RETURN too; and for each block, by its partition and the PUTs passed in it
pub record Counting : Type 0 where
  pub one : ℕ
  pub block : (partition puts : ℕ) → ℕ

-- turns: one for each instruction outside blocks, one for a block
abbrev pub by_turns : Counting
by_turns = record { one = 1; block = λ p puts. 1 }

-- rows in a partition: for each block there one, and one for each PUT that it passes
abbrev pub by_rows : (partition : ℕ) → Counting
by_rows q = record { one = 0; block = λ p puts. if eqb p q then 1 + puts otherwise 0 }

-- the count on a route
unfoldable pub count_on : Counting → (code : Code) (index : ℕ) → Route code index → ℕ
count_on c code _ (replies i d e) = c.one
count_on c code _ (goes i g r) = c.one + count_on c code (suc i) r
count_on c code _ (jumps i target e r) = c.one + count_on c code target r
count_on c code _ (through i p e w r) = c.block p (puts_on code (suc i) w) + count_on c code (behind_end code i) r

-- ── The figures ──

-- n is the most: some one reaches it and none exceeds it.
pub record Most {A : Type 0} (count : A → ℕ) (n : ℕ) : Type 0 where
  pub best : A
  pub reaches : count best ≡ n
  pub none_exceeds : (a : A) → count a ≤ n

-- the most from an index on: outside blocks of what is counted on a route, inside a block of the PUTs on a way to its END
abbrev pub MostFrom : Counting → Code → Side → (index n : ℕ) → Type 0
MostFrom c code outside i n = Most (count_on c code i) n
MostFrom c code inside i n = Most (puts_on code i) n

-- the most over all routes through a workflow
abbrev pub MostOf : Counting → Code → ℕ → Type 0
MostOf c code n = Most (count_on c code 0) n

-- The figures of a workflow: its most turns, and for each of the partitions 0 to 7 its most rows there. Each may have its own route.
pub record Figures (code : Code) (most_turns : ℕ) (most_rows : (partition : ℕ) → ℕ) : Type 0 where
  pub of_turns : MostOf by_turns code most_turns
  pub of_rows : (p : ℕ) → p < 8 → MostOf (by_rows p) code (most_rows p)
