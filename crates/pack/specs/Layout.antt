-- The bytes of a pack: count m (1 byte), m sizes (2 bytes each), then two parallel arrays over all T instructions: T operation bytes, T
-- operand words (4 bytes each).
use Rattle.std.specs.Prelude.{List, ℕ, zero, suc, ◌+◌, ◌*◌, get_or, take, drop}
use Rattle.words.specs.Words.{le}

-- m, the number of workflows
abbrev pub count : (pack : List ℕ) → ℕ
count pack = get_or pack 0 0

-- the number of instructions of a workflow
abbrev pub size_of : (pack : List ℕ) (workflow : ℕ) → ℕ
size_of pack workflow = le 2 pack (1 + 2 * workflow)

-- the number of instructions of the workflows before one: where it begins in both arrays
unfoldable pub first_of : (pack : List ℕ) (workflow : ℕ) → ℕ
first_of pack zero = 0
first_of pack (suc workflow) = first_of pack workflow + size_of pack workflow

-- T, the number of all instructions
abbrev pub total : (pack : List ℕ) → ℕ
total pack = first_of pack (count pack)

-- where the operation bytes and the operand bytes of a workflow begin in the pack
abbrev pub operations_at : (pack : List ℕ) (workflow : ℕ) → ℕ
operations_at pack workflow = 1 + 2 * count pack + first_of pack workflow

abbrev pub operands_at : (pack : List ℕ) (workflow : ℕ) → ℕ
operands_at pack workflow = 1 + 2 * count pack + total pack + 4 * first_of pack workflow

-- all operation bytes of a workflow
unfoldable pub operations_of : (pack : List ℕ) (workflow : ℕ) → List ℕ
operations_of pack workflow = take (size_of pack workflow) (drop (operations_at pack workflow) pack)

-- all its operand bytes, four to an instruction
unfoldable pub operands_of : (pack : List ℕ) (workflow : ℕ) → List ℕ
operands_of pack workflow = take (4 * size_of pack workflow) (drop (operands_at pack workflow) pack)

-- the operation byte and the operand word of an instruction of a workflow
unfoldable pub operation_byte : (pack : List ℕ) (workflow index : ℕ) → ℕ
operation_byte pack workflow index = get_or pack (operations_at pack workflow + index) 0

unfoldable pub operand_word : (pack : List ℕ) (workflow index : ℕ) → ℕ
operand_word pack workflow index = le 4 pack (operands_at pack workflow + 4 * index)
