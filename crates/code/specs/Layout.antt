-- The bytes of one workflow: two parallel arrays over its instructions, operation bytes and operand words (4 bytes each).
use Rattle.std.specs.Prelude.{List, ℕ, ◌*◌, get_or}
use Rattle.words.specs.Words.{le}
use Rattle.operation.specs.Parts.{operation_of, register_of}

-- Of a workflow's own operation bytes and operand bytes: the operation, the register d and the operand word w of an instruction.
abbrev pub operation_at : (ops : List ℕ) (index : ℕ) → ℕ
operation_at ops index = operation_of (get_or ops index 0)

abbrev pub register_at : (ops : List ℕ) (index : ℕ) → ℕ
register_at ops index = register_of (get_or ops index 0)

abbrev pub word_at : (ws : List ℕ) (index : ℕ) → ℕ
word_at ws index = le 4 ws (4 * index)
