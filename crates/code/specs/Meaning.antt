-- A workflow's bytes as the code of the rules.
use Rattle.std.specs.Prelude.{List, [], ◌∷◌, ℕ, zero, suc, ◌<◌, length, get_or}
use Rattle.rules.specs.Instructions.{Instruction, SET, COPY, ADD, SUB, JLT, JEQ, BEGIN, END, GET, PUT, HAS, RETURN, Code}
use Rattle.operation.specs.Parts.{operation_of, register_of, target_of, source_of}
use Rattle.code.specs.Layout.{word_at}

-- The table of operations: operation, register d, operand w. (Past B there is none; question 4 refuses it.)
unfoldable pub decode : (op d w : ℕ) → Instruction
decode op d w =
    get_or
    (SET d w
    ∷ COPY d w
    ∷ ADD d w
    ∷ SUB d w
    ∷ JLT d (source_of w) (target_of w)
    ∷ JEQ d (source_of w) (target_of w)
    ∷ BEGIN w
    ∷ END d
    ∷ GET d w
    ∷ PUT d w
    ∷ HAS d w
    ∷ RETURN d
    ∷ [])
    op
    (RETURN d)

-- the instruction of an operation byte and an operand word
abbrev pub instruction_of : (byte w : ℕ) → Instruction
instruction_of byte w = decode (operation_of byte) (register_of byte) w

-- f i, f (i + 1), …: n of them
unfoldable pub list_of : {A : Type 0} → (ℕ → A) → (n i : ℕ) → List A
list_of f zero i = []
list_of f (suc n) i = f i ∷ list_of f n (suc i)

-- the workflow that has these operation bytes and operand bytes
unfoldable pub code_of : (ops ws : List ℕ) → Code
code_of ops ws = list_of (λ index. instruction_of (get_or ops index 0) (word_at ws index)) (length ops) 0

-- the numbers of registers and partitions are 0 to 7
abbrev pub Bounded : Instruction → Type 0
Bounded (SET d w) = d < 8
Bounded (COPY d s) = (d < 8) × (s < 8)
Bounded (ADD d s) = (d < 8) × (s < 8)
Bounded (SUB d s) = (d < 8) × (s < 8)
Bounded (JLT d s target) = (d < 8) × (s < 8)
Bounded (JEQ d s target) = (d < 8) × (s < 8)
Bounded (BEGIN p) = p < 8
Bounded (END d) = d < 8
Bounded (GET d s) = (d < 8) × (s < 8)
Bounded (PUT d s) = (d < 8) × (s < 8)
Bounded (HAS d s) = (d < 8) × (s < 8)
Bounded (RETURN d) = d < 8
