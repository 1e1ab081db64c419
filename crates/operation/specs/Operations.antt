-- The table of operations: where an operation stands, what its operand w may be, and whether its register d is fixed.
use Rattle.std.specs.Prelude.{ℕ, Bool, false, ◌||◌, List, [], ◌∷◌, ◌==◌}
use Rattle.questions.specs.Basics.{if◌then◌otherwise◌}
use Rattle.operation.specs.declared.Side.{Side}
use Rattle.operation.specs.declared.Side.TheVariants.{Anywhere, Inside, Outside}
use Rattle.operation.specs.declared.Operand.{Operand}
use Rattle.operation.specs.declared.Operand.TheVariants.{Any, Below8, Jump, Zero}
use Rattle.operation.specs.declared.Entry.{Entry}

-- operations by number: 0 SET, 1 COPY, 2 ADD, 3 SUB, 4 JLT, 5 JEQ, 6 BEGIN, 7 END, 8 GET, 9 PUT, A HAS, B RETURN
abbrev pub op_set : ℕ
op_set = 0

abbrev pub op_jlt : ℕ
op_jlt = 4

abbrev pub op_jeq : ℕ
op_jeq = 5

abbrev pub op_begin : ℕ
op_begin = 6

abbrev pub op_end : ℕ
op_end = 7

abbrev pub op_get : ℕ
op_get = 8

abbrev pub op_put : ℕ
op_put = 9

abbrev pub op_has : ℕ
op_has = 10

abbrev pub op_return : ℕ
op_return = 11

-- is it one of these?
abbrev pub among : ℕ → List ℕ → Bool
among op [] = false
among op (x ∷ xs) = op == x || among op xs

-- GET, PUT, HAS and END stand inside; BEGIN and RETURN stand outside; the rest anywhere.
unfoldable pub side_of : (operation : ℕ) → Side
side_of op =
    if among op (op_get ∷ op_put ∷ op_has ∷ op_end ∷ []) then Inside
    otherwise if among op (op_begin ∷ op_return ∷ []) then Outside
    otherwise Anywhere

-- Of SET w is any, of JLT and JEQ 16 × target + s, of END and RETURN 0; of the rest a register or a partition, 0 to 7.
unfoldable pub operand_of : (operation : ℕ) → Operand
operand_of op =
    if among op (op_set ∷ []) then Any
    otherwise if among op (op_jlt ∷ op_jeq ∷ []) then Jump
    otherwise if among op (op_end ∷ op_return ∷ []) then Zero
    otherwise Below8

-- Of BEGIN d is 0.
unfoldable pub fixed_of : (operation : ℕ) → Bool
fixed_of op = among op (op_begin ∷ [])

abbrev pub entry_of : (operation : ℕ) → Entry
entry_of op = record { side = side_of op; operand = operand_of op; fixed = fixed_of op }
