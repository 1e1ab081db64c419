-- Questions 4 to 8, each a test: true is yes. 4 to 7 are put to an instruction, by its index, of a workflow that has operation bytes
-- `ops` and operand bytes `ws`.
use Rattle.std.specs.Prelude.{Bool, true, false, not, ◌&&◌, List, ℕ, zero, suc, ◌+◌, ◌-◌, ltb, leb, eqb, length, get_or}
use Rattle.questions.specs.Basics.{if◌then◌otherwise◌, each_from}
use Rattle.operation.specs.declared.Side.{Side}
use Rattle.operation.specs.declared.Side.TheVariants.{Anywhere, Inside, Outside}
use Rattle.operation.specs.declared.Operand.{Operand}
use Rattle.operation.specs.declared.Operand.TheVariants.{Any, Below8, Jump, Zero}
use Rattle.operation.specs.Parts.{operation_of, bit3_of, target_of, source_of}
use Rattle.operation.specs.Operations.{op_begin, op_end, op_put, op_return, side_of, operand_of, fixed_of}
use Rattle.code.specs.Layout.{operation_at, register_at, word_at}

-- the operation is 0 to B, and bit 3 is clear
unfoldable pub legal : (byte : ℕ) → Bool
legal byte = leb (operation_of byte) 11 && eqb (bit3_of byte) 0

-- 4. Is the operation 0 to B and bit 3 clear?
unfoldable pub question4 : (ops : List ℕ) (index : ℕ) → Bool
question4 ops index = legal (get_or ops index 0)

-- An operand w of the instruction at an index, in a workflow of the size given. In a jump s is 0 to 7, and the target is greater than the
-- jump's own index and below the workflow's size.
unfoldable pub in_range : Operand → (size index w : ℕ) → Bool
in_range Any size index w = true
in_range Below8 size index w = ltb w 8
in_range Jump size index w = ltb (source_of w) 8 && ltb index (target_of w) && ltb (target_of w) size
in_range Zero size index w = eqb w 0

-- d is 0 where it is fixed
unfoldable pub register_right : (fixed : Bool) (d : ℕ) → Bool
register_right true d = eqb d 0
register_right false d = true

-- 5. Are w (a jump's target included), and d where fixed, in range?
unfoldable pub question5 : (ops ws : List ℕ) (index : ℕ) → Bool
question5 ops ws index =
    in_range (operand_of (operation_at ops index)) (length ops) index (word_at ws index)
    && register_right (fixed_of (operation_at ops index)) (register_at ops index)

-- the side behind an operation: BEGIN opens a block, END closes it
abbrev pub inside_behind : (operation : ℕ) (inside : Bool) → Bool
inside_behind op inside = if eqb op op_begin then true otherwise if eqb op op_end then false otherwise inside

-- An instruction is inside a block if the last BEGIN or END before it is a BEGIN.
unfoldable pub inside_at : (ops : List ℕ) (index : ℕ) → Bool
inside_at ops zero = false
inside_at ops (suc index) = inside_behind (operation_at ops index) (inside_at ops index)

-- GET, PUT, HAS and END stand inside; BEGIN and RETURN stand outside; the rest anywhere.
unfoldable pub stands : Side → (inside : Bool) → Bool
stands Anywhere inside = true
stands Inside inside = inside
stands Outside inside = not inside

-- is an instruction something else than END?
unfoldable pub is_no_end : (ops : List ℕ) (index : ℕ) → Bool
is_no_end ops index = not (eqb (operation_at ops index) op_end)

-- A jump from outside lands outside. A jump from inside passes no END before its target.
unfoldable pub lands_from : (inside : Bool) (ops : List ℕ) (index target : ℕ) → Bool
lands_from true ops index target = each_from (is_no_end ops) (target - (index + 1)) (index + 1)
lands_from false ops index target = not (inside_at ops target)

-- only a jump lands elsewhere
unfoldable pub lands : Operand → (inside : Bool) (ops : List ℕ) (index target : ℕ) → Bool
lands Any inside ops index target = true
lands Below8 inside ops index target = true
lands Jump inside ops index target = lands_from inside ops index target
lands Zero inside ops index target = true

-- 6. Does it stand, and its jump land, on the right side?
unfoldable pub question6 : (ops ws : List ℕ) (index : ℕ) → Bool
question6 ops ws index =
    stands (side_of (operation_at ops index)) (inside_at ops index)
    && lands (operand_of (operation_at ops index)) (inside_at ops index) ops index (target_of (word_at ws index))

-- the PUTs of its block before it: those behind the last BEGIN or END
unfoldable pub puts_before : (ops : List ℕ) (index : ℕ) → ℕ
puts_before ops zero = 0
puts_before ops (suc index) =
    if eqb (operation_at ops index) op_begin then 0
    otherwise if eqb (operation_at ops index) op_end then 0
    otherwise if eqb (operation_at ops index) op_put then suc (puts_before ops index)
    otherwise puts_before ops index

-- a PUT behind fewer than 16
unfoldable pub counted : (operation puts : ℕ) → Bool
counted op puts = if eqb op op_put then ltb puts 16 otherwise true

-- 7. Is it at most the 16th PUT of its block?
unfoldable pub question7 : (ops : List ℕ) (index : ℕ) → Bool
question7 ops index = counted (operation_at ops index) (puts_before ops index)

-- 8. Is the last instruction RETURN?
unfoldable pub question8 : (ops : List ℕ) → Bool
question8 ops = eqb (operation_at ops (length ops - 1)) op_return
