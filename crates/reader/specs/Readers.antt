-- What an opening finds, what a reader of it has, and what is read there.
use Rattle.std.specs.Prelude.{List, [], ◌≡◌, ℕ, ◌+◌, ◌*◌, ◌<◌, leb, ltb, length, get_or, take, drop}
use Rattle.std.proofs.Math.Option.{Option, none, some}
use Rattle.std.specs.Borrow.{Bor}
use Rattle.questions.specs.Basics.{if◌then◌otherwise◌}
use Rattle.rules.specs.Instructions.{instruction_at}
use Rattle.questions.specs.Questions.{No}
use Rattle.questions.specs.Verdicts.{verdict_of}
use Rattle.operation.specs.Operations.{op_return}
use Rattle.code.specs.Layout.{word_at}
use Rattle.code.specs.Meaning.{instruction_of, code_of}
use Rattle.pack.specs.Layout.{size_of, operations_at, operands_at, operations_of, operands_of}
use Rattle.pack.specs.Refusal.{open_refusal, opened}
use Rattle.reader.specs.declared.Instruction.{Instruction}
use Rattle.reader.specs.declared.Opening.{Opening}
use Rattle.reader.specs.declared.Reader.{Reader}

-- so many bytes from `start` on; none where there are not so many
unfoldable pub part_of : (bytes : List ℕ) (start count : ℕ) → List ℕ
part_of bytes start count = if leb (start + count) (length bytes) then take count (drop start bytes) otherwise []

-- a number that an opening hands out; a refusal comes with 0
unfoldable pub opened_number : Option No → ℕ → ℕ
opened_number none n = n
opened_number (some refusal) n = 0

-- What opening a workflow of a pack finds: the verdict of 1 to 8 and 17, where the workflow's operation bytes and operand bytes begin,
-- and how many instructions it has.
abbrev pub opening_of : (pack : List ℕ) (workflow : ℕ) → Opening
opening_of pack workflow =
    record {
      verdict = verdict_of (open_refusal pack workflow);
      operations = opened_number (open_refusal pack workflow) (operations_at pack workflow);
      operands = opened_number (open_refusal pack workflow) (operands_at pack workflow);
      size = opened_number (open_refusal pack workflow) (size_of pack workflow);
    }

-- the parts of the pack that it hands out
abbrev pub operations_from : (pack : List ℕ) (workflow : ℕ) → List ℕ
operations_from pack workflow = opened (open_refusal pack workflow) (operations_of pack workflow)

abbrev pub operands_from : (pack : List ℕ) (workflow : ℕ) → List ℕ
operands_from pack workflow = opened (open_refusal pack workflow) (operands_of pack workflow)

-- the reader of a lent pack that has a workflow open
abbrev pub reader_of : (pack : Bor (List ℕ)) (workflow : ℕ) → Reader
reader_of pack workflow =
    record {
      pack = pack;
      workflow = workflow;
      verdict = (opening_of pack.now workflow).verdict;
      operations = (opening_of pack.now workflow).operations;
      operands = (opening_of pack.now workflow).operands;
      size = (opening_of pack.now workflow).size;
    }

-- a reader as its opening left it
abbrev pub Opened : Reader → Type 0
Opened r = r ≡ reader_of r.pack r.workflow

-- the operation bytes and the operand bytes of any reader: what its numbers say
abbrev pub operations_in : Reader → List ℕ
operations_in r = part_of r.pack.now r.operations r.size

abbrev pub operands_in : Reader → List ℕ
operands_in r = part_of r.pack.now r.operands (4 * r.size)

-- operand bytes beside operation bytes: four to each, where there are both
abbrev pub Beside : (ops ws : List ℕ) → Type 0
Beside ops ws = 0 < length ops → 0 < length ws → length ws ≡ 4 * length ops

-- Operation byte and operand word of the instruction at an index; past the end those of RETURN 0, as in the rules.
unfoldable pub read_at : (ops ws : List ℕ) (index : ℕ) → Instruction
read_at ops ws index =
    if ltb index (length ops) then record { byte = get_or ops index 0; word = word_at ws index }
    otherwise record { byte = 16 * op_return; word = 0 }

-- What was read is the instruction at an index of the workflow that has these bytes: by byte and word, and by the meaning that the rules
-- give it.
pub record Read (ops ws : List ℕ) (index : ℕ) (x : Instruction) : Type 0 where
  pub bytes : x ≡ read_at ops ws index
  pub meaning : instruction_of x.byte x.word ≡ instruction_at (code_of ops ws) index
