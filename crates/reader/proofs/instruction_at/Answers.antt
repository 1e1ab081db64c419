-- What is read in a reader's parts is read of the reader, and of the workflow that it has open.
use Rattle.reader.proofs.Laws.{read_of, has_instruction}
use Rattle.reader.proofs.instruction_at.Goals as goal

pub returns-clause-of_any : goal.returns-clause-of_any
returns-clause-of_any c =
    read_of c.args.r c.args.index _ _ c.instruction_in.result c.operations.ensures.of_any c.operands.ensures.of_any
    c.instruction_in.ensures

pub returns-clause-of_opened : goal.returns-clause-of_opened
returns-clause-of_opened c o =
    has_instruction c.args.r o c.args.index c.instruction_in.result
    (read_of c.args.r c.args.index _ _ c.instruction_in.result c.operations.ensures.of_any c.operands.ensures.of_any
    c.instruction_in.ensures)
