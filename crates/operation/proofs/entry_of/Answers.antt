-- The table's rule, over all of its sixteen entries by computation.
use Rattle.std.proofs.Common.{rules, ◌∙◌, ap}
use Rattle.operation.specs.Operations.{side_of, operand_of, fixed_of, entry_of}
use Rattle.operation.proofs.Table.{table}
use Rattle.operation.proofs.entry_of.Goals as goal

pub returns : goal.returns
unfolding side_of operand_of fixed_of
returns c = table entry_of 16 c.operation_of.result _ (search rules) ∙ ap entry_of c.operation_of.ensures
