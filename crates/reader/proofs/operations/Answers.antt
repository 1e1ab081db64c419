-- The part that the reader's numbers say is the one that the pack's own opening hands out.
use Rattle.std.proofs.Common.{◌∙◌}
use Rattle.reader.proofs.Laws.{has_operations}
use Rattle.reader.proofs.operations.Goals as goal

pub returns-clause-of_opened : goal.returns-clause-of_opened
returns-clause-of_opened c o = c.part_or_none.ensures ∙ has_operations c.args.r o
