-- The part that the reader's numbers say is the one that the pack's own opening hands out.
use Rattle.std.proofs.Common.{◌∙◌}
use Rattle.reader.proofs.Laws.{has_operands}
use Rattle.reader.proofs.operands.Goals as goal

pub returns-clause-of_opened : goal.returns-clause-of_opened
returns-clause-of_opened c o = c.words_or_none.ensures ∙ has_operands c.args.r o
