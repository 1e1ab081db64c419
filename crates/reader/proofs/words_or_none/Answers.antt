-- Where a fourth of the pack is fewer than the words, so is the pack fewer than their bytes.
use Rattle.std.proofs.Common.{sym, arith}
use Rattle.reader.proofs.Laws.{part_none}
use Rattle.reader.proofs.words_or_none.Goals as goal

pub returns-then-pack-count : goal.returns-then-pack-count
returns-then-pack-count c = sym (part_none _ _ _ (omega arith))
