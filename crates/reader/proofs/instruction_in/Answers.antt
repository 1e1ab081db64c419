-- Past the end, without an operand word, with one.
use Rattle.reader.proofs.Laws.{past_end, without_word, with_word}
use Rattle.reader.proofs.instruction_in.Goals as goal

pub returns-then-bytes-index : goal.returns-then-bytes-index
returns-then-bytes-index c = past_end _ _ _ c.if-bytes-index.true

pub returns-then-words-index : goal.returns-then-words-index
returns-then-words-index c = without_word _ _ _ c.if-bytes-index.false c.if-words-index.true

pub returns : goal.returns
returns c = with_word _ _ _ c.if-bytes-index.false _ c.word_in.ensures
