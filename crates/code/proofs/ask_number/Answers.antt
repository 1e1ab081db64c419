-- After a yes there is no no, and a no is the question's.
use Rattle.std.proofs.Common.{refl}
use Rattle.questions.specs.Questions.{ask}
use Rattle.code.proofs.ask_number.Goals as goal

pub returns-then-yes : goal.returns-then-yes
unfolding ask
returns-then-yes c workflow instruction = rw c.if-yes.true refl

pub returns-else-yes : goal.returns-else-yes
unfolding ask
returns-else-yes c workflow instruction = rw c.if-yes.false refl
