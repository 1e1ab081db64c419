use Rattle.std.proofs.Common.{arith}
use Rattle.text.proofs.Laws.{appended_then}
use Rattle.agents.specs.Answers as Answers
use Rattle.lines.specs.Lines.{answer_text}
use Rattle.lines.proofs.append_refused.Goals as goal

pub returns : goal.returns
unfolding answer_text Answers.answer_of
returns c = (appended_then c.append_bytes-written.ensures c.append_field.ensures.0, omega arith)
