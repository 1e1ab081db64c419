-- The code's answers in the document's words: number and values for each case.
use Rattle.std.specs.Prelude.{Result, Ok, Err}
use Rattle.questions.specs.Questions.{no}
use Rattle.questions.specs.declared.Refusal.{Refusal}
use Rattle.rules.specs.Blocks.{yields}
use Rattle.rules.specs.Calls as Rules
use Rattle.agents.specs.declared.Accepted.{Accepted}
use Rattle.agents.specs.declared.Accepted.TheVariants.{Done, Moved, Reply, Given}

-- what a call answers, as the code has it
abbrev pub Answer : Type 0
Answer = Result Accepted Refusal

-- done; moved; reply with id and value; the id that is given; refused with the question's number, and with 4 to 8 the workflow and the
-- instruction
unfoldable pub answer_of : Answer → Rules.Answer
answer_of (Ok Done) = Rules.done
answer_of (Ok Moved) = Rules.moved
answer_of (Ok (Reply id value)) = Rules.reply id (yields value)
answer_of (Ok (Given id)) = Rules.given id
answer_of (Err n) = Rules.refused (no n.question n.workflow n.instruction)
