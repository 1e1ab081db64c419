use Rattle.std.proofs.Common.{ap, ◌∙◌, unwrap_or}
use Rattle.store.specs.Answers.{Got}
use Rattle.contents.proofs.Book.{got_or}
use Rattle.turn.proofs.workflow_of.Goals as goal

pub returns : goal.returns
returns c = c.unwrap_or.ensures ∙ ap (λ (g : Got). unwrap_or g 0) c.booked_workflow.ensures.0 ∙ got_or _ 0
