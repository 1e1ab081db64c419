-- `keys::is_workflow` meets its contract, by the test that led to each return.
use mathlib.Core.Path.{refl, sym, ◌∙◌}
use Rattle.keys.specs.Keys.{is_workflow_key}
use borrow.Author.Rules.{rules}
use Rattle.keys.proofs.is_workflow.Statement.{statement}
use Rattle.keys.proofs.is_workflow.Tie as tie

pub is_workflow_spec : {M : Type 1} → statement M
unfolding is_workflow_key
is_workflow_spec =
    tie.close
    (tie.spec
    (λ c κs. search rules)
    (λ c. rw (sym c.is_book.ensures ∙ c.if-is_book.true) refl)
    (λ c. rw (sym c.is_book.ensures ∙ c.if-is_book.false) refl))
