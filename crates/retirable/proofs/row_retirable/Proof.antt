-- `retirable::row_retirable` meets its contract.
use borrow.Author.Rules.{rules}
use mathlib.Core.Path.{sym, ◌∙◌}
use Rattle.retirable.proofs.One.{workflow_row, row_asks, row_passed}
use Rattle.retirable.proofs.row_retirable.Statement.{statement}
use Rattle.retirable.proofs.row_retirable.Tie as tie

pub row_retirable_spec : {M : Type 1} → statement M
row_retirable_spec =
    tie.close
    (tie.spec
    (λ c κs. search rules)
    (λ c κs. search rules)
    (λ c. search (rules, (workflow_row _ (sym c.is_workflow.ensures ∙ c.if-is_workflow.true)).0))
    (λ c κs. search rules)
    (λ c.
    let b = c in
    let t = b in
    row_asks _ _ _ (sym t.is_workflow.ensures ∙ t.if-is_workflow.true) t.requires.1 _
    b.booked_id-id.ensures _ c.can_retire.ensures)
    (λ c. sym (row_passed _ _ _ (sym c.is_workflow.ensures ∙ c.if-is_workflow.false))))
