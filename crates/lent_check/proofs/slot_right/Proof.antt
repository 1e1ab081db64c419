-- `lent_check::slot_right` meets its contract.
use borrow.Author.Rules.{rules}
use mathlib.Core.Path.{sym, ◌∙◌}
use Rattle.meaning.proofs.Tests.{slot_used, slot_free}
use Rattle.lent_check.proofs.slot_right.Statement.{statement}
use Rattle.lent_check.proofs.slot_right.Tie as tie

pub slot_right_spec : {M : Type 1} → statement M
slot_right_spec =
    tie.close
    (tie.spec
    (λ c κs. search rules)
    (λ c. c.sound.ensures ∙ sym (slot_used _ _ _ c.if-a.true))
    (λ c κs. search rules)
    (λ c. c.is_blank.ensures ∙ sym (slot_free _ _ _ c.if-a.false)))
