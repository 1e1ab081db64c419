use Rattle.std.proofs.Common.{sym, ap, ◌∙◌}
use borrow.Author.Tests.{not-true, not-false}
use Rattle.retirable.proofs.One.{is_through, not_through, in_a_slot, on_the_list, by_its_log}
use Rattle.retirable.proofs.can_retire.Goals as goal
use Rattle.retirable.proofs.can_retire.Goals.{then-in_no_slot, else-in_no_slot}

pub returns-in-Through : goal.returns-in-Through
returns-in-Through c q e =
    elim c.if-in_no_slot.branch [
      | then-in_no_slot w ↦
          sym (ap is_through c.in-Through.is)
          ∙ by_its_log _ _ _ q e _ c.in_no_slot.ensures w.if-in_no_slot.true _ w.is_listed.ensures
          (not-true _ (sym w.value-is ∙ c.if-not-is_listed.true)) _ c.reply_logged.ensures
      | else-in_no_slot w ↦ let z = w.value-is in cc
    ]

pub returns-in_default : goal.returns-in_default
returns-in_default c q e =
    elim c.if-in_no_slot.branch [
      | then-in_no_slot w ↦
          sym (not_through c.reply_logged.result c.in_default.not-Through)
          ∙ by_its_log _ _ _ q e _ c.in_no_slot.ensures w.if-in_no_slot.true _ w.is_listed.ensures
          (not-true _ (sym w.value-is ∙ c.if-not-is_listed.true)) _ c.reply_logged.ensures
      | else-in_no_slot w ↦ let z = w.value-is in cc
    ]

pub returns-else-not-is_listed : goal.returns-else-not-is_listed
returns-else-not-is_listed c q e =
    elim c.if-in_no_slot.branch [
      | then-in_no_slot w ↦
          c.if-not-is_listed.false
          ∙ on_the_list _ _ _ q e _ c.in_no_slot.ensures w.if-in_no_slot.true _ w.is_listed.ensures
          (not-false _ (sym w.value-is ∙ c.if-not-is_listed.false))
      | else-in_no_slot w ↦ c.if-not-is_listed.false ∙ in_a_slot _ _ _ q e _ c.in_no_slot.ensures w.if-in_no_slot.false
    ]
