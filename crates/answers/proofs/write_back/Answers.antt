-- `answers::write_back`: records are written but after a refusal.
use Rattle.std.proofs.Common.{◌≡◌, sym, ◌∙◌}
use Rattle.answers.proofs.Answers.{slots_written, slots_left, not_accepted}
use Rattle.answers.proofs.write_back.Goals as goal

pub returns-then-is_ok-clause-slots_after : goal.returns-then-is_ok-clause-slots_after
returns-then-is_ok-clause-slots_after c =
    c.write_slots.ensures.bytes_after ∙ slots_written _ _ _ (sym c.is_ok.ensures.value ∙ c.if-is_ok.true)

pub returns-else-is_ok-clause-slots_after : goal.returns-else-is_ok-clause-slots_after
returns-else-is_ok-clause-slots_after c = slots_left _ _ _ (sym c.is_ok.ensures.value ∙ c.if-is_ok.false)

pub returns-else-is_ok-clause-slots_read : goal.returns-else-is_ok-clause-slots_read
returns-else-is_ok-clause-slots_read c = not_accepted _ (sym c.is_ok.ensures.value ∙ c.if-is_ok.false)
