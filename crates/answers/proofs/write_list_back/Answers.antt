-- `answers::write_list_back`: the list is written but after a refusal.
use Rattle.std.proofs.Common.{◌≡◌, sym, ◌∙◌}
use Rattle.answers.proofs.Answers.{list_written, list_left, not_accepted}
use Rattle.answers.proofs.write_list_back.Goals as goal

pub returns-then-is_ok-clause-list_after : goal.returns-then-is_ok-clause-list_after
returns-then-is_ok-clause-list_after c =
    c.write_list.ensures.bytes_after ∙ list_written _ _ _ (sym c.is_ok.ensures.value ∙ c.if-is_ok.true)

pub returns-else-is_ok-clause-list_after : goal.returns-else-is_ok-clause-list_after
returns-else-is_ok-clause-list_after c = list_left _ _ _ (sym c.is_ok.ensures.value ∙ c.if-is_ok.false)

pub returns-else-is_ok-clause-list_read : goal.returns-else-is_ok-clause-list_read
returns-else-is_ok-clause-list_read c = not_accepted _ (sym c.is_ok.ensures.value ∙ c.if-is_ok.false)
