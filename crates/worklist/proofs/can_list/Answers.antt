use Rattle.std.proofs.Common.{sym, ◌∙◌}
use borrow.Author.Tests.{lt-ltb}
use Rattle.worklist.proofs.Kept.{can_list_more, can_list_full}
use Rattle.worklist.proofs.can_list.Goals as goal

pub returns-then-l-lt16 : goal.returns-then-l-lt16
returns-then-l-lt16 c = lt-ltb _ _ c.if-l-lt16.true ∙ sym (can_list_more _ _ c.if-l-lt16.true)

pub returns-else-l-lt16 : goal.returns-else-l-lt16
returns-else-l-lt16 c = c.is_listed.ensures ∙ sym (can_list_full _ _ c.if-l-lt16.false)
