use Rattle.std.proofs.Common.{sym, ◌∙◌}
use Rattle.store_check.proofs.Floor.{right_no, right_is}
use Rattle.store_check.proofs.Steps.{book_is, book_asked}
use Rattle.store_check.proofs.check_book.Goals as goal

pub five_each-requires : goal.five_each-requires
five_each-requires c = book_asked _ _ _ c.of-rows.ensures c.partition_count.ensures c.requires

pub floor_of-requires : goal.floor_of-requires
floor_of-requires c = book_asked _ _ _ c.of-rows.ensures c.partition_count.ensures c.requires

pub from_floor-requires : goal.from_floor-requires
from_floor-requires c = book_asked _ _ _ c.of-rows.ensures c.partition_count.ensures c.requires

pub returns-then-five_each : goal.returns-then-five_each
returns-then-five_each c =
    c.from_floor.ensures
    ∙ sym (right_is _ _ _ _ (sym c.five_each.ensures ∙ c.if-five_each.true) _ c.floor_of.ensures)
    ∙ book_is _ _ _ c.of-rows.ensures c.partition_count.ensures

pub returns-else-five_each : goal.returns-else-five_each
returns-else-five_each c =
    let b = sym c.five_each.ensures ∙ c.if-five_each.false in
    c.if-five_each.false
    ∙ sym (right_no _ _ _ _ b)
    ∙ book_is _ _ _ c.of-rows.ensures c.partition_count.ensures
