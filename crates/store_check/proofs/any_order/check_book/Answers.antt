use Rattle.std.proofs.Common.{sym, ◌∙◌, arith}
use Rattle.store_check.proofs.Floor.{right_no, right_is}
use Rattle.store_check.proofs.Steps.{places_fit, book_is}
use Rattle.store_check.proofs.any_order.check_book.Goals as goal

pub book_whole-requires : goal.book_whole-requires
book_whole-requires c = let e = c.partition_count.ensures in places_fit _ _ _ c.of-rows.ensures c.requires (omega arith)

pub floor_of-requires : goal.floor_of-requires
floor_of-requires c = let e = c.partition_count.ensures in places_fit _ _ _ c.of-rows.ensures c.requires (omega arith)

pub none_below-requires : goal.none_below-requires
none_below-requires c = let e = c.partition_count.ensures in places_fit _ _ _ c.of-rows.ensures c.requires (omega arith)

pub returns-then-book_whole : goal.returns-then-book_whole
returns-then-book_whole c =
    c.none_below.ensures
    ∙ sym (right_is _ _ _ _ (sym c.book_whole.ensures ∙ c.if-book_whole.true) _ c.floor_of.ensures)
    ∙ book_is _ _ _ c.of-rows.ensures c.partition_count.ensures

pub returns-else-book_whole : goal.returns-else-book_whole
returns-else-book_whole c =
    c.if-book_whole.false
    ∙ sym (right_no _ _ _ _ (sym c.book_whole.ensures ∙ c.if-book_whole.false))
    ∙ book_is _ _ _ c.of-rows.ensures c.partition_count.ensures
