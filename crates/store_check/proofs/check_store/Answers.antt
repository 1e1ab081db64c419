use Rattle.std.proofs.Common.{sym, ◌∙◌}
use Rattle.store.proofs.Sound.{sound_of}
use Rattle.store_check.proofs.Asked.{yes_said, shape_said}
use Rattle.store_check.proofs.check_store.Goals as goal

pub check_partitions-requires : goal.check_partitions-requires
check_partitions-requires c = shape_said _ _ c.check_shape.ensures c.in_ok-check_shape.was

pub check_book-requires : goal.check_book-requires
check_book-requires c =
    sound_of _ (shape_said _ _ c.check_shape.ensures c.in_ok-check_shape.was)
    (sym c.check_partitions.ensures ∙ yes_said _ _ _ c.ask.ensures c.in_ok-ask.was)
