-- The partitions still to be asked answer for all.
use Rattle.std.proofs.Common.{◌≡◌, ◌-◌}
use Rattle.questions.specs.Basics.{each_from}
use Rattle.store.specs.Questions.{keys_apart, part_ok_by, question11_in_any_order}
use Rattle.store_check.proofs.any_order.check_each.Given as goal

abbrev pub invariant-loop-partition : goal.invariant-loop-partition
invariant-loop-partition l =
    each_from (part_ok_by keys_apart l.store) (l.partition-end - l.partition) l.partition ≡ question11_in_any_order l.store
