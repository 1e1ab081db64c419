use Rattle.std.proofs.Common.{rules, arith, ◌+◌}
use Rattle.store.specs.Layout.{parts_of}
use Rattle.store.specs.Questions.{part_ok, question11}
use Rattle.store_check.proofs.Ranges.{each_of_all}
use Rattle.store_check.proofs.check_partitions.Goals as goal

pub returns : goal.returns
unfolding question11
returns c =
    each_of_all _ _ _ (parts_of c.args.store.now + 1) (omega arith) c.all.ensures.ran (part_ok c.args.store.now) (λ x b q k. search rules)
