use Rattle.std.proofs.Common.{arith}
use Rattle.listing.proofs.Printing.{printing_more, printing_done}
use Rattle.listing.proofs.Steps.{partitions_none, partitions_more}
use Rattle.listing.proofs.print_store.Goals as goal

pub loop-partition-preserved : goal.loop-partition-preserved
loop-partition-preserved c =
    let h = c.loop-partition-test.true in (
      omega (arith, c.print_partition-written.ensures),
      printing_more c.loop-partition.invariant.1 _ _ (partitions_more _ _ _ _ (omega arith)) c.print_partition-written.ensures.0,
    )

pub returns : goal.returns
returns c = let h = c.loop-partition-test.false in printing_done c.loop-partition.invariant.1 (partitions_none _ _ _ (omega arith))
