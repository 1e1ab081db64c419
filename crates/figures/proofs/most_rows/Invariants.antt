-- The partitions before this one have their most rows.
use Rattle.std.proofs.Common.{◌≡◌, length}
use Rattle.figures.proofs.Table.{RowsUpTo}
use Rattle.figures.proofs.most_rows.Given as goal

abbrev pub invariant-loop-partition : goal.invariant-loop-partition
invariant-loop-partition l = record { eight : length l.rows ≡ 8; up_to : RowsUpTo l.ops l.operands l.partition l.rows }
