-- Of the partitions that were passed the log rows of smaller ids are removed.
use Rattle.retiring.specs.Retiring.{LogsFrom}
use Rattle.retiring.proofs.retire_logs.Given as goal

abbrev pub invariant-loop-partition : goal.invariant-loop-partition
invariant-loop-partition l = LogsFrom l.fn.floor l.fn.store l.store l.partition
