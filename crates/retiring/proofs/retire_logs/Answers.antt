use Rattle.retiring.proofs.Logs.{logs_more}
use Rattle.retiring.proofs.retire_logs.Goals as goal

pub loop-partition-preserved : goal.loop-partition-preserved
loop-partition-preserved c = logs_more _ _ _ _ _ _ c.loop-partition.invariant c.log_key-low.ensures.0 c.keep_from.ensures.0
