use Rattle.schedule_check.proofs.Steps.{nine}
use Rattle.schedule_check.proofs.numbers_right.Goals as goal

pub returns : goal.returns
returns c = nine _ _ _ _ c.requires c.partition_count.ensures c.capacity.ensures c.numbers_right.ensures
