use Rattle.schedule_check.proofs.Steps.{laid_asked}
use Rattle.schedule_check.proofs.check_bytes.Goals as goal

pub events_right-requires : goal.events_right-requires
events_right-requires c = laid_asked _ _ _ c.length_right.ensures c.ask.ensures c.in_ok-ask.was

pub numbers_right-requires : goal.numbers_right-requires
numbers_right-requires c = laid_asked _ _ _ c.length_right.ensures c.ask.ensures c.in_ok-ask.was
