use Rattle.std.proofs.Common.{arith}
use Rattle.worklist.specs.Worklist.{no_worklist}
use Rattle.schedule.proofs.Listed.{same_call, restarts_empty, restarted_from, names_0, names_3, kind_0}
use Rattle.schedule.proofs.Listed.{kind_1, kind_2, kind_3, kind_4}
use Rattle.schedule.proofs.calls.call_of.Goals as goal

pub arrival_of-requires : goal.arrival_of-requires
arrival_of-requires c = (c.requires.0, names_0 _ _ _ c.in-0.is c.requires.1)

pub retry_of-requires : goal.retry_of-requires
retry_of-requires c = (c.requires.0, names_3 _ _ _ c.in-3.is c.requires.1)

pub returns-in-0 : goal.returns-in-0
returns-in-0 c = same_call _ _ (kind_0 _ _ _ _ c.in-0.is) c.arrival_of.ensures

pub returns-in-1 : goal.returns-in-1
returns-in-1 c = same_call _ _ (kind_1 _ _ _ _ c.in-1.is) (c.turn.ensures no_worklist)

pub returns-in-2 : goal.returns-in-2
returns-in-2 c = same_call _ _ (kind_2 _ _ _ _ c.in-2.is) (c.crash.ensures no_worklist)

pub returns-in-3 : goal.returns-in-3
returns-in-3 c = same_call _ _ (kind_3 _ _ _ _ c.in-3.is) c.retry_of.ensures

pub returns-in_default : goal.returns-in_default
returns-in_default c =
    same_call _ _ (kind_4 _ _ _ _ (omega arith) (omega arith) (omega arith) (omega arith))
    (restarts_empty _ _ _ _ c.restart.new.list (restarted_from _ _ _ _ c.no_worklist.ensures (c.restart.ensures _ _ _)))
