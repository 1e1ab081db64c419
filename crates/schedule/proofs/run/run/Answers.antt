use Rattle.schedule.proofs.Goes.{allowed, none_said, printed_run, printed_refused}
use Rattle.std.proofs.Common.{rules}
use Rattle.schedule.proofs.run.run.Goals as goal

pub run_in-requires : goal.run_in-requires
run_in-requires c = (allowed _ _ (none_said _ _ _ c.check_schedule.ensures c.in-Ok.is), search rules, search rules)

pub returns-in-Ok : goal.returns-in-Ok
returns-in-Ok c =
    (printed_run _ _ _ c.check_schedule.ensures _ _ _ c.in-Ok.is c.run_in.ensures.0, c.run_in.ensures.1, c.run_in.ensures.2)

pub returns-in-Err : goal.returns-in-Err
returns-in-Err c =
    let a = c.refused_line.ensures.0 in
    (printed_refused _ _ _ c.check_schedule.ensures _ _ _ _ _ c.in-Err.is a, a.room, a.stays)
