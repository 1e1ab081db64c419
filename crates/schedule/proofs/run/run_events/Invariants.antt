-- `schedule::run::run_events`: the events so far were run, and their answers printed.
use Rattle.std.proofs.Common.{◌≡◌, ◌+◌, ◌*◌, ◌≤◌, length}
use Rattle.schedule.specs.Going.{Going}
use Rattle.schedule.proofs.run.run_events.Given as goal

abbrev pub invariant-loop-event : goal.invariant-loop-event
invariant-loop-event l =
    (length l.store ≡ length l.fn.store)
    × (length l.out ≡ length l.fn.out)
    × (l.written ≤ l.fn.written + 69 * l.event)
    × Going l.pack l.schedule l.fn.out l.fn.written l.event l.store l.agents l.out l.written
