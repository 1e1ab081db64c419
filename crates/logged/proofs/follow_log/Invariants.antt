use Rattle.std.proofs.Common.{◌≡◌, ◌-◌, length}
use Rattle.std.proofs.Math.Option.{some}
use Rattle.rules.specs.Courses.{going}
use Rattle.rules.specs.Logged.{at, reply_from}
use Rattle.code.specs.Meaning.{code_of}
use Rattle.store.specs.Rows.{store_of}
use Rattle.contents.specs.Contents.{contents_of}
use Rattle.instruction.specs.Step.{place_of}
use Rattle.logged.specs.Logged.{StandsAt}
use Rattle.logged.proofs.follow_log.Given as goal

-- The request stands in its code and outside a block, and the reply to which the log leads from there, within the moves that are left, is the
-- one to which it leads from the start.
abbrev pub invariant-loop : goal.invariant-loop
invariant-loop l =
    let log = (contents_of (store_of l.store)).log in
    let code = code_of l.ops l.operands in
    let all = length l.ops in
    StandsAt l.ops l.operands l.at l.at_step
    × (reply_from log l.id code (all - l.counter) (some (at (going (place_of l.at)) l.at_step))
    ≡ reply_from log l.id code all (some (at (going (place_of l.fn.start)) 0)))
