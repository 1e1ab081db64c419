use Rattle.std.proofs.Common.{[], ap, arith}
use Rattle.rules.specs.Courses.{Course}
use Rattle.instruction.specs.Step.{place_of}
use Rattle.turn.proofs.Standing.{behind_short}
use Rattle.turn.proofs.leave_block.Goals as goal

pub stand_at-requires : goal.stand_at-requires
stand_at-requires c =
    let l = behind_short c.args.ops.now [] (place_of c.args.begin) c.in-Ok.value c.requires.0 in
    let e = ap (λ (x : Course). x.place.position) (c.behind_block.ensures []) in
    omega (arith, l, e, c.requires.1)
