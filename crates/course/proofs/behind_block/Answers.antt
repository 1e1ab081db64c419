-- The position is the one behind the block.
use Rattle.std.proofs.Common.{ap, set}
use Rattle.rules.specs.Blocks as Blocks
use Rattle.rules.specs.Courses as Courses
use Rattle.rules.specs.Courses.{going}
use Rattle.course.proofs.behind_block.Goals as goal

pub returns : goal.returns
unfolding Courses.passed Blocks.after_block
returns c ws =
    ap (λ n. going (record { position = n; registers = set c.args.begin.registers 0 c.args.value })) (c.behind_end-position.ensures ws)
