use Rattle.std.proofs.Common.{◌∙◌, arith}
use Rattle.store.specs.Rows.{rows_of}
use Rattle.block.proofs.Onward.{starts_inside, starts}
use Rattle.block.proofs.run.run.Goals as goal

pub run_on-requires : goal.run_on-requires
run_on-requires c =
    let a = c.args in (
      c.requires.right,
      c.requires.sound,
      omega (arith, c.requires.below),
      starts_inside a.ops.now a.operands.now (rows_of a.store.now a.partition) a.begin a.registers c.no_pending.result
          c.no_pending.ensures c.requires.begins,
    )

pub returns : goal.returns
returns c =
    let a = c.args in (
      c.run_on.ensures.0,
      c.run_on.ensures.1
          ∙ starts a.ops.now a.operands.now (rows_of a.store.now a.partition) a.begin a.registers c.no_pending.result
          c.no_pending.ensures,
    )
