-- `lent_check::opens_right`: what is left answers the whole.
use Rattle.std.proofs.Common.{◌≡◌, refl, sym, ◌∙◌, arith}
use Rattle.pack.specs.Layout.{count}
use Rattle.lent_check.proofs.Steps.{opens_start, opens_no, opens_on, opens_done}
use Rattle.lent_check.proofs.opens_right.Goals as goal

pub loop-instruction-init : goal.loop-instruction-init
loop-instruction-init c = opens_start _ _ _ c.first_of-instructions.ensures

pub returns-then-not-opens_below : goal.returns-then-not-opens_below
returns-then-not-opens_below c =
    sym (opens_no c.args.pack.now c.args.store.now _ c.loop-instruction.instruction (count c.args.pack.now) _ _
    c.loop-instruction-test.true refl c.first_of-instructions.ensures c.partition_count-partitions.ensures
    c.opens_below.ensures c.if-not-opens_below.true)
    ∙ c.loop-instruction.invariant

pub loop-instruction-preserved : goal.loop-instruction-preserved
loop-instruction-preserved c =
    sym (opens_on c.args.pack.now c.args.store.now _ c.loop-instruction.instruction (count c.args.pack.now) _ _
    c.loop-instruction-test.true refl c.first_of-instructions.ensures c.partition_count-partitions.ensures
    c.opens_below.ensures c.if-not-opens_below.false)
    ∙ c.loop-instruction.invariant

pub returns : goal.returns
returns c = sym (opens_done _ _ _ _ c.loop-instruction-test.false) ∙ c.loop-instruction.invariant
