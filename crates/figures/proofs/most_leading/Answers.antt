-- A jump by both ways, and what is no jump by the next.
use Rattle.std.proofs.Common.{sym, ◌∙◌, ap, eqb, arith}
use Rattle.questions.specs.Basics.{if◌then◌otherwise◌}
use Rattle.operation.specs.Parts.{target_of}
use Rattle.operation.specs.Operations.{op_put, operand_of}
use Rattle.figures.specs.Counted.{is_jump, counting_of}
use Rattle.figures.proofs.Steps.{most_few, next_in_lem, next_most, target_in, jump_most, max_larger}
use Rattle.figures.proofs.most_leading.Goals as goal

pub bounds-most-index : goal.bounds-most-index
bounds-most-index c =
    let q = c.requires in
    omega (arith, q.filled.long, next_in_lem _ _ _ _ _ q.reached.1 c.args.by _ q.filled q.goes_on.0 q.goes_on.1 q.goes_on.2)

pub bounds-most-target : goal.bounds-most-target
bounds-most-target c =
    let q = c.requires in
    let jump = ap (λ n. is_jump (operand_of n)) (sym c.operation_of-op.ensures) ∙ sym c.is_jump.ensures ∙ c.if-is_jump.true in
    omega (
      arith,
      q.filled.long,
      c.target_of-target.ensures ∙ ap target_of c.word_in.ensures,
      target_in _ _ _ _ _ q.reached.1 c.args.by _ q.filled q.goes_on.0 q.goes_on.1 q.goes_on.2 jump,
    )

pub returns-then-is_jump : goal.returns-then-is_jump
returns-then-is_jump c =
    let a = c.args in
    let q = c.requires in
    let own = c.own_of-own.result in
    let jump = ap (λ n. is_jump (operand_of n)) (sym c.operation_of-op.ensures) ∙ sym c.is_jump.ensures ∙ c.if-is_jump.true in
    let target = c.target_of-target.ensures ∙ ap target_of c.word_in.ensures in
    let counts =
    c.own_of-own.ensures ∙ ap (λ n. if◌then◌otherwise◌ a.inside (if◌then◌otherwise◌ (eqb n op_put) 1 0) (counting_of a.by).one) c.operation_of-op.ensures in
    let most = jump_most _ _ _ _ _ q.reached.1 a.by _ q.filled q.goes_on.0 q.goes_on.1 q.goes_on.2 jump own counts in
    rw (c.max.ensures, target, max_larger) most

pub overflow_add-result : goal.overflow_add-result
overflow_add-result c = omega (arith, most_few _ _ _ _ _ c.requires.reached.1 c.args.by _ (returns-then-is_jump c))

pub returns : goal.returns
returns c =
    let a = c.args in
    let q = c.requires in
    let counts =
    c.own_of-own.ensures ∙ ap (λ n. if◌then◌otherwise◌ a.inside (if◌then◌otherwise◌ (eqb n op_put) 1 0) (counting_of a.by).one) c.operation_of-op.ensures in
    next_most _ _ _ _ _ q.reached.1 a.by _ q.filled q.goes_on.0 q.goes_on.1 q.goes_on.2 _ counts
    (ap (λ n. is_jump (operand_of n)) (sym c.operation_of-op.ensures) ∙ sym c.is_jump.ensures ∙ c.if-is_jump.false)

pub overflow_add-result-2 : goal.overflow_add-result-2
overflow_add-result-2 c = omega (arith, most_few _ _ _ _ _ c.requires.reached.1 c.args.by _ (returns c))
