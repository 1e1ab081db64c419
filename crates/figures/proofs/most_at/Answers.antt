-- END, RETURN, BEGIN, and what leads on.
use Rattle.std.proofs.Common.{sym, ◌∙◌, subst, arith}
use Rattle.figures.specs.Counted.{MostAt}
use Rattle.figures.proofs.Steps.{most_few, end_most, return_most, begin_next, begin_few, behind_in, begin_most}
use Rattle.figures.proofs.most_at.Goals as goal

pub returns-in-7 : goal.returns-in-7
returns-in-7 c = end_most _ _ _ _ _ c.requires.reached c.args.by (sym c.operation_of.ensures ∙ c.in-7.is)

pub returns-in-11 : goal.returns-in-11
returns-in-11 c =
    subst (MostAt c.args.by c.args.ops.now c.args.operands.now c.args.index) (sym c.one_of.ensures)
    (return_most _ _ _ _ _ c.requires.reached c.args.by (sym c.operation_of.ensures ∙ c.in-11.is))

pub bounds-most-index : goal.bounds-most-index
bounds-most-index c =
    let q = c.requires in
    omega (arith, q.filled.long, begin_next _ _ _ _ _ q.reached c.args.by _ q.filled (sym c.operation_of.ensures ∙ c.in-6.is))

pub block_of-requires : goal.block_of-requires
block_of-requires c =
    let q = c.requires in begin_few _ _ _ _ _ q.reached c.args.by _ q.filled (sym c.operation_of.ensures ∙ c.in-6.is)

pub offset_bounds-most-behind : goal.offset_bounds-most-behind
offset_bounds-most-behind c =
    let q = c.requires in
    omega (arith, q.reached.sized.few, behind_in _ _ _ _ _ q.reached c.args.by _ q.filled (sym c.operation_of.ensures ∙ c.in-6.is))

pub bounds-most-behind : goal.bounds-most-behind
bounds-most-behind c =
    let q = c.requires in
    omega (arith, q.filled.long, behind_in _ _ _ _ _ q.reached c.args.by _ q.filled (sym c.operation_of.ensures ∙ c.in-6.is))

pub returns-in-6 : goal.returns-in-6
returns-in-6 c =
    let a = c.args in
    let q = c.requires in
    rw (c.block_of.ensures, c.word_in.ensures) (begin_most _ _ _ _ _ q.reached a.by _ q.filled (sym c.operation_of.ensures ∙ c.in-6.is))

pub overflow_add-result : goal.overflow_add-result
overflow_add-result c = omega (arith, most_few _ _ _ _ _ c.requires.reached c.args.by _ (returns-in-6 c))
