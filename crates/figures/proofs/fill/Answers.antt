use Rattle.std.proofs.Common.{◌≡◌, ◌∙◌, ap, subst, true, false, suc, ◌+◌, ◌-◌, ◌<◌, length, drop, eqb, arith}
use Rattle.questions.specs.Basics.{if◌then◌otherwise◌}
use Rattle.rules.specs.Blocks.{through_end}
use Rattle.operation.specs.Operations.{op_begin, op_end}
use Rattle.code.specs.Meaning.{code_of}
use Rattle.code.specs.Questions.{inside_at}
use Rattle.figures.specs.Counted.{Filled}
use Rattle.figures.proofs.Table.{outside_last, no_end_last, nothing_filled, side_before, end_before, one_filled}
use Rattle.figures.proofs.fill.Goals as goal

pub loop-index-init : goal.loop-index-init
loop-index-init c =
    record {
      in_code = omega arith;
      side = outside_last _ _ c.requires.0;
      end = no_end_last _ _ c.requires.0;
      filled = nothing_filled _ _ _ _ c.requires.1;
    }

pub most_at-requires-clause-reached : goal.most_at-requires-clause-reached
most_at-requires-clause-reached c =
    let ops = c.args.ops.now in
    let l = c.loop-index in
    let k = l.index - 1 in
    let next : l.index ≡ suc k = omega (arith, c.loop-index-test.true) in
    let here : k < length ops = omega (arith, c.loop-index-test.true, l.invariant.in_code) in
    record {
      sized = c.requires.0;
      in_code = here;
      side =
          c.inside_before-inside.ensures
          ∙ ap (λ n. if◌then◌otherwise◌ (eqb n op_end) true (if◌then◌otherwise◌ (eqb n op_begin) false l.inside)) c.operation_of-op.ensures
          ∙ side_before _ _ c.requires.0 k here l.inside (l.invariant.side ∙ ap (inside_at ops) next);
      end = l.invariant.end ∙ ap (λ n. n + through_end (drop n (code_of ops c.args.operands.now))) next;
    }

pub loop-index-preserved : goal.loop-index-preserved
loop-index-preserved c =
    let ops = c.args.ops.now in
    let ws = c.args.operands.now in
    let l = c.loop-index in
    let k = l.index - 1 in
    let next : l.index ≡ suc k = omega (arith, c.loop-index-test.true) in
    let next_one : l.index ≡ k + 1 = omega (arith, c.loop-index-test.true) in
    let here : k < length ops = omega (arith, c.loop-index-test.true, l.invariant.in_code) in
    let ahead = l.invariant.end ∙ ap (λ n. n + through_end (drop n (code_of ops ws))) next in
    record {
      in_code = omega (arith, here);
      side =
          c.inside_before-inside.ensures
          ∙ ap (λ n. if◌then◌otherwise◌ (eqb n op_end) true (if◌then◌otherwise◌ (eqb n op_begin) false l.inside)) c.operation_of-op.ensures
          ∙ side_before _ _ c.requires.0 k here l.inside (l.invariant.side ∙ ap (inside_at ops) next);
      end =
          c.behind_before-behind.ensures
          ∙ ap (λ n. if◌then◌otherwise◌ (eqb n op_end) (k + 1) l.behind) c.operation_of-op.ensures
          ∙ end_before _ _ c.requires.0 k here l.behind ahead;
      filled =
          one_filled _ _ _ l.most k _ here (subst (λ n. Filled c.args.by ops ws n l.most) next_one l.invariant.filled) c.most_at.ensures;
    }
