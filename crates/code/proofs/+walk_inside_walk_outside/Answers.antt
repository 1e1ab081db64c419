-- A walk asks what is right of the instruction that comes next; what turns the side hands over, with fewer instructions ahead.
use Rattle.std.proofs.Common.{rules, Err, ◌≡◌, refl, sym, ◌∙◌, ap, ◌+◌, true, false, eqb, arith}
use Rattle.questions.specs.Basics.{if◌then◌otherwise◌}
use Rattle.questions.specs.Verdicts.{verdict_of}
use Rattle.questions.proofs.Chains.{accepted, first_yes, first_stop, first_done}
use Rattle.operation.specs.Operations.{op_end, op_put}
use Rattle.code.specs.Layout.{operation_at}
use Rattle.code.specs.Stopped.{at_place, stopped}
use Rattle.code.proofs.Steps.{stays, stays_inside, puts_next, puts_few, turns}
use Rattle.code.proofs.+walk_inside_walk_outside.Goals as goal

pub walk_inside-returns-in-Err : goal.walk_inside-returns-in-Err
walk_inside-returns-in-Err t c w =
    first_stop _ _ _ c.loop-i-test.true _ _ (sym (ap (at_place w c.loop-i.i) c.in-Err.is) ∙ c.judge.ensures w) refl
    ∙ ap verdict_of (sym (c.loop-i.invariant.ahead w))

pub walk_inside-walk_outside-requires : goal.walk_inside-walk_outside-requires
walk_inside-walk_outside-requires t c =
    let o = turns c.args.ops.now c.loop-i.i true (sym c.operation_of-op.ensures ∙ c.if-op-eq-END.true) in
    (omega (arith, c.decreases, c.loop-i-test.true, c.loop-i.auto.i), (c.requires.operands_len, o.0))

pub walk_inside-returns-in_err-walk_outside : goal.walk_inside-returns-in_err-walk_outside
walk_inside-returns-in_err-walk_outside t c w =
    let r : c.from_residual.result ≡ Err c.in_err-walk_outside.field-0.0 = search rules in
    ap (stopped w) (r ∙ sym c.in_err-walk_outside.was) ∙ c.walk_outside.ensures w
    ∙ ap verdict_of
    (sym (c.loop-i.invariant.ahead w
    ∙ first_yes _ _ _ c.loop-i-test.true _ (c.judge.ensures w) (ap (at_place w c.loop-i.i) c.in_default.is)))

pub walk_inside-returns-then-op-eq-END : goal.walk_inside-returns-then-op-eq-END
walk_inside-returns-then-op-eq-END t c w =
    ap (stopped w) (sym c.in_ok-walk_outside.was) ∙ c.walk_outside.ensures w
    ∙ ap verdict_of
    (sym (c.loop-i.invariant.ahead w
    ∙ first_yes _ _ _ c.loop-i-test.true _ (c.judge.ensures w) (ap (at_place w c.loop-i.i) c.in_default.is)))

pub walk_inside-loop-i-preserved : goal.walk_inside-loop-i-preserved
walk_inside-loop-i-preserved t c =
    let now = c.loop-i.invariant in
    let yes = accepted _ _ (c.judge.ensures 0) (ap (at_place 0 c.loop-i.i) c.in_default.is) in
    let goes_on = λ (q : operation_at c.args.ops.now c.loop-i.i ≡ op_end). c.if-op-eq-END.false (c.operation_of-op.ensures ∙ q) in
    let counted = ap (λ n. if◌then◌otherwise◌ (eqb n op_put) (c.loop-i.puts + 1) c.loop-i.puts) (sym c.operation_of-op.ensures)
    ∙ sym c.puts_behind-puts.ensures in
    record {
      inside = stays_inside _ _ _ c.loop-i.i yes now.inside goes_on;
      counted =
          puts_next _ _ _ c.loop-i.i yes now.inside goes_on
          ∙ ap (λ n. if◌then◌otherwise◌ (eqb (operation_at c.args.ops.now c.loop-i.i) op_put) (n + 1) n) now.counted ∙ counted;
      few = rw counted at (puts_few _ _ _ c.loop-i.i yes c.loop-i.puts now.counted now.few);
      ahead = λ w. now.ahead w ∙ first_yes _ _ _ c.loop-i-test.true _ (c.judge.ensures w) (ap (at_place w c.loop-i.i) c.in_default.is);
    }

pub walk_inside-returns : goal.walk_inside-returns
walk_inside-returns t c w = ap verdict_of (sym (c.loop-i.invariant.ahead w ∙ first_done _ _ _ c.loop-i-test.false))

pub walk_outside-returns-in-Err : goal.walk_outside-returns-in-Err
walk_outside-returns-in-Err t c w =
    first_stop _ _ _ c.loop-i-test.true _ _ (sym (ap (at_place w c.loop-i.i) c.in-Err.is) ∙ c.judge.ensures w) refl
    ∙ ap verdict_of (sym (c.loop-i.invariant.ahead w))

pub walk_outside-walk_inside-requires : goal.walk_outside-walk_inside-requires
walk_outside-walk_inside-requires t c =
    let o = turns c.args.ops.now c.loop-i.i false (sym c.operation_of.ensures ∙ c.if-operation_of-eq-BEGIN.true) in
    (omega (arith, c.decreases, c.loop-i-test.true, c.loop-i.auto.i), (c.requires.operands_len, o))

pub walk_outside-returns-in_err-walk_inside : goal.walk_outside-returns-in_err-walk_inside
walk_outside-returns-in_err-walk_inside t c w =
    let r : c.from_residual.result ≡ Err c.in_err-walk_inside.field-0.0 = search rules in
    ap (stopped w) (r ∙ sym c.in_err-walk_inside.was) ∙ c.walk_inside.ensures w
    ∙ ap verdict_of
    (sym (c.loop-i.invariant.ahead w
    ∙ first_yes _ _ _ c.loop-i-test.true _ (c.judge.ensures w) (ap (at_place w c.loop-i.i) c.in_default.is)))

pub walk_outside-returns-then-operation_of-eq-BEGIN : goal.walk_outside-returns-then-operation_of-eq-BEGIN
walk_outside-returns-then-operation_of-eq-BEGIN t c w =
    ap (stopped w) (sym c.in_ok-walk_inside.was) ∙ c.walk_inside.ensures w
    ∙ ap verdict_of
    (sym (c.loop-i.invariant.ahead w
    ∙ first_yes _ _ _ c.loop-i-test.true _ (c.judge.ensures w) (ap (at_place w c.loop-i.i) c.in_default.is)))

pub walk_outside-loop-i-preserved : goal.walk_outside-loop-i-preserved
walk_outside-loop-i-preserved t c =
    let yes = accepted _ _ (c.judge.ensures 0) (ap (at_place 0 c.loop-i.i) c.in_default.is) in
    record {
      outside = stays _ _ _ c.loop-i.i yes false c.loop-i.invariant.outside (λ q. c.if-operation_of-eq-BEGIN.false (c.operation_of.ensures ∙ q));
      ahead =
          λ w. c.loop-i.invariant.ahead w ∙ first_yes _ _ _ c.loop-i-test.true _ (c.judge.ensures w) (ap (at_place w c.loop-i.i) c.in_default.is);
    }

pub walk_outside-returns : goal.walk_outside-returns
walk_outside-returns t c w = ap verdict_of (sym (c.loop-i.invariant.ahead w ∙ first_done _ _ _ c.loop-i-test.false))
