-- `instruction::step` meets its contract.
use mathlib.Core.Path.{sym, ◌∙◌}
use native.Mathlib.Omega.{arith}
use borrow.Author.Rules.{rules}
use Rattle.store.specs.Rows.{rows_of}
use Rattle.instruction.proofs.Steps.{get_step, has_step, put_step, move_step}
use Rattle.instruction.proofs.step.Statement.{statement}
use Rattle.instruction.proofs.step.Tie as tie

pub step_spec : {M : Type 1} → statement M
step_spec =
    tie.close
    (tie.spec
    (λ c κs. search rules)
    (λ c κs. search rules)
    (λ c. search rules)
    (λ c κs. search rules)
    (λ c κs. search rules)
    (λ c.
    let so = c in
    let ro = so in
    let oo = ro in
    let st = oo in
    get_step _ _ _ _ ro.register_of-d.ensures so.register_named-s.ensures.0 st.requires.1.sourced _ _ _
    (sym oo.operation_of-op.ensures ∙ c.if-op-eq-GET.true) c.got.ensures)
    (λ c κs.
    let so = c in
    let oo = so in
    let st = oo in
    (st.requires.0.2, st.requires.1.room (sym oo.operation_of-op.ensures ∙ c.if-op-eq-PUT.true), search rules, search rules, search rules))
    (λ c.
    let so = c in
    let ro = so in
    let oo = ro in
    let st = oo in
    put_step _ _ _ _ ro.register_of-d.ensures so.register_named-s.ensures.0 st.requires.1.sourced _ _ _
    (sym oo.operation_of-op.ensures ∙ c.if-op-eq-PUT.true) (c.put_value.ensures (rows_of st.args.store.now st.args.partition)))
    (λ c κs. search rules)
    (λ c.
    let so = c in
    let ro = so in
    let oo = ro in
    let st = oo in
    has_step _ _ _ _ ro.register_of-d.ensures so.register_named-s.ensures.0 st.requires.1.sourced _ _ _
    (sym oo.operation_of-op.ensures ∙ c.if-op-eq-HAS.true) c.tested.ensures)
    (λ c κs.
    let e3 = c in
    let oo = e3 in
    let st = oo in
    let e = oo.operation_of-op.ensures in (
      omega (
        arith,
        e,
        st.requires.1.known,
        st.requires.1.no_begin,
        st.requires.1.no_end,
        e3.if-op-eq-HAS.false,
        e3.if-op-eq-PUT.false,
        e3.if-op-eq-GET.false,
      ),
      search rules,
      search rules,
      rw e st.requires.1.sourced,
    ))
    (λ c κs. search rules)
    (λ c.
    let mv = c in
    let e2 = mv in
    let ro = e2 in
    let oo = ro in
    let st = oo in
    let e = oo.operation_of-op.ensures in
    rw c.at_place.ensures
    (move_step _ _ _ ro.register_of-d.ensures _ _ mv.moved.result (λ q. e2.if-op-eq-PUT.false (e ∙ q)) st.requires.0.2
    (rw e at mv.moved.ensures))))
