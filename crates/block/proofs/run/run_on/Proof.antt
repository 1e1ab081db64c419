-- `block::run::run_on` meets its contract. The loop's invariant: the run stands inside the block, and what the rules make of it from here
-- is what they make of it from the start.
use mathlib.Core.Path.{◌≡◌, refl, sym, ◌∙◌}
use Prim.Native.Nat.{◌-◌}
use native.Mathlib.Omega.{arith}
use borrow.Author.Rules.{rules}
use lib.ListN.{length, get_or}
use Rattle.rules.specs.Instructions.{act}
use Rattle.store.specs.Rows.{rows_of}
use Rattle.code.specs.Meaning.{instruction_of}
use Rattle.operation.specs.Operations.{op_end}
use Rattle.code.specs.Layout.{operation_at, word_at}
use Rattle.instruction.specs.Step.{place_of, puts_of, Stepped}
use Rattle.block.specs.Run.{Inside, run_of}
use Rattle.block.proofs.Inside.{fits_here}
use Rattle.block.proofs.Onward.{goes_further, runs_on, run_ends, run_none}
use Rattle.block.proofs.run.run_on.Statement.{statement}
use Rattle.block.proofs.run.run_on.Tie as tie

abbrev invariant-loop : tie.invariant-loop-x
invariant-loop ops operands store partition x₀ x =
    Inside ops x × (run_of ops operands (rows_of store partition) x ≡ run_of ops operands (rows_of store partition) x₀)

abbrev decreases-loop : tie.decreases-loop-x
decreases-loop ops operands store partition x₀ x = length ops - x.place.position

-- From the byte that was read back to the loop's test, to where the loop stood, and to the start.
abbrev within_code : tie.After-operation_of invariant-loop decreases-loop → tie.In-loop-x invariant-loop decreases-loop
within_code oo = oo.before.before.before

abbrev standing : tie.In-loop-x invariant-loop decreases-loop → tie.At-loop-x invariant-loop decreases-loop
standing il = il.before.before

abbrev start : tie.At-loop-x invariant-loop decreases-loop → tie.Start invariant-loop decreases-loop
start lp = lp.before.before.before.before

-- what a turn of the loop has done
stepped : (c : tie.After-step-x invariant-loop decreases-loop) →
    let lp = standing (within_code c.before.before.before) in
    let a = (start lp).args in
    let at = lp.loop-x.x.place.position in
    Stepped (act (instruction_of (get_or a.ops.now at 0) (word_at a.operands.now at)) (place_of lp.loop-x.x.place))
    (rows_of a.store.now a.partition) lp.loop-x.x c.step-x.result (puts_of (operation_at a.ops.now at))
stepped c = rw c.word_in-word.ensures at c.step-x.ensures

pub run_on_spec : {M : Type 1} → statement M
run_on_spec =
    tie.close
    (tie.spec
    invariant-loop
    decreases-loop
    (λ c. (c.requires.3, refl))
    (λ c. search rules)
    (λ c κs. search rules)
    (λ c κs. search rules)
    (λ c. search rules)
    (λ c. search rules)
    (λ c. search rules)
    (λ c.
    let ro = c in
    let oo = ro.before.before.before.before in
    let il = within_code oo in
    let lp = standing il in
    let st = start lp in
    let a = st.args in (
      lp.loop-x.invariant.0.kept,
      run_ends a.ops.now a.operands.now st.requires.0 (rows_of a.store.now a.partition) lp.loop-x.x _ refl il.loop-x-test.true
          (sym oo.operation_of.ensures ∙ ro.if-operation_of-eq-END.true) _ ro.register_of-d.ensures refl
          ∙ lp.loop-x.invariant.1,
    ))
    (λ c κs.
    let il = c.before.before.before.before in
    omega (arith, il.loop-x-test.true, (start (standing il)).requires.0.sized))
    (λ c κs.
    let oo = c.before.before in
    let il = within_code oo in
    let lp = standing il in
    let st = start lp in
    let a = st.args in
    let i = lp.loop-x.invariant.0 in (
      (st.requires.1, st.requires.2, i.kept, search rules),
      fits_here a.ops.now a.operands.now st.requires.0 lp.loop-x.x _ il.loop-x-test.true i
          (λ q. c.if-operation_of-eq-END.false (oo.operation_of.ensures ∙ q)) c.word_in-word.ensures,
    ))
    (λ c.
    let el = c in
    let oo = el.before.before.before in
    let il = within_code oo in
    let lp = standing il in
    let st = start lp in
    let a = st.args in
    let f = goes_further a.ops.now a.operands.now st.requires.0 (rows_of a.store.now a.partition) lp.loop-x.x
    c.step-x.result il.loop-x-test.true lp.loop-x.invariant.0 (λ q. el.if-operation_of-eq-END.false (oo.operation_of.ensures ∙ q)) (stepped c) in
    omega (arith, f.further, il.loop-x-test.true))
    (λ c.
    let el = c in
    let oo = el.before.before.before in
    let il = within_code oo in
    let lp = standing il in
    let st = start lp in
    let a = st.args in
    let n : operation_at a.ops.now lp.loop-x.x.place.position ≡ op_end → ⊥ = λ q. el.if-operation_of-eq-END.false (oo.operation_of.ensures ∙ q) in (
      (goes_further a.ops.now a.operands.now st.requires.0 (rows_of a.store.now a.partition) lp.loop-x.x c.step-x.result
          il.loop-x-test.true lp.loop-x.invariant.0 n (stepped c)).inside,
      sym (runs_on a.ops.now a.operands.now st.requires.0 (rows_of a.store.now a.partition) lp.loop-x.x c.step-x.result
          il.loop-x-test.true lp.loop-x.invariant.0 n (stepped c))
          ∙ lp.loop-x.invariant.1,
    ))
    (λ c.
    let al = c in
    let lp = al.before.before.before in
    let st = start lp in
    let a = st.args in (
      lp.loop-x.invariant.0.kept,
      run_none a.ops.now a.operands.now st.requires.0 (rows_of a.store.now a.partition) lp.loop-x.x _ refl
          al.loop-x-test.false refl
          ∙ lp.loop-x.invariant.1,
    )))
