use Rattle.std.proofs.Common.{rules, ◌≡◌, refl, sym, ◌∙◌, ap, length, arith}
use Rattle.questions.specs.Verdicts.{verdict_of}
use Rattle.questions.proofs.Chains.{first_all, first_done, first_yes, first_stop}
use Rattle.pack.specs.Layout.{count, first_of}
use Rattle.pack.specs.Refusal.{workflow_no}
use Rattle.pack.proofs.Sizes.{first_next, few_instructions, operations_within, operands_within, length_operations, length_operands}
use Rattle.pack.proofs.Workflows.{operations_are, operands_are, parts_of_lem}
use Rattle.pack.proofs.check_workflows.Goals as goal

pub loop-workflow-init : goal.loop-workflow-init
unfolding first_of
loop-workflow-init c = record { begins = refl; ahead = sym (first_all (workflow_no c.args.pack.now) (count c.args.pack.now)) }

pub overflow_add-operations : goal.overflow_add-operations
overflow_add-operations c =
    omega (
      arith,
      few_instructions c.args.pack.now c.requires c.loop-workflow.workflow c.loop-workflow-test.true,
      c.loop-workflow.invariant.begins,
    )

pub part-ops-requires : goal.part-ops-requires
part-ops-requires c =
    omega (
      arith,
      operations_within c.args.pack.now c.requires c.loop-workflow.workflow c.loop-workflow-test.true,
      c.loop-workflow.invariant.begins,
    )

pub overflow_mul-first : goal.overflow_mul-first
overflow_mul-first c =
    omega (
      arith,
      few_instructions c.args.pack.now c.requires c.loop-workflow.workflow c.loop-workflow-test.true,
      c.loop-workflow.invariant.begins,
    )

pub overflow_add-operands : goal.overflow_add-operands
overflow_add-operands c =
    omega (
      arith,
      few_instructions c.args.pack.now c.requires c.loop-workflow.workflow c.loop-workflow-test.true,
      c.loop-workflow.invariant.begins,
      c.requires.short,
      c.requires.few,
    )

pub part-words-requires : goal.part-words-requires
part-words-requires c =
    omega (
      arith,
      operands_within c.args.pack.now c.requires c.loop-workflow.workflow c.loop-workflow-test.true,
      c.loop-workflow.invariant.begins,
    )

pub check_workflow-requires : goal.check_workflow-requires
check_workflow-requires c =
    let o = operations_are _ _ _ _ c.loop-workflow.invariant.begins c.size_at-size.ensures _ _ c.operations_begin-operations.ensures
    c.part-ops.ensures in
    let w = operands_are _ _ _ _ c.loop-workflow.invariant.begins c.size_at-size.ensures _ _ c.operands_begin-operands.ensures
    c.part-words.ensures in
    let a = ap length o ∙ length_operations c.args.pack.now c.requires c.loop-workflow.workflow c.loop-workflow-test.true in
    let b = ap length w ∙ length_operands c.args.pack.now c.requires c.loop-workflow.workflow c.loop-workflow-test.true in
    (omega (arith, a, (c.requires.sizes c.loop-workflow.workflow c.loop-workflow-test.true).0), omega (arith, a, b))

pub returns-in_err-check_workflow : goal.returns-in_err-check_workflow
returns-in_err-check_workflow c =
    let r : c.from_residual.result ≡ c.check_workflow.result = search rules in
    let o = operations_are _ _ _ _ c.loop-workflow.invariant.begins c.size_at-size.ensures _ _ c.operations_begin-operations.ensures
    c.part-ops.ensures in
    let w = operands_are _ _ _ _ c.loop-workflow.invariant.begins c.size_at-size.ensures _ _ c.operands_begin-operands.ensures
    c.part-words.ensures in
    let told = c.check_workflow.ensures ∙ ap verdict_of (parts_of_lem _ _ _ _ o w) in
    r ∙ first_stop _ _ _ c.loop-workflow-test.true _ _ told c.in_err-check_workflow.was
    ∙ ap verdict_of (sym c.loop-workflow.invariant.ahead)

pub overflow_add-first : goal.overflow_add-first
overflow_add-first c =
    omega (
      arith,
      few_instructions c.args.pack.now c.requires c.loop-workflow.workflow c.loop-workflow-test.true,
      c.loop-workflow.invariant.begins,
    )

pub loop-workflow-preserved : goal.loop-workflow-preserved
loop-workflow-preserved c =
    let o = operations_are _ _ _ _ c.loop-workflow.invariant.begins c.size_at-size.ensures _ _ c.operations_begin-operations.ensures
    c.part-ops.ensures in
    let w = operands_are _ _ _ _ c.loop-workflow.invariant.begins c.size_at-size.ensures _ _ c.operands_begin-operands.ensures
    c.part-words.ensures in
    let told = c.check_workflow.ensures ∙ ap verdict_of (parts_of_lem _ _ _ _ o w) in
    record {
      begins =
          omega (arith, first_next c.args.pack.now c.loop-workflow.workflow, c.loop-workflow.invariant.begins, c.size_at-size.ensures);
      ahead = c.loop-workflow.invariant.ahead ∙ first_yes _ _ _ c.loop-workflow-test.true _ told c.in_ok-check_workflow.was;
    }

pub returns : goal.returns
returns c = ap verdict_of (sym (c.loop-workflow.invariant.ahead ∙ first_done _ _ _ c.loop-workflow-test.false))
