-- `lent_check::sound`: by the workflow that the book has.
use Rattle.std.proofs.Common.{refl, sym, ◌∙◌, ◌<◌, ap, not}
use Rattle.meaning.proofs.Tests.{workflow_below}
use Rattle.contents.specs.Contents.{book_rows}
use Rattle.code.specs.Questions as Q
use Rattle.pack.specs.Layout.{count}
use Rattle.contents.proofs.Book.{got_some}
use Rattle.lent_check.proofs.Steps.{sound_none, sound_long, sound_inside, sound_rest}
use Rattle.lent_check.proofs.sound.Goals as goal

pub returns-in_default : goal.returns-in_default
returns-in_default c =
    sym (sound_none c.args.pack.now (book_rows c.args.store.now) c.args.a c.booked_workflow.ensures.1
    c.booked_workflow.result c.booked_workflow.ensures.0 c.in_default.is)

pub operations_part-ops-requires-clause-workflow_bound : goal.operations_part-ops-requires-clause-workflow_bound
operations_part-ops-requires-clause-workflow_bound c =
    workflow_below c.args.pack.now c.args.store.now c.args.a.id _ c.booked_workflow.ensures.1 c.requires.2
    (got_some _ c.booked_workflow.result c.booked_workflow.ensures.0 _ c.in-Some.is)

pub is_inside-requires-clause-start_outside : goal.is_inside-requires-clause-start_outside
unfolding Q.inside_at
is_inside-requires-clause-start_outside c = refl

pub returns-then-ops-position : goal.returns-then-ops-position
returns-then-ops-position c =
    sym (sound_long c.args.pack.now (book_rows c.args.store.now) c.args.a c.booked_workflow.ensures.1 c.booked_workflow.result _
    c.booked_workflow.ensures.0 c.in-Some.is c.requires.0
    (workflow_below c.args.pack.now c.args.store.now c.args.a.id _ c.booked_workflow.ensures.1 c.requires.2
    (got_some _ c.booked_workflow.result c.booked_workflow.ensures.0 _ c.in-Some.is))
    _ c.operations_part-ops.ensures c.if-ops-position.true)

pub returns-then-not-is_inside : goal.returns-then-not-is_inside
returns-then-not-is_inside c =
    sym (sound_rest c.args.pack.now (book_rows c.args.store.now) c.args.a c.booked_workflow.ensures.1 c.booked_workflow.result _
    c.booked_workflow.ensures.0 c.in-Some.is c.requires.0
    (workflow_below c.args.pack.now c.args.store.now c.args.a.id _ c.booked_workflow.ensures.1 c.requires.2
    (got_some _ c.booked_workflow.result c.booked_workflow.ensures.0 _ c.in-Some.is))
    _ c.operations_part-ops.ensures c.if-ops-position.false (sym c.is_inside.ensures ∙ c.if-not-is_inside.true))

pub returns-else-not-is_inside : goal.returns-else-not-is_inside
returns-else-not-is_inside c =
    ap not c.if-not-is_inside.false
    ∙ sym (sound_inside c.args.pack.now (book_rows c.args.store.now) c.args.a c.booked_workflow.ensures.1 c.booked_workflow.result _
    c.booked_workflow.ensures.0 c.in-Some.is c.requires.0
    (workflow_below c.args.pack.now c.args.store.now c.args.a.id _ c.booked_workflow.ensures.1 c.requires.2
    (got_some _ c.booked_workflow.result c.booked_workflow.ensures.0 _ c.in-Some.is))
    _ c.operations_part-ops.ensures c.if-ops-position.false (sym c.is_inside.ensures ∙ c.if-not-is_inside.false))
