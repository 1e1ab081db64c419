use Rattle.std.proofs.Common.{sym, ◌∙◌, ◌≤◌, ◌+◌, arith, length}
use Rattle.worklist.proofs.Means.{right_many, right_badly_marked, right_twice, right_on, right_end, answered, listed_in}
use Rattle.worklist.proofs.is_right.Goals as goal
use Rattle.worklist.proofs.is_right.Goals.{then-e-gt1-via-then-e-gt1, then-e-gt1-via-else-e-gt1+then-lists}

pub returns-then-l-gt16 : goal.returns-then-l-gt16
returns-then-l-gt16 c = sym (right_many _ _ c.if-l-gt16.true)

pub returns-then-e-gt1 : goal.returns-then-e-gt1
returns-then-e-gt1 c =
    let n : c.args.l.count ≤ length c.args.l.places = omega arith in
    let whole = answered _ _ _ n c.if-l-gt16.false c.entries-entries.ensures in
    let listed = listed_in _ c.entries-entries.result.now _ (c.loop-i.i + 1) (omega arith) in
    elim c.then-e-gt1.branch [
      | then-e-gt1-via-then-e-gt1 w ↦ sym (right_badly_marked _ _ c.loop-i.i (omega arith) w.if-e-gt1.true) ∙ c.loop-i.invariant ∙ whole
      | then-e-gt1-via-else-e-gt1+then-lists w ↦
          sym (right_twice _ _ c.loop-i.i (omega arith) (listed ∙ sym w.lists.ensures ∙ w.if-lists.true)) ∙ c.loop-i.invariant ∙ whole
    ]

pub loop-i-preserved : goal.loop-i-preserved
loop-i-preserved c =
    let listed = listed_in _ c.entries-entries.result.now _ (c.loop-i.i + 1) (omega arith) in
    sym (right_on _ _ c.loop-i.i (omega arith) (omega arith) (listed ∙ sym c.lists.ensures ∙ c.if-lists.false)) ∙ c.loop-i.invariant

pub returns : goal.returns
returns c =
    let n : c.args.l.count ≤ length c.args.l.places = omega arith in
    sym (right_end _ _ c.loop-i.i (omega arith)) ∙ c.loop-i.invariant ∙ answered _ _ _ n c.if-l-gt16.false c.entries-entries.ensures
