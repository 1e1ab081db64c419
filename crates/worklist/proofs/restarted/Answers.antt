use Rattle.std.proofs.Common.{sym, ◌∙◌, ◌≤◌, arith, length}
use Rattle.std.proofs.lemmas.List.{length-take-le}
use Rattle.worklist.proofs.Means.{right_count}
use Rattle.worklist.proofs.Kept.{restarted_front, restarted_wrong}
use Rattle.worklist.proofs.restarted.Goals as goal

pub returns-then-not-is_right : goal.returns-then-not-is_right
returns-then-not-is_right c = restarted_wrong _ (sym c.is_right.ensures ∙ c.if-not-is_right.true)

pub slice_bounds-places-end : goal.slice_bounds-places-end
slice_bounds-places-end c = omega (arith, right_count _ _ (sym c.is_right.ensures ∙ c.if-not-is_right.false))

pub slice_bounds-mark_waiting-end : goal.slice_bounds-mark_waiting-end
slice_bounds-mark_waiting-end c =
    let n : c.args.l.count ≤ length c.args.l.places =
    omega (arith, right_count _ _ (sym c.is_right.ensures ∙ c.if-not-is_right.false)) in
    sym (length-take-le _ _ n)

pub returns : goal.returns
returns c =
    let right = sym c.is_right.ensures ∙ c.if-not-is_right.false in
    let n : c.args.l.count ≤ length c.args.l.places = omega (arith, right_count _ _ right) in
    let long = length-take-le c.args.l.count c.args.l.places n in
    restarted_front _ right _ n (c.mark_waiting.auto.entries ∙ long) (λ k h. c.mark_waiting.ensures k (omega arith))
