use Rattle.std.proofs.Common.{◌≡◌, ap, ◌∙◌, ◌≤◌, ◌<◌, arith, length, take, Some, None}
use Rattle.std.specs.List.{position}
use Rattle.worklist.specs.Worklist.{has_id, no_entry, place_at}
use Rattle.worklist.proofs.Means.{right_count}
use Rattle.worklist.proofs.Places.{found, absent}
use Rattle.worklist.proofs.Kept.{without_nowhere, without_here}
use Rattle.worklist.proofs.without_id.Goals as goal

pub entries-requires : goal.entries-requires
entries-requires c = right_count _ _ c.requires

pub returns-in_default : goal.returns-in_default
returns-in_default c =
    let n : c.args.l.count ≤ length c.args.l.places = omega (arith, right_count _ _ c.requires) in
    let at : position (has_id c.args.id) (take c.args.l.count c.args.l.places) ≡ None = cc in
    without_nowhere _ _ (absent _ _ _ n at)

pub copy_within-requires-clause-in_bounds : goal.copy_within-requires-clause-in_bounds
copy_within-requires-clause-in_bounds c = omega (arith, right_count _ _ c.requires)

pub copy_within-requires-clause-dest_in_bounds : goal.copy_within-requires-clause-dest_in_bounds
copy_within-requires-clause-dest_in_bounds c =
    let n : c.args.l.count ≤ length c.args.l.places = omega (arith, right_count _ _ c.requires) in
    let at : position (has_id c.args.id) (take c.args.l.count c.args.l.places) ≡ Some c.in-Some.place = cc in
    let first = found _ _ _ n _ at in
    omega (arith, first.within)

pub returns : goal.returns
returns c =
    let es = c.args.l.places in
    let n : c.args.l.count ≤ length es = omega (arith, right_count _ _ c.requires) in
    let at : position (has_id c.args.id) (take c.args.l.count es) ≡ Some c.in-Some.place = cc in
    let first = found _ _ _ n _ at in
    let h : c.in-Some.place < c.args.l.count = first.within in
    let e = c.copy_within.ensures.by_index in
    without_here _ _ _ first _ c.copy_within.ensures.len
    (λ k q. e.1 k no_entry q)
    (λ k q q'. e.0 k no_entry q (omega arith) ∙ ap (place_at es) (omega arith))
    (λ k q. e.2 k no_entry (omega arith))
