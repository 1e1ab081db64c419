use Rattle.std.proofs.Common.{◌≡◌, sym, ap, ◌∙◌, ◌≤◌, arith, length, eqb, take, Some, None}
use Rattle.std.proofs.lemmas.List.{get_or-take}
use Rattle.std.specs.List.{position}
use Rattle.worklist.specs.Worklist.{has_id, place_at, no_entry}
use Rattle.worklist.proofs.Means.{right_count}
use Rattle.worklist.proofs.Places.{found, absent}
use Rattle.worklist.proofs.Kept.{taken_here, taken_nowhere}
use Rattle.worklist.proofs.is_taken.Goals as goal

pub entries-entries-requires : goal.entries-entries-requires
entries-entries-requires c = right_count _ _ c.requires

pub returns-in-Some : goal.returns-in-Some
returns-in-Some c =
    let es = c.args.l.places in
    let n : c.args.l.count ≤ length es = omega (arith, right_count _ _ c.requires) in
    let p = c.in-Some.place in
    let at : position (has_id c.args.id) (take c.args.l.count es) ≡ Some p = cc in
    let first = found _ _ _ n _ at in
    ap (λ xs. eqb (place_at xs p).mark 1) c.entries-entries.ensures
    ∙ ap (λ x. eqb x.mark 1) (get_or-take _ es p no_entry first.within)
    ∙ sym (taken_here _ _ _ first)

pub returns-in-None : goal.returns-in-None
returns-in-None c =
    let n : c.args.l.count ≤ length c.args.l.places = omega (arith, right_count _ _ c.requires) in
    let at : position (has_id c.args.id) (take c.args.l.count c.args.l.places) ≡ None = cc in
    sym (taken_nowhere _ _ (absent _ _ _ n at))
