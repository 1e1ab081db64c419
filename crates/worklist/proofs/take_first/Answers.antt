use Rattle.std.proofs.Common.{◌≡◌, ◌≤◌, ◌<◌, arith, length, take, Some, None}
use Rattle.std.specs.List.{position}
use Rattle.worklist.specs.Worklist.{waits}
use Rattle.worklist.proofs.Means.{right_count}
use Rattle.worklist.proofs.Places.{found, absent}
use Rattle.worklist.proofs.Kept.{none_waits, one_waits, took_none, took_one}
use Rattle.worklist.proofs.take_first.Goals as goal

pub entries-requires : goal.entries-requires
entries-requires c = right_count _ _ c.requires

pub returns-in_default-clause-first : goal.returns-in_default-clause-first
returns-in_default-clause-first c =
    let n : c.args.l.count ≤ length c.args.l.places = omega (arith, right_count _ _ c.requires) in
    let at : position waits (take c.args.l.count c.args.l.places) ≡ None = cc in
    none_waits _ (absent _ _ _ n at)

pub returns-in_default-clause-kept : goal.returns-in_default-clause-kept
returns-in_default-clause-kept c =
    let n : c.args.l.count ≤ length c.args.l.places = omega (arith, right_count _ _ c.requires) in
    let at : position waits (take c.args.l.count c.args.l.places) ≡ None = cc in
    took_none _ (absent _ _ _ n at)

pub returns-clause-first : goal.returns-clause-first
returns-clause-first c =
    let n : c.args.l.count ≤ length c.args.l.places = omega (arith, right_count _ _ c.requires) in
    let at : position waits (take c.args.l.count c.args.l.places) ≡ Some c.in-Some.place = cc in
    let first = found _ _ _ n _ at in
    let h : c.in-Some.place < length c.args.l.places = omega (arith, first.within) in
    one_waits _ _ first

pub returns-clause-kept : goal.returns-clause-kept
returns-clause-kept c =
    let n : c.args.l.count ≤ length c.args.l.places = omega (arith, right_count _ _ c.requires) in
    let at : position waits (take c.args.l.count c.args.l.places) ≡ Some c.in-Some.place = cc in
    took_one _ _ (found _ _ _ n _ at) n
