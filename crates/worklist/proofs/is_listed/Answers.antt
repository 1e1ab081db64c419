use Rattle.std.proofs.Common.{ap, ◌∙◌, ◌≤◌, length, arith}
use Rattle.std.specs.List.{list_any}
use Rattle.worklist.specs.Worklist.{has_id}
use Rattle.worklist.proofs.Means.{right_count, listed_is}
use Rattle.worklist.proofs.is_listed.Goals as goal

pub entries-requires : goal.entries-requires
entries-requires c = right_count _ _ c.requires

pub returns : goal.returns
returns c =
    let n : c.args.l.count ≤ length c.args.l.places = omega (arith, right_count _ _ c.requires) in
    c.lists.ensures ∙ ap (list_any (has_id c.args.id)) c.entries.ensures ∙ listed_is _ _ _ n
