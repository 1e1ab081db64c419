-- The END that was found among the bytes behind BEGIN, or none.
use Rattle.std.proofs.lemmas.List.{take_rest}
use Rattle.course.proofs.Ends.{end_found, end_missing}
use Rattle.course.proofs.behind_end.Goals as goal

pub returns-in-Some : goal.returns-in-Some
returns-in-Some c ws = end_found c.args.ops.now c.args.begin c.requires c.in-Some.end (rw take_rest at c.in-Some.ensures) ws

pub returns-in-None : goal.returns-in-None
returns-in-None c ws = end_missing c.args.ops.now c.args.begin c.requires (rw take_rest at c.in-None.ensures) ws
