-- The answer on the numbers below m is that on the workflows.
use Rattle.std.proofs.Common.{rules, refl, ◌∙◌, arith}
use Rattle.std.proofs.lemmas.Iterator.{YieldsList-from_range}
use Rattle.std.proofs.lemmas.Iterator.Search.{all_from_yields_List}
use borrow.Author.Tests.{tests}
use Rattle.pack.specs.Questions.{size_right}
use Rattle.pack.proofs.Sizes.{all_below}
use Rattle.pack.proofs.sizes_in_range.Goals as goal

pub returns : goal.returns
unfolding size_right
returns c =
    all_from_yields_List (size_right c.args.pack.now) _ _ c.all.result c.all.ensures.ran
    (YieldsList-from_range 0 c.args.m c.args.m refl (omega arith)) (λ x b q k. search (rules, tests))
    ∙ all_below (size_right c.args.pack.now) c.args.m 0
