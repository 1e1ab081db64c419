use Rattle.std.proofs.Common.{rules, refl, ◌∙◌, arith, ◌+◌, ◌*◌, ◌/◌, get_or}
use Rattle.std.proofs.lemmas.Iterator.{YieldsList-from_range}
use Rattle.std.proofs.lemmas.Iterator.Search.{all_from_yields_List}
use borrow.Author.Tests.{tests}
use Rattle.pack.proofs.Sizes.{all_below}
use Rattle.schedule_check.specs.Questions.{event_right, right_at, question23}
use Rattle.schedule_check.proofs.events_right.Goals as goal

pub returns : goal.returns
unfolding question23 right_at
returns c =
    let s = c.args.schedule.now in
    let e = c.read16-events.result in
    all_from_yields_List
    (λ i. event_right (get_or s 3 0) (get_or s (6 + 24 * get_or s 3 0 + i) 0 / 16) (get_or s (6 + 24 * get_or s 3 0 + e + i) 0)) _ _
    c.all.result c.all.ensures.ran (YieldsList-from_range 0 e e refl (omega arith)) (λ x b q k. search (rules, tests))
    ∙ all_below _ e 0
    ∙ rw c.read16-events.ensures refl
