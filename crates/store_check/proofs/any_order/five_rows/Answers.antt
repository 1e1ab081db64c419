use Rattle.std.proofs.Common.{rules, refl}
use Rattle.keys.specs.Keys.{book_key, booked_id}
use Rattle.store.specs.Questions.{member, five}
use Rattle.store_check.specs.Places.{keys_of}
use Rattle.store_check.proofs.Ranges.{each_of_all}
use Rattle.store_check.proofs.any_order.five_rows.Goals as goal

pub returns : goal.returns
unfolding five
returns c =
    each_of_all _ _ _ 5 refl c.all.ensures.ran (λ j. member (book_key (booked_id c.args.key) j) (keys_of c.args.rows.now))
    (λ x b q k. search rules)
