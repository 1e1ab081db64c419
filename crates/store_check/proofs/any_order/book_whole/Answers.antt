use Rattle.std.proofs.Common.{rules, arith, ◌||◌}
use Rattle.keys.specs.Keys.{booked_id, is_floor_key}
use Rattle.store.specs.Questions.{five, book_ok}
use Rattle.store_check.specs.Places.{keys_of}
use Rattle.store_check.proofs.Ranges.{keys_of_all}
use Rattle.store_check.proofs.any_order.book_whole.Goals as goal

pub returns : goal.returns
unfolding book_ok
returns c =
    let r = c.args.rows.now in
    keys_of_all _ _ _ r.used (omega arith) c.all.ensures.ran r.store.now r.keys_at r.keys_at (omega arith)
    (λ k. is_floor_key k || five (keys_of r) (booked_id k)) (λ x b q k. search rules)
