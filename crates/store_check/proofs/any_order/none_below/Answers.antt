use Rattle.std.proofs.Common.{rules, arith, leb, ◌∙◌}
use Rattle.keys.specs.Keys.{booked_id}
use Rattle.store_check.specs.Places.{keys_of}
use Rattle.store_check.proofs.Floor.{floor_all}
use Rattle.store_check.proofs.Ranges.{keys_of_all}
use Rattle.store_check.proofs.any_order.none_below.Goals as goal

pub returns : goal.returns
returns c =
    let r = c.args.rows.now in
    keys_of_all _ _ _ r.used (omega arith) c.all.ensures.ran r.store.now r.keys_at r.keys_at (omega arith)
    (λ k. leb c.args.floor (booked_id k)) (λ x b q k. search rules)
    ∙ floor_all c.args.floor (omega arith) (keys_of r)
