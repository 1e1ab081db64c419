use Rattle.std.proofs.Common.{rules, refl}
use Rattle.store_check.proofs.Ranges.{member_of_any}
use Rattle.store_check.proofs.any_order.has_from.Goals as goal

pub returns : goal.returns
returns c = member_of_any _ _ _ _ refl c.args.rows.now.store.now c.args.rows.now.keys_at c.args.key c.any.ensures.ran (λ x b q k. search rules)
