use Rattle.std.proofs.Common.{refl, rules}
use Rattle.store.specs.Questions.{blank_row}
use Rattle.store_check.proofs.Ranges.{each_of_all}
use Rattle.store_check.proofs.rows.Rows.blank.Goals as goal

pub returns : goal.returns
unfolding blank_row
returns c =
    each_of_all _ _ _ _ refl c.all.ensures.ran (blank_row c.args.self.now.store.now c.args.self.now.keys_at c.args.self.now.values_at) (λ x b q k. search rules)
