use Rattle.std.proofs.Common.{ap, ◌∙◌, ℕ}
use Rattle.store.specs.Rows.{rows_of, keys_in}
use Rattle.store.specs.Answers.{found_in}
use Rattle.store.proofs.Sound.{rows_rise}
use Rattle.block.proofs.log.log_row.Goals as goal

pub returns : goal.returns
returns c =
    let store = c.args.store.now in
    c.find.ensures.all (rows_rise store c.requires.0 c.args.partition c.requires.1)
    ∙ ap (λ (k : ℕ). found_in k (keys_in (rows_of store c.args.partition))) c.log_key-key.ensures.0
