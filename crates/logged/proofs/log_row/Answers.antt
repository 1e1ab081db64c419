use Rattle.std.proofs.Common.{ℕ, ap, ◌∙◌}
use Rattle.store.specs.Rows.{lookup, rows_of}
use Rattle.store.specs.Answers.{got_of}
use Rattle.logged.proofs.Rows.{usual_row}
use Rattle.logged.proofs.log_row.Goals as goal

pub returns : goal.returns
returns c =
    let store = c.args.store.now in
    let key = c.log_key-key.ensures in
    c.get.ensures
    ∙ ap (λ (n : ℕ). got_of (lookup n (rows_of store c.args.partition))) key.0
    ∙ ap got_of (usual_row store c.args.partition c.args.id c.args.step c.requires.1 key.1 key.2)
