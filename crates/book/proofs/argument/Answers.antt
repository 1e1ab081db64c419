use Rattle.std.proofs.Common.{◌∙◌, ℕ, ap, unwrap_or}
use mathlib.Core.Path.{ap₂}
use Rattle.store.specs.Rows.{lookup, rows_of}
use Rattle.store.specs.Answers.{Got, got_of}
use Rattle.contents.proofs.Book.{got_or}
use Rattle.book.proofs.argument.Goals as goal

pub returns : goal.returns
returns c =
    c.unwrap_or.ensures
    ∙ ap (λ (g : Got). unwrap_or g 0)
    (c.get.ensures ∙ ap₂ (λ (j q : ℕ). got_of (lookup j (rows_of c.args.store.now q))) c.book_key-key.ensures.0 c.partition_count-book.ensures)
    ∙ got_or _ 0
