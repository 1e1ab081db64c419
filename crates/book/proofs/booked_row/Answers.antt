use Rattle.std.proofs.Common.{◌∙◌, ℕ, arith}
use mathlib.Core.Path.{ap₂}
use Rattle.store.specs.Rows.{rows_of, keys_in}
use Rattle.store.specs.Answers.{found_in}
use Rattle.store.proofs.Sound.{rows_rise}
use Rattle.book.proofs.booked_row.Goals as goal

pub returns : goal.returns
returns c =
    let store = c.args.store.now in
    let book = c.partition_count-book in (
      c.find.ensures.all (rows_rise store c.requires book.result (omega (arith, book.ensures)))
          ∙ ap₂ (λ (j q : ℕ). found_in j (keys_in (rows_of store q))) c.book_key-key.ensures.0 book.ensures,
      c.book_key-key.ensures.1,
    )
