-- What the code reads of the book.
use Rattle.std.specs.Prelude.{List, ℕ}
use Rattle.std.proofs.Math.Option.{get_or}
use Rattle.keys.specs.Keys.{book_key}
use Rattle.store.specs.Rows.{lookup}
use Rattle.contents.specs.Contents.{book_rows}

-- argument j, 1 to 4, of a booked id: the value of its row j
abbrev pub argument_of : (store : List ℕ) → (id j : ℕ) → ℕ
argument_of store id j = get_or (lookup (book_key id j) (book_rows store)) 0
