-- What retiring leaves of the rows of a store.
use Rattle.std.specs.Prelude.{List, ◌≡◌, ℕ, ◌≤◌, ◌<◌}
use Rattle.keys.specs.Keys.{log_key, book_key, floor_key}
use Rattle.store.specs.Layout.{parts_of, cap_of}
use Rattle.store.specs.Rows.{Row, rows_of, put_row, rows_from}
use Rattle.store.specs.Sound.{Sound}

-- of the rows of the book: those of ids from the floor on, and behind them the floor's row
abbrev pub book_from : (floor : ℕ) → List Row → List Row
book_from floor rows = put_row floor_key floor (rows_from (book_key floor 0) rows)

-- of the rows of another partition: the log rows of ids from the floor on, and all data rows, whose keys are greater
abbrev pub log_from : (floor : ℕ) → List Row → List Row
log_from floor rows = rows_from (log_key floor 0) rows

-- In the first `count` partitions of store' the log rows of smaller ids are removed; all else is as in `store`.
pub record LogsFrom (floor : ℕ) (store store' : List ℕ) (count : ℕ) : Type 0 where
  pub sound : Sound store'
  pub parts : parts_of store' ≡ parts_of store
  pub cap : cap_of store' ≡ cap_of store
  pub done : (p : ℕ) → p < count → rows_of store' p ≡ log_from floor (rows_of store p)
  pub left : (p : ℕ) → count ≤ p → rows_of store' p ≡ rows_of store p
