-- What is printed of a store: per partition, by rising key, its data rows and then its log rows. The book isn't printed.
use Rattle.std.specs.Prelude.{Bool, List, [], ◌∷◌, ◌++◌, ℕ, zero, suc, ◌+◌}
use Rattle.questions.specs.Basics.{if◌then◌otherwise◌}
use Rattle.keys.specs.Keys.{is_data_key, is_log_key}
use Rattle.store.specs.Layout.{parts_of}
use Rattle.store.specs.Rows.{Row, rows_of}
use Rattle.lines.specs.Lines.{stored_line}

-- the lines of rows, in their order
unfoldable pub lines_of : (partition : ℕ) → List Row → List ℕ
lines_of p [] = []
lines_of p (r ∷ rows) = stored_line p r.0 r.1 ++ lines_of p rows

-- the rows whose keys pass the test, in their order
unfoldable pub of_kind : (test : ℕ → Bool) → List Row → List Row
of_kind test [] = []
of_kind test (r ∷ rows) = if test r.0 then r ∷ of_kind test rows otherwise of_kind test rows

-- A partition: its data rows and then its log rows, both in the order in which they stand.
unfoldable pub partition_text : (store : List ℕ) → (partition : ℕ) → List ℕ
partition_text s p = lines_of p (of_kind is_data_key (rows_of s p)) ++ lines_of p (of_kind is_log_key (rows_of s p))

-- so many partitions, from one on
unfoldable pub partitions_text : (store : List ℕ) → (count partition : ℕ) → List ℕ
partitions_text s zero p = []
partitions_text s (suc count) p = partition_text s p ++ partitions_text s count (p + 1)

-- all P partitions
abbrev pub store_text : (store : List ℕ) → List ℕ
store_text s = partitions_text s (parts_of s) 0
