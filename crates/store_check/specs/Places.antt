-- What stands at the places of a partition.
use Rattle.std.specs.Prelude.{List, ◌≡◌, ℕ, length}
use Rattle.words.specs.Words.{fields}
use Rattle.store.specs.Layout.{cap_of, key_at, value_at}
use Rattle.store.specs.Rows.{Row, pairs, rows_of}
use Rattle.store_check.specs.declared.rows.Rows.{Rows}

-- its used keys
abbrev pub keys_of : Rows → List ℕ
keys_of r = fields 8 r.store.now r.keys_at r.used

-- its used rows
abbrev pub pairs_of : Rows → List Row
pairs_of r = pairs (keys_of r) (fields 4 r.store.now r.values_at r.used)

-- they are the places of a partition of a store
pub record Places (store : List ℕ) (partition : ℕ) (r : Rows) : Type 0 where
  pub bytes : r.store.now ≡ store
  pub cap : r.cap ≡ cap_of store
  pub used : r.used ≡ length (rows_of store partition)
  pub keys : r.keys_at ≡ key_at store partition 0
  pub values : r.values_at ≡ value_at store partition 0
