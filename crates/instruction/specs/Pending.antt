-- The PUTs of a block so far, as rows beside the partition's rows.
use Rattle.std.specs.Prelude.{true, List, ◌≡◌, ℕ, ◌≤◌, ◌<◌, ◌≢◌, length, get_or, take, drop, replicate}
use Rattle.std.proofs.Math.Option.{Option, none, some}
use Rattle.keys.specs.Keys.{is_data_key}
use Rattle.store.specs.Rows.{Row, pairs, lookup, keys_in, count_new, rank_in}
use Rattle.store.specs.Questions.{all_in, rising}
use Rattle.instruction.specs.declared.pending.Pending.{Pending}

-- no PUT so far: every place of both arrays is 0
abbrev pub nothing_pending : Pending
nothing_pending = record { keys = replicate 17 0; values = replicate 17 0; count = 0 }

-- the rows that are pending
unfoldable pub rows_in : Pending → List Row
rows_in p = pairs (take p.count p.keys) (take p.count p.values)

-- the first value if there is one, else the second
unfoldable pub over : Option ℕ → Option ℕ → Option ℕ
over none o = o
over (some v) o = some v

-- Later GETs see earlier PUTs: the value at a stored key is that of the pending rows ps, else that of the partition's rows rs.
abbrev pub seen : (ps rs : List Row) → (stored : ℕ) → Option ℕ
seen ps rs j = over (lookup j ps) (lookup j rs)

-- how many different new keys they have: keys that have no row among rs
abbrev pub new_in : Pending → (rs : List Row) → ℕ
new_in p rs = count_new (keys_in (rows_in p)) rs

-- A block has at most 16 PUTs; the arrays have one place more, for the log row.
pub record Sized (p : Pending) : Type 0 where
  pub keys_long : length p.keys ≡ 17
  pub values_long : length p.values ≡ 17
  pub fit : p.count ≤ 17

-- Behind the rows of q both arrays are as p has them. With its rows, this settles all of q (`settled`).
pub record SameBehind (p q : Pending) : Type 0 where
  pub keys_behind : drop q.count q.keys ≡ drop q.count p.keys
  pub values_behind : drop q.count q.values ≡ drop q.count p.values

-- what holds of the pending rows all along: at most 16, data keys only, by rising key
pub record Kept (p : Pending) : Type 0 where
  pub sized : Sized p
  pub few : p.count ≤ 16
  pub data_keys : all_in is_data_key (keys_in (rows_in p)) ≡ true
  pub in_order : rising (keys_in (rows_in p)) ≡ true

-- A key stands at a place of rising keys; or it stands nowhere, and belongs there.
pub record Stands (keys : List ℕ) (key i : ℕ) : Type 0 where
  pub ranked : i ≡ rank_in key keys
  pub within : i < length keys
  pub there : get_or keys i 0 ≡ key

pub record Misses (keys : List ℕ) (key i : ℕ) : Type 0 where
  pub ranked : i ≡ rank_in key keys
  pub other : i < length keys → get_or keys i 0 ≢ key
