-- One partition by itself: its used count, its keys and its values as they stand in a store, one behind the other.
use Rattle.std.specs.Prelude.{List, ◌++◌, ◌≡◌, ℕ, ◌+◌, ◌*◌, ◌≤◌, ◌<◌, length, take, drop}
use Rattle.std.proofs.lemmas.List.Edits.{sets}
use Rattle.words.specs.Words.{le, fields}
use Rattle.store.specs.Layout.{keys_from, values_from, used_at}
use Rattle.store.specs.Rows.{Row, pairs}

-- where the keys and the values of a partition begin
abbrev pub keys_at : (P C partition : ℕ) → ℕ
keys_at P C partition = keys_from P + 8 * (partition * C)

abbrev pub values_at : (P C partition : ℕ) → ℕ
values_at P C partition = values_from P C + 4 * (partition * C)

-- the `count` bytes from byte `at` on
abbrev pub piece : (count at : ℕ) → List ℕ → List ℕ
piece count at bytes = take count (drop at bytes)

-- the length of a partition by itself: used count (2), C keys (8 each), C values (4 each)
abbrev pub part_size : (C : ℕ) → ℕ
part_size C = 2 + 12 * C

-- the bytes of a partition of a store
unfoldable pub bytes_in : (P C partition : ℕ) → (store : List ℕ) → List ℕ
bytes_in P C partition store =
    piece 2 (used_at partition) store
    ++ (piece (8 * C) (keys_at P C partition) store ++ piece (4 * C) (values_at P C partition) store)

-- the store with these bytes in a partition
unfoldable pub with_part : (P C partition : ℕ) → (bs : List ℕ) → (store : List ℕ) → List ℕ
with_part P C partition bs store =
    sets (sets (sets store (used_at partition) (take 2 bs)) (keys_at P C partition) (take (8 * C) (drop 2 bs)))
    (values_at P C partition)
    (take (4 * C) (drop (8 * C) (drop 2 bs)))

-- the used count that a partition's bytes have
abbrev pub used_held : (bs : List ℕ) → ℕ
used_held bs = le 2 bs 0

-- their first `count` rows, and the used ones
unfoldable pub first_rows : (C : ℕ) → (bs : List ℕ) → (count : ℕ) → List Row
first_rows C bs count = pairs (fields 8 bs 2 count) (fields 4 bs (2 + 8 * C) count)

abbrev pub rows_held : (C : ℕ) → (bs : List ℕ) → List Row
rows_held C bs = first_rows C bs (used_held bs)

-- A partition's bytes under way: the first `count` rows are rs, and all behind them are zero. The used count is free.
pub record Holds (C : ℕ) (bs : List ℕ) (count : ℕ) (rs : List Row) : Type 0 where
  pub long : length bs ≡ part_size C
  pub fit : count ≤ C
  pub rows : first_rows C bs count ≡ rs
  pub blank_keys : (row : ℕ) → count ≤ row → row < C → le 8 bs (2 + 8 * row) ≡ 0
  pub blank_values : (row : ℕ) → count ≤ row → row < C → le 4 bs (2 + 8 * C + 4 * row) ≡ 0

-- Rows rs put together in a partition's bytes, and their number; where they would be more than C, it is C + 1 and the bytes are free.
pub record MergedIn (C : ℕ) (bs : List ℕ) (rs : List Row) (count : ℕ) : Type 0 where
  pub held : length rs ≤ C → Holds C bs count rs
  pub full : C < length rs → count ≡ C + 1
