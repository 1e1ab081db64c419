-- A store in bytes: P partitions and one more, the book, numbered P; each has C rows. Bytes: P (1), C (2), P + 1 used counts (2 each), then
-- two parallel arrays: (P + 1) × C keys (8 each), as many values (4 each).
use Rattle.std.specs.Prelude.{List, ℕ, ◌+◌, ◌*◌, ◌<◌, leb, get_or}
use Rattle.words.specs.Words.{le}
use Rattle.questions.specs.Basics.{if◌then◌otherwise◌}

-- each is a byte, as in every lent buffer
abbrev pub AllBytes : List ℕ → Type 0
AllBytes bytes = (at : ℕ) → get_or bytes at 0 < 256

-- P
abbrev pub parts_of : (store : List ℕ) → ℕ
parts_of store = le 1 store 0

-- C
abbrev pub cap_of : (store : List ℕ) → ℕ
cap_of store = le 2 store 1

-- where the keys begin, and where the values begin
abbrev pub keys_from : (P : ℕ) → ℕ
keys_from P = 3 + 2 * (P + 1)

abbrev pub values_from : (P C : ℕ) → ℕ
values_from P C = 3 + 2 * (P + 1) + 8 * ((P + 1) * C)

-- the length: 3 + 2(P + 1) + 12C(P + 1)
abbrev pub store_length : (P C : ℕ) → ℕ
store_length P C = 3 + 2 * (P + 1) + 12 * ((P + 1) * C)

-- where the used count of a partition is
abbrev pub used_at : (partition : ℕ) → ℕ
used_at partition = 3 + 2 * partition

-- where the key and the value of a row of a partition are
abbrev pub key_at : (store : List ℕ) (partition row : ℕ) → ℕ
key_at store partition row = keys_from (parts_of store) + 8 * (partition * cap_of store + row)

abbrev pub value_at : (store : List ℕ) (partition row : ℕ) → ℕ
value_at store partition row = values_from (parts_of store) (cap_of store) + 4 * (partition * cap_of store + row)

-- the used count of a partition: past P there is none
unfoldable pub used_of : (store : List ℕ) (partition : ℕ) → ℕ
used_of store partition = if leb partition (parts_of store) then le 2 store (used_at partition) otherwise 0
