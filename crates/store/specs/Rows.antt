-- What a store holds: for each partition its used rows, each a key with its value; where question 11 says yes, by rising key.
use Rattle.std.specs.Prelude.{List, [], ◌∷◌, map, ℕ, zero, suc, ◌+◌, eqb, ltb}
use Rattle.std.proofs.Math.Option.{Option, none, some}
use Rattle.words.specs.Words.{fields}
use Rattle.questions.specs.Basics.{if◌then◌otherwise◌}
use Rattle.store.specs.Layout.{parts_of, cap_of, key_at, value_at, used_of}

-- a key and its value
abbrev pub Row : Type 0
Row = ℕ × ℕ

-- keys and values side by side
unfoldable pub pairs : (keys values : List ℕ) → List Row
pairs [] vs = []
pairs (k ∷ ks) [] = []
pairs (k ∷ ks) (v ∷ vs) = (k, v) ∷ pairs ks vs

-- the keys of rows
unfoldable pub keys_in : List Row → List ℕ
keys_in rs = map (λ (r : Row). r.0) rs

-- P, C and the rows of each partition and of the book, which is numbered P; past it there are none
pub record Store : Type 0 where
  pub parts : ℕ
  pub cap : ℕ
  pub rows : ℕ → List Row

-- what the bytes hold in a partition: its used rows, which come first
unfoldable pub rows_of : (store : List ℕ) (partition : ℕ) → List Row
rows_of store partition =
    pairs (fields 8 store (key_at store partition 0) (used_of store partition))
    (fields 4 store (value_at store partition 0) (used_of store partition))

-- what the bytes hold
abbrev pub store_of : (store : List ℕ) → Store
store_of store = record { parts = parts_of store; cap = cap_of store; rows = rows_of store }

-- a store with no row
abbrev pub empty_store : (P C : ℕ) → Store
empty_store P C = record { parts = P; cap = C; rows = λ p. [] }

-- the store with a partition's rows changed by f
unfoldable pub alter : (partition : ℕ) → (List Row → List Row) → Store → Store
alter partition f st =
    record { parts = st.parts; cap = st.cap; rows = λ p. if eqb p partition then f (st.rows p) otherwise st.rows p }

-- the value at key k, if it has a row
unfoldable pub lookup : (k : ℕ) → List Row → Option ℕ
lookup k [] = none
lookup k (r ∷ rs) = if eqb r.0 k then some r.1 otherwise lookup k rs

-- value v at key k: in k's row, or in one row more, ahead of the first greater key
unfoldable pub put_row : (k v : ℕ) → List Row → List Row
put_row k v [] = (k, v) ∷ []
put_row k v (r ∷ rs) = if eqb r.0 k then (r.0, v) ∷ rs otherwise (if ltb k r.0 then (k, v) ∷ r ∷ rs otherwise r ∷ put_row k v rs)

-- the puts of ps, one after the other
unfoldable pub put_all : (ps : List Row) → List Row → List Row
put_all [] rs = rs
put_all (r ∷ ps) rs = put_all ps (put_row r.0 r.1 rs)

-- the rows with keys from `low` on
unfoldable pub rows_from : (low : ℕ) → List Row → List Row
rows_from low [] = []
rows_from low (r ∷ rs) = if ltb r.0 low then rows_from low rs otherwise r ∷ rows_from low rs

-- how many rows a put adds, by what stood at its key
unfoldable pub new_rows : Option ℕ → ℕ
new_rows none = 1
new_rows (some v) = 0

-- how many of the keys ks have no row
unfoldable pub count_new : (ks : List ℕ) → List Row → ℕ
count_new [] rs = 0
count_new (k ∷ ks) rs = new_rows (lookup k rs) + count_new ks rs

-- the place of k's row, or the number of rows where it has none
unfoldable pub row_place : (k : ℕ) → List Row → ℕ
row_place k [] = 0
row_place k (r ∷ rs) = if eqb r.0 k then 0 otherwise suc (row_place k rs)

-- the place of k among keys, or their number where it is not there
unfoldable pub index_of : (k : ℕ) → List ℕ → ℕ
index_of k [] = 0
index_of k (x ∷ xs) = if eqb x k then 0 otherwise suc (index_of k xs)

-- the rows with another value in one of them
unfoldable pub set_value : List Row → (row value : ℕ) → List Row
set_value [] row v = []
set_value (r ∷ rs) zero v = (r.0, v) ∷ rs
set_value (r ∷ rs) (suc row) v = r ∷ set_value rs row v

-- the place where key k belongs: ahead of the first key that isn't smaller
unfoldable pub rank_of : (k : ℕ) → List Row → ℕ
rank_of k [] = 0
rank_of k (r ∷ rs) = if ltb r.0 k then suc (rank_of k rs) otherwise 0

-- the same among keys
unfoldable pub rank_in : (k : ℕ) → List ℕ → ℕ
rank_in k [] = 0
rank_in k (x ∷ xs) = if ltb x k then suc (rank_in k xs) otherwise 0

-- 1 where the first row has key k, else 0
unfoldable pub first_has : (k : ℕ) → List Row → ℕ
first_has k [] = 0
first_has k (r ∷ rs) = if eqb r.0 k then 1 otherwise 0

-- a list and one more at place i, those from there on moved up
unfoldable pub insert_at : {A : Type 0} → List A → (i : ℕ) → A → List A
insert_at xs zero x = x ∷ xs
insert_at [] (suc i) x = x ∷ []
insert_at (y ∷ xs) (suc i) x = y ∷ insert_at xs i x
