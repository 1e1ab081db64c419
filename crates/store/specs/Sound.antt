-- A sound store: bytes that pass questions 9 to 11, said without tests; and what a change of a store is.
use Rattle.std.specs.Prelude.{Bool, true, false, List, ◌≡◌, ℕ, ◌≤◌, ◌<◌, eqb, length}
use Rattle.words.specs.Words.{le}
use Rattle.store.specs.Layout.{parts_of, cap_of, store_length, key_at, value_at, used_of}
use Rattle.store.specs.Rows.{Row, Store, keys_in, rows_of, store_of, alter}
use Rattle.store.specs.Questions.{keys_ok}

-- questions 9 and 10
pub record Dimensions (store : List ℕ) : Type 0 where
  pub parts_low : 1 ≤ parts_of store
  pub parts_high : parts_of store ≤ 8
  pub cap_low : 5 ≤ cap_of store
  pub cap_high : cap_of store ≤ 256
  pub size : length store ≡ store_length (parts_of store) (cap_of store)

-- of question 11: the used rows of a partition fit, and its unused rows are zero
pub record Filled (store : List ℕ) (partition : ℕ) : Type 0 where
  pub fit : used_of store partition ≤ cap_of store
  pub blank_keys : (row : ℕ) → used_of store partition ≤ row → row < cap_of store → le 8 store (key_at store partition row) ≡ 0
  pub blank_values : (row : ℕ) → used_of store partition ≤ row → row < cap_of store → le 4 store (value_at store partition row) ≡ 0

-- bytes that hold a store
pub record Formed (store : List ℕ) : Type 0 where
  pub shape : Dimensions store
  pub filled : (partition : ℕ) → partition ≤ parts_of store → Filled store partition

-- of question 11: the keys of every partition are of a form and unlike, and they rise
unfoldable pub KeysGood : Store → Type 0
KeysGood st = (partition : ℕ) → partition ≤ st.parts → keys_ok (eqb partition st.parts) (keys_in (st.rows partition)) ≡ true

-- bytes that pass questions 9 to 11
pub record Sound (store : List ℕ) : Type 0 where
  pub formed : Formed store
  pub keys : KeysGood (store_of store)

-- the bytes store' hold what the bytes `store` hold, one partition's rows changed by f: P, C and all other rows are as they were
pub record Changed (store store' : List ℕ) (partition : ℕ) (f : List Row → List Row) : Type 0 where
  pub formed : Formed store'
  pub is : store_of store' ≡ alter partition f (store_of store)

-- the same, and store' is sound
pub record Stored (store store' : List ℕ) (partition : ℕ) (f : List Row → List Row) : Type 0 where
  pub sound : Sound store'
  pub is : store_of store' ≡ alter partition f (store_of store)

-- A partition's rows changed by f, and the answer yes; where they would be more than C, nothing is changed, and the answer is no.
unfoldable pub StoredIfRoom : (store store' : List ℕ) (partition : ℕ) (f : List Row → List Row) → (answer : Bool) → Type 0
StoredIfRoom store store' partition f true = (length (f (rows_of store partition)) ≤ cap_of store) × Stored store store' partition f
StoredIfRoom store store' partition f false = (cap_of store < length (f (rows_of store partition))) × (store' ≡ store)
