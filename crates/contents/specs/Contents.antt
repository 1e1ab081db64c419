-- The store of the rules that bytes hold.
use Rattle.std.specs.Prelude.{List, [], ◌∷◌, ℕ, ◌^◌, ltb, length}
use Rattle.std.proofs.Math.Option.{Option, none, some, get_or}
use Rattle.questions.specs.Basics.{if◌then◌otherwise◌}
use Rattle.keys.specs.Keys.{book_key, floor_key, table_of, log_of}
use Rattle.rules.specs.Store.{Request}
use Rattle.rules.specs.Store as Rules
use Rattle.store.specs.Rows.{Row, rows_of, lookup, Store}
use Rattle.store.specs.Layout.{parts_of}

-- The value at each stored key of rows. Rows in another order have the same.
abbrev pub value_in : List Row → (stored : ℕ) → Option ℕ
value_in rows stored = lookup stored rows

-- The arguments that the book has of an id: its rows 1 to 4. (By question 12 they are there, and 0 is never taken for one.)
abbrev pub arguments_of : ((stored : ℕ) → Option ℕ) → (id : ℕ) → List ℕ
arguments_of f id =
    get_or (f (book_key id 1)) 0
    ∷ get_or (f (book_key id 2)) 0
    ∷ get_or (f (book_key id 3)) 0
    ∷ get_or (f (book_key id 4)) 0
    ∷ []

-- a request, by its row 0, the workflow number
unfoldable pub request_of : Option ℕ → (arguments : List ℕ) → Option Request
request_of none args = none
request_of (some w) args = some (record { workflow = w; arguments = args })

-- The book: what it has of an id. Past 32 bits there is none.
unfoldable pub book_of : ((stored : ℕ) → Option ℕ) → (id : ℕ) → Option Request
book_of f id = if ltb id (2 ^ 32) then request_of (f (book_key id 0)) (arguments_of f id) otherwise none

-- the rows of the book, partition P
abbrev pub book_rows : (store : List ℕ) → List Row
book_rows store = rows_of store (parts_of store)

-- The store of the rules: data rows and log rows of the partitions below P, the requests and the floor row of the book, which is partition
-- P, the used counts, and C.
unfoldable pub contents_of : Store → Rules.Store
contents_of st =
    record {
      room = st.cap;
      used = λ p. if ltb p st.parts then length (st.rows p) otherwise 0;
      rows = λ p k. if ltb p st.parts then table_of (value_in (st.rows p)) k otherwise none;
      log = record { usual = λ p id t. if ltb p st.parts then log_of (value_in (st.rows p)) id t otherwise none };
      book_used = length (st.rows st.parts);
      book = book_of (value_in (st.rows st.parts));
      floor = value_in (st.rows st.parts) floor_key;
    }
