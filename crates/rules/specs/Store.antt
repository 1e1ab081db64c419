-- The store as rows by key: data, log and book, with the used counts and the room; without bytes. What retiring leaves of it.
use Rattle.std.specs.Prelude.{Bool, true, false, ◌&&◌, List, [], ◌∷◌, ℕ, ◌+◌, ◌-◌, ◌*◌, ◌^◌, eqb, ltb}
use Rattle.std.proofs.Math.Option.{Option, none, some, get_or}
use Rattle.questions.specs.Basics.{if◌then◌otherwise◌, update, is_some, sum_below, count_below}
use Rattle.rules.specs.Blocks.{Table, Result, yields, Block, rows_needed}

-- what the book has of a request: the workflow number and the arguments
pub record Request : Type 0 where
  pub workflow : ℕ
  pub arguments : List ℕ

-- are two lists of arguments equal?
abbrev pub same_arguments : List ℕ → List ℕ → Bool
same_arguments [] [] = true
same_arguments [] (y ∷ ys) = false
same_arguments (x ∷ xs) [] = false
same_arguments (x ∷ xs) (y ∷ ys) = eqb x y && same_arguments xs ys

-- are workflow and arguments equal?
abbrev pub same_request : Request → Request → Bool
same_request q r = eqb q.workflow r.workflow && same_arguments q.arguments r.arguments

-- The log of all partitions: by request and step, the value of the row under its usual key, if there is one.
pub record Log : Type 0 where
  pub usual : (partition id step : ℕ) → Option ℕ

-- what a log row says: its value is the block's result
abbrev pub sought : Option ℕ → Option Result
sought (some v) = some (yields v)
sought none = none

-- what the log says of a step of a request in a partition, if it is logged there
abbrev pub found : Log → (partition id step : ℕ) → Option Result
found log p id t = sought (log.usual p id t)

-- The store: C, the rows of each partition and of the book; of each partition the used count, the data rows by data key and the log rows by
-- request and step; of the book the used count, the requests by id, and the value of the floor row, if it has that row.
pub record Store : Type 0 where
  pub room : ℕ
  pub used : (partition : ℕ) → ℕ
  pub rows : (partition : ℕ) → Table
  pub log : Log
  pub book_used : ℕ
  pub book : (id : ℕ) → Option Request
  pub floor : Option ℕ

-- the floor: a store without the floor row has floor 0
abbrev pub floor_of : Store → ℕ
floor_of s = get_or s.floor 0

-- Create: a fresh store, all used counts zero.
abbrev pub fresh_store : (room : ℕ) → Store
fresh_store room =
    record {
      room = room;
      used = λ p. 0;
      rows = λ p k. none;
      log = record { usual = λ p id t. none };
      book_used = 0;
      book = λ id. none;
      floor = none;
    }

-- The book has five rows per request.
abbrev pub rows_per_request : ℕ
rows_per_request = 5

-- the store with another book: its used count and its requests
abbrev pub with_book : Store → (used : ℕ) → (book : (id : ℕ) → Option Request) → Store
with_book s used book =
    record {
      room = s.room;
      used = s.used;
      rows = s.rows;
      log = s.log;
      book_used = used;
      book = book;
      floor = s.floor;
    }

-- a new request in the book
abbrev pub booked : Store → (id : ℕ) → Request → Store
booked s id q = with_book s (s.book_used + rows_per_request) (update s.book id (some q))

-- the store with another used count and other data rows in one partition, and another log
abbrev pub with_partition : Store → (partition used : ℕ) → Table → Log → Store
with_partition s p used table log =
    record {
      room = s.room;
      used = update s.used p used;
      rows = update s.rows p table;
      log = log;
      book_used = s.book_used;
      book = s.book;
      floor = s.floor;
    }

-- one row more: the block's result as value
abbrev pub logged : (log : (partition id step : ℕ) → Option ℕ) (partition id step value : ℕ) → (partition id step : ℕ) → Option ℕ
logged log p id t v = update log p (update (log p) id (update (log p id) t (some v)))

-- the log with the row of a step
unfoldable pub with_row : Log → (partition id step : ℕ) → Result → Log
with_row log p id t (yields v) = record { usual = logged log.usual p id t v }

-- a block's data rows and its log row, written together
abbrev pub written : Store → (partition id step : ℕ) → Block → Store
written s p id t b = with_partition s p (s.used p + rows_needed b) b.table (with_row s.log p id t b.result)

-- ── W-209, retiring ──

-- how many smaller ids are booked
unfoldable pub booked_below : Store → (floor : ℕ) → ℕ
booked_below s floor = count_below floor (λ id. is_some (s.book id))

-- how many log rows of smaller ids, booked or not, a partition has: a step has 16 bits
unfoldable pub logged_below : Store → (floor partition : ℕ) → ℕ
logged_below s floor p = sum_below floor (λ id. count_below (2 ^ 16) (λ t. is_some (s.log.usual p id t)))

-- The book rows of every smaller id are removed. The floor is kept as one extra book row, which the used count includes.
abbrev pub book_retired : Store → (floor : ℕ) → Store
book_retired s floor =
    record {
      room = s.room;
      used = s.used;
      rows = s.rows;
      log = s.log;
      book_used = s.book_used - rows_per_request * booked_below s floor + (if is_some s.floor then 0 otherwise 1);
      book = λ id. if ltb id floor then none otherwise s.book id;
      floor = some floor;
    }

-- The log rows of every id below the floor are removed, booked or not, and the freed rows may be used again.
abbrev pub log_retired : Store → Store
log_retired s =
    record {
      room = s.room;
      used = λ p. s.used p - logged_below s (floor_of s) p;
      rows = s.rows;
      log = record { usual = λ p id t. if ltb id (floor_of s) then none otherwise s.log.usual p id t };
      book_used = s.book_used;
      book = s.book;
      floor = s.floor;
    }

-- Retire: the book first, then the log. Data rows don't change.
abbrev pub retired : Store → (floor : ℕ) → Store
retired s floor = log_retired (book_retired s floor)
