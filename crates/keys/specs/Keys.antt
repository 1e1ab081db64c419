-- The keys of rows as they are stored: each form is made, recognised and taken apart here, and nowhere else. And what rows seen by their
-- stored keys stand for.
use Rattle.std.specs.Prelude.{Bool, ◌&&◌, ◌||◌, ℕ, ◌+◌, ◌-◌, ◌*◌, ◌/◌, ◌%◌, ◌^◌, eqb, ltb, leb, List, [], ◌∷◌}
use Rattle.std.proofs.Math.Option.{Option, none, get_or}
use Rattle.questions.specs.Basics.{if◌then◌otherwise◌}

-- ── Data ──

-- A data key (32 bits) is stored with 2^63 added to it.
abbrev pub data_key : (key : ℕ) → ℕ
data_key key = 2 ^ 63 + key

unfoldable pub is_data_key : (stored : ℕ) → Bool
is_data_key stored = leb (2 ^ 63) stored && ltb stored (2 ^ 63 + 2 ^ 32)

-- and back: the data key
abbrev pub data_of : (stored : ℕ) → ℕ
data_of stored = stored - 2 ^ 63

-- ── The log ──

-- The log row of a step (16 bits) of request id (32 bits) has key id × 65,536 + step.
abbrev pub log_key : (id step : ℕ) → ℕ
log_key id step = id * 65536 + step

unfoldable pub is_log_key : (stored : ℕ) → Bool
is_log_key stored = ltb stored (2 ^ 48)

-- and back: the id and the step
abbrev pub id_of : (stored : ℕ) → ℕ
id_of stored = stored / 65536

abbrev pub step_of : (stored : ℕ) → ℕ
step_of stored = stored % 65536

-- ── The book ──

-- The book has five rows per request: key id × 8 + row, row 0 the workflow number, rows 1 to 4 the arguments.
abbrev pub book_key : (id row : ℕ) → ℕ
book_key id row = id * 8 + row

unfoldable pub is_book_key : (stored : ℕ) → Bool
is_book_key stored = ltb stored (2 ^ 35) && leb (stored % 8) 4

-- and back: the id, and which of its five rows
abbrev pub booked_id : (stored : ℕ) → ℕ
booked_id stored = stored / 8

abbrev pub book_row : (stored : ℕ) → ℕ
book_row stored = stored % 8

-- a book row that has a workflow number: one of the book's form that is row 0 of its request
unfoldable pub is_workflow_key : (stored : ℕ) → Bool
is_workflow_key stored = is_book_key stored && eqb (book_row stored) 0

-- the keys of a request's five rows
abbrev pub book_keys : (id : ℕ) → List ℕ
book_keys id = book_key id 0 ∷ book_key id 1 ∷ book_key id 2 ∷ book_key id 3 ∷ book_key id 4 ∷ []

-- The keys of a request's five rows are one more each: the last is the first and 4.
abbrev pub last_of_five : (first : ℕ) → ℕ
last_of_five first = first + 4

-- The floor is kept as one extra book row with key 2^40 (W-209).
abbrev pub floor_key : ℕ
floor_key = 2 ^ 40

unfoldable pub is_floor_key : (stored : ℕ) → Bool
is_floor_key stored = eqb stored floor_key

-- ── The forms of a partition ──

-- Is it a key of a form of its partition? The book has book keys and the floor's, each other partition data keys and log keys.
unfoldable pub is_form : (book : Bool) → (stored : ℕ) → Bool
is_form book stored = if book then (is_book_key stored || is_floor_key stored) otherwise (is_data_key stored || is_log_key stored)

-- ── What rows stand for ──

-- The table of data: the value at a data key, if the key is present. Past 32 bits there is none.
abbrev pub table_of : ((stored : ℕ) → Option ℕ) → (key : ℕ) → Option ℕ
table_of f key = if ltb key (2 ^ 32) then f (data_key key) otherwise none

-- The log: the result of a step of a request, if it is logged. Past 32 and 16 bits there is none: two pairs would share a key.
abbrev pub log_of : ((stored : ℕ) → Option ℕ) → (id step : ℕ) → Option ℕ
log_of f id step = if ltb id (2 ^ 32) then (if ltb step 65536 then f (log_key id step) otherwise none) otherwise none

-- The floor of a book: the value of the floor row, or 0 if it has none.
abbrev pub floor_at : ((stored : ℕ) → Option ℕ) → ℕ
floor_at f = get_or (f floor_key) 0
