-- W-207, nothing lost on the way: what a technician adds up from the rows that stand in a store's bytes.
use Rattle.std.specs.Prelude.{Bool, false, not, ◌&&◌, ◌||◌, ◌≡◌, ℕ, zero, suc, ◌+◌, ◌%◌, ◌^◌, ◌<◌, eqb, get_or}
use mathlib.Core.List.{List, [], ◌∷◌, Memᴰ}
use Rattle.questions.specs.Basics.{if◌then◌otherwise◌, is_some, sum_below}
use Rattle.keys.specs.Keys.{is_data_key, log_key, booked_id, book_row}
use Rattle.rules.specs.Move.{MOVE}
use Rattle.rules.specs.Calls.{Answer, arrival}
use Rattle.rules.specs.Plain.{Event}
use Rattle.contents.specs.Contents.{book_rows}
use Rattle.pack.specs.Meaning.{pack_of}
use Rattle.store.specs.Layout.{parts_of}
use Rattle.store.specs.Rows.{Row, rows_of, lookup}
use Rattle.meaning.specs.State.{Lent}
use Rattle.chain.specs.Chain.{Chain}

-- ── Over numbers and over rows ──

-- does f hold at some number below n?
unfoldable pub any_below : (n : ℕ) → (ℕ → Bool) → Bool
any_below zero f = false
any_below (suc n) f = any_below n f || f n

-- the sum of what each row counts
unfoldable pub sum_over : (counts : Row → ℕ) → List Row → ℕ
sum_over counts [] = 0
sum_over counts (r ∷ rows) = counts r + sum_over counts rows

-- ── All data values ──

-- a data row counts its value, a log row nothing
abbrev pub data_value : Row → ℕ
data_value r = if is_data_key r.0 then r.1 otherwise 0

-- the data values of all partitions; the book is none of them
abbrev pub all_data : (store : List ℕ) → ℕ
all_data store = sum_below (parts_of store) (λ p. sum_over data_value (rows_of store p))

-- ── The amounts booked for requests whose step 0 is logged and step 1 isn't ──

-- is a step of a request logged: has some partition its log row?
abbrev pub is_logged : (store : List ℕ) → (id step : ℕ) → Bool
is_logged store id t = any_below (parts_of store) (λ p. is_some (lookup (log_key id t) (rows_of store p)))

-- by whether its step 0 and its step 1 are logged: the first is, the other isn't
abbrev pub between_steps : (zero_logged one_logged : Bool) → Bool
between_steps zero_logged one_logged = zero_logged && not one_logged

-- is a request under way?
abbrev pub is_under_way : (store : List ℕ) → (id : ℕ) → Bool
is_under_way store id = between_steps (is_logged store id 0) (is_logged store id 1)

-- The amount of a move is argument 2; arguments 0 to 3 are rows 1 to 4 of the request.
abbrev pub amount_row : ℕ
amount_row = 3

-- a book row counts if it is the amount of a request that is under way
abbrev pub amount_if : (under_way : (id : ℕ) → Bool) → Row → ℕ
amount_if under_way r = if eqb (book_row r.0) amount_row && under_way (booked_id r.0) then r.1 otherwise 0

-- all of them: the sum over the book's rows
abbrev pub amounts_under_way : (store : List ℕ) → ℕ
amounts_under_way store = sum_over (amount_if (is_under_way store)) (book_rows store)

-- ── Nothing is lost ──

-- both have a sum divisible by 2^32
abbrev pub AddsUp : (store : List ℕ) → Type 0
AddsUp store = (all_data store + amounts_under_way store) % 2 ^ 32 ≡ 0

-- each argument of an arrival has 32 bits, as in every call that a host makes
abbrev pub AllWords : List Event → Type 0
AllWords events =
    (slot id w : ℕ) (args : List ℕ) (answer : Answer) → Memᴰ (record { made = arrival slot id w args; answer = answer }) events →
    (at : ℕ) → get_or args at 0 < 2 ^ 32

-- For a pack whose only workflow is MOVE, a fresh store without agents and calls in any sequence, retire among them: after each of them.
-- (That arguments have 32 bits is asked for here, since the numbers of a `Call` may be of any size.)
abbrev pub NothingLost : Type 0
NothingLost =
    (pack : List ℕ) (P C : ℕ) → pack_of pack ≡ MOVE ∷ [] →
    (events : List Event) (lent : Lent) → Chain pack P C events lent → AllWords events → AddsUp lent.store
