-- The used counts that retiring leaves are numbers of rows, by key.
use mathlib.Core.Bool.{Bool, true, false}
use mathlib.Core.List.{List}
use mathlib.Core.Option.{Option, none}
use mathlib.Core.Path.{◌≡◌, refl, sym, ap, ◌∙◌}
use Prim.Native.Nat.{ℕ, ◌+◌, ◌-◌, ◌*◌, ◌^◌, ◌≤◌, ◌<◌}
use native.Mathlib.Nat.{add-zero}
use native.Mathlib.Omega.{arith}
use borrow.Author.Tests.{lt-ltb}
use lib.Dec.{ltb}
use lib.ListN.{length}
use Rattle.questions.specs.Basics.{if◌then◌otherwise◌, is_some, sum_below, count_below}
use Rattle.questions.proofs.Counts.{sum_same, sum_rows, sum_times}
use Rattle.keys.specs.Keys.{log_key, book_key, log_of}
use Rattle.store.specs.Questions.{rising}
use Rattle.store.specs.Rows.{Row, keys_in, lookup, rows_from}
use Rattle.store.proofs.From.{rows_from_lem}

-- ---- a partition

-- its log rows of smaller ids are its rows with keys below floor × 65,536
logged_rows : (floor : ℕ) (f : ℕ → Option ℕ) → floor ≤ 2 ^ 32 →
    sum_below floor (λ id. count_below (2 ^ 16) (λ t. is_some (log_of f id t))) ≡ count_below (floor * 65536) (λ k. is_some (f k))
logged_rows floor f h =
    sum_same floor _ _
    (λ id l.
    sum_same 65536 _ _
    (λ t l'.
    ap (λ b. if◌then◌otherwise◌ (is_some (if◌then◌otherwise◌ b (if◌then◌otherwise◌ (ltb t 65536) (f (log_key id t)) none) none)) 1 0)
    (lt-ltb id (2 ^ 32) (omega arith))
    ∙ ap (λ b. if◌then◌otherwise◌ (is_some (if◌then◌otherwise◌ b (f (log_key id t)) none)) 1 0) (lt-ltb t 65536 l')))
    ∙ sym (sum_rows floor 65536 (λ k. if◌then◌otherwise◌ (is_some (f k)) 1 0))

-- so many rows are left
pub log_count : (floor : ℕ) (rows : List Row) → floor ≤ 2 ^ 32 → rising (keys_in rows) ≡ true →
    length (rows_from (log_key floor 0) rows)
    ≡ length rows - sum_below floor (λ id. count_below (2 ^ 16) (λ t. is_some (log_of (λ k. lookup k rows) id t)))
log_count floor rows h u =
    ap (λ (k : ℕ). length (rows_from k rows)) (add-zero (floor * 65536))
    ∙ (let a = logged_rows floor (λ k. lookup k rows) h in let b = rows_from_lem (floor * 65536) rows u in omega (arith, a, b))

-- ---- the book

-- five rows for a booked id
five_rows : (f : ℕ → Option ℕ) (id : ℕ) → ((j : ℕ) → j < 5 → is_some (f (book_key id j)) ≡ is_some (f (book_key id 0))) →
    ((j : ℕ) → 5 ≤ j → j < 8 → f (book_key id j) ≡ none) →
    count_below 8 (λ j. is_some (f (book_key id j))) ≡ 5 * if◌then◌otherwise◌ (is_some (f (book_key id 0))) 1 0
unfolding sum_below
five_rows f id all others =
    rw (
      all 1 (omega arith),
      all 2 (omega arith),
      all 3 (omega arith),
      all 4 (omega arith),
      others 5 (omega arith) (omega arith),
      others 6 (omega arith) (omega arith),
      others 7 (omega arith) (omega arith),
    )
    (go (is_some (f (book_key id 0))))
  where
    go : (b : Bool) →
        0 + if◌then◌otherwise◌ b 1 0 + if◌then◌otherwise◌ b 1 0 + if◌then◌otherwise◌ b 1 0 + if◌then◌otherwise◌ b 1 0 + if◌then◌otherwise◌ b 1 0 + 0 + 0 + 0
        ≡ 5 * if◌then◌otherwise◌ b 1 0
    go true = refl
    go false = refl

-- the rows with keys below floor × 8, where each booked id has all five rows and there are no others
booked_rows : (floor : ℕ) (f : ℕ → Option ℕ) →
    ((id j : ℕ) → id < floor → j < 5 → is_some (f (book_key id j)) ≡ is_some (f (book_key id 0))) →
    ((id j : ℕ) → id < floor → 5 ≤ j → j < 8 → f (book_key id j) ≡ none) →
    count_below (floor * 8) (λ k. is_some (f k)) ≡ 5 * count_below floor (λ id. is_some (f (book_key id 0)))
booked_rows floor f all others =
    sum_rows floor 8 (λ k. if◌then◌otherwise◌ (is_some (f k)) 1 0)
    ∙ sum_same floor _ _ (λ id l. five_rows f id (λ j h. all id j l h) (λ j h h'. others id j l h h'))
    ∙ sum_times floor 5 (λ id. if◌then◌otherwise◌ (is_some (f (book_key id 0))) 1 0)

-- so many rows go
pub book_count : (floor : ℕ) (rows : List Row) → rising (keys_in rows) ≡ true →
    ((id j : ℕ) → id < floor → j < 5 → is_some (lookup (book_key id j) rows) ≡ is_some (lookup (book_key id 0) rows)) →
    ((id j : ℕ) → id < floor → 5 ≤ j → j < 8 → lookup (book_key id j) rows ≡ none) →
    length (rows_from (book_key floor 0) rows) + 5 * count_below floor (λ id. is_some (lookup (book_key id 0) rows)) ≡ length rows
book_count floor rows u all others =
    ap (λ (k : ℕ). length (rows_from k rows) + 5 * count_below floor (λ id. is_some (lookup (book_key id 0) rows))) (add-zero (floor * 8))
    ∙ (let a = booked_rows floor (λ k. lookup k rows) all others in let b = rows_from_lem (floor * 8) rows u in omega (arith, a, b))
