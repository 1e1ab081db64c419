-- Questions 9 to 12, each a computed test, and the first no among them.
use Rattle.std.specs.Prelude.{Bool, true, false, not, ◌&&◌, ◌||◌, List, [], ◌∷◌, ℕ, ◌+◌, ◌-◌, ◌*◌, eqb, leb, ltb, length}
use Rattle.std.proofs.Math.Option.{Option, none}
use Rattle.words.specs.Words.{le, fields}
use Rattle.questions.specs.Basics.{each_from, each}
use Rattle.questions.specs.Questions.{No, number, ask}
use Rattle.keys.specs.Keys.{book_key, booked_id, is_floor_key, floor_at, is_form}
use Rattle.store.specs.Layout.{parts_of, cap_of, store_length, key_at, value_at, used_of}
use Rattle.store.specs.Rows.{Row, keys_in, rows_of, lookup}

-- P is 1 to 8, C is 5 to 256
unfoldable pub numbers_right : (P C : ℕ) → Bool
numbers_right P C = leb 1 P && leb P 8 && leb 5 C && leb C 256

-- 9. Are there three bytes, P 1 to 8, C 5 to 256?
unfoldable pub question9 : (store : List ℕ) → Bool
question9 store = leb 3 (length store) && numbers_right (parts_of store) (cap_of store)

-- 10. Is the store's length right?
unfoldable pub question10 : (store : List ℕ) → Bool
question10 store = eqb (length store) (store_length (parts_of store) (cap_of store))

-- k is one of ks
unfoldable pub member : (k : ℕ) → List ℕ → Bool
member k [] = false
member k (x ∷ ks) = eqb x k || member k ks

-- no key stands twice
unfoldable pub unlike : List ℕ → Bool
unlike [] = true
unlike (k ∷ ks) = not (member k ks) && unlike ks

-- each key is of a form and unlike the others: what question 11 asks of the keys of a store in any order
unfoldable pub keys_apart : (book : Bool) → List ℕ → Bool
keys_apart b [] = true
keys_apart b (k ∷ ks) = is_form b k && (not (member k ks) && keys_apart b ks)

-- k is less than the first of ks, if there is one
unfoldable pub ahead : (k : ℕ) → List ℕ → Bool
ahead k [] = true
ahead k (x ∷ ks) = ltb k x

-- each key is less than the next
unfoldable pub rising : List ℕ → Bool
rising [] = true
rising (k ∷ ks) = ahead k ks && rising ks

-- each key is of a form and unlike the others, and they rise
unfoldable pub keys_ok : (book : Bool) → List ℕ → Bool
keys_ok b ks = keys_apart b ks && rising ks

-- a row is zero, its key and its value, where the first key begins at byte `keys_at` and the first value at byte `values_at`
unfoldable pub blank_row : (store : List ℕ) (keys_at values_at row : ℕ) → Bool
blank_row store keys_at values_at row = eqb (le 8 store (keys_at + 8 * row)) 0 && eqb (le 4 store (values_at + 4 * row)) 0

-- 11 of a partition wherever it lies, by what it asks of the keys: so many rows are used, the first of its C keys begins at byte `keys_at`,
-- and the first of its C values at byte `values_at`
unfoldable pub part_ok_at : (keys : (book : Bool) → List ℕ → Bool) → (book : Bool) → (store : List ℕ) → (C used keys_at values_at : ℕ) →
    Bool
part_ok_at keys book store C used keys_at values_at =
    leb used C
    && keys book (fields 8 store keys_at used)
    && each_from (blank_row store keys_at values_at) (C - used) used

-- 11 of a partition, by what it asks of the keys: the book is partition P
unfoldable pub part_ok_by : (keys : (book : Bool) → List ℕ → Bool) → (store : List ℕ) (partition : ℕ) → Bool
part_ok_by keys store partition =
    part_ok_at keys (eqb partition (parts_of store)) store (cap_of store) (used_of store partition) (key_at store partition 0)
    (value_at store partition 0)

-- 11 of a partition
abbrev pub part_ok : (store : List ℕ) (partition : ℕ) → Bool
part_ok store partition = part_ok_by keys_ok store partition

-- 11. Is each used count at most C, each used key of a form of its partition and unlike the others there, each unused row zero, and are the
-- used keys rising?
unfoldable pub question11 : (store : List ℕ) → Bool
question11 store = each (parts_of store + 1) (part_ok store)

-- all of 11 but the rising keys, as order asks it
unfoldable pub question11_in_any_order : (store : List ℕ) → Bool
question11_in_any_order store = each (parts_of store + 1) (part_ok_by keys_apart store)

-- f holds at each of ks
unfoldable pub all_in : (ℕ → Bool) → (ks : List ℕ) → Bool
all_in f [] = true
all_in f (k ∷ ks) = f k && all_in f ks

-- the five keys of an id in the book are among ks
unfoldable pub five : (ks : List ℕ) (id : ℕ) → Bool
five ks id = each 5 (λ j. member (book_key id j) ks)

-- each id that has a key among ks has all five there; the floor's key, which is of no id, is passed over
unfoldable pub book_ok : (ks : List ℕ) → Bool
book_ok ks = all_in (λ k. is_floor_key k || five ks (booked_id k)) ks

-- no id that has a key among ks is below the floor
unfoldable pub from_floor : (floor : ℕ) (ks : List ℕ) → Bool
from_floor floor ks = all_in (λ k. is_floor_key k || leb floor (booked_id k)) ks

-- what 12 asks of the rows of a book, in whatever order they stand
unfoldable pub book_right : List Row → Bool
book_right rows = book_ok (keys_in rows) && from_floor (floor_at (λ k. lookup k rows)) (keys_in rows)

-- 12. Has each booked id all five rows, and is none below the floor? An id is booked as soon as it has any row in the book, which is
-- partition P.
unfoldable pub question12 : (store : List ℕ) → Bool
question12 store = book_right (rows_of store (parts_of store))

-- the first no among 9 to 12
unfoldable pub store_refusal : (store : List ℕ) → Option No
store_refusal store =
    ask (number 9) (question9 store)
    (ask (number 10) (question10 store)
    (ask (number 11) (question11 store)
    (ask (number 12) (question12 store)
    none)))

-- Order puts 9 to 12, of 11 all but the rising keys.
unfoldable pub order_refusal : (store : List ℕ) → Option No
order_refusal store =
    ask (number 9) (question9 store)
    (ask (number 10) (question10 store)
    (ask (number 11) (question11_in_any_order store)
    (ask (number 12) (question12 store)
    none)))

-- Create puts 9 to the numbers given and 10 to the lent buffer, by its length.
unfoldable pub create_refusal : (P C bytes : ℕ) → Option No
create_refusal P C bytes =
    ask (number 9) (numbers_right P C)
    (ask (number 10) (eqb bytes (store_length P C))
    none)
