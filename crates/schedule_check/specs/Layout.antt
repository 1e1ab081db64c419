-- A schedule in bytes: P (1), C (2), request count g (1), event count e (2); g requests of six 4-byte words; e event bytes; e request
-- indexes. P and C stand where a store has them, and are read as there.
use Rattle.std.specs.Prelude.{List, [], ◌∷◌, ℕ, ◌+◌, ◌*◌, ◌/◌, ◌%◌, get_or}
use Rattle.words.specs.Words.{le}

-- g
abbrev pub request_count : (schedule : List ℕ) → ℕ
request_count s = get_or s 3 0

-- e
abbrev pub event_count : (schedule : List ℕ) → ℕ
event_count s = le 2 s 4

-- the length of a schedule of g requests and e events
abbrev pub length_for : (g e : ℕ) → ℕ
length_for g e = 6 + 24 * g + 2 * e

-- a request's six words: id, workflow, arguments
abbrev pub request_word : (schedule : List ℕ) → (request word : ℕ) → ℕ
request_word s r word = le 4 s (6 + 24 * r + 4 * word)

abbrev pub request_id : (schedule : List ℕ) → (request : ℕ) → ℕ
request_id s r = request_word s r 0

abbrev pub request_workflow : (schedule : List ℕ) → (request : ℕ) → ℕ
request_workflow s r = request_word s r 1

abbrev pub request_arguments : (schedule : List ℕ) → (request : ℕ) → List ℕ
request_arguments s r = request_word s r 2 ∷ request_word s r 3 ∷ request_word s r 4 ∷ request_word s r 5 ∷ []

-- the byte of an event: its high four bits are the kind, its low four the slot
abbrev pub event_byte : (schedule : List ℕ) → (event : ℕ) → ℕ
event_byte s event = get_or s (6 + 24 * request_count s + event) 0

abbrev pub kind_at : (schedule : List ℕ) → (event : ℕ) → ℕ
kind_at s event = event_byte s event / 16

abbrev pub slot_at : (schedule : List ℕ) → (event : ℕ) → ℕ
slot_at s event = event_byte s event % 16

-- the request index of an event
abbrev pub index_at : (schedule : List ℕ) → (event : ℕ) → ℕ
index_at s event = get_or s (6 + 24 * request_count s + event_count s + event) 0
