-- Eight agent records in 384 lent bytes, 48 to a record: twelve words of 4 bytes, which are in use (0 or 1), id, position, step number and
-- the eight registers.
use Rattle.std.specs.Prelude.{Bool, false, ◌&&◌, List, [], ◌∷◌, ℕ, zero, suc, ◌+◌, ◌*◌, ◌^◌, ltb, eqb, get_or, drop, replicate}
use Rattle.questions.specs.Basics.{if◌then◌otherwise◌}
use Rattle.words.specs.Words.{put, fields}
use Rattle.agents.specs.declared.Agent.{Agent}
use Rattle.agents.specs.Slots.{agent_at}

-- Bytes that are no record stand for this one. It is neither empty nor in use, so question 14 says no to it.
abbrev pub no_record : Agent
no_record = record { in_use = false; id = 1; position = 0; step = 0; registers = replicate 8 0 }

-- do twelve words make a record: is in use 0 or 1, have position and step number 16 bits?
unfoldable pub is_record : (ws : List ℕ) → Bool
is_record ws = ltb (get_or ws 0 0) 2 && (ltb (get_or ws 2 0) (2 ^ 16) && ltb (get_or ws 3 0) (2 ^ 16))

-- the record that twelve words make
unfoldable pub record_by : (ws : List ℕ) → Agent
record_by ws =
    if is_record ws
    then record { in_use = eqb (get_or ws 0 0) 1; id = get_or ws 1 0; position = get_or ws 2 0; step = get_or ws 3 0; registers = drop 4 ws }
    otherwise no_record

-- the i-th record in the bytes
abbrev pub record_in : (bytes : List ℕ) (i : ℕ) → Agent
record_in bytes i = record_by (fields 4 bytes (48 * i) 12)

-- the n records from the i-th on
unfoldable pub records_in : (bytes : List ℕ) (n i : ℕ) → List Agent
records_in bytes zero i = []
records_in bytes (suc n) i = record_in bytes i ∷ records_in bytes n (i + 1)

-- the eight slots in the bytes
abbrev pub slots_in : (bytes : List ℕ) → List Agent
slots_in bytes = records_in bytes 8 0

-- the twelve words of a record
unfoldable pub words_of : Agent → List ℕ
words_of a = (if a.in_use then 1 otherwise 0) ∷ a.id ∷ a.position ∷ a.step ∷ a.registers

-- xs with the first n of the numbers vs in a row from `at` on, w bytes each
unfoldable pub puts : (w : ℕ) (xs : List ℕ) (at : ℕ) (vs : List ℕ) (n : ℕ) → List ℕ
puts w xs at vs zero = xs
puts w xs at vs (suc n) = put w (puts w xs at vs n) (at + n * w) (get_or vs n 0)

-- the bytes with a for their i-th record
abbrev pub with_record : (bytes : List ℕ) (i : ℕ) → Agent → List ℕ
with_record bytes i a = puts 4 bytes (48 * i) (words_of a) 12

-- the bytes with the first n of the records
unfoldable pub with_records : (bytes : List ℕ) (records : List Agent) (n : ℕ) → List ℕ
with_records bytes records zero = bytes
with_records bytes records (suc n) = with_record (with_records bytes records n) n (agent_at records n)

-- the bytes with eight records
abbrev pub with_slots : (bytes : List ℕ) (records : List Agent) → List ℕ
with_slots bytes records = with_records bytes records 8
