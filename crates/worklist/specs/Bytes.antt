-- A worklist in 132 lent bytes: 33 words of 4 bytes, which are the number of ids and, for each of the sixteen places, id and mark.
use Rattle.std.specs.Prelude.{List, [], ◌∷◌, ℕ, zero, suc, ◌+◌, ◌*◌}
use Rattle.words.specs.Words.{le, put}
use Rattle.worklist.specs.declared.Entry.{Entry}
use Rattle.worklist.specs.declared.Worklist.{Worklist}
use Rattle.worklist.specs.Worklist.{place_at}

-- the entry at a place in the bytes
abbrev pub entry_in : (bytes : List ℕ) (place : ℕ) → Entry
entry_in bytes i = record { id = le 4 bytes (4 + 8 * i); mark = le 4 bytes (8 + 8 * i) }

-- the entries at the n places from the i-th on
unfoldable pub entries_in : (bytes : List ℕ) (n i : ℕ) → List Entry
entries_in bytes zero i = []
entries_in bytes (suc n) i = entry_in bytes i ∷ entries_in bytes n (i + 1)

-- the worklist in the bytes
abbrev pub list_in : (bytes : List ℕ) → Worklist
list_in bytes = record { count = le 4 bytes 0; places = entries_in bytes 16 0 }

-- the bytes with e at a place
abbrev pub with_entry : (bytes : List ℕ) (place : ℕ) → Entry → List ℕ
with_entry bytes i e = put 4 (put 4 bytes (4 + 8 * i) e.id) (8 + 8 * i) e.mark

-- the bytes with the first n of the entries
unfoldable pub with_entries : (bytes : List ℕ) (places : List Entry) (n : ℕ) → List ℕ
with_entries bytes es zero = bytes
with_entries bytes es (suc n) = with_entry (with_entries bytes es n) n (place_at es n)

-- the bytes with a worklist
abbrev pub with_list : (bytes : List ℕ) → Worklist → List ℕ
with_list bytes l = with_entries (put 4 bytes 0 l.count) l.places 16
