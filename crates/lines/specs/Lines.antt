-- The lines that are printed, as bytes. Each ends with a newline.
use Rattle.std.specs.Prelude.{List, [], ◌∷◌, ◌++◌, ℕ}
use Rattle.keys.specs.Keys.{is_data_key, data_of, id_of, step_of}
use Rattle.questions.specs.Basics.{if◌then◌otherwise◌}
use Rattle.rules.specs.Blocks.{yields}
use Rattle.rules.specs.Calls.{Answer, done, moved, reply, given, refused}
use Rattle.text.specs.Text.{decimal}

-- a blank and a newline
abbrev pub blank : List ℕ
blank = 32 ∷ []

abbrev pub newline : List ℕ
newline = 10 ∷ []

-- a number behind a blank
unfoldable pub field : (x : ℕ) → List ℕ
field x = blank ++ decimal x

-- events, refused, done, moved, reply, taken, row, log
abbrev pub events_word : List ℕ
events_word = 101 ∷ 118 ∷ 101 ∷ 110 ∷ 116 ∷ 115 ∷ []

abbrev pub refused_word : List ℕ
refused_word = 114 ∷ 101 ∷ 102 ∷ 117 ∷ 115 ∷ 101 ∷ 100 ∷ []

abbrev pub done_word : List ℕ
done_word = 100 ∷ 111 ∷ 110 ∷ 101 ∷ []

abbrev pub moved_word : List ℕ
moved_word = 109 ∷ 111 ∷ 118 ∷ 101 ∷ 100 ∷ []

abbrev pub reply_word : List ℕ
reply_word = 114 ∷ 101 ∷ 112 ∷ 108 ∷ 121 ∷ []

abbrev pub taken_word : List ℕ
taken_word = 116 ∷ 97 ∷ 107 ∷ 101 ∷ 110 ∷ []

abbrev pub row_word : List ℕ
row_word = 114 ∷ 111 ∷ 119 ∷ []

abbrev pub log_word : List ℕ
log_word = 108 ∷ 111 ∷ 103 ∷ []

-- events TOTAL
unfoldable pub events_line : (total : ℕ) → List ℕ
events_line n = events_word ++ (field n ++ newline)

-- refused N
unfoldable pub refused_line : (question : ℕ) → List ℕ
refused_line q = refused_word ++ (field q ++ newline)

-- an answer in words: done, moved, reply ID VALUE, taken ID, refused N
unfoldable pub answer_text : Answer → List ℕ
answer_text done = done_word
answer_text moved = moved_word
answer_text (reply id (yields value)) = reply_word ++ (field id ++ field value)
answer_text (given id) = taken_word ++ field id
answer_text (refused n) = refused_word ++ field n.question

-- an event's number and its answer
unfoldable pub answer_line : (event : ℕ) → Answer → List ℕ
answer_line i a = decimal i ++ (blank ++ (answer_text a ++ newline))

-- row PARTITION KEY VALUE
unfoldable pub row_line : (partition key value : ℕ) → List ℕ
row_line p k v = row_word ++ (field p ++ (field k ++ (field v ++ newline)))

-- log PARTITION ID STEP VALUE
unfoldable pub log_line : (partition id step value : ℕ) → List ℕ
log_line p id t v = log_word ++ (field p ++ (field id ++ (field t ++ (field v ++ newline))))

-- the line of a row by its stored key: a data key's, or else a log key's
unfoldable pub stored_line : (partition stored value : ℕ) → List ℕ
stored_line p k v = if is_data_key k then row_line p (data_of k) v otherwise log_line p (id_of k) (step_of k) v
