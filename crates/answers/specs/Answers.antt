-- What a program in another language is told: a number, and words in the answer buffer.
use Rattle.std.specs.Prelude.{List, [], ◌∷◌, ℕ, eqb, length}
use Rattle.std.proofs.Math.Option.{Option, none, some}
use Rattle.words.specs.Words.{le}
use Rattle.questions.specs.Basics.{if◌then◌otherwise◌}
use Rattle.questions.specs.Questions.{No, no, Placed}
use Rattle.rules.specs.Blocks.{yields}
use Rattle.rules.specs.Calls.{Answer, done, moved, reply, given, refused}
use Rattle.agents.specs.declared.Agent.{Agent}
use Rattle.slots.specs.Records.{puts, with_slots}
use Rattle.worklist.specs.declared.Worklist.{Worklist}
use Rattle.worklist.specs.Bytes.{with_list}

-- the number that is returned for an answer
unfoldable pub number_of : Answer → ℕ
number_of done = 0
number_of moved = 1
number_of (reply id (yields value)) = 2
number_of (refused n) = 3
number_of (given id) = 4

-- its three words
unfoldable pub values_of : Answer → List ℕ
values_of done = 0 ∷ 0 ∷ 0 ∷ []
values_of moved = 0 ∷ 0 ∷ 0 ∷ []
values_of (reply id (yields value)) = id ∷ value ∷ 0 ∷ []
values_of (refused n) = n.question ∷ n.workflow ∷ n.instruction ∷ []
values_of (given id) = id ∷ 0 ∷ 0 ∷ []

-- the answer buffer with words of 4 bytes each from its start on
abbrev pub with_words : (answer words : List ℕ) → List ℕ
with_words answer words = puts 4 answer 0 words (length words)

-- The answer that a host reads, from the number returned and the words in the answer buffer: back from number and words. (100 to 102,
-- of a wrong buffer, are no answer of a call.)
unfoldable pub heard : (number : ℕ) (answer : List ℕ) → Option Answer
heard number answer =
    if eqb number 0 then some done
    otherwise if eqb number 1 then some moved
    otherwise if eqb number 2 then some (reply (le 4 answer 0) (yields (le 4 answer 4)))
    otherwise if eqb number 3 then some (refused (no (le 4 answer 0) (le 4 answer 4) (le 4 answer 8)))
    otherwise if eqb number 4 then some (given (le 4 answer 0))
    otherwise none

-- a refusal names a place of a pack, which fits into its words
abbrev pub PlaceFits : Answer → Type 0
PlaceFits done = Unit {0}
PlaceFits moved = Unit {0}
PlaceFits (reply id value) = Unit {0}
PlaceFits (given id) = Unit {0}
PlaceFits (refused n) = Placed n

-- what questions come to where nothing else is done
unfoldable pub judged : Option No → Answer
judged none = done
judged (some n) = refused n

-- the slots' bytes after a call: as they were on a refusal, otherwise those of the records it left
unfoldable pub slots_after : Answer → (slots : List ℕ) → (records : List Agent) → List ℕ
slots_after done slots records = with_slots slots records
slots_after moved slots records = with_slots slots records
slots_after (reply id value) slots records = with_slots slots records
slots_after (given id) slots records = with_slots slots records
slots_after (refused n) slots records = slots

-- the worklist's bytes after a call that got them: as they were on a refusal, otherwise with the list it left
unfoldable pub list_after : Answer → (bytes : List ℕ) → Worklist → List ℕ
list_after done bytes l = with_list bytes l
list_after moved bytes l = with_list bytes l
list_after (reply id value) bytes l = with_list bytes l
list_after (given id) bytes l = with_list bytes l
list_after (refused n) bytes l = bytes
