-- The call that a case stands for, and what making it promises.
use Rattle.std.specs.Prelude.{List, [], ◌∷◌, ◌⊎◌, ◌≡◌, ℕ, ◌≤◌, ◌<◌, eqb, length, get_or}
use Rattle.std.proofs.Math.Option.{some}
use Rattle.questions.specs.Basics.{if◌then◌otherwise◌}
use Rattle.questions.specs.Verdicts.{verdict_of}
use Rattle.rules.specs.Calls.{Call, arrival, retry, turn, crash, restart, order, list_add, list_take, list_done, retire}
use Rattle.pack.specs.Refusal.{pack_refusal, open_refusal}
use Rattle.store.specs.Questions.{create_refusal}
use Rattle.store.specs.Created.{Created}
use Rattle.agents.specs.Answers.{Answer}
use Rattle.agents.specs.Answers.{answer_of}
use Rattle.meaning.specs.Carried.{Carried}
use Rattle.slots.specs.Records.{slots_in}
use Rattle.worklist.specs.Bytes.{list_in}
use Rattle.answers.specs.Answers.{judged, heard, slots_after, list_after}
use Rattle.host.specs.Exports.{lent_in}

-- a call byte with its seven words: 3 arrival, 4 retry, 5 turn, 6 crash, 9 order, 10 add, 11 take, 12 done, 13 retire, otherwise restart
unfoldable pub call_by : (byte : ℕ) (words : List ℕ) → Call
call_by byte ws =
    if eqb byte 3
    then arrival (get_or ws 0 0) (get_or ws 1 0) (get_or ws 2 0) (get_or ws 3 0 ∷ get_or ws 4 0 ∷ get_or ws 5 0 ∷ get_or ws 6 0 ∷ [])
    otherwise if eqb byte 4 then retry (get_or ws 0 0) (get_or ws 1 0)
    otherwise if eqb byte 5 then turn (get_or ws 0 0)
    otherwise if eqb byte 6 then crash (get_or ws 0 0)
    otherwise if eqb byte 9 then order
    otherwise if eqb byte 10 then list_add (get_or ws 0 0)
    otherwise if eqb byte 11 then list_take
    otherwise if eqb byte 12 then list_done (get_or ws 0 0)
    otherwise if eqb byte 13 then retire (get_or ws 0 0)
    otherwise restart

-- The bytes of records and worklist behind a call on a store. Order, add, take, done and retire leave the records; of any other call their
-- bytes are those of the records that it left, or unchanged if it is refused. Arrival, retry, turn, crash, order and retire leave the
-- worklist.
pub record BytesLeft (byte : ℕ) (records list : List ℕ) (answer : Answer) (records' list' : List ℕ) : Type 0 where
  pub written : (byte < 9) ⊎ (13 < byte) → records' ≡ slots_after (answer_of answer) records (slots_in records')
  pub alone : 9 ≤ byte → byte ≤ 13 → records' ≡ records
  pub listed : 6 < byte → (byte ≡ 9 → ⊥) → (byte ≡ 13 → ⊥) → list' ≡ list_after (answer_of answer) list (list_in list')
  pub unlisted : (byte ≤ 6) ⊎ ((byte ≡ 9) ⊎ (byte ≡ 13)) → list' ≡ list

-- A call on a store was put to the library, with right buffers: it is promised as every call is, and its answer is what the host reads.
pub record OnStore (byte : ℕ) (words pack store records list : List ℕ) (number : ℕ) (store' records' list' answer' : List ℕ) : Type 0 where
  pub said : Answer
  pub carried : Carried pack (lent_in store records list) (call_by byte words) said (lent_in store' records' list')
  pub bytes : BytesLeft byte records list said records' list'
  pub read : heard number answer' ≡ some (answer_of said)

-- The call of a case was made, on the bytes of its store, of its records and of its worklist: 0 is the check, 1 an opening, 2 a create, and
-- any other a call of the list, promised as every call is.
pub record CaseMade (byte : ℕ) (words pack store records list : List ℕ) (answer : Answer) (store' records' list' : List ℕ) : Type 0 where
  pub check : byte ≡ 0 → (answer_of answer ≡ judged (pack_refusal pack)) × (store' ≡ store) × (records' ≡ records) × (list' ≡ list)
  pub opening : byte ≡ 1 →
      (answer_of answer ≡ judged (open_refusal pack (get_or words 0 0))) × (store' ≡ store) × (records' ≡ records) × (list' ≡ list)
  pub create : byte ≡ 2 → (answer_of answer ≡ judged (create_refusal (get_or words 0 0) (get_or words 1 0) (length store)))
      × Created store store' (get_or words 0 0) (get_or words 1 0) (verdict_of (create_refusal (get_or words 0 0) (get_or words 1 0) (length store)))
      × (records' ≡ records) × (list' ≡ list)
  pub carried : 3 ≤ byte → Carried pack (lent_in store records list) (call_by byte words) answer (lent_in store' records' list')
  pub bytes : 3 ≤ byte → BytesLeft byte records list answer records' list'
