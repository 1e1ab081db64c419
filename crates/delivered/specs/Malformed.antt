-- Slots whose bytes are no record: in use above 1, or a position or step number of 65,536 or more.
use Rattle.std.specs.Prelude.{false, List, ◌≡◌, ℕ, ◌*◌, ◌<◌}
use Rattle.std.proofs.Math.Option.{Option, some}
use Rattle.words.specs.Words.{fields}
use Rattle.questions.specs.Questions.{No, number, ask, or_else}
use Rattle.rules.specs.Calls.{arrival, retry, turn, crash, list_add, list_take, list_done, retire}
use Rattle.pack.specs.Refusal.{pack_refusal}
use Rattle.store.specs.Questions.{store_refusal}
use Rattle.meaning.specs.Questions.{question13, question14, refusal_for}
use Rattle.slots.specs.Records.{is_record, slots_in}
use Rattle.worklist.specs.declared.Worklist.{Worklist}
use Rattle.host.specs.Exports.{lent_with}

-- the bytes of slot i are no record
abbrev pub NoRecordIn : (slots : List ℕ) (i : ℕ) → Type 0
NoRecordIn slots i = is_record (fields 4 slots (48 * i) 12) ≡ false

-- the first no of 1 to 13, or else 14
abbrev pub or_else14 : (pack store : List ℕ) → Option No
or_else14 pack store = or_else (pack_refusal pack) (or_else (store_refusal store) (ask (number 13) (question13 pack store) (some (number 14))))

-- Question 14 says no, and so every call that puts it is refused in its place, whatever slot it names. Nothing is changed then
-- (`RefusedFirst`, `ListRefusedFirst`): the bytes stay, and no arrival takes their slot. So it is whatever worklist there is beside them.
pub record Malformed (pack store slots : List ℕ) (l : Worklist) : Type 0 where
  pub no_14 : question14 pack store (slots_in slots) ≡ false
  pub arrivals : (slot id workflow : ℕ) (arguments : List ℕ) →
      refusal_for pack (lent_with store slots l) (arrival slot id workflow arguments) ≡ or_else14 pack store
  pub retries : (slot id : ℕ) → refusal_for pack (lent_with store slots l) (retry slot id) ≡ or_else14 pack store
  pub turns : (slot : ℕ) → refusal_for pack (lent_with store slots l) (turn slot) ≡ or_else14 pack store
  pub crashes : (slot : ℕ) → refusal_for pack (lent_with store slots l) (crash slot) ≡ or_else14 pack store
  pub adds : (id : ℕ) → refusal_for pack (lent_with store slots l) (list_add id) ≡ or_else14 pack store
  pub takes : refusal_for pack (lent_with store slots l) list_take ≡ or_else14 pack store
  pub dones : (id : ℕ) → refusal_for pack (lent_with store slots l) (list_done id) ≡ or_else14 pack store
  pub retires : (floor : ℕ) → refusal_for pack (lent_with store slots l) (retire floor) ≡ or_else14 pack store

-- That is so wherever the bytes of one of the eight slots are no record.
abbrev pub MalformedRefused : Type 0
MalformedRefused =
    (pack store slots : List ℕ) (l : Worklist) (i : ℕ) → i < 8 → NoRecordIn slots i → Malformed pack store slots l
