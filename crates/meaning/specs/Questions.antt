-- Questions 13 and 14, each a test, and the first no of all questions that a call puts.
use Rattle.std.specs.Prelude.{Bool, true, false, not, ◌&&◌, List, ℕ, ◌+◌, ◌*◌, ◌/◌, ltb, leb, eqb, length, get_or}
use Rattle.std.proofs.Math.Option.{Option, none, some}
use Rattle.rules.specs.Calls as Rules
use Rattle.keys.specs.Keys.{is_workflow_key}
use Rattle.contents.specs.Contents.{contents_of, value_in, book_of, book_rows}
use Rattle.words.specs.Words.{le}
use Rattle.questions.specs.Basics.{if◌then◌otherwise◌, each, is_some}
use Rattle.questions.specs.Questions.{No, number, ask, or_else}
use Rattle.rules.specs.Store.{Request}
use Rattle.rules.specs.Calls.{Call, arrival, retry, turn, crash, restart, order, list_add, list_take, list_done, retire, stopped, refusal}
use Rattle.code.specs.Questions.{inside_at}
use Rattle.pack.specs.Layout.{count, size_of, total, operations_of}
use Rattle.pack.specs.Refusal.{pack_refusal}
use Rattle.pack.specs.Meaning.{pack_of}
use Rattle.store.specs.Rows.{Row, store_of}
use Rattle.store.specs.Layout.{parts_of}
use Rattle.store.specs.Questions.{store_refusal, order_refusal}
use Rattle.agents.specs.declared.Agent.{Agent}
use Rattle.agents.specs.Slots.{agent_at, slots_of, is_blank}
use Rattle.rules.specs.Worklist.{list_right}
use Rattle.worklist.specs.Worklist.{worklist_of}
use Rattle.meaning.specs.State.{state_of, Lent}

-- a row of the book that has a workflow number has one below m
unfoldable pub books_below : (m : ℕ) → Row → Bool
books_below m r = if is_workflow_key r.0 then ltb r.1 m otherwise true

-- an operation byte and its operand word: if it is BEGIN, its partition is below P
unfoldable pub opens_below : (P byte w : ℕ) → Bool
opens_below P b w = if eqb (b / 16) 6 then ltb w P otherwise true

-- of all T instructions of the pack, the operation byte and the operand word of the i-th
abbrev pub byte_of : (pack : List ℕ) → (i : ℕ) → ℕ
byte_of pack i = get_or pack (1 + 2 * count pack + i) 0

abbrev pub word_of : (pack : List ℕ) → (i : ℕ) → ℕ
word_of pack i = le 4 pack (1 + 2 * count pack + total pack + 4 * i)

-- is each booked workflow below m?
unfoldable pub booked_right : (pack store : List ℕ) → Bool
booked_right pack store = each (length (book_rows store)) (λ i. books_below (count pack) (get_or (book_rows store) i (0, 0)))

-- is each BEGIN's partition below P?
unfoldable pub opens_right : (pack store : List ℕ) → Bool
opens_right pack store = each (total pack) (λ i. opens_below (parts_of store) (byte_of pack i) (word_of pack i))

-- 13. Is each booked workflow below m, each BEGIN's partition below P?
unfoldable pub question13 : (pack store : List ℕ) → Bool
question13 pack store = booked_right pack store && opens_right pack store

-- A sound record has its id in the book, its position below its workflow's size and outside a block, and a step number at most its
-- position.
unfoldable pub is_sound : (pack : List ℕ) → Agent → Option Request → Bool
is_sound pack r none = false
is_sound pack r (some q) =
    ltb r.position (size_of pack q.workflow)
    && (not (inside_at (operations_of pack q.workflow) r.position)
    && leb r.step r.position)

-- a slot is empty, or in use and sound
unfoldable pub slot_right : (pack store : List ℕ) → Agent → Bool
slot_right pack store r = if r.in_use then is_sound pack r (book_of (value_in (book_rows store)) r.id) otherwise is_blank r

-- 14. Is each slot empty or sound?
unfoldable pub question14 : (pack store : List ℕ) → (records : List Agent) → Bool
question14 pack store records = each 8 (λ i. slot_right pack store (agent_at records i))

-- Questions 1 to 14, in order: the first no.
unfoldable pub lent_refusal : (pack : List ℕ) → Lent → Option No
lent_refusal pack lent =
    or_else (pack_refusal pack)
    (or_else (store_refusal lent.store)
    (ask (number 13) (question13 pack lent.store)
    (ask (number 14) (question14 pack lent.store lent.records)
    none)))

-- Questions 1 to 13, of pack and store, in order: the first no.
unfoldable pub first_thirteen : (pack store : List ℕ) → Option No
first_thirteen pack store = or_else (pack_refusal pack) (or_else (store_refusal store) (ask (number 13) (question13 pack store) none))

-- Questions 1 to 13 and 20, which the reading of a reply puts: the first no.
unfoldable pub reply_refusal : (pack store : List ℕ) (id : ℕ) → Option No
reply_refusal pack store id =
    or_else (first_thirteen pack store)
    (ask (number 20) (is_some ((contents_of (store_of store)).book id))
    none)

-- Questions 1 to 14 and 25, with which add, take, done and retire begin: the first no.
unfoldable pub list_refusal : (pack : List ℕ) → Lent → Option No
list_refusal pack lent = or_else (lent_refusal pack lent) (ask (number 25) (list_right (worklist_of lent.list)) none)

-- 16 of a slot, by what is wanted of it: in use, or empty
abbrev pub as_wanted : (used : Bool) → Option Rules.Agent → Bool
as_wanted true held = is_some held
as_wanted false held = not (is_some held)

-- Questions 1 to 16, with which arrival and retry (into an empty slot), turn and crash (of one in use) begin: the first no.
unfoldable pub first_sixteen : (pack : List ℕ) → Lent → (slot : ℕ) → (used : Bool) → Option No
first_sixteen pack lent slot used =
    or_else (lent_refusal pack lent)
    (ask (number 15) (ltb slot 8)
    (ask (number 16) (as_wanted used (slots_of lent.records slot))
    none))

-- Restart puts none of them. Order, which gets the store only, puts 9 to 12, of 11 all but the rising keys. Every other call puts 1 to 14.
unfoldable pub lent_for : Call → (pack : List ℕ) → Lent → Option No
lent_for (arrival slot id w args) pack lent = lent_refusal pack lent
lent_for (retry slot id) pack lent = lent_refusal pack lent
lent_for (turn slot) pack lent = lent_refusal pack lent
lent_for (crash slot) pack lent = lent_refusal pack lent
lent_for restart pack lent = none
lent_for order pack lent = order_refusal lent.store
lent_for (list_add id) pack lent = lent_refusal pack lent
lent_for list_take pack lent = lent_refusal pack lent
lent_for (list_done id) pack lent = lent_refusal pack lent
lent_for (retire floor) pack lent = lent_refusal pack lent
lent_for (stopped n) pack lent = lent_refusal pack lent

-- All questions that a call puts, in the order in which they are put: the first no.
unfoldable pub refusal_for : (pack : List ℕ) → Lent → Call → Option No
refusal_for pack lent c = or_else (lent_for c pack lent) (refusal (pack_of pack) (state_of lent) c)
