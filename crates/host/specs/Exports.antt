-- What the exports for calls promise of the number returned and of the lent buffers.
use Rattle.std.specs.Prelude.{true, List, [], ◌∷◌, ◌≡◌, ℕ, eqb, leb, length}
use Rattle.std.proofs.Math.Option.{Option, none, some}
use Rattle.questions.specs.Basics.{if◌then◌otherwise◌}
use Rattle.rules.specs.Calls.{Call, restart, order}
use Rattle.rules.specs.Plain.{accepted}
use Rattle.store.specs.Ordered.{InOrder}
use Rattle.agents.specs.declared.Agent.{Agent}
use Rattle.agents.specs.Answers.{Answer}
use Rattle.std.specs.Prelude.{Ok}
use Rattle.agents.specs.declared.Accepted.TheVariants.{Done}
use Rattle.agents.specs.Answers.{answer_of}
use Rattle.meaning.specs.State.{Lent}
use Rattle.meaning.specs.Carried.{Carried}
use Rattle.slots.specs.Records.{slots_in, with_slots}
use Rattle.worklist.specs.declared.Worklist.{Worklist}
use Rattle.worklist.specs.Bytes.{list_in, with_list}
use Rattle.answers.specs.Answers.{number_of, values_of, with_words, heard, slots_after, list_after}
use Rattle.host.specs.Told.{answer_short}

-- 101: slots that are not 384 bytes, asked behind 100
unfoldable pub buffers_wrong : (answer slots : List ℕ) → Option ℕ
buffers_wrong answer slots =
    if leb 12 (length answer) then (if eqb (length slots) 384 then none otherwise some 101) otherwise some 100

-- 102: a worklist of fewer than 132 bytes, asked behind 101
unfoldable pub list_wrong : (answer slots list : List ℕ) → Option ℕ
list_wrong answer slots list =
    if leb 12 (length answer)
    then (if eqb (length slots) 384 then (if leb 132 (length list) then none otherwise some 102) otherwise some 101)
    otherwise some 100

-- what a host lends: the store's bytes, the records that the slots' bytes mean, and a worklist
abbrev pub lent_with : (store slots : List ℕ) → Worklist → Lent
lent_with store slots l = record { store = store; records = slots_in slots; list = l }

-- the worklist being the one that its bytes mean
abbrev pub lent_in : (store slots list : List ℕ) → Lent
lent_in store slots list = lent_with store slots (list_in list)

-- A call was put to the library, on what the slots' bytes mean and beside any worklist, which it does not get; the number and the words
-- are those of its answer.
pub record Served (pack store slots answer : List ℕ) (c : Call) (number : ℕ) (store' slots' answer' : List ℕ) : Type 0 where
  pub said : Answer
  pub carried : (l : Worklist) → Carried pack (lent_with store slots l) c said (lent_with store' slots' l)
  pub bytes : slots' ≡ slots_after (answer_of said) slots (slots_in slots')
  pub given : number ≡ number_of (answer_of said)
  pub words : answer' ≡ with_words answer (values_of (answer_of said))
  -- and that answer is what the host reads from them
  pub read : heard number answer' ≡ some (answer_of said)

-- A call of an export: a wrong buffer gives the library's own number, and nothing is changed; otherwise it is served.
pub record Exported (pack store slots answer : List ℕ) (c : Call) (number : ℕ) (store' slots' answer' : List ℕ) : Type 0 where
  pub wrong : (n : ℕ) → buffers_wrong answer slots ≡ some n → (number ≡ n) × (store' ≡ store) × (slots' ≡ slots) × (answer' ≡ answer)
  pub served : buffers_wrong answer slots ≡ none → Served pack store slots answer c number store' slots' answer'

-- A call on the worklist was put to the library, on what the bytes of slots and list mean; it writes to neither store nor slots. The list's
-- bytes are those of the list that it left, and the number and the words are those of its answer.
pub record ListServed (pack store slots list answer : List ℕ) (c : Call) (number : ℕ) (list' answer' : List ℕ) : Type 0 where
  pub said : Answer
  pub carried : Carried pack (lent_in store slots list) c said (lent_in store slots list')
  pub bytes : list' ≡ list_after (answer_of said) list (list_in list')
  pub given : number ≡ number_of (answer_of said)
  pub words : answer' ≡ with_words answer (values_of (answer_of said))
  pub read : heard number answer' ≡ some (answer_of said)

-- Add, take and done: a wrong buffer gives the library's own number, and nothing is changed; otherwise the call is served.
pub record ListExported (pack store slots list answer : List ℕ) (c : Call) (number : ℕ) (list' answer' : List ℕ) : Type 0 where
  pub wrong : (n : ℕ) → list_wrong answer slots list ≡ some n → (number ≡ n) × (list' ≡ list) × (answer' ≡ answer)
  pub served : list_wrong answer slots list ≡ none → ListServed pack store slots list answer c number list' answer'

-- A call was put to the library, on what the bytes of slots and list mean, and writes to neither: the store is the one that it left, and
-- the number and the words are those of its answer.
pub record StoreServed (pack store slots list answer : List ℕ) (c : Call) (number : ℕ) (store' answer' : List ℕ) : Type 0 where
  pub said : Answer
  pub carried : Carried pack (lent_in store slots list) c said (lent_in store' slots list)
  pub given : number ≡ number_of (answer_of said)
  pub words : answer' ≡ with_words answer (values_of (answer_of said))
  pub read : heard number answer' ≡ some (answer_of said)

-- Retire: a wrong buffer gives the library's own number, and nothing is changed; otherwise the call is served.
pub record StoreExported (pack store slots list answer : List ℕ) (c : Call) (number : ℕ) (store' answer' : List ℕ) : Type 0 where
  pub wrong : (n : ℕ) → list_wrong answer slots list ≡ some n → (number ≡ n) × (store' ≡ store) × (answer' ≡ answer)
  pub served : list_wrong answer slots list ≡ none → StoreServed pack store slots list answer c number store' answer'

-- Restart, which gets slots and list: a wrong buffer gives the library's own number, and nothing is changed; otherwise it is carried out,
-- with any pack and any store, and answers done.
pub record Restarted (slots list answer : List ℕ) (number : ℕ) (slots' list' answer' : List ℕ) : Type 0 where
  pub wrong : (n : ℕ) → list_wrong answer slots list ≡ some n →
      (number ≡ n) × (slots' ≡ slots) × (list' ≡ list) × (answer' ≡ answer)
  pub served : list_wrong answer slots list ≡ none →
      ((pack store : List ℕ) → Carried pack (lent_in store slots list) restart (Ok Done) (lent_in store slots' list'))
      × (slots' ≡ with_slots slots (slots_in slots'))
      × (list' ≡ with_list list (list_in list'))
      × (number ≡ 0)
      × (answer' ≡ with_words answer (0 ∷ 0 ∷ 0 ∷ []))

-- Order, which gets the store only: an answer buffer that is too short gives 100, and nothing is changed; otherwise the call is carried
-- out, with any pack, any records and any worklist, and the number and the words are those of its answer. Accepted, it leaves the store
-- in order.
pub record PutInOrder (store answer : List ℕ) (number : ℕ) (store' answer' : List ℕ) : Type 0 where
  pub short : (n : ℕ) → answer_short 12 answer ≡ some n → (number ≡ n) × (store' ≡ store) × (answer' ≡ answer)
  pub served : answer_short 12 answer ≡ none → (said : Answer)
      × ((pack : List ℕ) (records : List Agent) (l : Worklist) →
      Carried pack (record { store = store; records = records; list = l }) order said
      (record { store = store'; records = records; list = l }))
      × (accepted (answer_of said) ≡ true → InOrder store store')
      × (number ≡ number_of (answer_of said))
      × (answer' ≡ with_words answer (values_of (answer_of said)))
      × (heard number answer' ≡ some (answer_of said))
