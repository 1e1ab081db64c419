-- Lists of calls as a host makes them: by the exported functions, on bytes.
use Rattle.std.specs.Prelude.{List, [], ◌∷◌, ◌++◌, ◌⊎◌, ◌≡◌, ℕ, ◌<◌, length, replicate}
use Rattle.std.proofs.Math.Option.{Option, none, some}
use Rattle.rules.specs.Calls.{Call, Answer, restart, order}
use Rattle.rules.specs.Plain.{Event}
use Rattle.answers.specs.Answers.{heard}
use Rattle.host.specs.Told.{Made}
use Rattle.host.specs.Exports.{Exported, ListExported, StoreExported, Restarted, PutInOrder}

-- the calls with one more, if the host read an answer to it; a wrong buffer, 100 to 102, is none
abbrev pub and_then : Call → Option Answer → List Event → List Event
and_then c none events = events
and_then c (some a) events = record { made = c; answer = a } ∷ events

-- a buffer that can't be the slots, of another length, or one that can't be the worklist, too short for it
abbrev pub OtherLent : (slots list : List ℕ) → Type 0
OtherLent slots list = (length slots ≡ 384 → ⊥) ⊎ (length list < 132)

-- One call that a host makes: the bytes of store, slots and worklist that it has before it, the call, what it reads, and the bytes that it
-- has after it. The answer buffer may be too short. Where it lends a buffer that can't be the one meant, its own stays with it.
pub data HostCall (pack : List ℕ) : (store slots list : List ℕ) → Call → Option Answer → (store' slots' list' : List ℕ) → Type 0 where
  -- an export is called that does not get the worklist
  calls : (store slots list answer : List ℕ) (c : Call) (number : ℕ) (store' slots' answer' : List ℕ) →
      Exported pack store slots answer c number store' slots' answer' →
      HostCall pack store slots list c (heard number answer') store' slots' list
  -- so is one that works on the worklist
  lists : (store slots list answer : List ℕ) (c : Call) (number : ℕ) (list' answer' : List ℕ) →
      ListExported pack store slots list answer c number list' answer' →
      HostCall pack store slots list c (heard number answer') store slots list'
  -- so is one that reads slots and worklist and works on the store
  stores : (store slots list answer : List ℕ) (c : Call) (number : ℕ) (store' answer' : List ℕ) →
      StoreExported pack store slots list answer c number store' answer' →
      HostCall pack store slots list c (heard number answer') store' slots list
  -- so is restart
  restarts : (store slots list answer : List ℕ) (number : ℕ) (slots' list' answer' : List ℕ) →
      Restarted slots list answer number slots' list' answer' →
      HostCall pack store slots list restart (heard number answer') store slots' list'
  -- so is order
  orders : (store slots list answer : List ℕ) (number : ℕ) (store' answer' : List ℕ) → PutInOrder store answer number store' answer' →
      HostCall pack store slots list order (heard number answer') store' slots list
  -- an export is called with a buffer that can't be the slots, of another length
  mislends : (store slots list other answer : List ℕ) (c : Call) (number : ℕ) (store' other' answer' : List ℕ) →
      (length other ≡ 384 → ⊥) → Exported pack store other answer c number store' other' answer' →
      HostCall pack store slots list c (heard number answer') store' slots list
  -- so is one that works on the worklist, with slots or a worklist that can't be the host's
  mislists : (store slots list slots₁ list₁ answer : List ℕ) (c : Call) (number : ℕ) (list₂ answer' : List ℕ) →
      OtherLent slots₁ list₁ → ListExported pack store slots₁ list₁ answer c number list₂ answer' →
      HostCall pack store slots list c (heard number answer') store slots list
  -- so is one that reads them and works on the store
  misstores : (store slots list slots₁ list₁ answer : List ℕ) (c : Call) (number : ℕ) (store' answer' : List ℕ) →
      OtherLent slots₁ list₁ → StoreExported pack store slots₁ list₁ answer c number store' answer' →
      HostCall pack store slots list c (heard number answer') store' slots list
  -- so is restart
  misrestarts : (store slots list slots₁ list₁ answer : List ℕ) (number : ℕ) (slots₂ list₂ answer' : List ℕ) →
      OtherLent slots₁ list₁ → Restarted slots₁ list₁ answer number slots₂ list₂ answer' →
      HostCall pack store slots list restart (heard number answer') store slots list

-- The list of calls made so far, the latest first, each with the answer that the host read, and the bytes of store, slots and worklist
-- after them. It starts from what an accepted create leaves, 384 zero bytes, and 132 zero bytes with whatever stands behind them; each call
-- gets what the one before left; all get the same pack.
pub data Delivered (pack : List ℕ) (P C : ℕ) : List Event → (store slots list : List ℕ) → Type 0 where
  begins : (buffer answer : List ℕ) (number : ℕ) (store answer' behind : List ℕ) →
      Made buffer answer P C number store answer' → number ≡ 0 →
      Delivered pack P C [] store (replicate 384 0) (replicate 132 0 ++ behind)
  goes_on : (events : List Event) (store slots list : List ℕ) (c : Call) (said : Option Answer) (store' slots' list' : List ℕ) →
      Delivered pack P C events store slots list → HostCall pack store slots list c said store' slots' list' →
      Delivered pack P C (and_then c said events) store' slots' list'

-- Calls from the bytes at first, whatever they are: the list of them, the latest first, and the bytes after them.
pub data DeliveredFrom (pack store₀ slots₀ list₀ : List ℕ) : List Event → (store slots list : List ℕ) → Type 0 where
  from_here : DeliveredFrom pack store₀ slots₀ list₀ [] store₀ slots₀ list₀
  on_from : (events : List Event) (store slots list : List ℕ) (c : Call) (said : Option Answer) (store' slots' list' : List ℕ) →
      DeliveredFrom pack store₀ slots₀ list₀ events store slots list → HostCall pack store slots list c said store' slots' list' →
      DeliveredFrom pack store₀ slots₀ list₀ (and_then c said events) store' slots' list'
