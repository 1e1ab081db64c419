-- W-209 of the library as a host calls it: the floor only rises, and a retired request doesn't act again.
use Rattle.std.specs.Prelude.{true, false, ◌≡◌, ℕ, ◌≤◌, ◌<◌}
use mathlib.Core.List.{List, ◌++◌, Memᴰ}
use Rattle.std.proofs.Math.Option.{none, some}
use Rattle.contents.specs.Contents.{contents_of}
use Rattle.rules.specs.Store.{found}
use Rattle.rules.specs.Worklist.{listed}
use Rattle.rules.specs.Calls.{Agent, Answer, arrival, retry}
use Rattle.rules.specs.Plain.{Reply, Event, accepted, machine_of, replies_of}
use Rattle.pack.specs.Meaning.{pack_of}
use Rattle.store.specs.Rows.{store_of}
use Rattle.agents.specs.Slots.{slots_of}
use Rattle.slots.specs.Records.{slots_in}
use Rattle.worklist.specs.Worklist.{worklist_of}
use Rattle.worklist.specs.Bytes.{list_in}
use Rattle.chain.specs.Retired.{floor_in}
use Rattle.answers.specs.Answers.{heard}
use Rattle.host.specs.Exports.{Exported}
use Rattle.delivered.specs.Delivered.{Delivered, DeliveredFrom}

-- An id below the floor, after a list of exported calls that left these bytes: nothing is left of it but what the plain run counts, and it
-- doesn't act again.
pub record NeverAgain (pack : List ℕ) (before : List Event) (store slots list : List ℕ) (id : ℕ) : Type 0 where
  -- it isn't booked, no partition has a log row of it, no agent of it is in a slot, and it isn't on the worklist
  pub unbooked : (contents_of (store_of store)).book id ≡ none
  pub no_log : (partition step : ℕ) → found (contents_of (store_of store)).log partition id step ≡ none
  pub in_no_slot : (slot : ℕ) (a : Agent) → slots_of (slots_in slots) slot ≡ some a → a.id ≡ id → ⊥
  pub not_listed : listed id (worklist_of (list_in list)) ≡ true → ⊥
  -- a late repeat is never read as accepted, neither as an arrival nor as a retry, and no byte of store and slots is changed
  pub arrives_never : (slot w : ℕ) (args answer : List ℕ) (number : ℕ) (store' slots' answer' : List ℕ) →
      Exported pack store slots answer (arrival slot id w args) number store' slots' answer' →
      ((said : Answer) → heard number answer' ≡ some said → accepted said ≡ false) × (store' ≡ store) × (slots' ≡ slots)
  pub retried_never : (slot : ℕ) (answer : List ℕ) (number : ℕ) (store' slots' answer' : List ℕ) →
      Exported pack store slots answer (retry slot id) number store' slots' answer' →
      ((said : Answer) → heard number answer' ≡ some said → accepted said ≡ false) × (store' ≡ store) × (slots' ≡ slots)
  -- whatever calls come later, the plain machine's run of it stays as it is
  pub counted_still : (later : List Event) (store' slots' list' : List ℕ) → DeliveredFrom pack store slots list later store' slots' list' →
      (machine_of (pack_of pack) (later ++ before)).runs id ≡ (machine_of (pack_of pack) before).runs id
  -- and the host reads no reply to it
  pub no_reply : (later : List Event) (store' slots' list' : List ℕ) → DeliveredFrom pack store slots list later store' slots' list' →
      (r : Reply) → Memᴰ r (replies_of later) → r.id ≡ id → ⊥

-- W-209's sentences, for any pack, any P and C, and any list of exported calls, retire anywhere among them.
pub record HostRetires (pack : List ℕ) (P C : ℕ) : Type 0 where
  -- the floor only rises
  pub rises : (events : List Event) (store slots list : List ℕ) → Delivered pack P C events store slots list →
      (later : List Event) (store' slots' list' : List ℕ) → DeliveredFrom pack store slots list later store' slots' list' →
      floor_in store ≤ floor_in store'
  -- and an id below it doesn't act again
  pub never_again : (events : List Event) (store slots list : List ℕ) → Delivered pack P C events store slots list →
      (id : ℕ) → id < floor_in store → NeverAgain pack events store slots list id
