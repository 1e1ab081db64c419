-- W-209 of calls on bytes: the floor only rises, and a retired request doesn't act again.
use Rattle.std.specs.Prelude.{true, false, ◌≡◌, ℕ, ◌≤◌, ◌<◌}
use mathlib.Core.List.{List, ◌++◌, Memᴰ}
use Rattle.std.proofs.Math.Option.{none, some}
use Rattle.contents.specs.Contents.{contents_of}
use Rattle.rules.specs.Store.{floor_of, found}
use Rattle.rules.specs.Worklist.{listed}
use Rattle.rules.specs.Calls.{arrival, retry}
use Rattle.rules.specs.Calls as Calls
use Rattle.rules.specs.Plain.{Reply, Event, accepted, machine_of, replies_of}
use Rattle.pack.specs.Meaning.{pack_of}
use Rattle.store.specs.Rows.{store_of}
use Rattle.agents.specs.Answers.{Answer}
use Rattle.agents.specs.Slots.{slots_of}
use Rattle.agents.specs.Answers.{answer_of}
use Rattle.worklist.specs.Worklist.{worklist_of}
use Rattle.meaning.specs.State.{Lent}
use Rattle.meaning.specs.Carried.{Carried}
use Rattle.chain.specs.Chain.{Chain, ChainFrom}

-- the floor in a store's bytes
abbrev pub floor_in : (store : List ℕ) → ℕ
floor_in store = floor_of (contents_of (store_of store))

-- An id below the floor, after a list of calls that left what is lent: nothing is left of it but what the plain run counts, and it doesn't
-- act again.
pub record NeverAgain (pack : List ℕ) (before : List Event) (lent : Lent) (id : ℕ) : Type 0 where
  -- it isn't booked, no partition has a log row of it, no agent of it is in a slot, and it isn't on the worklist
  pub unbooked : (contents_of (store_of lent.store)).book id ≡ none
  pub no_log : (partition step : ℕ) → found (contents_of (store_of lent.store)).log partition id step ≡ none
  pub in_no_slot : (slot : ℕ) (a : Calls.Agent) → slots_of lent.records slot ≡ some a → a.id ≡ id → ⊥
  pub not_listed : listed id (worklist_of lent.list) ≡ true → ⊥
  -- a late repeat is not accepted, neither as an arrival nor as a retry, and nothing lent is changed
  pub arrives_never : (slot w : ℕ) (args : List ℕ) (answer : Answer) (lent' : Lent) →
      Carried pack lent (arrival slot id w args) answer lent' →
      (accepted (answer_of answer) ≡ false) × (lent' ≡ lent)
  pub retried_never : (slot : ℕ) (answer : Answer) (lent' : Lent) → Carried pack lent (retry slot id) answer lent' →
      (accepted (answer_of answer) ≡ false) × (lent' ≡ lent)
  -- whatever calls come later, the plain machine's run of it stays as it is
  pub counted_still : (later : List Event) (lent' : Lent) → ChainFrom pack lent later lent' →
      (machine_of (pack_of pack) (later ++ before)).runs id ≡ (machine_of (pack_of pack) before).runs id
  -- and none of them replies to it
  pub no_reply : (later : List Event) (lent' : Lent) → ChainFrom pack lent later lent' →
      (r : Reply) → Memᴰ r (replies_of later) → r.id ≡ id → ⊥

-- W-209's sentences of lists of calls, for any pack, any P and C, and any list of calls, retire anywhere among them.
pub record Retiring (pack : List ℕ) (P C : ℕ) : Type 0 where
  -- the floor only rises
  pub rises : (events : List Event) (lent : Lent) → Chain pack P C events lent →
      (later : List Event) (lent' : Lent) → ChainFrom pack lent later lent' → floor_in lent.store ≤ floor_in lent'.store
  -- and an id below it doesn't act again
  pub never_again : (events : List Event) (lent : Lent) → Chain pack P C events lent →
      (id : ℕ) → id < floor_in lent.store → NeverAgain pack events lent id
