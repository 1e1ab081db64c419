-- W-201, request number zero, of calls on bytes.
use Rattle.std.specs.Prelude.{true, false, ◌≡◌, ℕ, ◌<◌, replicate}
use mathlib.Core.List.{List, Memᴰ}
use Rattle.std.proofs.Math.Option.{none, some}
use Rattle.contents.specs.Contents.{contents_of}
use Rattle.rules.specs.Blocks.{Result}
use Rattle.questions.specs.Questions.{No, or_else}
use Rattle.rules.specs.Store.{Request, found}
use Rattle.rules.specs.Logged.{reply_logged}
use Rattle.rules.specs.Calls.{Call, arrival, retry, turn}
use Rattle.rules.specs.Calls as Calls
use Rattle.rules.specs.Plain.{Reply, Event, accepted, machine_of, replies_of}
use Rattle.rules.specs.RequestZero.{zero_no}
use Rattle.pack.specs.Meaning.{pack_of}
use Rattle.store.specs.Rows.{store_of}
use Rattle.agents.specs.Answers.{Answer}
use Rattle.agents.specs.Slots.{no_agent, slots_of}
use Rattle.agents.specs.Answers.{answer_of}
use Rattle.worklist.specs.declared.Worklist.{Worklist}
use Rattle.meaning.specs.State.{state_of, Lent}
use Rattle.meaning.specs.Questions.{lent_refusal}
use Rattle.meaning.specs.Carried.{Carried}
use Rattle.chain.specs.Chain.{ChainFrom}
use Rattle.chain.specs.Demands.{InTime}

-- A call on any pack and on anything lent, an older store that has 0 in its book included, gave an answer and left lent'.
pub record RequestZero (pack : List ℕ) (lent : Lent) (answer : Answer) (lent' : Lent) : Type 0
  where
    -- an arrival with id 0 is never accepted
    pub none_accepted : (slot w : ℕ) (args : List ℕ) → Carried pack lent (arrival slot 0 w args) answer lent' →
        accepted (answer_of answer) ≡ false
    -- it gets the first no of 1 to 16 or else 24, whatever its workflow, its arguments and the book; nothing lent is changed
    pub turned_down : (slot w : ℕ) (args : List ℕ) → Carried pack lent (arrival slot 0 w args) answer lent' →
        (n : No) → or_else (lent_refusal pack lent) (zero_no (state_of lent) slot) ≡ some n →
        (answer_of answer ≡ Calls.refused n) × (lent' ≡ lent)
    -- a request booked under 0 may be retried
    pub retried : (slot : ℕ) (q : Request) → Carried pack lent (retry slot 0) answer lent' →
        lent_refusal pack lent ≡ none → slot < 8 → slots_of lent.records slot ≡ none →
        (contents_of (store_of lent.store)).book 0 ≡ some q →
        accepted (answer_of answer) ≡ true
    -- no call books a new 0
    pub books_no_new : (c : Call) → Carried pack lent c answer lent' →
        (contents_of (store_of lent.store)).book 0 ≡ none → (contents_of (store_of lent'.store)).book 0 ≡ none

-- The plain run books no new 0: after a list of calls that left this store the machine has no run of id 0, and so the store has neither
-- the request nor a log row of it, and no reply is to it.
pub record NoZero (pack : List ℕ) (events : List Event) (store : List ℕ) : Type 0 where
  pub run : (machine_of (pack_of pack) events).runs 0 ≡ none
  pub book : (contents_of (store_of store)).book 0 ≡ none
  pub log : (partition step : ℕ) → found (contents_of (store_of store)).log partition 0 step ≡ none
  pub replies : (r : Reply) → Memᴰ r (replies_of events) → r.id ≡ 0 → ⊥

-- what is lent at first with a store that an older runtime left: all slots are empty
abbrev pub lent_at_first : (older : List ℕ) → Worklist → Lent
lent_at_first older list = record { store = older; records = replicate 8 no_agent; list = list }

-- Calls on such a store, with any worklist at first: the list of them, the latest first, and what is lent after them.
abbrev pub ChainOn : (pack older : List ℕ) → List Event → Lent → Type 0
ChainOn pack older events lent = (list : Worklist) × ChainFrom pack (lent_at_first older list) events lent

-- A request booked under 0 replies as before, and so does any other: after any list of calls on any store, from empty slots on.
pub record AsBefore (pack older : List ℕ) (events : List Event) (lent : Lent) : Type 0 where
  -- a reply that could be worked out from the older store's log is the reply that is given
  pub as_before : (r : Reply) → Memᴰ r (replies_of events) → (value : Result) →
      reply_logged (pack_of pack) (contents_of (store_of older)).log r.id ((contents_of (store_of older)).book r.id) ≡ some value →
      r.value ≡ value
  -- all replies to one id are equal
  pub equal : (r r' : Reply) → Memᴰ r (replies_of events) → Memᴰ r' (replies_of events) → r.id ≡ r'.id → r.value ≡ r'.value
  -- an agent replies within as many accepted turns as its workflow has instructions
  pub in_time : (slot : ℕ) (answer : Answer) (lent' : Lent) →
      Carried pack lent (turn slot) answer lent' → accepted (answer_of answer) ≡ true →
      InTime pack events lent slot answer
