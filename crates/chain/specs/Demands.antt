-- Demands 1, 2 and 3 of calls on bytes.
use Rattle.std.specs.Prelude.{true, ◌⊎◌, ◌≡◌, ℕ, ◌^◌, ◌≤◌, ◌<◌}
use mathlib.Core.List.{List, ◌∷◌, Memᴰ}
use Rattle.std.proofs.Math.Option.{none, some}
use Rattle.contents.specs.Contents.{contents_of}
use Rattle.keys.specs.Keys.{data_key}
use Rattle.questions.specs.Questions.{No, number}
use Rattle.rules.specs.Store.{Request}
use Rattle.rules.specs.Calls.{Call, turn, rule}
use Rattle.rules.specs.Calls as Calls
use Rattle.rules.specs.Blocks.{Result}
use Rattle.rules.specs.Plain.{Reply, Event, accepted, tallies_of, machine_of, replies_of, first_replies}
use Rattle.pack.specs.Layout.{count, size_of}
use Rattle.pack.specs.Meaning.{pack_of}
use Rattle.pack.specs.Refusal.{pack_refusal}
use Rattle.store.specs.Rows.{lookup, rows_of, store_of}
use Rattle.agents.specs.declared.Agent.{Agent}
use Rattle.agents.specs.Answers.{Answer}
use Rattle.agents.specs.Slots.{slots_of}
use Rattle.agents.specs.Answers.{answer_of}
use Rattle.meaning.specs.State.{state_of, Lent}
use Rattle.meaning.specs.Questions.{lent_refusal, refusal_for}
use Rattle.meaning.specs.Carried.{Left, Carried}
use Rattle.chain.specs.Chain.{Chain}

-- ── Demands 1 and 2: of every call, on any pack, store and records ──

-- Demand 1: an answer is a refusal exactly where some question put to the call says no; it has the first one's number and place, and
-- nothing lent is changed.
pub record Demand1 (pack : List ℕ) (lent : Lent) (c : Call) (answer : Answer) (lent' : Lent) : Type 0 where
  pub says_no : (n : No) → refusal_for pack lent c ≡ some n →
      (answer_of answer ≡ Calls.refused n) × (lent' ≡ lent)
  pub says_why : (n : No) → answer_of answer ≡ Calls.refused n → refusal_for pack lent c ≡ some n

-- Demand 2: an accepted call gives exactly the rule's answer, and leaves its rows, byte for byte, and its agents.
pub record Demand2 (pack : List ℕ) (lent : Lent) (c : Call) (answer : Answer) (lent' : Lent) : Type 0 where
  pub accepts : refusal_for pack lent c ≡ none → accepted (answer_of answer) ≡ true
  pub rules : accepted (answer_of answer) ≡ true →
      (answer_of answer ≡ (rule (pack_of pack) (state_of lent) c).answer)
      × Left lent lent' (rule (pack_of pack) (state_of lent) c).state

-- ── Demand 3: of lists of calls ──

-- After a list of calls that left this store.
pub record PlainRun (pack : List ℕ) (P : ℕ) (events : List Event) (store : List ℕ) : Type 0 where
  -- each partition's data rows have exactly the data keys and values of the machine's table for it
  pub rows : (partition key : ℕ) → partition < P → key < 2 ^ 32 →
      lookup (data_key key) (rows_of store partition) ≡ (machine_of (pack_of pack) events).tables partition key
  -- and the machine has no other data
  pub no_more : (partition key : ℕ) → (P ≤ partition) ⊎ (2 ^ 32 ≤ key) → (machine_of (pack_of pack) events).tables partition key ≡ none
  -- the first replies in order are the machine's replies
  pub replies : first_replies (replies_of events) ≡ (machine_of (pack_of pack) events).replies
  -- each later reply to an id is equal to the first: all replies to one id are equal
  pub equal : (r r' : Reply) → Memᴰ r (replies_of events) → Memᴰ r' (replies_of events) → r.id ≡ r'.id → r.value ≡ r'.value

-- An accepted turn, the latest call, is one of the agent in its slot: the how many-th of its agent's turns it is, and the agent's request,
-- as booked in the store before it. The turns are at most the workflow's size, and if they come to it, this one replies.
pub record InTime (pack : List ℕ) (before : List Event) (lent : Lent) (slot : ℕ) (answer : Answer) : Type 0 where
  pub agent : Calls.Agent
  pub turns : ℕ
  pub request : Request
  pub in_slot : slots_of lent.records slot ≡ some agent
  pub counted : tallies_of (record { made = turn slot; answer = answer_of answer } ∷ before) slot
      ≡ some (record { id = agent.id; turns = turns })
  pub booked : (contents_of (store_of lent.store)).book agent.id ≡ some request
  pub workflow : request.workflow < count pack
  pub at_most : turns ≤ size_of pack request.workflow
  pub last : turns ≡ size_of pack request.workflow → (value : Result) × (answer_of answer ≡ Calls.reply agent.id value)

-- Demand 3, for any pack, any P and C, and any list of calls.
pub record Demand3 (pack : List ℕ) (P C : ℕ) : Type 0 where
  pub plain_run : (events : List Event) (lent : Lent) → Chain pack P C events lent → PlainRun pack P events lent.store
  pub in_time : (before : List Event) (lent : Lent) → Chain pack P C before lent →
      (slot : ℕ) (answer : Answer) (lent' : Lent) → Carried pack lent (turn slot) answer lent' →
      accepted (answer_of answer) ≡ true → InTime pack before lent slot answer

-- What a host need not fear: after any list of calls, the first no of 1 to 14, if there is one, is the pack's (1 to 8) or question 13. So
-- 9 to 12 and 14 never say no.
abbrev pub NeverNo : (pack : List ℕ) → (P C : ℕ) → Type 0
NeverNo pack P C =
    (events : List Event) (lent : Lent) → Chain pack P C events lent →
    (n : No) → lent_refusal pack lent ≡ some n → (pack_refusal pack ≡ some n) ⊎ (n ≡ number 13)
