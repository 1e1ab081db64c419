-- Demands 1, 2 and 3 of the library as a host calls it: what it reads in the answer buffer, and every byte that it lent.
use Rattle.std.specs.Prelude.{true, List, ◌⊎◌, ◌≡◌, ℕ, ◌≤◌, length}
use Rattle.std.proofs.Math.Option.{none, some}
use Rattle.questions.specs.Questions.{No, number}
use Rattle.rules.specs.Worklist.{list_right}
use Rattle.rules.specs.Calls.{Call, turn, restart, done, refused, rule}
use Rattle.rules.specs.Plain.{Event, accepted}
use Rattle.pack.specs.Meaning.{pack_of}
use Rattle.pack.specs.Refusal.{pack_refusal}
use Rattle.agents.specs.Answers.{Answer}
use Rattle.agents.specs.Answers.{answer_of}
use Rattle.worklist.specs.declared.Worklist.{Worklist}
use Rattle.worklist.specs.Worklist.{worklist_of}
use Rattle.worklist.specs.Bytes.{list_in, with_list}
use Rattle.meaning.specs.State.{state_of}
use Rattle.meaning.specs.Questions.{lent_refusal, refusal_for}
use Rattle.meaning.specs.Carried.{Left}
use Rattle.chain.specs.Demands.{PlainRun, InTime}
use Rattle.slots.specs.Records.{slots_in, with_slots}
use Rattle.answers.specs.Answers.{heard}
use Rattle.host.specs.Exports.{lent_with, lent_in, buffers_wrong, list_wrong, Exported}
use Rattle.delivered.specs.Delivered.{Delivered, DeliveredFrom}

-- ── Demands 1 and 2: of every exported call, on any bytes ──

-- Demand 1: a wrong buffer first, with the library's own number; then a refusal exactly where some question put to the call says no, with
-- the first one's number and place as the host reads them. No byte of store and slots is changed. Whatever worklist there is beside them:
-- the call does not get it.
pub record RefusedFirst (pack store slots answer : List ℕ) (c : Call) (number : ℕ) (store' slots' answer' : List ℕ) : Type 0 where
  pub wrong : (n : ℕ) → buffers_wrong answer slots ≡ some n →
      (number ≡ n) × (heard number answer' ≡ none) × (store' ≡ store) × (slots' ≡ slots) × (answer' ≡ answer)
  pub says_no : buffers_wrong answer slots ≡ none → (l : Worklist) (n : No) → refusal_for pack (lent_with store slots l) c ≡ some n →
      (heard number answer' ≡ some (refused n)) × (store' ≡ store) × (slots' ≡ slots)
  pub says_why : (l : Worklist) (n : No) → heard number answer' ≡ some (refused n) → refusal_for pack (lent_with store slots l) c ≡ some n

-- Demand 2: every other call is accepted; the host reads exactly the rule's answer; the store has its rows, byte for byte, and the slots'
-- bytes are those of its agents' records.
pub record AsRuled (pack store slots answer : List ℕ) (c : Call) (number : ℕ) (store' slots' answer' : List ℕ) : Type 0 where
  pub accepts : buffers_wrong answer slots ≡ none → (l : Worklist) → refusal_for pack (lent_with store slots l) c ≡ none →
      (heard number answer' ≡ some (rule (pack_of pack) (state_of (lent_with store slots l)) c).answer)
      × Left (lent_with store slots l) (lent_with store' slots' l) (rule (pack_of pack) (state_of (lent_with store slots l)) c).state
      × (slots' ≡ with_slots slots (slots_in slots'))

-- Demand 1 of add, take and done, which get the worklist and write to nothing else that is lent: no byte of it is changed.
pub record ListRefusedFirst (pack store slots list answer : List ℕ) (c : Call) (number : ℕ) (list' answer' : List ℕ) : Type 0 where
  pub wrong : (n : ℕ) → list_wrong answer slots list ≡ some n →
      (number ≡ n) × (heard number answer' ≡ none) × (list' ≡ list) × (answer' ≡ answer)
  pub says_no : list_wrong answer slots list ≡ none → (n : No) → refusal_for pack (lent_in store slots list) c ≡ some n →
      (heard number answer' ≡ some (refused n)) × (list' ≡ list)
  pub says_why : (n : No) → heard number answer' ≡ some (refused n) → refusal_for pack (lent_in store slots list) c ≡ some n

-- Demand 2 of them: the list's bytes are those of the rule's worklist, and behind its last entry they are as they were.
pub record ListAsRuled (pack store slots list answer : List ℕ) (c : Call) (number : ℕ) (list' answer' : List ℕ) : Type 0 where
  pub accepts : list_wrong answer slots list ≡ none → refusal_for pack (lent_in store slots list) c ≡ none →
      (heard number answer' ≡ some (rule (pack_of pack) (state_of (lent_in store slots list)) c).answer)
      × Left (lent_in store slots list) (lent_in store slots list') (rule (pack_of pack) (state_of (lent_in store slots list)) c).state
      × (list' ≡ with_list list (list_in list'))

-- Demand 1 of retire, which reads slots and worklist and writes to the store alone: no byte of it is changed.
pub record StoreRefusedFirst (pack store slots list answer : List ℕ) (c : Call) (number : ℕ) (store' answer' : List ℕ) : Type 0 where
  pub wrong : (n : ℕ) → list_wrong answer slots list ≡ some n →
      (number ≡ n) × (heard number answer' ≡ none) × (store' ≡ store) × (answer' ≡ answer)
  pub says_no : list_wrong answer slots list ≡ none → (n : No) → refusal_for pack (lent_in store slots list) c ≡ some n →
      (heard number answer' ≡ some (refused n)) × (store' ≡ store)
  pub says_why : (n : No) → heard number answer' ≡ some (refused n) → refusal_for pack (lent_in store slots list) c ≡ some n

-- Demand 2 of it: the store has the rule's rows, byte for byte.
pub record StoreAsRuled (pack store slots list answer : List ℕ) (c : Call) (number : ℕ) (store' answer' : List ℕ) : Type 0 where
  pub accepts : list_wrong answer slots list ≡ none → refusal_for pack (lent_in store slots list) c ≡ none →
      (heard number answer' ≡ some (rule (pack_of pack) (state_of (lent_in store slots list)) c).answer)
      × Left (lent_in store slots list) (lent_in store' slots list) (rule (pack_of pack) (state_of (lent_in store slots list)) c).state

-- Demands 1 and 2 of restart, which gets slots and worklist: a wrong buffer first; otherwise it is never refused, and leaves what the rule
-- leaves, with any pack and any store.
pub record RestartAsRuled (slots list answer : List ℕ) (number : ℕ) (slots' list' answer' : List ℕ) : Type 0 where
  pub wrong : (n : ℕ) → list_wrong answer slots list ≡ some n →
      (number ≡ n) × (heard number answer' ≡ none) × (slots' ≡ slots) × (list' ≡ list) × (answer' ≡ answer)
  pub accepts : list_wrong answer slots list ≡ none →
      (heard number answer' ≡ some done)
      × ((pack store : List ℕ) →
      Left (lent_in store slots list) (lent_in store slots' list') (rule (pack_of pack) (state_of (lent_in store slots list)) restart).state)
      × (slots' ≡ with_slots slots (slots_in slots'))
      × (list' ≡ with_list list (list_in list'))

-- ── Demand 3: of lists of exported calls ──

pub record ByTheList (pack : List ℕ) (P C : ℕ) : Type 0 where
  -- data rows and first replies are those of the plain run, and all replies to one id are equal
  pub plain_run : (events : List Event) (store slots list : List ℕ) → Delivered pack P C events store slots list →
      PlainRun pack P events store
  -- an agent replies within as many turns as its workflow has instructions
  pub in_time : (before : List Event) (store slots list : List ℕ) → Delivered pack P C before store slots list →
      (slot : ℕ) (answer : List ℕ) (number : ℕ) (store' slots' answer' : List ℕ) →
      Exported pack store slots answer (turn slot) number store' slots' answer' →
      (said : Answer) → heard number answer' ≡ some (answer_of said) → accepted (answer_of said) ≡ true →
      InTime pack before (lent_in store slots list) slot said
  -- of 1 to 14 only the pack's (1 to 8) and 13 can say no
  pub never_no : (events : List Event) (store slots list : List ℕ) → Delivered pack P C events store slots list →
      (n : No) → lent_refusal pack (lent_in store slots list) ≡ some n → (pack_refusal pack ≡ some n) ⊎ (n ≡ number 13)
  -- nor does 25
  pub never_25 : (events : List Event) (store slots list : List ℕ) → Delivered pack P C events store slots list →
      list_right (worklist_of (list_in list)) ≡ true
  -- slots and worklist stay long enough, so that neither 101 nor 102 is the answer to a call with them
  pub long : (events : List Event) (store slots list : List ℕ) → Delivered pack P C events store slots list →
      (length slots ≡ 384) × (132 ≤ length list)
  -- and from any bytes on they keep their lengths
  pub same_lengths : (store slots list : List ℕ) (later : List Event) (store' slots' list' : List ℕ) →
      DeliveredFrom pack store slots list later store' slots' list' → (length slots' ≡ length slots) × (length list' ≡ length list)
