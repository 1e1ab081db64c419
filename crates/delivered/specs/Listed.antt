-- W-208 of the library as a host calls it: no listed request vanishes before its reply can be worked out from the log, also across
-- restarts; and what a reading call tells the host.
use Rattle.std.specs.Prelude.{true, ◌⊎◌, ◌≡◌, ℕ, ◌≤◌, ◌<◌, length}
use mathlib.Core.List.{List, [], ◌∷◌, ◌++◌, Memᴰ}
use Rattle.std.proofs.Math.Option.{none, some}
use Rattle.words.specs.Words.{fields}
use Rattle.contents.specs.Contents.{contents_of}
use Rattle.rules.specs.Blocks.{Result, yields}
use Rattle.rules.specs.Store.{Request}
use Rattle.rules.specs.Worklist.{Entry, waiting, listed, list_right}
use Rattle.rules.specs.Plain.{Reply, Event, replies_of}
use Rattle.store.specs.Rows.{store_of}
use Rattle.worklist.specs.Worklist.{worklist_of}
use Rattle.worklist.specs.Bytes.{list_in}
use Rattle.meaning.specs.State.{worked_out}
use Rattle.chain.specs.Listed.{done_of}
use Rattle.chain.specs.Retired.{floor_in}
use Rattle.host.specs.Told.{ReplyTold}
use Rattle.host.specs.Exports.{Restarted}
use Rattle.delivered.specs.Delivered.{Delivered, DeliveredFrom}

-- the id is in the book in the store's bytes
abbrev pub IsBooked : (id : ℕ) (store : List ℕ) → Type 0
IsBooked id store = (q : Request) × ((contents_of (store_of store)).book id ≡ some q)

-- the id is on the worklist in its bytes
abbrev pub IsListed : (id : ℕ) (list : List ℕ) → Type 0
IsListed id list = listed id (worklist_of (list_in list)) ≡ true

-- ── The worklist ──

-- A request that was listed after the calls `before` was taken off the list by one of the later calls, a done that the host read as done:
-- `upto` are those of the later calls that came before it, `since` those behind it.
pub record TakenOff (pack : List ℕ) (before : List Event) (store slots list : List ℕ) (later : List Event)
    (store' slots' list' : List ℕ) (id : ℕ) : Type 0 where
  pub since : List Event
  pub upto : List Event
  pub split : later ≡ since ++ done_of id ∷ upto
  -- the bytes that the host had for that done: the calls before it left them, and it and the calls behind it led from there on
  pub store_then : List ℕ
  pub slots_then : List ℕ
  pub list_then : List ℕ
  pub come_to : DeliveredFrom pack store slots list upto store_then slots_then list_then
  pub gone_on : DeliveredFrom pack store_then slots_then list_then (since ++ done_of id ∷ []) store' slots' list'
  -- its reply could then be worked out from the log
  pub value : Result
  pub is_worked_out : worked_out pack store_then id ≡ some value
  -- it still can, or the request has been retired since (W-209)
  pub still : (worked_out pack store' id ≡ some value) ⊎ (id < floor_in store')
  -- and it is each reply to it that the host ever read
  pub is_reply : (r : Reply) → Memᴰ r (replies_of (later ++ before)) → r.id ≡ id → r.value ≡ value

-- What a restart leaves of the worklist: it is done; each listed request is waiting; the ids listed are those that were listed before it.
pub record AllWait (list : List ℕ) (number : ℕ) (list' : List ℕ) : Type 0 where
  pub is_done : number ≡ 0
  pub waits : (e : Entry) → Memᴰ e (worklist_of (list_in list')) → e.mark ≡ waiting
  pub same_ids : (id : ℕ) → listed id (worklist_of (list_in list')) ≡ listed id (worklist_of (list_in list))

-- After a list of exported calls that left these bytes.
pub record Listing (pack : List ℕ) (before : List Event) (store slots list : List ℕ) : Type 0 where
  -- 25 says yes to the worklist
  pub right : list_right (worklist_of (list_in list)) ≡ true
  -- a listed request is in the book
  pub booked : (id : ℕ) → IsListed id list → IsBooked id store
  -- a restart with an answer buffer that is long enough leaves all of them waiting
  pub restarts : (answer : List ℕ) (number : ℕ) (slots' list' answer' : List ℕ) → 12 ≤ length answer →
      Restarted slots list answer number slots' list' answer' → AllWait list number list'
  -- no listed request vanishes before its reply can be worked out from the log, whatever calls are made later, restarts included
  pub none_vanishes : (later : List Event) (store' slots' list' : List ℕ) → DeliveredFrom pack store slots list later store' slots' list' →
      (id : ℕ) → IsListed id list → IsListed id list' ⊎ TakenOff pack before store slots list later store' slots' list' id

-- ── The reading call ──

-- The host is told a reply: the one that can be worked out from the log, which is each reply to the id that it ever read.
pub record ToldReply (pack : List ℕ) (events : List Event) (store : List ℕ) (id number : ℕ) (answer' : List ℕ) : Type 0 where
  pub value : ℕ
  pub is_reply : number ≡ 2
  pub words : fields 4 answer' 0 3 ≡ id ∷ value ∷ 0 ∷ []
  pub is_worked_out : worked_out pack store id ≡ some (yields value)
  pub each_reply : (r : Reply) → Memᴰ r (replies_of events) → r.id ≡ id → r.value ≡ yields value

-- The host is told 'not yet': the reply can't be worked out, and it never read one.
pub record ToldNotYet (pack : List ℕ) (events : List Event) (store : List ℕ) (id number : ℕ) (answer' : List ℕ) : Type 0 where
  pub is_not_yet : number ≡ 5
  pub words : fields 4 answer' 0 3 ≡ 0 ∷ 0 ∷ 0 ∷ []
  pub is_worked_out : worked_out pack store id ≡ none
  pub no_reply : (r : Reply) → Memᴰ r (replies_of events) → r.id ≡ id → ⊥

-- After a list of exported calls that left these bytes, with an answer buffer that is long enough.
pub record Reading (pack : List ℕ) (events : List Event) (store slots list : List ℕ) : Type 0 where
  -- of a booked id, listed or not, one or the other is told
  pub told : (id : ℕ) → IsBooked id store → (answer : List ℕ) (number : ℕ) (answer' : List ℕ) → 12 ≤ length answer →
      ReplyTold pack store answer id number answer' →
      ToldReply pack events store id number answer' ⊎ ToldNotYet pack events store id number answer'
  -- a reply that the host read is told again, to a terminal that comes back late, as long as the request isn't retired
  pub again : (r : Reply) → Memᴰ r (replies_of events) → floor_in store ≤ r.id →
      (answer : List ℕ) (number : ℕ) (answer' : List ℕ) → 12 ≤ length answer →
      ReplyTold pack store answer r.id number answer' → ToldReply pack events store r.id number answer'
  -- what can be worked out from the log still can after any later calls, unless the request has been retired by then (W-209)
  pub still : (later : List Event) (store' slots' list' : List ℕ) → DeliveredFrom pack store slots list later store' slots' list' →
      (id : ℕ) (value : Result) → worked_out pack store id ≡ some value →
      (worked_out pack store' id ≡ some value) ⊎ (id < floor_in store')

-- W-208's sentence, for any pack, any P and C, and any list of exported calls.
pub record HostLosesNoRequest (pack : List ℕ) (P C : ℕ) : Type 0 where
  pub listing : (events : List Event) (store slots list : List ℕ) → Delivered pack P C events store slots list →
      Listing pack events store slots list
  pub reading : (events : List Event) (store slots list : List ℕ) → Delivered pack P C events store slots list →
      Reading pack events store slots list
