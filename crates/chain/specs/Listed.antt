-- W-208 of calls on bytes: no listed request vanishes before its reply can be worked out from the log, also across restarts.
use Rattle.std.specs.Prelude.{true, ◌⊎◌, ◌≡◌, ℕ, ◌<◌}
use mathlib.Core.List.{List, [], ◌∷◌, ◌++◌, Memᴰ}
use Rattle.std.proofs.Math.Option.{none, some}
use Rattle.contents.specs.Contents.{contents_of}
use Rattle.rules.specs.Blocks.{Result}
use Rattle.rules.specs.Store.{Request}
use Rattle.rules.specs.Worklist.{Entry, waiting, listed, list_right}
use Rattle.rules.specs.Calls.{restart, list_done}
use Rattle.rules.specs.Calls as Calls
use Rattle.rules.specs.Plain.{Reply, Event, replies_of}
use Rattle.store.specs.Rows.{store_of}
use Rattle.agents.specs.Answers.{Answer}
use Rattle.agents.specs.Answers.{answer_of}
use Rattle.worklist.specs.Worklist.{worklist_of}
use Rattle.meaning.specs.State.{Lent, worked_out}
use Rattle.meaning.specs.Questions.{reply_refusal}
use Rattle.meaning.specs.Carried.{Carried}
use Rattle.chain.specs.Chain.{Chain, ChainFrom}
use Rattle.chain.specs.Retired.{floor_in}

-- the id is in the book
abbrev pub IsBooked : (id : ℕ) → Lent → Type 0
IsBooked id lent = (q : Request) × ((contents_of (store_of lent.store)).book id ≡ some q)

-- the id is on the worklist
abbrev pub IsListed : (id : ℕ) → Lent → Type 0
IsListed id lent = listed id (worklist_of lent.list) ≡ true

-- done of an id, accepted
abbrev pub done_of : (id : ℕ) → Event
done_of id = record { made = list_done id; answer = Calls.done }

-- A request that was listed after the calls `before` was taken off the list by one of the later calls, an accepted done: `upto` are those
-- of the later calls that came before it, `since` those behind it.
pub record TakenOff (pack : List ℕ) (before : List Event) (lent : Lent) (later : List Event) (lent' : Lent) (id : ℕ) : Type 0 where
  pub since : List Event
  pub upto : List Event
  pub split : later ≡ since ++ done_of id ∷ upto
  -- what was lent to that done: the calls before it left it, and it and the calls behind it led from there on
  pub lent_then : Lent
  pub come_to : ChainFrom pack lent upto lent_then
  pub gone_on : ChainFrom pack lent_then (since ++ done_of id ∷ []) lent'
  -- its reply could then be worked out from the log
  pub value : Result
  pub is_worked_out : worked_out pack lent_then.store id ≡ some value
  -- it still can, or the request has been retired since (W-209)
  pub still : (worked_out pack lent'.store id ≡ some value) ⊎ (id < floor_in lent'.store)
  -- and it is each reply that was ever given
  pub is_reply : (r : Reply) → Memᴰ r (replies_of (later ++ before)) → r.id ≡ id → r.value ≡ value

-- What a restart leaves of the worklist.
pub record Restarted (lent : Lent) (answer : Answer) (lent' : Lent) : Type 0 where
  -- it is accepted
  pub is_done : answer_of answer ≡ Calls.done
  -- each listed request is waiting
  pub waits : (e : Entry) → Memᴰ e (worklist_of lent'.list) → e.mark ≡ waiting
  -- and the ids listed are those that were listed before it
  pub same_ids : (id : ℕ) → listed id (worklist_of lent'.list) ≡ listed id (worklist_of lent.list)

-- After a list of calls that left what is lent.
pub record Listing (pack : List ℕ) (before : List Event) (lent : Lent) : Type 0 where
  -- 25 says yes to the worklist
  pub right : list_right (worklist_of lent.list) ≡ true
  -- a listed request is in the book
  pub booked : (id : ℕ) → IsListed id lent → IsBooked id lent
  -- a restart leaves all of them waiting
  pub restarts : (answer : Answer) (lent' : Lent) → Carried pack lent restart answer lent' → Restarted lent answer lent'
  -- no listed request vanishes before its reply can be worked out from the log, whatever calls are made later, restarts included
  pub none_vanishes : (later : List Event) (lent' : Lent) → ChainFrom pack lent later lent' → (id : ℕ) → IsListed id lent →
      IsListed id lent' ⊎ TakenOff pack before lent later lent' id

-- What a reading call relies on, of any id, listed or not, after a list of calls that left what is lent.
pub record Reading (pack : List ℕ) (events : List Event) (lent : Lent) : Type 0 where
  -- the reply worked out from the log is each reply that was given to the id
  pub worked : (id : ℕ) (value : Result) → worked_out pack lent.store id ≡ some value →
      (r : Reply) → Memᴰ r (replies_of events) → r.id ≡ id → r.value ≡ value
  -- it is still worked out after any later calls, unless the request has been retired by then (W-209)
  pub still : (later : List Event) (lent' : Lent) → ChainFrom pack lent later lent' →
      (id : ℕ) (value : Result) → worked_out pack lent.store id ≡ some value →
      (worked_out pack lent'.store id ≡ some value) ⊎ (id < floor_in lent'.store)
  -- each reply that was given can be worked out, unless its request is retired
  pub replied : (r : Reply) → Memᴰ r (replies_of events) →
      (worked_out pack lent.store r.id ≡ some r.value) ⊎ (r.id < floor_in lent.store)
  -- what can be worked out is a reply to a booked request
  pub booked : (id : ℕ) (value : Result) → worked_out pack lent.store id ≡ some value → IsBooked id lent
  -- and to a reading call for a booked id none of 1 to 13 and 20 says no: a terminal that comes back late is told its reply
  pub none_says_no : (id : ℕ) → IsBooked id lent → reply_refusal pack lent.store id ≡ none

-- W-208's sentence, for any pack, any P and C, and any list of calls.
pub record NoneVanishes (pack : List ℕ) (P C : ℕ) : Type 0 where
  pub listing : (events : List Event) (lent : Lent) → Chain pack P C events lent → Listing pack events lent
  pub reading : (events : List Event) (lent : Lent) → Chain pack P C events lent → Reading pack events lent
