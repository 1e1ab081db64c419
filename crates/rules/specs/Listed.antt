-- W-208: no listed request vanishes before its reply can be worked out from the log, after any list of calls, restarts included.
use Rattle.std.specs.Prelude.{true, ◌⊎◌, ◌≡◌, ℕ, ◌<◌}
use mathlib.Core.List.{◌∷◌, ◌++◌, Memᴰ}
use Rattle.std.proofs.Math.Option.{Option, some}
use Rattle.rules.specs.Instructions.{Pack}
use Rattle.rules.specs.Blocks.{Result}
use Rattle.rules.specs.Store.{Request}
use Rattle.rules.specs.Logged.{reply_logged}
use Rattle.rules.specs.Worklist.{Worklist, Entry, waiting, listed, list_right}
use Rattle.rules.specs.Calls.{State, restart, list_done, done, History, state_after, answer_to}
use Rattle.rules.specs.Plain.{Reply, replies_after}
use Rattle.rules.specs.Retired.{floor_after}

-- the reply to an id that can be worked out from the log of a state
abbrev pub worked_out : Pack → State → (id : ℕ) → Option Result
worked_out pack s id = reply_logged pack s.store.log id (s.store.book id)

-- the worklist after the calls
abbrev pub work_after : Pack → (room : ℕ) → History → Worklist
work_after pack room calls = (state_after pack room calls).work

-- A request that was listed after the calls `before` was taken off the list by one of the later calls, an accepted done: `upto` are those
-- of the later calls that came before it, `since` those behind it.
pub record TakenOff (pack : Pack) (room : ℕ) (before later : History) (id : ℕ) : Type 0 where
  pub since : History
  pub upto : History
  pub split : later ≡ since ++ list_done id ∷ upto
  pub accepted : answer_to pack room (upto ++ before) (list_done id) ≡ done
  -- its reply could then be worked out from the log
  pub value : Result
  pub is_worked_out : worked_out pack (state_after pack room (upto ++ before)) id ≡ some value
  -- it still can, or the request has been retired since (W-209)
  pub still : (worked_out pack (state_after pack room (later ++ before)) id ≡ some value) ⊎ (id < floor_after pack room (later ++ before))
  -- and it is each reply that was ever given
  pub is_reply : (r : Reply) → Memᴰ r (replies_after pack room (later ++ before)) → r.id ≡ id → r.value ≡ value

-- What W-208 asks of all lists of calls, for any pack, checked or not.
pub record Listing (pack : Pack) (room : ℕ) (calls : History) : Type 0 where
  -- 25 never says no
  pub right : list_right (work_after pack room calls) ≡ true
  -- a listed request is in the book
  pub booked : (id : ℕ) → listed id (work_after pack room calls) ≡ true →
      (q : Request) × ((state_after pack room calls).store.book id ≡ some q)
  -- after a restart each listed request is waiting
  pub waits : (e : Entry) → Memᴰ e (work_after pack room (restart ∷ calls)) → e.mark ≡ waiting
  -- and the ids listed are those that were listed before it
  pub same_ids : (id : ℕ) → listed id (work_after pack room (restart ∷ calls)) ≡ listed id (work_after pack room calls)
  -- no listed request vanishes before its reply can be worked out from the log
  pub none_vanishes : (later : History) (id : ℕ) → listed id (work_after pack room calls) ≡ true →
      (listed id (work_after pack room (later ++ calls)) ≡ true) ⊎ TakenOff pack room calls later id

-- What a reading call relies on, of any id, listed or not; for any pack, checked or not.
pub record Reading (pack : Pack) (room : ℕ) (calls : History) : Type 0 where
  -- the reply worked out from the log is each reply that was given to the id
  pub worked : (id : ℕ) (value : Result) → worked_out pack (state_after pack room calls) id ≡ some value →
      (r : Reply) → Memᴰ r (replies_after pack room calls) → r.id ≡ id → r.value ≡ value
  -- and it is still worked out after any later calls, unless the request has been retired by then (W-209)
  pub still : (later : History) (id : ℕ) (value : Result) → worked_out pack (state_after pack room calls) id ≡ some value →
      (worked_out pack (state_after pack room (later ++ calls)) id ≡ some value) ⊎ (id < floor_after pack room (later ++ calls))
