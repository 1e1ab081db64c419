-- W-209: what holds of retired requests after any list of calls.
use Rattle.std.specs.Prelude.{false, List, ◌++◌, ◌≡◌, ℕ, ◌≤◌, ◌<◌}
use Rattle.std.proofs.Math.Option.{none, some}
use Rattle.rules.specs.Instructions.{Pack}
use Rattle.rules.specs.Blocks.{Result}
use Rattle.rules.specs.Store.{floor_of, found}
use Rattle.rules.specs.Calls.{Agent, arrival, retry, reply, Call, History, state_after, answer_to}
use Rattle.rules.specs.Plain.{accepted, machine_after}

-- the floor after the calls
abbrev pub floor_after : Pack → (room : ℕ) → History → ℕ
floor_after pack room calls = floor_of (state_after pack room calls).store

-- An id below the floor, after the calls: nothing is left of it but what the plain run counts, and it doesn't act again.
pub record NeverAgain (pack : Pack) (room : ℕ) (calls : History) (id : ℕ) : Type 0 where
  -- it isn't booked, no partition has a log row of it, and no agent of it is in a slot
  pub unbooked : (state_after pack room calls).store.book id ≡ none
  pub no_log : (partition step : ℕ) → found (state_after pack room calls).store.log partition id step ≡ none
  pub in_no_slot : (slot : ℕ) (a : Agent) → (state_after pack room calls).slots slot ≡ some a → a.id ≡ id → ⊥
  -- a late repeat is not accepted, neither as an arrival nor as a retry
  pub arrives_never : (slot w : ℕ) (args : List ℕ) → accepted (answer_to pack room calls (arrival slot id w args)) ≡ false
  pub retried_never : (slot : ℕ) → accepted (answer_to pack room calls (retry slot id)) ≡ false
  -- whatever calls come later, the plain machine's run of it stays as it is, and none of them replies to it
  pub counted_still : (later : History) → (machine_after pack room (later ++ calls)).runs id ≡ (machine_after pack room calls).runs id
  pub no_reply : (later : History) (c : Call) (value : Result) → answer_to pack room (later ++ calls) c ≡ reply id value → ⊥

-- What W-209 asks of all lists of calls, for any pack, checked or not.
pub record Retiring (pack : Pack) (room : ℕ) (calls : History) : Type 0 where
  -- the floor only rises
  pub rises : (later : History) → floor_after pack room calls ≤ floor_after pack room (later ++ calls)
  -- and an id below it doesn't act again
  pub never_again : (id : ℕ) → id < floor_after pack room calls → NeverAgain pack room calls id
