-- W-201, request number zero: what the changed questions come to.
use Rattle.std.specs.Prelude.{not, ◌≡◌, ◌⊎◌, ℕ, ◌<◌, ltb}
use mathlib.Core.List.{List, Memᴰ}
use Rattle.std.proofs.Math.Option.{Option, none, some}
use Rattle.questions.specs.Basics.{is_some}
use Rattle.questions.specs.Questions.{No, number, ask}
use Rattle.rules.specs.Instructions.{Pack}
use Rattle.rules.specs.Store.{Request, found}
use Rattle.rules.specs.Calls.{State, Call, arrival, retry, stopped, refusal, call, History, state_after}
use Rattle.rules.specs.Plain.{Reply, machine_after, replies_after}

-- The no to an arrival with id 0: behind 15 and 16 it is 24.
abbrev pub zero_no : State → (slot : ℕ) → Option No
zero_no s slot = ask (number 15) (ltb slot 8) (ask (number 16) (not (is_some (s.slots slot))) (some (number 24)))

-- What holds of each call, on any store and any slots, an older store that has 0 in its book included.
pub record RequestZero (pack : Pack) (s : State) : Type 0 where
  -- an arrival with id 0 is never accepted
  pub none_accepted : (slot w : ℕ) (args : List ℕ) → refusal pack s (arrival slot 0 w args) ≡ none → ⊥
  -- it gets `zero_no`, whatever its workflow and arguments and whatever the book has of 0
  pub turned_down : (slot w : ℕ) (args : List ℕ) → refusal pack s (arrival slot 0 w args) ≡ zero_no s slot
  -- 24 is said to arrivals with id 0 only (`stopped` stands for a call of any kind that never comes to 15)
  pub nobody_else : (c : Call) → refusal pack s c ≡ some (number 24) →
      ((slot : ℕ) × (w : ℕ) × (args : List ℕ) × (c ≡ arrival slot 0 w args)) ⊎ (c ≡ stopped (number 24))
  -- a request booked under 0 may be retried
  pub retried : (slot : ℕ) (q : Request) → slot < 8 → s.slots slot ≡ none → s.store.book 0 ≡ some q →
      refusal pack s (retry slot 0) ≡ none
  -- no call books a new 0
  pub books_no_new : (c : Call) → s.store.book 0 ≡ none → (call pack s c).state.store.book 0 ≡ none

-- The plain run books no new 0: after any calls from a fresh store the machine has no run of id 0, and so the store has neither the
-- request nor a log row of it, and no reply is to it.
pub record NoZero (pack : Pack) (room : ℕ) (calls : History) : Type 0 where
  pub run : (machine_after pack room calls).runs 0 ≡ none
  pub book : (state_after pack room calls).store.book 0 ≡ none
  pub log : (partition step : ℕ) → found (state_after pack room calls).store.log partition 0 step ≡ none
  pub replies : (r : Reply) → Memᴰ r (replies_after pack room calls) → r.id ≡ 0 → ⊥
