-- Every no that a call can be refused with names a place of a pack, or none.
use mathlib.Core.Bool.{Bool}
use mathlib.Core.List.{List}
use mathlib.Core.Option.{Option, none}
use Prim.Native.Nat.{ℕ, ◌<◌}
use native.Mathlib.Omega.{arith}
use Rattle.questions.specs.Questions.{No, number, Placed, ask}
use Rattle.questions.proofs.Every.{Every, every_none, every_some, every_ask, every_or, no_place}
use Rattle.rules.specs.Calls.{Call, State, arrival, retry, turn, crash, restart, order, list_add, list_take, list_done, retire, stopped}
use Rattle.rules.specs.Calls.{refusal}
use Rattle.rules.specs.Instructions.{Pack}
use Rattle.pack.specs.Meaning.{pack_of}
use Rattle.pack.proofs.Placed.{pack_placed}
use Rattle.store.specs.Questions.{store_refusal, order_refusal, create_refusal}
use Rattle.meaning.specs.State.{Lent, state_of}
use Rattle.meaning.specs.Questions.{lent_refusal, lent_for, refusal_for, first_thirteen, reply_refusal}

-- a call that a host makes; a `stopped` one names any place
abbrev pub FromHost : Call → Type 0
FromHost (arrival slot id w args) = Unit {0}
FromHost (retry slot id) = Unit {0}
FromHost (turn slot) = Unit {0}
FromHost (crash slot) = Unit {0}
FromHost restart = Unit {0}
FromHost order = Unit {0}
FromHost (list_add id) = Unit {0}
FromHost list_take = Unit {0}
FromHost (list_done id) = Unit {0}
FromHost (retire floor) = Unit {0}
FromHost (stopped n) = Placed n

-- a question without a place, and the rest
asks : (q : ℕ) → q < 256 → (b : Bool) (rest : Option No) → Every Placed rest → Every Placed (ask (number q) b rest)
asks q l b rest h = every_ask Placed (number q) b rest (no_place q l) h

ends : Every Placed none
ends = every_none Placed

store_placed : (store : List ℕ) → Every Placed (store_refusal store)
unfolding store_refusal
store_placed store = asks 9 (omega arith) _ _ (asks 10 (omega arith) _ _ (asks 11 (omega arith) _ _ (asks 12 (omega arith) _ _ ends)))

order_placed : (store : List ℕ) → Every Placed (order_refusal store)
unfolding order_refusal
order_placed store = asks 9 (omega arith) _ _ (asks 10 (omega arith) _ _ (asks 11 (omega arith) _ _ (asks 12 (omega arith) _ _ ends)))

pub create_placed : (P C length : ℕ) → Every Placed (create_refusal P C length)
unfolding create_refusal
create_placed P C n = asks 9 (omega arith) _ _ (asks 10 (omega arith) _ _ ends)

lent_placed : (pack : List ℕ) (lent : Lent) → Every Placed (lent_refusal pack lent)
unfolding lent_refusal
lent_placed pack lent =
    every_or Placed _ _ (pack_placed pack)
    (λ e. every_or Placed _ _ (store_placed lent.store) (λ f. asks 13 (omega arith) _ _ (asks 14 (omega arith) _ _ ends)))

pub reply_placed : (pack store : List ℕ) (id : ℕ) → Every Placed (reply_refusal pack store id)
unfolding reply_refusal first_thirteen
reply_placed pack store id =
    every_or Placed _ _
    (every_or Placed _ _ (pack_placed pack) (λ e. every_or Placed _ _ (store_placed store) (λ f. asks 13 (omega arith) _ _ ends)))
    (λ e. asks 20 (omega arith) _ _ ends)

call_placed : (pack : Pack) (s : State) (c : Call) → FromHost c → Every Placed (refusal pack s c)
unfolding refusal
call_placed pack s (arrival slot id w args) m =
    asks 15 (omega arith) _ _
    (asks 16 (omega arith) _ _
    (asks 24 (omega arith) _ _
    (asks 30 (omega arith) _ _ (asks 17 (omega arith) _ _ (asks 18 (omega arith) _ _ (asks 19 (omega arith) _ _ ends))))))
call_placed pack s (retry slot id) m = asks 15 (omega arith) _ _ (asks 16 (omega arith) _ _ (asks 20 (omega arith) _ _ ends))
call_placed pack s (turn slot) m = asks 15 (omega arith) _ _ (asks 16 (omega arith) _ _ (asks 21 (omega arith) _ _ ends))
call_placed pack s (crash slot) m = asks 15 (omega arith) _ _ (asks 16 (omega arith) _ _ ends)
call_placed pack s restart m = ends
call_placed pack s order m = ends
call_placed pack s (list_add id) m = asks 25 (omega arith) _ _ (asks 26 (omega arith) _ _ (asks 20 (omega arith) _ _ ends))
call_placed pack s list_take m = asks 25 (omega arith) _ _ (asks 27 (omega arith) _ _ ends)
call_placed pack s (list_done id) m = asks 25 (omega arith) _ _ (asks 27 (omega arith) _ _ ends)
call_placed pack s (retire floor) m = asks 25 (omega arith) _ _ (asks 28 (omega arith) _ _ (asks 29 (omega arith) _ _ ends))
call_placed pack s (stopped n) m = every_some Placed n m

for_placed : (c : Call) (pack : List ℕ) (lent : Lent) → Every Placed (lent_for c pack lent)
unfolding lent_for
for_placed (arrival slot id w args) pack lent = lent_placed pack lent
for_placed (retry slot id) pack lent = lent_placed pack lent
for_placed (turn slot) pack lent = lent_placed pack lent
for_placed (crash slot) pack lent = lent_placed pack lent
for_placed restart pack lent = ends
for_placed order pack lent = order_placed lent.store
for_placed (list_add id) pack lent = lent_placed pack lent
for_placed list_take pack lent = lent_placed pack lent
for_placed (list_done id) pack lent = lent_placed pack lent
for_placed (retire floor) pack lent = lent_placed pack lent
for_placed (stopped n) pack lent = lent_placed pack lent

pub refusal_placed : (pack : List ℕ) (lent : Lent) (c : Call) → FromHost c → Every Placed (refusal_for pack lent c)
unfolding refusal_for
refusal_placed pack lent c m =
    every_or Placed (lent_for c pack lent) _ (for_placed c pack lent) (λ e. call_placed (pack_of pack) (state_of lent) c m)
