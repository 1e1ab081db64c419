-- Whether an agent of an id is in a slot, record by record.
use mathlib.Core.Bool.{Bool, true, false, not}
use mathlib.Core.List.{List, []}
use lib.ListN.{length}
use Rattle.std.specs.List.{list_all}
use mathlib.Core.Option.{none, some}
use mathlib.Core.Path.{◌≡◌, refl, sym}
use Prim.Native.Nat.{ℕ}
use borrow.Author.Tests.{eq-eqb, ne_eqb}
use Rattle.questions.specs.Basics.{if◌then◌otherwise◌}
use Rattle.agents.proofs.Blank.{each_all}
use Rattle.rules.specs.Calls.{is_of, in_no_slot}
use Rattle.agents.specs.declared.Agent.{Agent}
use Rattle.agents.specs.Slots.{agent_at, held, agent_of, slots_of}

abbrev past : Agent
past = record { in_use = false; id = 0; position = 0; step = 0; registers = [] }

-- the record of another id
pub of_other : (a : Agent) (id : ℕ) → (a.id ≡ id → ⊥) → is_of id (agent_of a) ≡ false
unfolding agent_of
of_other a id n = go a.in_use
  where
    go : (b : Bool) → is_of id (if◌then◌otherwise◌ b (some (held a)) none) ≡ false
    go true = ne_eqb _ _ n
    go false = refl

-- a record of this id is one of its agents where it is in use
pub of_same : (a : Agent) (id : ℕ) → a.id ≡ id → is_of id (agent_of a) ≡ a.in_use
unfolding agent_of
of_same a id e = go a.in_use
  where
    go : (b : Bool) → is_of id (if◌then◌otherwise◌ b (some (held a)) none) ≡ b
    go true = eq-eqb _ _ e
    go false = refl

-- What is asked of each of eight records is what is asked of each slot.
pub in_none : (records : List Agent) (id : ℕ) → length records ≡ 8 →
    list_all (λ a. not (is_of id (agent_of a))) records ≡ in_no_slot (slots_of records) id
unfolding in_no_slot slots_of
in_none records id e =
    sym (each_all (λ a. not (is_of id (agent_of a))) past (λ slot. not (is_of id (agent_of (agent_at records slot)))) 8 records e (λ k. refl))
