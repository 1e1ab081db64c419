-- A turn of slot 0 leaves the other slots as they were, so a record that was alone is alone again.
use mathlib.Core.List.{List}
use mathlib.Core.Option.{Option, none, some}
use mathlib.Core.Logic.{⊎_elim}
use mathlib.Core.Path.{◌≡◌, refl, sym, ◌∙◌, ap, subst}
use Prim.Native.Nat.{ℕ}
use native.Mathlib.Omega.{arith}
use lib.ListN.{replicate, set}
use Rattle.questions.specs.Questions.{No}
use Rattle.rules.specs.Instructions.{Code, Pack, Place}
use Rattle.rules.specs.Blocks.{Result}
use Rattle.rules.specs.Courses.{Course, Next, goes, does, says}
use Rattle.rules.specs.Calls.{State, turn, rule, turn_in, turn_on, through_block}
use Rattle.rules.specs.Calls as Calls
use Rattle.questions.proofs.Updates.{update_other}
use Rattle.pack.specs.Meaning.{pack_of}
use Rattle.agents.specs.declared.Agent.{Agent}
use Rattle.agents.specs.Answers.{Answer}
use Rattle.agents.specs.Slots.{no_agent, agent_at, agent_of, record_of, slots_of, records_from, records_of}
use Rattle.worklist.specs.declared.Worklist.{Worklist}
use Rattle.meaning.specs.State.{state_of, Lent}
use Rattle.meaning.specs.Questions.{refusal_for}
use Rattle.meaning.specs.Carried.{Carried, ruled}
use Rattle.lent.specs.Alone.{alone, TurnedAlone}

-- a turn changes no slot but its own
module _ (s : State) (slot j : ℕ) (apart : j ≡ slot → ⊥) where
  block_elsewhere : (a : Calls.Agent) (code : Code) (from : Place) (p : ℕ) (onto : Result → Course) (log : Option Result) →
      (through_block s slot a code from p onto log).state.slots j ≡ s.slots j
  unfolding through_block
  block_elsewhere a code from p onto none = update_other s.slots slot _ j apart
  block_elsewhere a code from p onto (some v) = update_other s.slots slot _ j apart

  on_elsewhere : (a : Calls.Agent) (code : Code) (x : Next) → (turn_on s slot a code x).state.slots j ≡ s.slots j
  unfolding turn_on
  on_elsewhere a code (goes to) = update_other s.slots slot _ j apart
  on_elsewhere a code (does from p onto) = block_elsewhere a code from p onto _
  on_elsewhere a code (says v) = update_other s.slots slot _ j apart

  in_elsewhere : (pack : Pack) (o : Option Calls.Agent) → (turn_in pack s slot o).state.slots j ≡ s.slots j
  unfolding turn_in
  in_elsewhere pack none = refl
  in_elsewhere pack (some a) = on_elsewhere a _ _

  elsewhere : (pack : Pack) → (rule pack s (turn slot)).state.slots j ≡ s.slots j
  unfolding rule
  elsewhere pack = in_elsewhere pack (s.slots slot)

-- the records of slots of which all but slot 0 are empty
alone_records : (f : ℕ → Option Calls.Agent) → f 1 ≡ none → f 2 ≡ none → f 3 ≡ none → f 4 ≡ none → f 5 ≡ none → f 6 ≡ none → f 7 ≡ none →
    records_of f ≡ alone (record_of (f 0))
unfolding records_from record_of
alone_records f e₁ e₂ e₃ e₄ e₅ e₆ e₇ = rw (e₁, e₂, e₃, e₄, e₅, e₆, e₇)

module _ (pack store : List ℕ) (a : Agent) (answer : Answer) (records' : List Agent) (store' : List ℕ) (list : Worklist)
    (c : Carried pack (record { store = store; records = alone a; list = list }) (turn 0) answer
    (record { store = store'; records = records'; list = list })) where
  abbrev f : ℕ → Option Calls.Agent
  f = (ruled pack (record { store = store; records = alone a; list = list }) (turn 0)).state.slots

  empty_at : (j : ℕ) → (j ≡ 0 → ⊥) → slots_of (alone a) j ≡ none → f j ≡ none
  unfolding state_of
  empty_at j n e = elsewhere (state_of (record { store = store; records = alone a; list = list })) 0 j n (pack_of pack) ∙ e

  kept_alone : records' ≡ alone (agent_at records' 0)
  unfolding slots_of agent_of
  kept_alone = go (refusal_for pack (record { store = store; records = alone a; list = list }) (turn 0)) refl
    where
      go : (o : Option No) → refusal_for pack (record { store = store; records = alone a; list = list }) (turn 0) ≡ o →
          records' ≡ alone (agent_at records' 0)
      go (some n) e = let k = ap (λ (x : Lent). x.records) (c.refused n e).1 in k ∙ ap (λ rs. alone (agent_at rs 0)) (sym k)
      go none e =
          ⊎_elim
          (λ k.
          let l =
          k
          ∙ alone_records f
          (empty_at 1 (λ z. omega arith) refl)
          (empty_at 2 (λ z. omega arith) refl)
          (empty_at 3 (λ z. omega arith) refl)
          (empty_at 4 (λ z. omega arith) refl)
          (empty_at 5 (λ z. omega arith) refl)
          (empty_at 6 (λ z. omega arith) refl)
          (empty_at 7 (λ z. omega arith) refl)
          in
          l ∙ ap (λ rs. alone (agent_at rs 0)) (sym l))
          (λ k. k ∙ ap (λ rs. alone (agent_at rs 0)) (sym k))
          (c.carried e).1.whole

  turned_alone : Carried pack (record { store = store; records = alone a; list = list }) (turn 0) answer
      (record { store = store'; records = alone (agent_at records' 0); list = list })
  turned_alone = subst (λ rs. Carried pack (record { store = store; records = alone a; list = list }) (turn 0) answer
      (record { store = store'; records = rs; list = list })) kept_alone c

-- the turn of slot 0 of slots made of seven empty ones and the record, with the parts in hand
pub one_turned : (pack store : List ℕ) (a : Agent) (answer : Answer) (empty records records' : List Agent) (store' : List ℕ) →
    empty ≡ replicate 8 no_agent → records ≡ set empty 0 a →
    ((list : Worklist) → Carried pack (record { store = store; records = records; list = list }) (turn 0) answer
    (record { store = store'; records = records'; list = list })) →
    TurnedAlone pack store a answer (agent_at records' 0) store'
one_turned pack store a answer empty records records' store' e f c list =
    turned_alone pack store a answer records' store' list
    (subst (λ rs. Carried pack (record { store = store; records = rs; list = list }) (turn 0) answer
    (record { store = store'; records = records'; list = list }))
    (f ∙ ap (λ rs. set rs 0 a) e) (c list))
