-- The turn of a slot, by that of its agent.
use mathlib.Core.Bool.{Bool, true, false}
use mathlib.Core.List.{List, []}
use mathlib.Core.Option.{none, some}
use mathlib.Core.Path.{◌≡◌, refl, sym, ◌∙◌, ap, subst}
use Prim.Native.Nat.{ℕ}
use native.Mathlib.Omega.{arith}
use lib.ListN.{set}
use lib.Seq.{set-get_or}
use Rattle.questions.specs.Questions as Questions
use Rattle.meaning.proofs.Begun.{begun_lent, begun_below, begun_used, turn_left}
use Rattle.meaning.proofs.Tests.{slot_used}
use Rattle.contents.specs.Contents.{contents_of}
use Rattle.questions.specs.Questions.{number, ask}
use Rattle.rules.specs.Calls.{can_turn, turn_in}
use Rattle.rules.specs.Calls as Calls
use Rattle.questions.proofs.Each.{each_at}
use Rattle.pack.specs.Meaning.{pack_of}
use Rattle.store.specs.Rows.{store_of}
use Rattle.agents.specs.declared.Agent.{Agent}
use Rattle.questions.specs.Verdicts.{refusal_of}
use Rattle.agents.specs.Slots.{agent_at, held, agent_of, slots_of, Tidy}
use Rattle.agents.specs.Answers.{Answer, answer_of}
use Rattle.agents.proofs.Slots.{slot_held, agent_back}
use Rattle.meaning.specs.State.{state_of, Lent}
use Rattle.meaning.specs.Questions.{slot_right, question14, lent_refusal, first_sixteen, refusal_for}
use Rattle.meaning.specs.Carried.{Carried}
use Rattle.meaning.proofs.Asked.{lent_pack, lent_store, lent_13, lent_14}
use Rattle.meaning.proofs.Carry.{is_done, is_refused}
use Rattle.turn.specs.declared.Turned.{Turned}
use Rattle.turn.specs.Turned.{Turnable, TurnedBy}

-- what stands past the last record, as `agent_at` has it
abbrev past : Agent
past = record { in_use = false; id = 0; position = 0; step = 0; registers = [] }

module _ (pack : List ℕ) (lent : Lent) (slot : ℕ) (e : first_sixteen pack lent slot true ≡ none) where
  abbrev a : Agent
  a = agent_at lent.records slot

  lent_yes : lent_refusal pack lent ≡ none
  lent_yes = begun_lent pack lent slot true e

  used : a.in_use ≡ true
  used = begun_used pack lent slot e

  -- questions 1 to 16 say yes
  pub may_turn : Turnable pack lent.store a
  unfolding question14
  may_turn =
      record {
        accepted = lent_pack pack lent lent_yes;
        stored = lent_store pack lent lent_yes;
        right = lent_13 pack lent lent_yes;
        used = used;
        sound =
            sym (slot_used pack lent.store a used)
            ∙ each_at (λ i. slot_right pack lent.store (agent_at lent.records i)) 8 0 (lent_14 pack lent lent_yes) slot (omega arith)
            (omega (arith, begun_below pack lent slot true e));
      }

  there : slots_of lent.records slot ≡ some (held a)
  there = slot_held lent.records slot used

  -- 21 is left
  may : (b : Bool) → can_turn (pack_of pack) (contents_of (store_of lent.store)) (some (held a)) ≡ b →
      refusal_for pack lent (Calls.turn slot) ≡ ask (number 21) b none
  may b y =
      turn_left pack lent slot e
      ∙ ap (λ (t : Bool). ask (number 21) t none) (ap (can_turn (pack_of pack) (contents_of (store_of lent.store))) there ∙ y)

  pub is_turned : Tidy lent.records → (store' : List ℕ) (r : Turned) (records' : List Agent) → TurnedBy pack lent.store a r store' →
      records' ≡ set lent.records slot r.agent →
      Carried pack lent (Calls.turn slot) r.answer (record { store = store'; records = records'; list = lent.list })
  unfolding Calls.rule state_of answer_of Questions.ask
  is_turned tidy store' r records' t p = go (can_turn (pack_of pack) (contents_of (store_of lent.store)) (some (held a))) refl
    where
      go : (b : Bool) → can_turn (pack_of pack) (contents_of (store_of lent.store)) (some (held a)) ≡ b →
          Carried pack lent (Calls.turn slot) r.answer (record { store = store'; records = records'; list = lent.list })
      go true y =
          is_done pack lent store' records' (Calls.turn slot) r.answer slot (agent_of r.agent)
          (contents_of (store_of store')) (answer_of r.answer)
          tidy (begun_below pack lent slot true e) (may true y)
          (ap (turn_in (pack_of pack) (state_of lent) slot) there ∙ t.turned y (state_of lent) slot)
          t.written refl
          (p ∙ ap (set lent.records slot) (sym (agent_back r.agent t.whole)))
      go false n =
          let f = t.refused n in
          let q : records' ≡ lent.records =
          p ∙ ap (λ (x : Turned). set lent.records slot x.agent) f.0 ∙ set-get_or lent.records slot past in
          subst (λ (x : List ℕ). Carried pack lent (Calls.turn slot) r.answer
          (record { store = x; records = records'; list = lent.list })) (sym f.1)
          (subst (λ (x : List Agent). Carried pack lent (Calls.turn slot) r.answer
          (record { store = lent.store; records = x; list = lent.list })) (sym q)
          (subst (λ (x : Answer). Carried pack lent (Calls.turn slot) x lent) (sym (ap (λ (x : Turned). x.answer) f.0))
          (is_refused pack lent (Calls.turn slot) (refusal_of (number 21)) (may false n))))
