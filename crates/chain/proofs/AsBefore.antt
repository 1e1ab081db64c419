-- W-201 of lists of calls on an older store: a request that is booked there replies as before.
use mathlib.Core.Bool.{true}
use mathlib.Core.List.{List, [], ◌∷◌}
use mathlib.Core.Option.{Option, none, some}
use mathlib.Core.Path.{◌≡◌, refl, sym, ◌∙◌, ap, subst}
use Prim.Native.Nat.{ℕ, suc}
use native.Mathlib.Omega.{arith}
use Rattle.meaning.proofs.Tests.{booked_of_13}
use Rattle.contents.specs.Contents.{contents_of}
use Rattle.questions.specs.Basics.{is_some}
use Rattle.questions.specs.Questions.{No}
use Rattle.rules.specs.Store as Rules
use Rattle.rules.specs.Calls.{Call, State, Outcome, turn, turn_in}
use Rattle.rules.specs.Calls as Calls
use Rattle.rules.specs.Plain.{Event, accepted, with_answer, Tallies, Feed, feed_of, tallied, tallies_of, replies_of}
use Rattle.questions.proofs.Updates.{false_true, update_same}
use Rattle.questions.proofs.Questions.{ask_none, or_else_none}
use Rattle.rules.proofs.Calls.{rule_accepted, feed_accepted}
use Rattle.rules.proofs.Stands.{turn_is, turn_counted, turns_at_most, last_replies}
use Rattle.rules.proofs.ByLog.{ByLog, rule_by_log, at_first}
use Rattle.pack.proofs.Laws.{length_pack, length_workflow, accepted_checked}
use Rattle.pack.specs.Meaning.{pack_of}
use Rattle.store.specs.Rows.{store_of}
use Rattle.agents.specs.declared.Agent.{Agent}
use Rattle.agents.specs.Answers.{Answer}
use Rattle.agents.specs.Slots.{slots_of}
use Rattle.agents.specs.Answers.{answer_of}
use Rattle.agents.proofs.Slots.{slots_none}
use Rattle.worklist.specs.declared.Worklist.{Worklist}
use Rattle.meaning.specs.State.{state_of, Lent}
use Rattle.meaning.specs.Questions.{lent_refusal, lent_for, refusal_for}
use Rattle.meaning.specs.Carried.{Carried, ruled}
use Rattle.meaning.proofs.Asked.{lent_pack, lent_13}
use Rattle.meaning.proofs.Sense.{booked_workflow}
use Rattle.chain.specs.Chain.{ChainFrom, from_here, on_from}
use Rattle.chain.specs.Demands.{InTime}
use Rattle.chain.specs.RequestZero.{lent_at_first, ChainOn, AsBefore}
use Rattle.chain.proofs.Each.{met_none, left_state}
use Rattle.chain.proofs.Floor.{above_for}

module _ (pack older : List ℕ) where
  abbrev pub first : Rules.Store
  first = contents_of (store_of older)

  -- agents and replies go by the log
  abbrev pub GoesByLog : List Event → Lent → Type 0
  GoesByLog events lent = ByLog (pack_of pack) first (state_of lent) (tallies_of events) (replies_of events)

  module _ (events : List Event) (lent : Lent) (inv : GoesByLog events lent) where
    next_by_log : (c : Call) (answer : Answer) (lent' : Lent) →
        Carried pack lent c answer lent' →
        GoesByLog (record { made = c; answer = answer_of answer } ∷ events) lent'
    unfolding tallies_of replies_of state_of refusal_for tallied
    next_by_log c answer lent' h = go (refusal_for pack lent c) refl
      where
        -- what an answer counts, and what it adds
        Goes : State → Calls.Answer → Type 0
        Goes s x =
            ByLog (pack_of pack) first s (tallied (tallies_of events) (feed_of (record { made = c; answer = x })))
            (with_answer x (replies_of events))

        go : (o : Option No) → refusal_for pack lent c ≡ o → Goes (state_of lent') (answer_of answer)
        go none e =
            subst (Goes (state_of lent')) (sym (h.carried e).0)
            (subst (λ (s : State). Goes s (ruled pack lent c).answer) (sym (left_state pack lent c answer lent' h e))
            (subst (λ (f : Feed). ByLog (pack_of pack) first (ruled pack lent c).state (tallied (tallies_of events) f)
            (with_answer (ruled pack lent c).answer (replies_of events)))
            (sym (feed_accepted c (ruled pack lent c).answer (rule_accepted (pack_of pack) (state_of lent) c)))
            (rule_by_log (pack_of pack) first (state_of lent) (tallies_of events) (replies_of events) inv c (or_else_none _ _ e).1
            (above_for pack lent c e))))
        go (some n) e =
            subst (Goes (state_of lent')) (sym (h.refused n e).0)
            (subst (λ (s : State). Goes s (Calls.refused n)) (sym (ap state_of (h.refused n e).1)) inv)

    module _ (slot : ℕ) (answer : Answer) (lent' : Lent)
        (h : Carried pack lent (turn slot) answer lent') (allow : accepted (answer_of answer) ≡ true) where
      all_yes : refusal_for pack lent (turn slot) ≡ none
      all_yes = met_none pack lent (turn slot) answer lent' h allow

      lent_yes : lent_refusal pack lent ≡ none
      unfolding refusal_for lent_for
      lent_yes = (or_else_none _ _ all_yes).0

      in_use : is_some (slots_of lent.records slot) ≡ true
      unfolding refusal_for lent_for Calls.refusal state_of
      in_use = (ask_none _ _ _ (ask_none _ _ _ (or_else_none _ _ all_yes).1).1).0

      in_time_of : (o : Option Calls.Agent) → slots_of lent.records slot ≡ o → is_some o ≡ true → InTime pack events lent slot answer
      unfolding state_of contents_of tallies_of Calls.rule
      in_time_of none e u = false_true refl u
      in_time_of (some a) e u =
          let st = inv.slots slot a e in
          let q = st.request in
          let ok = lent_pack pack lent lent_yes in
          let w = booked_workflow pack lent.store (booked_of_13 pack lent.store (lent_13 pack lent lent_yes)) a.id q
          st.book_is in
          let size = length_workflow pack ok q.workflow w in
          let checked = accepted_checked pack ok q.workflow (omega (arith, w, length_pack pack)) in
          record {
            agent = a;
            turns = suc st.moves;
            request = q;
            in_slot = e;
            counted =
                ap (λ (f : Feed). tallied (tallies_of events) f slot) (feed_accepted (turn slot) (answer_of answer) allow)
                ∙ ap (λ (f : Tallies). f slot)
                (turn_counted (pack_of pack) (state_of lent) (tallies_of events) slot a st)
                ∙ update_same (tallies_of events) slot (some (record { id = a.id; turns = suc st.moves }));
            booked = st.book_is;
            workflow = w;
            at_most = omega (arith, turns_at_most (pack_of pack) (state_of lent) (tallies_of events) slot a st checked, size);
            last =
                λ x.
                let l = last_replies (pack_of pack) (state_of lent) (tallies_of events) slot a st checked (x ∙ sym size) in (
                  l.0,
                  (h.carried all_yes).0
                      ∙ ap (λ (y : Option Calls.Agent). (turn_in (pack_of pack) (state_of lent) slot y).answer) e
                      ∙ ap (λ (y : Outcome). y.answer)
                      (turn_is (pack_of pack) (state_of lent) (tallies_of events) slot a st)
                      ∙ l.1,
                );
          }

  by_log_from : (list : Worklist) (events : List Event) (lent : Lent) →
      ChainFrom pack (lent_at_first older list) events lent → GoesByLog events lent
  unfolding tallies_of replies_of state_of
  by_log_from list events lent from_here =
      at_first (pack_of pack) first (state_of (lent_at_first older list)) (tallies_of []) refl
      (λ slot. ap (λ (f : ℕ → Option Calls.Agent). f slot) slots_none)
  by_log_from list events lent (on_from events₀ lent₀ c answer lent' chain h) =
      next_by_log events₀ lent₀ (by_log_from list events₀ lent₀ chain) c answer lent' h

  pub by_log_on : (events : List Event) (lent : Lent) → ChainOn pack older events lent → GoesByLog events lent
  by_log_on events lent chain = by_log_from chain.0 events lent chain.1

  -- Requests reply as before.
  pub as_before_on : (events : List Event) (lent : Lent) → ChainOn pack older events lent →
      AsBefore pack older events lent
  as_before_on events lent chain =
      let inv = by_log_on events lent chain in
      record {
        as_before = inv.before;
        equal = inv.equal;
        in_time =
            λ slot answer lent' h allow.
            in_time_of events lent inv slot answer lent' h allow (slots_of lent.records slot) refl
            (in_use events lent inv slot answer lent' h allow);
      }
