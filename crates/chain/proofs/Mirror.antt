-- A list of calls on bytes is a list of calls of the rules: a refused call is the rules' `stopped`, which answers and feeds the same.
use mathlib.Core.Bool.{Bool, true, false}
use mathlib.Core.List.{List, [], ◌∷◌}
use mathlib.Core.Option.{Option, none, some}
use mathlib.Core.Path.{◌≡◌, refl, sym, ◌∙◌, ap, subst}
use Prim.Native.Nat.{ℕ, ◌^◌}
use lib.Dec.{ltb}
use lib.ListN.{replicate}
use Rattle.rules.proofs.States.{same_state}
use Rattle.contents.specs.Contents.{contents_of, book_of, request_of}
use Rattle.questions.specs.Basics.{if◌then◌otherwise◌}
use Rattle.questions.specs.Questions.{No}
use Rattle.rules.specs.Calls.{Call, stopped, Outcome, State, History, fresh, refusal, call, unless, state_after, answer_to}
use Rattle.rules.specs.Calls as Calls
use Rattle.rules.specs.Plain.{Machine, Tallies, Event, feed_of, tallies_of, machine_of, replies_of}
use Rattle.rules.specs.Plain.{events_after, tallies_after, machine_after, replies_after}
use Rattle.rules.proofs.Alike.{Alike, none_yet, one_more, same_tallies, same_machine, same_replies}
use Rattle.rules.proofs.Invariant.{Inv}
use Rattle.rules.proofs.Theorem.{invariant}
use Rattle.questions.proofs.Questions.{or_else_none}
use Rattle.pack.specs.Meaning.{pack_of}
use Rattle.store.specs.Rows.{empty_store, lookup}
use Rattle.std.specs.Prelude.{Ok}
use Rattle.store.specs.Created.{Created}
use Rattle.agents.specs.Answers.{Answer}
use Rattle.agents.specs.Slots.{no_agent}
use Rattle.agents.specs.Answers.{answer_of}
use Rattle.agents.proofs.Slots.{slots_none}
use Rattle.worklist.specs.Worklist.{no_worklist, entries_of}
use Rattle.meaning.specs.State.{state_of, Lent}
use Rattle.meaning.specs.Questions.{refusal_for}
use Rattle.meaning.specs.Carried.{Carried, ruled}
use Rattle.chain.specs.Chain.{Chain, begins, goes_on}
use Rattle.chain.proofs.Each.{left_state}

-- ── a fresh store ──

if_same : {A : Type 0} (b : Bool) (x : A) → if◌then◌otherwise◌ b x x ≡ x
if_same true x = refl
if_same false x = refl

pub fresh_contents : (P C : ℕ) → contents_of (empty_store P C) ≡ (fresh C).store
unfolding contents_of lookup book_of request_of
fresh_contents P C =
    λ i.
    record {
      room = C;
      used = λ p. if_same (ltb p P) 0 i;
      rows = λ p k. (ap (λ o. if◌then◌otherwise◌ (ltb p P) o none) (if_same (ltb k (2 ^ 32)) none) ∙ if_same (ltb p P) none) i;
      log =
          record {
            usual =
                λ p id t.
                (ap (λ o. if◌then◌otherwise◌ (ltb p P) (if◌then◌otherwise◌ (ltb id (2 ^ 32)) o none) none) (if_same (ltb t 65536) none)
                ∙ ap (λ o. if◌then◌otherwise◌ (ltb p P) o none) (if_same (ltb id (2 ^ 32)) none)
                ∙ if_same (ltb p P) none) i;
          };
      book_used = 0;
      book = λ id. if_same (ltb id (2 ^ 32)) none i;
      floor = none;
    }

-- ── the mirror ──

-- the calls of the rules that come to the same as these on bytes
pub record Mirror (pack : List ℕ) (C : ℕ) (events : List Event) (lent : Lent) : Type 0 where
  pub calls : History
  pub state : state_of lent ≡ state_after (pack_of pack) C calls
  -- the events are theirs, but that a refused call is `stopped` there
  pub told : Alike events (events_after (pack_of pack) C calls)

module _ {pack : List ℕ} {C : ℕ} {events : List Event} {lent : Lent} (m : Mirror pack C events lent) where
  pub tallies_as : tallies_of events ≡ tallies_after (pack_of pack) C m.calls
  tallies_as = same_tallies _ _ m.told

  pub machine_as : machine_of (pack_of pack) events ≡ machine_after (pack_of pack) C m.calls
  machine_as = same_machine (pack_of pack) _ _ m.told

  pub replies_as : replies_of events ≡ replies_after (pack_of pack) C m.calls
  replies_as = same_replies _ _ m.told

  -- what holds after each list of the rules' calls holds here
  pub invariant_as : Inv (pack_of pack) (state_of lent) (machine_of (pack_of pack) events) (tallies_of events) (replies_of events)
  invariant_as =
      subst (λ (s : State). Inv (pack_of pack) s (machine_of (pack_of pack) events) (tallies_of events) (replies_of events)) (sym m.state)
      (subst (λ (x : Machine). Inv (pack_of pack) after x (tallies_of events) (replies_of events)) (sym machine_as)
      (subst (λ (t : Tallies). Inv (pack_of pack) after (machine_after (pack_of pack) C m.calls) t (replies_of events)) (sym tallies_as)
      (subst (Inv (pack_of pack) after (machine_after (pack_of pack) C m.calls) (tallies_after (pack_of pack) C m.calls))
      (sym replies_as) (invariant (pack_of pack) C m.calls))))
    where
      after : State
      after = state_after (pack_of pack) C m.calls

pub mirror_start : (pack buffer store : List ℕ) (P C : ℕ) → Created buffer store P C (Ok tt) →
    Mirror pack C [] (record { store = store; records = replicate 8 no_agent; list = no_worklist })
unfolding state_of state_after events_after entries_of
mirror_start pack buffer store P C h =
    let e = ap contents_of (h.made refl).1 ∙ fresh_contents P C in
    record { calls = []; state = same_state e slots_none refl; told = none_yet }

-- where no question says no, the rule on the bytes is the call
pub rule_is_call : (pack : List ℕ) (lent : Lent) (c : Call) → refusal_for pack lent c ≡ none →
    ruled pack lent c ≡ call (pack_of pack) (state_of lent) c
unfolding refusal_for Calls.call Calls.unless
rule_is_call pack lent c e = ap (λ (o : Option No). unless o (state_of lent) (ruled pack lent c)) (sym (or_else_none _ _ e).1)

module _ (pack : List ℕ) (C : ℕ) (events : List Event) (lent : Lent) (m : Mirror pack C events lent)
    (c : Call) (answer : Answer) (lent' : Lent) where
  abbrev event : Event
  event = record { made = c; answer = answer_of answer }

  -- a call that the rules make too
  mirrored : answer_of answer ≡ answer_to (pack_of pack) C m.calls c →
      state_of lent' ≡ (call (pack_of pack) (state_after (pack_of pack) C m.calls) c).state →
      Mirror pack C (event ∷ events) lent'
  unfolding state_after events_after
  mirrored e s =
      record {
        calls = c ∷ m.calls;
        state = s;
        told = one_more _ _ _ _ (ap (λ (x : Calls.Answer). feed_of (record { made = c; answer = x })) e) e m.told;
      }

  -- a call that is refused
  mirror_stopped : (n : No) → answer_of answer ≡ Calls.refused n → state_of lent' ≡ state_of lent → Mirror pack C (event ∷ events) lent'
  unfolding state_after events_after Calls.call Calls.refusal Calls.unless
  mirror_stopped n e s =
      record {
        calls = stopped n ∷ m.calls;
        state = s ∙ m.state;
        told = one_more _ _ _ _ (ap (λ (x : Calls.Answer). feed_of (record { made = c; answer = x })) e) e m.told;
      }

  kept_state : lent' ≡ lent → state_of lent' ≡ state_of lent
  kept_state k = ap state_of k

  -- where no question says no, the rule on the bytes is the call after those of the mirror
  pub same_outcome : refusal_for pack lent c ≡ none → ruled pack lent c ≡ call (pack_of pack) (state_after (pack_of pack) C m.calls) c
  same_outcome e = rule_is_call pack lent c e ∙ ap (λ (s : State). call (pack_of pack) s c) m.state

  module _ (h : Carried pack lent c answer lent') where
    pub answered_as : refusal_for pack lent c ≡ none → answer_of answer ≡ answer_to (pack_of pack) C m.calls c
    answered_as e = (h.carried e).0 ∙ ap (λ (o : Outcome). o.answer) (same_outcome e)

    pub mirror_next : Mirror pack C (event ∷ events) lent'
    mirror_next = go (refusal_for pack lent c) refl
      where
        go : (o : Option No) → refusal_for pack lent c ≡ o → Mirror pack C (event ∷ events) lent'
        go none e = mirrored (answered_as e) (left_state pack lent c answer lent' h e ∙ ap (λ (o : Outcome). o.state) (same_outcome e))
        go (some n) e = mirror_stopped n (h.refused n e).0 (kept_state (h.refused n e).1)

pub mirror : (pack : List ℕ) (P C : ℕ) (events : List Event) (lent : Lent) → Chain pack P C events lent → Mirror pack C events lent
mirror pack P C events lent (begins buffer store₀ h) = mirror_start pack buffer store₀ P C h
mirror pack P C events lent (goes_on events₀ lent₀ c answer lent' chain h) =
    mirror_next pack C events₀ lent₀ (mirror pack P C events₀ lent₀ chain) c answer lent' h
