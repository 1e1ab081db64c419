-- W-209 of calls on bytes: the floor only rises, and a retired request doesn't act again.
use mathlib.Core.Bool.{true, false}
use mathlib.Core.Path.{◌≡◌, refl, sym, ◌∙◌, ap, subst}
use mathlib.Core.Logic.{◌⊎◌, inl, inr}
use mathlib.Core.List.Memᴰ
use mathlib.Core.List.{List, ◌++◌, Memᴰ}
use mathlib.Core.Option.{Option, none, some}
use Prim.Native.Nat.{ℕ, ◌≤◌, ◌<◌}
use native.Mathlib.Omega.{arith}
use Rattle.questions.specs.Questions.{No}
use Rattle.questions.proofs.Updates.{none_some, false_true}
use Rattle.rules.specs.Blocks.{Result}
use Rattle.rules.specs.Store.{floor_of, found}
use Rattle.rules.specs.Worklist.{listed}
use Rattle.rules.specs.Calls.{Call, arrival, retry, State, Outcome, refusal, call, answer_to}
use Rattle.rules.specs.Calls as Calls
use Rattle.rules.specs.Plain.{Reply, Event, accepted, with_answer, feed_of, fed, tallies_of, machine_of, replies_of}
use Rattle.rules.specs.Retired as Rules
use Rattle.rules.proofs.Changes.{from_floor_lem}
use Rattle.rules.proofs.NotBooked.{run_same, no_reply_to}
use Rattle.rules.proofs.Retiring as RulesProofs
use Rattle.pack.specs.Meaning.{pack_of}
use Rattle.agents.specs.Answers.{Answer}
use Rattle.agents.specs.Answers.{answer_of}
use Rattle.worklist.specs.Worklist.{worklist_of}
use Rattle.meaning.specs.State.{state_of, Lent}
use Rattle.meaning.specs.Questions.{refusal_for}
use Rattle.meaning.specs.Carried.{Carried}
use Rattle.chain.specs.Chain.{Chain, ChainFrom, from_here, on_from}
use Rattle.chain.specs.Retired.{floor_in, NeverAgain, Retiring}
use Rattle.chain.proofs.Each.{answers_yes}
use Rattle.chain.proofs.Mirror.{Mirror, mirror, invariant_as, rule_is_call, answered_as}
use Rattle.chain.proofs.Listed.{stays, joined, none_vanishes}

-- the floor only rises, on any store
rises_on : (pack : List ℕ) (lent : Lent) (later : List Event) (lent' : Lent) → ChainFrom pack lent later lent' →
    floor_in lent.store ≤ floor_in lent'.store
unfolding state_of
rises_on pack lent later lent' from_here = omega arith
rises_on pack lent later lent' (on_from events lent₁ c answer lent₂ g h) =
    omega (arith, rises_on pack lent events lent₁ g, (stays pack lent₁ c answer lent₂ h).rises)

-- a reply that an answer adds is that answer
added_by : (x : Calls.Answer) (rs : List Reply) (r : Reply) → Memᴰ r (with_answer x rs) →
    (x ≡ Calls.reply r.id r.value) ⊎ Memᴰ r rs
added_by Calls.done rs r k = inr k
added_by Calls.moved rs r k = inr k
added_by (Calls.given id) rs r k = inr k
added_by (Calls.refused n) rs r k = inr k
added_by (Calls.reply id v) rs r k = go (Memᴰ.cases_cons k)
  where
    go : (r ≡ record { id = id; value = v }) ⊎ Memᴰ r rs → (Calls.reply id v ≡ Calls.reply r.id r.value) ⊎ Memᴰ r rs
    go (inl e) = inl (ap (λ (y : Reply). Calls.reply y.id y.value) (sym e))
    go (inr h) = inr h

-- ── An id below the floor ──

module _ (pack : List ℕ) (P C : ℕ) (events : List Event) (lent : Lent) (chain : Chain pack P C events lent) (id : ℕ)
    (below : id < floor_in lent.store) where
  abbrev m : Mirror pack C events lent
  m = mirror pack P C events lent chain

  -- what the rules say of it
  rules : Rules.NeverAgain (pack_of pack) C m.calls id
  unfolding state_of
  rules =
      (RulesProofs.retiring (pack_of pack) C m.calls).never_again id
      (subst (λ (s : State). id < floor_of s.store) m.state below)

  unbooked_on : (state_of lent).store.book id ≡ none
  unbooked_on = ap (λ (s : State). s.store.book id) m.state ∙ rules.unbooked

  unlisted_on : listed id (worklist_of lent.list) ≡ true → ⊥
  unfolding state_of
  unlisted_on l = let b = ((none_vanishes pack P C).listing events lent chain).booked id l in none_some b.0 unbooked_on b.1

  -- 30 says no to its arrival
  shut : (slot w : ℕ) (args : List ℕ) → refusal (pack_of pack) (state_of lent) (arrival slot id w args) ≡ none → ⊥
  unfolding state_of
  shut slot w args allow = let l = from_floor_lem (pack_of pack) (state_of lent) slot id w args allow in omega (arith, l, below)

  -- ── One call more ──

  module _ (c : Call) (answer : Answer) (lent' : Lent) (h : Carried pack lent c answer lent') where
    -- a call that the rules don't accept
    turned_down : accepted (answer_to (pack_of pack) C m.calls c) ≡ false → (accepted (answer_of answer) ≡ false) × (lent' ≡ lent)
    turned_down not_there = go (refusal_for pack lent c) refl
      where
        go : (o : Option No) → refusal_for pack lent c ≡ o → (accepted (answer_of answer) ≡ false) × (lent' ≡ lent)
        go none e =
            false_true (ap accepted (answered_as pack C events lent m c answer lent' h e) ∙ not_there)
            (answers_yes pack lent c answer lent' h e)
        go (some n) e = let k = h.refused n e in (ap accepted k.0, k.1)

    -- where no question says no, the answer is the call's
    answer_is : refusal_for pack lent c ≡ none → answer_of answer ≡ (call (pack_of pack) (state_of lent) c).answer
    answer_is e = (h.carried e).0 ∙ ap (λ (o : Outcome). o.answer) (rule_is_call pack lent c e)

    -- the machine's run of it stays
    run_next : (fed (pack_of pack) (machine_of (pack_of pack) events) (tallies_of events)
        (feed_of (record { made = c; answer = answer_of answer }))).runs id ≡ (machine_of (pack_of pack) events).runs id
    unfolding fed
    run_next = go (refusal_for pack lent c) refl
      where
        -- what an answer feeds leaves it
        Leaves : Calls.Answer → Type 0
        Leaves x =
            (fed (pack_of pack) (machine_of (pack_of pack) events) (tallies_of events) (feed_of (record { made = c; answer = x }))).runs id
            ≡ (machine_of (pack_of pack) events).runs id

        go : (o : Option No) → refusal_for pack lent c ≡ o → Leaves (answer_of answer)
        go none e =
            subst Leaves (sym (answer_is e))
            (run_same (pack_of pack) (state_of lent) (machine_of (pack_of pack) events) (tallies_of events) (replies_of events) (invariant_as m)
            id unbooked_on shut c)
        go (some n) e = subst Leaves (sym (h.refused n e).0) refl

    -- and no reply to it is given
    no_reply_next : (v : Result) → answer_of answer ≡ Calls.reply id v → ⊥
    no_reply_next v g = go (refusal_for pack lent c) refl
      where
        go : (o : Option No) → refusal_for pack lent c ≡ o → ⊥
        go none e =
            no_reply_to (pack_of pack) (state_of lent) (machine_of (pack_of pack) events) (tallies_of events) (replies_of events)
            (invariant_as m) id unbooked_on v c (sym (answer_is e) ∙ g)
        go (some n) e =
            let z : Calls.refused n ≡ Calls.reply id v = sym (h.refused n e).0 ∙ g in
            absurd (let y : ◌≡◌ {A = ℕ} 0 1 = cc in omega arith)

-- ── Lists of calls ──

module _ (pack : List ℕ) (P C : ℕ) (before : List Event) (lent : Lent) (chain : Chain pack P C before lent) (id : ℕ)
    (below : id < floor_in lent.store) where
  -- it is below the floor after any later calls
  below_later : (later : List Event) (lent' : Lent) → ChainFrom pack lent later lent' → id < floor_in lent'.store
  below_later later lent' g = omega (arith, below, rises_on pack lent later lent' g)

  counted_on : (later : List Event) (lent' : Lent) → ChainFrom pack lent later lent' →
      (machine_of (pack_of pack) (later ++ before)).runs id ≡ (machine_of (pack_of pack) before).runs id
  unfolding machine_of
  counted_on later lent' from_here = refl
  counted_on later lent' (on_from events lent₁ c answer lent₂ g h) =
      run_next pack P C (events ++ before) lent₁ (joined pack P C before lent chain events lent₁ g) id (below_later events lent₁ g)
      c answer lent₂ h
      ∙ counted_on events lent₁ g

  no_reply_on : (later : List Event) (lent' : Lent) → ChainFrom pack lent later lent' →
      (r : Reply) → Memᴰ r (replies_of later) → r.id ≡ id → ⊥
  unfolding replies_of
  no_reply_on later lent' from_here r k e = absurd (Memᴰ.not-nil k)
  no_reply_on later lent' (on_from events lent₁ c answer lent₂ g h) r k e =
      go (added_by (answer_of answer) (replies_of events) r k) (λ k'. no_reply_on events lent₁ g r k' e)
    where
      go : (answer_of answer ≡ Calls.reply r.id r.value) ⊎ Memᴰ r (replies_of events) →
          (Memᴰ r (replies_of events) → ⊥) → ⊥
      go (inl a) rec =
          no_reply_next pack P C (events ++ before) lent₁ (joined pack P C before lent chain events lent₁ g) id
          (below_later events lent₁ g) c answer lent₂ h r.value (a ∙ ap (λ j. Calls.reply j r.value) e)
      go (inr k') rec = rec k'

  never_again_on : NeverAgain pack before lent id
  unfolding state_of
  never_again_on =
      let n = rules pack P C before lent chain id below in
      let there = (mirror pack P C before lent chain).state in
      record {
        unbooked = unbooked_on pack P C before lent chain id below;
        no_log = λ p t. ap (λ (s : State). found s.store.log p id t) there ∙ n.no_log p t;
        in_no_slot = λ slot a e. n.in_no_slot slot a (ap (λ (s : State). s.slots slot) (sym there) ∙ e);
        not_listed = unlisted_on pack P C before lent chain id below;
        arrives_never =
            λ slot w args answer lent' h.
            turned_down pack P C before lent chain id below (arrival slot id w args) answer lent' h (n.arrives_never slot w args);
        retried_never =
            λ slot answer lent' h.
            turned_down pack P C before lent chain id below (retry slot id) answer lent' h (n.retried_never slot);
        counted_still = counted_on;
        no_reply = no_reply_on;
      }

-- The theorem.
pub retiring : (pack : List ℕ) (P C : ℕ) → Retiring pack P C
retiring pack P C =
    record {
      rises = λ events lent chain later lent' g. rises_on pack lent later lent' g;
      never_again = never_again_on pack P C;
    }
