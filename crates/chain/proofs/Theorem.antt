-- Demand 3 over lists of calls on bytes.
use mathlib.Core.Bool.{Bool, true, false}
use mathlib.Core.List.{List, [], ◌∷◌, Memᴰ}
use mathlib.Core.Logic.{◌⊎◌, inl, inr}
use mathlib.Core.Option.{Option, none, some}
use mathlib.Core.Path.{◌≡◌, refl, sym, ◌∙◌, ap, subst}
use Prim.Native.Nat.{ℕ, ◌^◌, ◌≤◌, ◌<◌}
use native.Mathlib.Omega.{arith}
use borrow.Author.Tests.{lt-ltb, le-ltb}
use lib.Dec.{ltb}
use Rattle.contents.specs.Contents.{contents_of, value_in}
use Rattle.questions.specs.Basics.{if◌then◌otherwise◌}
use Rattle.keys.specs.Keys.{data_key, table_of}
use Rattle.questions.specs.Questions.{No}
use Rattle.rules.specs.Calls.{Call, turn, State, answer_to}
use Rattle.rules.specs.Plain.{Reply, Machine, Event, accepted, feed_of, Tallies, tallied, tallies_of, machine_of, first_replies}
use Rattle.rules.specs.Plain.{events_after, tallies_after}
use Rattle.rules.specs.Demand3 as Rules
use Rattle.questions.proofs.Questions.{or_else_none}
use Rattle.rules.proofs.Theorem.{rows_are, replies_are, equal_are, plain_run, booked_below_lem}
use Rattle.pack.specs.Layout.{count}
use Rattle.pack.specs.Meaning.{pack_of}
use Rattle.pack.specs.Refusal.{pack_refusal}
use Rattle.pack.proofs.Laws.{length_pack, length_workflow, accepted_checked}
use Rattle.store.specs.Rows.{Store, lookup, rows_of, store_of, keys_in}
use Rattle.store.specs.Layout.{parts_of, cap_of}
use Rattle.std.specs.Prelude.{Ok}
use Rattle.store.specs.Created.{Created}
use Rattle.store.specs.Questions.{book_ok, all_in, store_refusal}
use Rattle.store.specs.Questions as StoreQuestions
use Rattle.store.proofs.Sound.{store_passes}
use Rattle.agents.specs.Answers.{Answer}
use Rattle.agents.specs.Answers.{answer_of}
use Rattle.meaning.specs.State.{state_of, Lent}
use Rattle.meaning.specs.Questions.{lent_for, refusal_for}
use Rattle.meaning.specs.Carried.{Left, Carried}
use Rattle.meaning.proofs.Asked.{lent_pack}
use Rattle.chain.specs.Chain.{Chain, begins, goes_on}
use Rattle.chain.specs.Demands.{PlainRun, InTime, Demand3}
use Rattle.chain.proofs.Each.{met_none}
use Rattle.chain.proofs.Mirror.{Mirror, mirror, answered_as, tallies_as, machine_as, replies_as}

-- ── the store of a chain: P and C stay, and questions 9 to 12 say yes ──

pub record Passing (P C : ℕ) (store : List ℕ) : Type 0 where
  pub parts : parts_of store ≡ P
  pub cap : cap_of store ≡ C
  pub passes : store_refusal store ≡ none

no_book : (xs : List ℕ) → rows_of xs (parts_of xs) ≡ [] → StoreQuestions.question12 xs ≡ true
unfolding StoreQuestions.question12 StoreQuestions.book_right StoreQuestions.book_ok StoreQuestions.from_floor keys_in StoreQuestions.all_in
no_book xs e = rw e refl

sized_start : (buffer store : List ℕ) (P C : ℕ) → Created buffer store P C (Ok tt) → Passing P C store
sized_start buffer store P C h =
    let m = h.made refl in
    record {
      parts = ap (λ (st : Store). st.parts) m.1;
      cap = ap (λ (st : Store). st.cap) m.1;
      passes = store_passes store m.0 (no_book store (ap (λ (st : Store). st.rows (parts_of store)) m.1));
    }

sized_kept : {P C : ℕ} {lent lent' : Lent} → lent' ≡ lent → Passing P C lent.store → Passing P C lent'.store
sized_kept {P} {C} k s = subst (λ (x : Lent). Passing P C x.store) (sym k) s

sized_left : {P C : ℕ} {lent lent' : Lent} {s : State} → Left lent lent' s → Passing P C lent.store → Passing P C lent'.store
sized_left l s =
    let w = l.written in
    record { parts = w.parts ∙ s.parts; cap = w.cap ∙ s.cap; passes = w.sound s.passes }

module _ (pack : List ℕ) (P C : ℕ) where
  sized_next : (lent : Lent) (c : Call) (answer : Answer) (lent' : Lent) →
      Carried pack lent c answer lent' → Passing P C lent.store → Passing P C lent'.store
  sized_next lent c answer lent' h s = go (refusal_for pack lent c) refl
    where
      go : (o : Option No) → refusal_for pack lent c ≡ o → Passing P C lent'.store
      go none e = sized_left (h.carried e).1 s
      go (some n) e = sized_kept (h.refused n e).1 s

  -- In a chain questions 9 to 12 never say no.
  pub sized : (events : List Event) (lent : Lent) → Chain pack P C events lent → Passing P C lent.store
  sized events lent (begins buffer store₀ h) = sized_start buffer store₀ P C h
  sized events lent (goes_on events₀ lent₀ c answer lent' chain h) =
      sized_next lent₀ c answer lent' h (sized events₀ lent₀ chain)

-- ── rows, by key ──

module _ (xs : List ℕ) (p k : ℕ) where
  pub row_within : p < parts_of xs → k < 2 ^ 32 → (contents_of (store_of xs)).rows p k ≡ lookup (data_key k) (rows_of xs p)
  unfolding contents_of
  row_within h l = rw (lt-ltb p (parts_of xs) h, lt-ltb k (2 ^ 32) l) refl

  row_beyond_parts : parts_of xs ≤ p → (contents_of (store_of xs)).rows p k ≡ none
  unfolding contents_of
  row_beyond_parts h = rw (le-ltb p (parts_of xs) h) refl

  row_beyond_keys : 2 ^ 32 ≤ k → (contents_of (store_of xs)).rows p k ≡ none
  unfolding contents_of
  row_beyond_keys l = go (ltb p (parts_of xs))
    where
      go : (b : Bool) → if◌then◌otherwise◌ b (table_of (value_in (rows_of xs p)) k) none ≡ none
      go true = rw (le-ltb k (2 ^ 32) l) refl
      go false = refl

-- ── the theorem ──

module _ (pack : List ℕ) (P C : ℕ) (events : List Event) (lent : Lent) (chain : Chain pack P C events lent) where
  abbrev m : Mirror pack C events lent
  m = mirror pack P C events lent chain

  abbrev z : Passing P C lent.store
  z = sized pack P C events lent chain

  rows_as : (p k : ℕ) → (contents_of (store_of lent.store)).rows p k ≡ (machine_of (pack_of pack) events).tables p k
  unfolding state_of
  rows_as p k =
      ap (λ (s : State). s.store.rows p k) m.state ∙ rows_are (pack_of pack) C m.calls p k
      ∙ ap (λ (x : Machine). x.tables p k) (sym (machine_as m))

  pub plain_run_on : PlainRun pack P events lent.store
  plain_run_on =
      record {
        rows = λ p k h l. sym (row_within lent.store p k (omega (arith, z.parts)) l) ∙ rows_as p k;
        no_more = λ p k c. sym (rows_as p k) ∙ none_there p k c;
        replies =
            ap first_replies (replies_as m) ∙ replies_are (pack_of pack) C m.calls
            ∙ ap (λ (x : Machine). x.replies) (sym (machine_as m));
        equal =
            λ r r' h h' e.
            equal_are (pack_of pack) C m.calls r r' (subst (λ (l : List Reply). Memᴰ r l) (replies_as m) h)
            (subst (λ (l : List Reply). Memᴰ r' l) (replies_as m) h') e;
      }
    where
      none_there : (p k : ℕ) → (P ≤ p) ⊎ (2 ^ 32 ≤ k) → (contents_of (store_of lent.store)).rows p k ≡ none
      none_there p k (inl h) = row_beyond_parts lent.store p k (omega (arith, z.parts))
      none_there p k (inr h) = row_beyond_keys lent.store p k h

  module _ (slot : ℕ) (answer : Answer) (lent' : Lent) (h : Carried pack lent (turn slot) answer lent')
      (yes_case : accepted (answer_of answer) ≡ true) where
    -- no question says no to an accepted turn
    all_yes : refusal_for pack lent (turn slot) ≡ none
    all_yes = met_none pack lent (turn slot) answer lent' h yes_case

    pack_accepted : pack_refusal pack ≡ none
    unfolding refusal_for lent_for
    pack_accepted = lent_pack pack lent (or_else_none _ _ all_yes).0

    answer_as : answer_of answer ≡ answer_to (pack_of pack) C m.calls (turn slot)
    answer_as = answered_as pack C events lent m (turn slot) answer lent' h all_yes

    rules_in_time : Rules.InTime (pack_of pack) C m.calls slot
    rules_in_time =
        (plain_run (pack_of pack) (accepted_checked pack pack_accepted) C m.calls).in_time slot (ap accepted (sym answer_as) ∙ yes_case)

    same_tally : tallies_of (record { made = turn slot; answer = answer_of answer } ∷ events)
        ≡ tallies_after (pack_of pack) C (turn slot ∷ m.calls)
    unfolding tallies_of events_after
    same_tally = λ i. tallied (tallies_as m i) (feed_of (record { made = turn slot; answer = answer_as i }))

    pub in_time_on : InTime pack events lent slot answer
    unfolding state_of
    in_time_on =
        let t = rules_in_time in
        let w : t.request.workflow < count pack =
        omega (arith, booked_below_lem (pack_of pack) C m.calls t.agent.id t.request t.booked, length_pack pack) in
        let size = length_workflow pack pack_accepted t.request.workflow w in
        record {
          agent = t.agent;
          turns = t.turns;
          request = t.request;
          in_slot = ap (λ (s : State). s.slots slot) m.state ∙ t.in_slot;
          counted = ap (λ (f : Tallies). f slot) same_tally ∙ t.counted;
          booked = ap (λ (s : State). s.store.book t.agent.id) m.state ∙ t.booked;
          workflow = w;
          at_most = omega (arith, t.at_most, size);
          last = λ e. let l = t.last (e ∙ sym size) in (l.0, answer_as ∙ l.1);
        }

-- Demand 3.
pub demand3 : (pack : List ℕ) (P C : ℕ) → Demand3 pack P C
demand3 pack P C =
    record {
      plain_run = plain_run_on pack P C;
      in_time = λ before lent chain slot answer lent' h. in_time_on pack P C before lent chain slot answer lent' h;
    }
