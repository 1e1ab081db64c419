-- W-208 of calls on bytes: no listed request vanishes before its reply can be worked out from the log. First of one call, then of lists.
use mathlib.Core.Bool.{true}
use mathlib.Core.Path.{◌≡◌, refl, sym, ◌∙◌, ap, subst}
use mathlib.Core.Logic.{◌⊎◌, inl, inr}
use mathlib.Core.List.{List, [], ◌∷◌, ◌++◌, Memᴰ}
use mathlib.Core.Option.{Option, none, some}
use Prim.Native.Nat.{ℕ, ◌<◌}
use native.Mathlib.Omega.{arith}
use Rattle.contents.specs.Contents.{contents_of}
use Rattle.questions.specs.Basics.{each}
use Rattle.questions.specs.Questions.{No, ask, or_else}
use Rattle.rules.specs.Blocks.{Result}
use Rattle.rules.specs.Store.{Request, Store, floor_of}
use Rattle.rules.specs.Worklist.{Worklist, listed, list_right, restarted}
use Rattle.rules.specs.Calls.{State, Outcome, Call, restart, refusal, rule, state_after}
use Rattle.rules.specs.Calls as Calls
use Rattle.rules.specs.Calls.{arrival, retry, turn, crash, order, list_add, list_take, list_done, retire, stopped}
use Rattle.rules.specs.Plain.{Reply, Event, with_answer, tallies_of, machine_of, replies_of, replies_after}
use Rattle.rules.specs.Listed as Rules
use Rattle.questions.proofs.Questions.{or_else_none}
use Rattle.questions.proofs.Updates.{none_some}
use Rattle.rules.proofs.Changes.{change, change_stays, Stays, stays_here}
use Rattle.rules.proofs.Theorem.{replied_logged}
use Rattle.rules.proofs.Worklists.{right_is, restarted_is, waits_all, listed_restarted}
use Rattle.rules.proofs.Listing.{Relisted, as_it_was, relisted, StaysListed, stays_listed, worked_booked, worked_stays}
use Rattle.rules.proofs.Listing.{rule_adds, listing, reading}
use Rattle.pack.specs.Layout.{total}
use Rattle.pack.specs.Meaning.{pack_of}
use Rattle.pack.specs.Refusal.{pack_refusal}
use Rattle.pack.proofs.Laws.{accepted_checked}
use Rattle.store.specs.Layout.{parts_of}
use Rattle.store.specs.Rows.{store_of}
use Rattle.agents.specs.Answers.{Answer}
use Rattle.agents.specs.Answers.{answer_of}
use Rattle.worklist.specs.Worklist.{worklist_of}
use Rattle.meaning.specs.State.{state_of, Lent, worked_out}
use Rattle.meaning.specs.Questions.{opens_below, byte_of, word_of, opens_right, question13, reply_refusal, lent_refusal, lent_for, refusal_for}
use Rattle.meaning.specs.Carried.{Carried, ruled}
use Rattle.meaning.proofs.Asked.{all_thirteen, lent_pack, lent_13}
use Rattle.meaning.proofs.Tests.{opens_of_13}
use Rattle.chain.specs.Chain.{Chain, begins, goes_on, ChainFrom, from_here, on_from}
use Rattle.chain.specs.Listed.{IsBooked, IsListed, done_of, TakenOff, Restarted, Listing, Reading, NoneVanishes}
use Rattle.chain.specs.Retired.{floor_in}
use Rattle.chain.proofs.Each.{left_state}
use Rattle.chain.proofs.Floor.{above_for}
use Rattle.chain.proofs.Mirror.{fresh_contents, Mirror, mirror, replies_as, invariant_as}
use Rattle.chain.proofs.Theorem.{sized}
use Rattle.chain.proofs.Never.{book_passes}

-- what can be worked out from the log of a state is what can be from the bytes that mean it
worked_bytes : (pack : List ℕ) (lent : Lent) (id : ℕ) → Rules.worked_out (pack_of pack) (state_of lent) id ≡ worked_out pack lent.store id
unfolding state_of
worked_bytes pack lent id = refl

-- the reply to an id can be worked out, or the request has been retired
abbrev Still : (pack store : List ℕ) (id : ℕ) → Result → Type 0
Still pack store id v = (worked_out pack store id ≡ some v) ⊎ (id < floor_in store)

-- ── Of one call ──

module _ (pack : List ℕ) (lent : Lent) (c : Call) (answer : Answer) (lent' : Lent) (h : Carried pack lent c answer lent') where
  -- its answer and the state that it leaves
  abbrev outcome : Outcome
  outcome = record { answer = answer_of answer; state = state_of lent' }

  -- where no question says no, they are the rule's
  rule_outcome : refusal_for pack lent c ≡ none → ruled pack lent c ≡ outcome
  rule_outcome e = λ i. record { answer = sym (h.carried e).0 i; state = sym (left_state pack lent c answer lent' h e) i }

  behind_14 : refusal_for pack lent c ≡ none → refusal (pack_of pack) (state_of lent) c ≡ none
  unfolding refusal_for
  behind_14 e = (or_else_none _ _ e).1

  -- what it does to the worklist
  relists : Relisted (pack_of pack) (state_of lent) c outcome
  relists = go (refusal_for pack lent c) refl
    where
      go : (o : Option No) → refusal_for pack lent c ≡ o → Relisted (pack_of pack) (state_of lent) c outcome
      go none e =
          subst (Relisted (pack_of pack) (state_of lent) c) (rule_outcome e) (relisted (pack_of pack) (state_of lent) c (behind_14 e))
      go (some n) e = as_it_was (ap (λ (l : Lent). (state_of l).work) (h.refused n e).1)

  -- what is booked and logged stays, or is retired
  pub stays : Stays (state_of lent).store (state_of lent').store
  stays = go (refusal_for pack lent c) refl
    where
      go : (o : Option No) → refusal_for pack lent c ≡ o → Stays (state_of lent).store (state_of lent').store
      go none e =
          subst (λ (s : State). Stays (state_of lent).store s.store) (sym (left_state pack lent c answer lent' h e))
          (change_stays (pack_of pack) (state_of lent) c (ruled pack lent c).state.store (above_for pack lent c e)
          (change (pack_of pack) (state_of lent) c (behind_14 e)))
      go (some n) e =
          subst (λ (l : Lent). Stays (state_of lent).store (state_of l).store) (sym (h.refused n e).1) (stays_here (state_of lent).store)

  -- and so does what can be worked out from it
  worked_next : (id : ℕ) (v : Result) → Still pack lent.store id v → Still pack lent'.store id v
  unfolding state_of
  worked_next id v (inl e) = worked_stays (pack_of pack) (state_of lent) (state_of lent') stays id v e
  worked_next id v (inr l) = let up = stays.rises in inr (omega arith)

  -- to an accepted call none of 1 to 14 said no, or it left store and book as they were
  asks_or_leaves : refusal_for pack lent c ≡ none → (lent_refusal pack lent ≡ none) ⊎ ((state_of lent').store ≡ (state_of lent).store)
  unfolding refusal_for lent_for rule
  asks_or_leaves e = go c (or_else_none _ _ e).0 (ap (λ (s : State). s.store) (left_state pack lent c answer lent' h e))
    where
      go : (d : Call) → lent_for d pack lent ≡ none → (state_of lent').store ≡ (ruled pack lent d).state.store →
          (lent_refusal pack lent ≡ none) ⊎ ((state_of lent').store ≡ (state_of lent).store)
      go (arrival slot id w args) l s = inl l
      go (retry slot id) l s = inl l
      go (turn slot) l s = inl l
      go (crash slot) l s = inl l
      go restart l s = inr s
      go order l s = inr s
      go (list_add id) l s = inl l
      go list_take l s = inl l
      go (list_done id) l s = inl l
      go (retire floor) l s = inl l
      go (stopped n) l s = inl l

-- ── After lists of calls ──

-- two lists of calls, one behind the other
pub joined : (pack : List ℕ) (P C : ℕ) (before : List Event) (lent : Lent) → Chain pack P C before lent →
    (later : List Event) (lent' : Lent) → ChainFrom pack lent later lent' → Chain pack P C (later ++ before) lent'
joined pack P C before lent chain later lent' from_here = chain
joined pack P C before lent chain later lent' (on_from events lent₁ c answer lent₂ g h) =
    goes_on (events ++ before) lent₁ c answer lent₂ (joined pack P C before lent chain events lent₁ g) h

-- what can be worked out still can, or its request has been retired
worked_later : (pack : List ℕ) (lent : Lent) (later : List Event) (lent' : Lent) → ChainFrom pack lent later lent' →
    (id : ℕ) (v : Result) → worked_out pack lent.store id ≡ some v → Still pack lent'.store id v
worked_later pack lent later lent' from_here id v e = inl e
worked_later pack lent later lent' (on_from events lent₁ c answer lent₂ g h) id v e =
    worked_next pack lent₁ c answer lent₂ h id v (worked_later pack lent events lent₁ g id v e)

-- To some call that was lent a store with P partitions, none of 1 to 14 said no.
abbrev OnceYes : (pack : List ℕ) → (P : ℕ) → Type 0
OnceYes pack P = (lent : Lent) × (lent_refusal pack lent ≡ none) × (parts_of lent.store ≡ P)

-- so it is where there is a booked request
booked_asks : (pack : List ℕ) (P C : ℕ) (events : List Event) (lent : Lent) → Chain pack P C events lent →
    (id : ℕ) (q : Request) → (state_of lent).store.book id ≡ some q → OnceYes pack P
unfolding state_of
booked_asks pack P C events lent (begins buffer store₀ h) id q e =
    none_some q (ap (λ (s : Store). s.book id) (ap contents_of (h.made refl).1 ∙ fresh_contents P C)) e
booked_asks pack P C events lent (goes_on events₀ lent₀ c answer lent' chain h) id q e =
    go (refusal_for pack lent₀ c) refl (λ b. booked_asks pack P C events₀ lent₀ chain id q b)
  where
    before : (state_of lent').store ≡ (state_of lent₀).store → (state_of lent₀).store.book id ≡ some q
    before s = ap (λ (x : Store). x.book id) (sym s) ∙ e

    by_store : ((state_of lent₀).store.book id ≡ some q → OnceYes pack P) →
        (lent_refusal pack lent₀ ≡ none) ⊎ ((state_of lent').store ≡ (state_of lent₀).store) → OnceYes pack P
    by_store rec (inl l) = (lent₀, l, (sized pack P C events₀ lent₀ chain).parts)
    by_store rec (inr s) = rec (before s)

    go : (o : Option No) → refusal_for pack lent₀ c ≡ o → ((state_of lent₀).store.book id ≡ some q → OnceYes pack P) → OnceYes pack P
    go none n rec = by_store rec (asks_or_leaves pack lent₀ c answer lent' h n)
    go (some n) k rec = rec (before (ap (λ (l : Lent). (state_of l).store) (h.refused n k).1))

module _ (pack : List ℕ) (P C : ℕ) (events : List Event) (lent : Lent) (chain : Chain pack P C events lent) where
  abbrev m : Mirror pack C events lent
  m = mirror pack P C events lent chain

  -- the rules' calls left the same
  abbrev same : State
  same = state_after (pack_of pack) C m.calls

  -- the replies are the rules'
  there : (r : Reply) → Memᴰ r (replies_of events) → Memᴰ r (replies_after (pack_of pack) C m.calls)
  there r k = subst (λ (l : List Reply). Memᴰ r l) (replies_as m) k

  book_as : (id : ℕ) → (contents_of (store_of lent.store)).book id ≡ same.store.book id
  unfolding state_of
  book_as id = ap (λ (s : State). s.store.book id) m.state

  -- what can be worked out from the log of that state
  worked_as : (id : ℕ) → Rules.worked_out (pack_of pack) same id ≡ worked_out pack lent.store id
  worked_as id = ap (λ (s : State). Rules.worked_out (pack_of pack) s id) (sym m.state) ∙ worked_bytes pack lent id

  worked_is : (id : ℕ) (v : Result) → worked_out pack lent.store id ≡ some v →
      (r : Reply) → Memᴰ r (replies_of events) → r.id ≡ id → r.value ≡ v
  worked_is id v e r k = (reading (pack_of pack) C m.calls).worked id v (worked_as id ∙ e) r (there r k)

  -- of a booked request
  module _ (id : ℕ) (known : IsBooked id lent) where
    once : OnceYes pack P
    unfolding state_of
    once = booked_asks pack P C events lent chain id known.0 known.1

    pack_yes : pack_refusal pack ≡ none
    pack_yes = lent_pack pack once.0 once.1

    -- 13 says yes, since it did once: P is the same, and the book passes
    opens_yes : opens_right pack lent.store ≡ true
    unfolding opens_right
    opens_yes =
        ap (λ parts. each (total pack) (λ i. opens_below parts (byte_of pack i) (word_of pack i)))
        ((sized pack P C events lent chain).parts ∙ sym once.2)
        ∙ opens_of_13 pack once.0.store (lent_13 pack once.0 once.1)

    thirteen_yes : question13 pack lent.store ≡ true
    unfolding question13
    thirteen_yes = rw (book_passes pack P C events lent chain, opens_yes) refl

    reading_yes : reply_refusal pack lent.store id ≡ none
    unfolding reply_refusal or_else ask
    reading_yes =
        rw (all_thirteen pack lent.store pack_yes (sized pack P C events lent chain).passes thirteen_yes, known.1) refl

  -- a reply that was given can be worked out, unless its request is retired
  replied_worked : (r : Reply) → Memᴰ r (replies_of events) → Still pack lent.store r.id r.value
  unfolding state_of
  replied_worked r k =
      subst (λ (s : State). (Rules.worked_out (pack_of pack) s r.id ≡ some r.value) ⊎ (r.id < floor_of s.store)) (sym m.state)
      (replied_logged (pack_of pack) C m.calls r (there r k)
      (λ q e. accepted_checked pack (pack_yes r.id (q, book_as r.id ∙ e))))

  -- one call more adds no reply to an id that is below the floor after it
  pub adds_none : (c : Call) (answer : Answer) (lent' : Lent) → Carried pack lent c answer lent' →
      (r : Reply) → Memᴰ r (with_answer (answer_of answer) (replies_of events)) → r.id < floor_in lent'.store →
      Memᴰ r (replies_of events)
  unfolding state_of
  adds_none c answer lent' h r k l = go (refusal_for pack lent c) refl
    where
      -- the answer and the state left, of which this is so
      Adds : Calls.Answer → State → Type 0
      Adds x s = Memᴰ r (with_answer x (replies_of events)) → r.id < floor_of s.store → Memᴰ r (replies_of events)

      by_rule : Adds (ruled pack lent c).answer (ruled pack lent c).state
      by_rule =
          rule_adds (pack_of pack) (state_of lent) (machine_of (pack_of pack) events) (tallies_of events) (replies_of events) (invariant_as m)
          c r

      go : (o : Option No) → refusal_for pack lent c ≡ o → Memᴰ r (replies_of events)
      go none e = subst (λ (o : Outcome). Adds o.answer o.state) (rule_outcome pack lent c answer lent' h e) by_rule k l
      go (some n) e = subst (λ (x : Calls.Answer). Memᴰ r (with_answer x (replies_of events))) (h.refused n e).0 k

  reading_on : Reading pack events lent
  unfolding state_of
  reading_on =
      record {
        worked = worked_is;
        still = worked_later pack lent;
        replied = replied_worked;
        booked = λ id v e. worked_booked (pack_of pack) (state_of lent) id v (worked_bytes pack lent id ∙ e);
        none_says_no = reading_yes;
      }

  -- ── The worklist ──

  -- what the rules say of it
  abbrev rules : Rules.Listing (pack_of pack) C m.calls
  rules = listing (pack_of pack) C m.calls

  work_as : worklist_of lent.list ≡ same.work
  unfolding state_of
  work_as = ap (λ (s : State). s.work) m.state

  right_on : list_right (worklist_of lent.list) ≡ true
  right_on = ap list_right work_as ∙ rules.right

  booked_on : (id : ℕ) → IsListed id lent → IsBooked id lent
  booked_on id l = let b = rules.booked id (ap (listed id) (sym work_as) ∙ l) in (b.0, book_as id ∙ b.1)

  restarts_on : (answer : Answer) (lent' : Lent) → Carried pack lent restart answer lent' → Restarted lent answer lent'
  unfolding refusal_for lent_for refusal rule state_of or_else
  restarts_on answer lent' h =
      let c = h.carried refl in
      let left : worklist_of lent'.list ≡ restarted (worklist_of lent.list) = c.1.list.means in
      let all = left ∙ restarted_is (worklist_of lent.list) (right_is (worklist_of lent.list) right_on) in
      record {
        is_done = c.0;
        waits = λ e k. waits_all (worklist_of lent.list) e (subst (λ (l : Worklist). Memᴰ e l) all k);
        same_ids = λ id. ap (listed id) left ∙ listed_restarted id (worklist_of lent.list);
      }

-- ── No listed request vanishes ──

module _ (pack : List ℕ) (P C : ℕ) (before : List Event) (lent : Lent) (chain : Chain pack P C before lent)
    (id : ℕ) (was : IsListed id lent) where
  -- a request that was listed still is, or was taken off
  abbrev Fate : (later : List Event) (lent' : Lent) → Type 0
  Fate later lent' = IsListed id lent' ⊎ TakenOff pack before lent later lent' id

  -- each reply that was given to the id is this
  abbrev EachIs : Result → List Event → Type 0
  EachIs v calls = (r : Reply) → Memᴰ r (replies_of calls) → r.id ≡ id → r.value ≡ v

  -- one call more
  module _ (events : List Event) (lent₁ : Lent) (c : Call) (answer : Answer) (lent₂ : Lent) (g : ChainFrom pack lent events lent₁)
      (h : Carried pack lent₁ c answer lent₂) where
    abbrev event : Event
    event = record { made = c; answer = answer_of answer }

    -- what is each reply up to the call, and can be worked out behind it or is retired, is each reply behind it
    each_on : (v : Result) → EachIs v (events ++ before) → Still pack lent₂.store id v → EachIs v (event ∷ events ++ before)
    unfolding replies_of
    each_on v known (inl e) =
        worked_is pack P C (event ∷ events ++ before) lent₂
        (joined pack P C before lent chain (event ∷ events) lent₂ (on_from events lent₁ c answer lent₂ g h)) id v e
    each_on v known (inr l) =
        λ r k i.
        known r
        (adds_none pack P C (events ++ before) lent₁ (joined pack P C before lent chain events lent₁ g) c answer lent₂ h r k
        (omega (arith, l, i))) i

    -- the call takes it off, or does not
    off_now : StaysListed (pack_of pack) (state_of lent₁) id c (outcome pack lent₁ c answer lent₂ h) → Fate (event ∷ events) lent₂
    unfolding state_of
    off_now (inl k) = inl k
    off_now (inr k) =
        let e = sym (worked_bytes pack lent₁ id) ∙ k.3 in
        let still = worked_next pack lent₁ c answer lent₂ h id k.2 (inl e) in
        let known = worked_is pack P C (events ++ before) lent₁ (joined pack P C before lent chain events lent₁ g) id k.2 e in
        let is : event ≡ done_of id = λ i. record { made = k.0 i; answer = k.1 i } in
        inr
        (record {
          since = [];
          upto = events;
          split = ap (λ x. x ∷ events) is;
          lent_then = lent₁;
          come_to = g;
          gone_on = subst (λ x. ChainFrom pack lent₁ (x ∷ []) lent₂) is (on_from [] lent₁ c answer lent₂ from_here h);
          value = k.2;
          is_worked_out = e;
          still = still;
          is_reply = each_on k.2 known still;
        })

    -- it was taken off before the call, or is listed up to it
    onward : Fate events lent₁ → Fate (event ∷ events) lent₂
    unfolding state_of
    onward (inl k) =
        off_now
        (stays_listed (pack_of pack) (state_of lent₁) c (outcome pack lent₁ c answer lent₂ h) (relists pack lent₁ c answer lent₂ h) id k)
    onward (inr o) =
        let still = worked_next pack lent₁ c answer lent₂ h id o.value o.still in
        inr
        (record {
          since = event ∷ o.since;
          upto = o.upto;
          split = ap (λ l. event ∷ l) o.split;
          lent_then = o.lent_then;
          come_to = o.come_to;
          gone_on = on_from (o.since ++ done_of id ∷ []) lent₁ c answer lent₂ o.gone_on h;
          value = o.value;
          is_worked_out = o.is_worked_out;
          still = still;
          is_reply = each_on o.value o.is_reply still;
        })

  fate : (later : List Event) (lent' : Lent) → ChainFrom pack lent later lent' → Fate later lent'
  fate later lent' from_here = inl was
  fate later lent' (on_from events lent₁ c answer lent₂ g h) = onward events lent₁ c answer lent₂ g h (fate events lent₁ g)

listing_on : (pack : List ℕ) (P C : ℕ) (events : List Event) (lent : Lent) → Chain pack P C events lent → Listing pack events lent
listing_on pack P C events lent chain =
    record {
      right = right_on pack P C events lent chain;
      booked = booked_on pack P C events lent chain;
      restarts = restarts_on pack P C events lent chain;
      none_vanishes = λ later lent' g id l. fate pack P C events lent chain id l later lent' g;
    }

-- The theorem.
pub none_vanishes : (pack : List ℕ) (P C : ℕ) → NoneVanishes pack P C
none_vanishes pack P C = record { listing = listing_on pack P C; reading = reading_on pack P C }
