-- Each call keeps the invariant.
use mathlib.Core.Bool.{true}
use mathlib.Core.Path.{◌≡◌, refl, sym, ◌∙◌, ap, subst}
use mathlib.Core.Logic.{◌⊎◌, inl, inr}
use mathlib.Core.List.{List}
use mathlib.Core.Option.{Option, none, some, some-injective}
use Prim.Native.Nat.{ℕ, ◌≤◌, ◌<◌}
use native.Mathlib.Omega.{arith}
use borrow.Author.Tests.{leb-true, ltb-true}
use lib.ListN.{length}
use Rattle.questions.specs.Basics.{update, is_some}
use Rattle.questions.specs.Questions.{No}
use Rattle.rules.specs.Instructions.{Pack, Code, Place}
use Rattle.rules.specs.Blocks.{Result}
use Rattle.rules.specs.Courses.{Course, Next, goes, does, says, next_of}
use Rattle.rules.specs.Store.{Request, Store, booked, found, floor_of}
use Rattle.rules.specs.Logged.{start, at, follow}
use Rattle.rules.specs.Calls.{code_by, Agent, State, started, arrive, again, through_block, turn_on, turn_in, refusal, rule, Call}
use Rattle.rules.specs.Calls.{with_store}
use Rattle.rules.specs.Calls.{Answer, Outcome, unless, call}
use Rattle.rules.specs.Plain.{Reply, Run, Machine, Tallies, booking, accepted, with_answer, Feed, feeds, feed_of}
use Rattle.rules.specs.Plain.{tallied, fed, fed_arrival}
use Rattle.questions.proofs.Updates.{none_some, false_true, update_same, update_other, update_cases, update_each}
use Rattle.rules.proofs.Follow.{same_here}
use Rattle.rules.proofs.Invariant.{Book, underway, Counterpart, Live, Inv, Remains, slots_stay, slots_set, eight_set}
use Rattle.rules.proofs.Core.{counterpart_stays}
use Rattle.rules.proofs.Turn.{Keeps, tally_of, turn_keeps}
use Rattle.rules.proofs.Retire.{retire_asked}
use Rattle.rules.proofs.RetireKeeps.{retire_inv}
use Rattle.rules.proofs.ByFeed.{Idle, Kind, an_arrival, a_retry, a_turn, a_retire, an_idle, kind}
use Rattle.questions.proofs.Questions.{ask_none}

module _ (pack : Pack) (s : State) (m : Machine) (t : Tallies) (rs : List Reply) (inv : Inv pack s m t rs) where
  -- a booked request starts in a slot
  started_inv : (slot id : ℕ) → slot < 8 → (q : Request) → s.store.book id ≡ some q → (r : Run) → m.runs id ≡ some r → r.request ≡ q →
      Inv pack (started s slot id q) m (update t slot (tally_of id 0)) rs
  unfolding follow
  started_inv slot id low q book_is r run_is request_is =
      record {
        core = inv.core;
        slots =
            slots_set pack s.store.log s.store.book m.runs t s.slots inv.slots slot (tally_of id 0)
            (some (record { id = id; course = start q; step = 0 }))
            (λ a e. subst (λ (x : Agent). Live pack s.store.log s.store.book m.runs (tally_of id 0) x)
            (some-injective (record { id = id; course = start q; step = 0 }) a e)
            (record {
              run = r;
              turns = 0;
              tally_is = refl;
              run_is = run_is;
              book_is = book_is ∙ ap some (sym request_is);
              behind = omega arith;
              there = ap (λ x. some (at (start x) 0)) request_is;
            }));
        eight = eight_set s.slots inv.eight slot (some (record { id = id; course = start q; step = 0 })) low;
      }

module _ (pack : Pack) (s : State) (m : Machine) (t : Tallies) (rs : List Reply) (inv : Inv pack s m t rs) where
  -- a new request
  module _
      (id : ℕ)
      (q : Request)
      (below : q.workflow < length pack)
      (from_floor_lem : floor_of s.store ≤ id)
      (free : s.store.book id ≡ none)
      (new : m.runs id ≡ none)
    where
      abbrev r₀ : Run
      r₀ = record { request = q; course = start q; move_count = 0 }

      abbrev runs' : ℕ → Option Run
      runs' = update m.runs id (some r₀)

      abbrev book' : Book
      book' = update s.store.book id (some q)

      -- who was there is there
      kept : (j : ℕ) (w : Run) → m.runs j ≡ some w → runs' j ≡ some w
      kept j w e = update_other m.runs id (some r₀) j (λ p. none_some w (ap m.runs p ∙ new) e) ∙ e

      remains : (j : ℕ) → Remains s.store.log s.store.log s.store.book book' j
      remains j w e = (update_other s.store.book id (some q) j (λ p. none_some w (ap s.store.book p ∙ free) e) ∙ e, λ p u v h. h)

      booked_inv : Inv pack (with_store s (booked s.store id q)) (booking m id q) t rs
      unfolding follow
      booked_inv =
          record {
            core =
                record {
                  tables = inv.core.tables;
                  counterpart =
                      update_each s.store.book id (some q) (λ j (w : Request). Counterpart pack s.store.log runs' m.replies j w)
                      (λ w e. subst (λ (x : Request). Counterpart pack s.store.log runs' m.replies id x)
                      (some-injective q w e)
                      (record {
                        run = r₀;
                        run_is = update_same m.runs id (some r₀);
                        request_is = refl;
                        progress = underway 0 refl (λ p u h. inv.core.unlogged id new p u) (inv.core.unreplied id new);
                      }))
                      (λ j w n e.
                      counterpart_stays pack s.store.log s.store.log m.runs runs' m.replies m.replies j w
                      (λ p u. same_here s.store.log p j u) (update_other m.runs id (some r₀) j n) refl
                      (inv.core.counterpart j w e));
                  valid =
                      update_each s.store.book id (some q) (λ j (w : Request). w.workflow < length pack)
                      (λ w e. subst (λ (x : Request). x.workflow < length pack) (some-injective q w e) below)
                      (λ j w n e. inv.core.valid j w e);
                  above =
                      update_each s.store.book id (some q) (λ j (w : Request). floor_of s.store ≤ j) (λ w e. from_floor_lem)
                      (λ j w n e. inv.core.above j w e);
                  unbooked = λ j l e. go_book j l e (update_cases s.store.book id (some q) j);
                  unlogged = λ j e p u. inv.core.unlogged j (was j e (update_cases m.runs id (some r₀) j)) p u;
                  unreplied = λ j e. inv.core.unreplied j (was j e (update_cases m.runs id (some r₀) j));
                  settled = inv.core.settled;
                  firsts = inv.core.firsts;
                };
            slots =
                slots_stay pack s.store.log s.store.log s.store.book book' m.runs runs'
                (λ j w e. record { run = w; run_is = kept j w e; request_is = refl; further = omega arith }) t s.slots
                (λ slot a e. remains a.id) inv.slots;
            eight = inv.eight;
          }
        where
          was : (j : ℕ) → runs' j ≡ none → ((j ≡ id) × (runs' j ≡ some r₀)) ⊎ ((j ≡ id → ⊥) × (runs' j ≡ m.runs j)) → m.runs j ≡ none
          was j e (inl h) = none_some r₀ e h.1
          was j e (inr h) = sym h.1 ∙ e

          go_book : (j : ℕ) → floor_of s.store ≤ j → book' j ≡ none →
              ((j ≡ id) × (book' j ≡ some q)) ⊎ ((j ≡ id → ⊥) × (book' j ≡ s.store.book j)) → runs' j ≡ none
          go_book j l e (inl h) = none_some q e h.1
          go_book j l e (inr h) = update_other m.runs id (some r₀) j h.0 ∙ inv.core.unbooked j l (sym h.1 ∙ e)

  arrive_keeps : (slot id : ℕ) (q : Request) (o : Option Request) → slot < 8 → floor_of s.store ≤ id → q.workflow < length pack →
      s.store.book id ≡ o →
      Keeps pack (fed_arrival m id q (m.runs id)) (update t slot (tally_of id 0)) rs (arrive s slot id q o)
  unfolding arrive fed_arrival
  arrive_keeps slot id q none low from_floor_lem below e =
      rw (inv.core.unbooked id from_floor_lem e)
      (record {
        kept =
            started_inv pack (with_store s (booked s.store id q)) (booking m id q) t rs
            (booked_inv id q below from_floor_lem e (inv.core.unbooked id from_floor_lem e)) slot id low q
            (update_same s.store.book id (some q))
            (record { request = q; course = start q; move_count = 0 }) (update_same m.runs id _) refl;
      })
  arrive_keeps slot id q (some known) low from_floor_lem below e =
      let x = inv.core.counterpart id known e in
      rw x.run_is (record { kept = started_inv pack s m t rs inv slot id low known e x.run x.run_is x.request_is })

  again_keeps : (slot id : ℕ) (o : Option Request) → slot < 8 → s.store.book id ≡ o → is_some o ≡ true →
      Keeps pack m (update t slot (tally_of id 0)) rs (again s slot id o)
  unfolding again
  again_keeps slot id none low e b = false_true refl b
  again_keeps slot id (some known) low e b =
      let x = inv.core.counterpart id known e in
      record { kept = started_inv pack s m t rs inv slot id low known e x.run x.run_is x.request_is }

  -- a call that feeds nothing
  idle_keeps : (c : Call) → Idle pack s c → Keeps pack (fed pack m t (feeds c)) (tallied t (feeds c)) rs (rule pack s c)
  unfolding fed tallied
  idle_keeps c i =
      record {
        kept =
            subst (λ (f : Feed). Inv pack s' (fed pack m t f) (tallied t f) (with_answer (rule pack s c).answer rs)) (sym i.feeds_none)
            (subst (λ (l : List Reply). Inv pack s' m t l) (sym (i.no_reply rs))
            (subst (λ (st : Store). Inv pack (with_store s' st) m t rs) (sym i.store_left)
            (record {
              core = inv.core;
              slots = λ slot a e. inv.slots slot a (i.slots_left slot a e);
              eight = λ slot a e. inv.eight slot a (i.slots_left slot a e);
            })));
      }
    where
      s' : State
      s' = (rule pack s c).state

  -- what a call does, when no question says no
  rule_keeps : (c : Call) → Kind pack s c → refusal pack s c ≡ none →
      Keeps pack (fed pack m t (feeds c)) (tallied t (feeds c)) rs (rule pack s c)
  unfolding refusal rule fed tallied
  rule_keeps c (an_arrival slot id w args) allow =
      let a₁₅ = ask_none _ _ _ allow in
      let a₃₀ = ask_none _ _ _ (ask_none _ _ _ (ask_none _ _ _ a₁₅.1).1).1 in
      arrive_keeps slot id (record { workflow = w; arguments = args }) (s.store.book id) (ltb-true slot 8 a₁₅.0)
      (leb-true (floor_of s.store) id a₃₀.0) (ltb-true w (length pack) (ask_none _ _ _ a₃₀.1).0) refl
  rule_keeps c (a_retry slot id) allow =
      again_keeps slot id (s.store.book id) (ltb-true slot 8 (ask_none _ _ _ allow).0) refl
      (ask_none _ _ _ (ask_none _ _ _ (ask_none _ _ _ allow).1).1).0
  rule_keeps c (a_turn slot) allow = turn_keeps pack s m t rs inv slot (ask_none _ _ _ (ask_none _ _ _ allow).1).0
  rule_keeps c (a_retire floor) allow =
      let asked = retire_asked pack s floor allow in
      record { kept = retire_inv pack s m t rs inv floor asked.0 asked.1 }
  rule_keeps c (an_idle _ i) allow = idle_keeps c i

-- A rule is never a refusal: a call is refused exactly where a question says no.
pub rule_accepted : (pack : Pack) (s : State) (c : Call) → accepted (rule pack s c).answer ≡ true
unfolding rule arrive again turn_in turn_on through_block
rule_accepted pack s c = by_kind c (kind pack s c)
  where
    arrived : (slot id : ℕ) (q : Request) (o : Option Request) → accepted (arrive s slot id q o).answer ≡ true
    arrived slot id q none = refl
    arrived slot id q (some known) = refl

    retried : (slot id : ℕ) (o : Option Request) → accepted (again s slot id o).answer ≡ true
    retried slot id none = refl
    retried slot id (some known) = refl

    through : (slot : ℕ) (a : Agent) (code : Code) (from : Place) (p : ℕ) (onto : Result → Course) (o : Option Result) →
        accepted (through_block s slot a code from p onto o).answer ≡ true
    through slot a code from p onto none = refl
    through slot a code from p onto (some v) = refl

    on : (slot : ℕ) (a : Agent) (code : Code) (x : Next) → accepted (turn_on s slot a code x).answer ≡ true
    on slot a code (says v) = refl
    on slot a code (does from p onto) = through slot a code from p onto (found s.store.log p a.id a.step)
    on slot a code (goes to) = refl

    turned : (slot : ℕ) (o : Option Agent) → accepted (turn_in pack s slot o).answer ≡ true
    turned slot none = refl
    turned slot (some a) = on slot a (code_by pack (s.store.book a.id)) (next_of (code_by pack (s.store.book a.id)) a.course)

    by_kind : (c : Call) → Kind pack s c → accepted (rule pack s c).answer ≡ true
    by_kind c (an_arrival slot id w args) = arrived slot id (record { workflow = w; arguments = args }) (s.store.book id)
    by_kind c (a_retry slot id) = retried slot id (s.store.book id)
    by_kind c (a_turn slot) = turned slot (s.slots slot)
    by_kind c (a_retire floor) = refl
    by_kind c (an_idle _ i) = i.accepts

-- an accepted call feeds what is said of it
pub feed_accepted : (c : Call) (answer : Answer) → accepted answer ≡ true → feed_of (record { made = c; answer = answer }) ≡ feeds c
feed_accepted c answer e = rw e refl

-- Each call keeps the invariant.
pub call_keeps : (pack : Pack) (s : State) (m : Machine) (t : Tallies) (rs : List Reply) → Inv pack s m t rs → (c : Call) →
    let f = feed_of (record { made = c; answer = (call pack s c).answer }) in
    Keeps pack (fed pack m t f) (tallied t f) rs (call pack s c)
unfolding call unless fed tallied
call_keeps pack s m t rs inv c = go (refusal pack s c) refl
  where
    feed : Outcome → Feed
    feed o = feed_of (record { made = c; answer = o.answer })

    go : (no : Option No) → refusal pack s c ≡ no →
        Keeps pack (fed pack m t (feed (unless no s (rule pack s c)))) (tallied t (feed (unless no s (rule pack s c)))) rs
        (unless no s (rule pack s c))
    go none allow =
        subst (λ (f : Feed). Keeps pack (fed pack m t f) (tallied t f) rs (rule pack s c))
        (sym (feed_accepted c (rule pack s c).answer (rule_accepted pack s c)))
        (rule_keeps pack s m t rs inv c (kind pack s c) allow)
    go (some n) allow = record { kept = inv }
