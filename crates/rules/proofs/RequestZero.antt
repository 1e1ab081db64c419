-- W-201, request number zero: an arrival with id 0 is turned down, and no call books a new 0.
use mathlib.Core.Bool.{Bool, true, false, not}
use mathlib.Core.Path.{◌≡◌, refl, sym, ◌∙◌, ap}
use mathlib.Core.List.{List, [], ◌∷◌}
use mathlib.Core.Logic.{◌⊎◌, inl, inr, ⊎_elim}
use mathlib.Core.Option.{Option, none, some, some-injective}
use Prim.Native.Nat.{ℕ, ◌<◌}
use borrow.Author.Tests.{lt-ltb, eqb-true, eqb-false}
use lib.Dec.{eqb, ltb}
use Rattle.questions.specs.Questions.{No, number, ask}
use Rattle.rules.specs.Instructions.{Code, Pack, Place}
use Rattle.rules.specs.Blocks.{Result}
use Rattle.rules.specs.Courses.{Course, Next, goes, does, says, next_of}
use Rattle.rules.specs.Store.{Request, Store, sought, found}
use Rattle.rules.specs.Calls.{Agent, State, Call, arrival, retry, turn, crash, restart, order, stopped, code_by}
use Rattle.rules.specs.Calls.{list_add, list_take, list_done, retire}
use Rattle.rules.specs.Calls.{refusal, rule, arrive, again, through_block, turn_on, turn_in, unless, call, History, state_after}
use Rattle.rules.specs.Plain.{machine_of, events_after, tallies_after, machine_after, replies_after}
use Rattle.rules.specs.RequestZero.{zero_no, RequestZero, NoZero}
use Rattle.questions.proofs.Updates.{none_some, false_true, update_other}
use Rattle.questions.proofs.Questions.{ask_none}
use Rattle.rules.proofs.Replies.{reply_to}
use Rattle.rules.proofs.ByFeed.{Kind, an_arrival, a_retry, a_turn, a_retire, an_idle, kind}
use Rattle.rules.proofs.Retire.{none_there}
use Rattle.rules.proofs.NotBooked.{run_same}
use Rattle.rules.proofs.Theorem.{invariant}

-- ── the questions ──

-- where 24 is said behind a question of another number, the rest says it
behind : (q : ℕ) (b : Bool) (rest : Option No) → eqb q 24 ≡ false → ask (number q) b rest ≡ some (number 24) → rest ≡ some (number 24)
unfolding ask
behind q true rest other e = e
behind q false rest other e =
    absurd (eqb-false q 24 other (ap (λ (n : No). n.question) (some-injective (number q) (number 24) e)))

-- where 24 is said, the id is 0 or the rest says it
at_24 : (id : ℕ) (rest : Option No) → ask (number 24) (not (eqb id 0)) rest ≡ some (number 24) → (id ≡ 0) ⊎ (rest ≡ some (number 24))
unfolding ask
at_24 id rest e = go (eqb id 0) refl e
  where
    go : (b : Bool) → eqb id 0 ≡ b → ask (number 24) (not b) rest ≡ some (number 24) → (id ≡ 0) ⊎ (rest ≡ some (number 24))
    go true z q = inl (eqb-true id 0 z)
    go false z q = inr q

-- where 24 says yes, the id is not 0
not_zero : (id : ℕ) → not (eqb id 0) ≡ true → 0 ≡ id → ⊥
not_zero id allow z = false_true (ap (λ n. not (eqb n 0)) (sym z)) allow

module _ (pack : Pack) (s : State) where
  turned_down : (slot w : ℕ) (args : List ℕ) → refusal pack s (arrival slot 0 w args) ≡ zero_no s slot
  unfolding refusal ask
  turned_down slot w args = refl

  none_accepted : (slot w : ℕ) (args : List ℕ) → refusal pack s (arrival slot 0 w args) ≡ none → ⊥
  unfolding refusal
  none_accepted slot w args allow = not_zero 0 (ask_none _ _ _ (ask_none _ _ _ (ask_none _ _ _ allow).1).1).0 refl

  retried : (slot : ℕ) (q : Request) → slot < 8 → s.slots slot ≡ none → s.store.book 0 ≡ some q → refusal pack s (retry slot 0) ≡ none
  unfolding refusal ask
  retried slot q h e b = rw (lt-ltb slot 8 h, e, b) refl

  nobody_else : (c : Call) → refusal pack s c ≡ some (number 24) →
      ((slot : ℕ) × (w : ℕ) × (args : List ℕ) × (c ≡ arrival slot 0 w args)) ⊎ (c ≡ stopped (number 24))
  unfolding refusal
  nobody_else (arrival slot id w args) e =
      ⊎_elim
      (λ z. inl (slot, w, args, ap (λ n. arrival slot n w args) z))
      (λ q. none_some (number 24) refl (behind 19 _ _ refl (behind 18 _ _ refl (behind 17 _ _ refl (behind 30 _ _ refl q)))))
      (at_24 id _ (behind 16 _ _ refl (behind 15 _ _ refl e)))
  nobody_else (retry slot id) e = none_some (number 24) refl (behind 20 _ _ refl (behind 16 _ _ refl (behind 15 _ _ refl e)))
  nobody_else (turn slot) e = none_some (number 24) refl (behind 21 _ _ refl (behind 16 _ _ refl (behind 15 _ _ refl e)))
  nobody_else (crash slot) e = none_some (number 24) refl (behind 16 _ _ refl (behind 15 _ _ refl e))
  nobody_else restart e = none_some (number 24) refl e
  nobody_else order e = none_some (number 24) refl e
  nobody_else (list_add id) e = none_some (number 24) refl (behind 20 _ _ refl (behind 26 _ _ refl (behind 25 _ _ refl e)))
  nobody_else list_take e = none_some (number 24) refl (behind 27 _ _ refl (behind 25 _ _ refl e))
  nobody_else (list_done id) e = none_some (number 24) refl (behind 27 _ _ refl (behind 25 _ _ refl e))
  nobody_else (retire floor) e = none_some (number 24) refl (behind 29 _ _ refl (behind 28 _ _ refl (behind 25 _ _ refl e)))
  nobody_else (stopped n) e = inr (ap stopped (some-injective n (number 24) e))

  -- ── the book ──

  -- what a call does books no new 0, when no question says no
  pub rule_books_no_new : (c : Call) → refusal pack s c ≡ none → s.store.book 0 ≡ none → (rule pack s c).state.store.book 0 ≡ none
  unfolding refusal rule arrive again turn_in turn_on through_block
  rule_books_no_new c allow free = by_kind c (kind pack s c) allow
    where
      arrived : (slot id : ℕ) (q : Request) → (0 ≡ id → ⊥) → (o : Option Request) → (arrive s slot id q o).state.store.book 0 ≡ none
      arrived slot id q other none = update_other s.store.book id (some q) 0 other ∙ free
      arrived slot id q other (some known) = free

      again_started : (slot id : ℕ) (o : Option Request) → (again s slot id o).state.store.book 0 ≡ none
      again_started slot id none = free
      again_started slot id (some known) = free

      through : (slot : ℕ) (a : Agent) (code : Code) (from : Place) (p : ℕ) (onto : Result → Course) (o : Option Result) →
          (through_block s slot a code from p onto o).state.store.book 0 ≡ none
      through slot a code from p onto none = free
      through slot a code from p onto (some v) = free

      on : (slot : ℕ) (a : Agent) (code : Code) (x : Next) → (turn_on s slot a code x).state.store.book 0 ≡ none
      on slot a code (says v) = free
      on slot a code (does from p onto) = through slot a code from p onto (found s.store.log p a.id a.step)
      on slot a code (goes to) = free

      turned : (slot : ℕ) (o : Option Agent) → (turn_in pack s slot o).state.store.book 0 ≡ none
      turned slot none = free
      turned slot (some a) =
          on slot a (code_by pack (s.store.book a.id)) (next_of (code_by pack (s.store.book a.id)) a.course)

      by_kind : (c : Call) → Kind pack s c → refusal pack s c ≡ none → (rule pack s c).state.store.book 0 ≡ none
      by_kind c (an_arrival slot id w args) allow =
          arrived slot id (record { workflow = w; arguments = args })
          (not_zero id (ask_none _ _ _ (ask_none _ _ _ (ask_none _ _ _ allow).1).1).0) (s.store.book id)
      by_kind c (a_retry slot id) allow = again_started slot id (s.store.book id)
      by_kind c (a_turn slot) allow = turned slot (s.slots slot)
      by_kind c (a_retire floor) allow = none_there (ltb 0 floor) (s.store.book 0) free
      by_kind c (an_idle _ i) allow = ap (λ (st : Store). st.book 0) i.store_left ∙ free

  books_no_new : (c : Call) → s.store.book 0 ≡ none → (call pack s c).state.store.book 0 ≡ none
  unfolding call unless
  books_no_new c free = go (refusal pack s c) refl
    where
      go : (o : Option No) → refusal pack s c ≡ o → (unless o s (rule pack s c)).state.store.book 0 ≡ none
      go none e = rule_books_no_new c e free
      go (some n) e = free

  -- What W-201 asks of each call.
  pub request_zero : RequestZero pack s
  request_zero =
      record {
        none_accepted = none_accepted;
        turned_down = turned_down;
        nobody_else = nobody_else;
        retried = retried;
        books_no_new = books_no_new;
      }

-- ── lists of calls ──

module _ (pack : Pack) (room : ℕ) where
  not_booked : (calls : History) → (state_after pack room calls).store.book 0 ≡ none
  unfolding state_after
  not_booked [] = refl
  not_booked (c ∷ before) = books_no_new pack (state_after pack room before) c (not_booked before)

  no_run : (calls : History) → (machine_after pack room calls).runs 0 ≡ none
  unfolding events_after machine_of
  no_run [] = refl
  no_run (c ∷ before) =
      run_same pack (state_after pack room before) (machine_after pack room before) (tallies_after pack room before)
      (replies_after pack room before) (invariant pack room before) 0 (not_booked before)
      (none_accepted pack (state_after pack room before)) c
      ∙ no_run before

  -- The plain run books no new 0.
  pub no_zero : (calls : History) → NoZero pack room calls
  no_zero calls =
      let core = (invariant pack room calls).core in
      let run = no_run calls in
      record {
        run = run;
        book = not_booked calls;
        log = λ p t. ap sought (core.unlogged 0 run p t);
        replies =
            λ r h z.
            none_some r.value (ap (λ j. reply_to j (machine_after pack room calls).replies) z ∙ core.unreplied 0 run)
            (core.settled r h);
      }
