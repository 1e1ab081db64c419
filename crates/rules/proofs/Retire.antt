-- What a retire leaves, and its questions 28 and 29 by booked ids.
use mathlib.Core.Bool.{Bool, true, false, not}
use mathlib.Core.Path.{◌≡◌, refl, sym, ◌∙◌, ap}
use mathlib.Core.Option.{Option, none, some}
use Prim.Native.Nat.{ℕ, ◌≤◌, ◌<◌}
use native.Mathlib.Omega.{arith}
use borrow.Author.Tests.{lt-ltb, ltb-true, le-ltb}
use lib.Dec.{ltb, nltb→le}
use Rattle.questions.specs.Basics.{if◌then◌otherwise◌, is_some, each}
use Rattle.rules.specs.Instructions.{Pack}
use Rattle.rules.specs.Store.{Request, Store, floor_of, booked_below, book_retired, log_retired, retired}
use Rattle.rules.specs.Logged.{logged_through}
use Rattle.rules.specs.Worklist.{listed}
use Rattle.rules.specs.Calls.{Agent, State, is_of, in_no_slot, can_retire, retire, refusal}
use Rattle.questions.proofs.Tests.{no_yes, and_left, and_right}
use Rattle.questions.proofs.Updates.{none_some, false_true, eqb_same}
use Rattle.questions.proofs.Questions.{ask_none}
use Rattle.questions.proofs.Each.{each_at, each_all}
use Rattle.questions.proofs.Counts.{count_some, count_one, count_none, sum_same}
use Rattle.rules.proofs.Follow.{Free, Same, Grows, same_grows}

-- ── What is kept and what is removed ──

-- from the floor on nothing is removed
pub kept_from : {A : Type 0} (floor id : ℕ) (o : Option A) → floor ≤ id → if◌then◌otherwise◌ (ltb id floor) none o ≡ o
kept_from floor id o l = rw (le-ltb id floor l) refl

-- below it nothing is left
pub gone_below : {A : Type 0} (floor id : ℕ) (o : Option A) → id < floor → if◌then◌otherwise◌ (ltb id floor) none o ≡ none
gone_below floor id o l = rw (lt-ltb id floor l) refl

-- what is there was there and is from the floor on
pub there_from : {A : Type 0} (floor id : ℕ) (o : Option A) (x : A) → if◌then◌otherwise◌ (ltb id floor) none o ≡ some x →
    (floor ≤ id) × (o ≡ some x)
there_from {A} floor id o x e = go (ltb id floor) refl e
  where
    go : (b : Bool) → ltb id floor ≡ b → if◌then◌otherwise◌ b none o ≡ some x → (floor ≤ id) × (o ≡ some x)
    go true h f = none_some x refl f
    go false h f = (nltb→le id floor (rw h tt), f)

-- where there was nothing, there is nothing
pub none_there : {A : Type 0} (b : Bool) (o : Option A) → o ≡ none → if◌then◌otherwise◌ b none o ≡ none
none_there true o e = refl
none_there false o e = e

-- the log rows below the floor are removed, and no others
module _ (s : Store) where
  pub log_same : (p id t : ℕ) → floor_of s ≤ id → Same s.log (log_retired s).log p id t
  log_same p id t l = kept_from (floor_of s) id (s.log.usual p id t) l

  pub log_grows : (id : ℕ) → floor_of s ≤ id → Grows s.log (log_retired s).log id
  log_grows id l = same_grows s.log (log_retired s).log id (λ p t. log_same p id t l)

  pub log_below : (p id t : ℕ) → id < floor_of s → Free (log_retired s).log p id t
  log_below p id t l = gone_below (floor_of s) id (s.log.usual p id t) l

  pub log_free : (p id t : ℕ) → Free s.log p id t → Free (log_retired s).log p id t
  log_free p id t e = none_there (ltb id (floor_of s)) (s.log.usual p id t) e

-- of a smaller id, booked or not, no log row is left
pub retired_free : (s : Store) (floor p id t : ℕ) → id < floor → Free (retired s floor).log p id t
retired_free s floor p id t l = log_below (book_retired s floor) p id t l

-- ── Questions 28 and 29 ──

-- what an accepted retire knows
pub retire_asked : (pack : Pack) (s : State) (floor : ℕ) → refusal pack s (retire floor) ≡ none →
    (each floor (λ id. can_retire pack s id (s.store.book id)) ≡ true) × (0 < booked_below s.store floor)
unfolding refusal
retire_asked pack s floor allow =
    let a₂₈ = ask_none _ _ _ (ask_none _ _ _ allow).1 in
    (a₂₈.0, ltb-true 0 (booked_below s.store floor) (ask_none _ _ _ a₂₈.1).0)

-- some smaller id is booked
pub booked_some : (s : Store) (floor : ℕ) → 0 < booked_below s floor → (id : ℕ) × (id < floor) × (q : Request) × (s.book id ≡ some q)
unfolding booked_below
booked_some s floor h =
    let x = count_some floor (λ id. is_some (s.book id)) h in
    let y = held (s.book x.0) x.2 in
    (x.0, x.1, y.0, y.1)
  where
    held : (o : Option Request) → is_some o ≡ true → (q : Request) × (o ≡ some q)
    held none e = false_true refl e
    held (some q) e = (q, refl)

-- where no booked id is below the floor, the floor only rises
pub floor_rises : (s : Store) (floor : ℕ) → ((id : ℕ) (q : Request) → s.book id ≡ some q → floor_of s ≤ id) →
    0 < booked_below s floor → floor_of s < floor
floor_rises s floor above booked =
    let x = booked_some s floor booked in
    let x₁ = x.1 in
    let l = above x.0 x.2 x.3 in
    omega arith

not_true : (b : Bool) → not b ≡ true → b ≡ true → ⊥
not_true true e h = no_yes e
not_true false e h = no_yes h

module _ (pack : Pack) (s : State) (floor : ℕ) (all : each floor (λ id. can_retire pack s id (s.store.book id)) ≡ true) where
  -- of each smaller booked id
  can : (id : ℕ) (q : Request) → id < floor → s.store.book id ≡ some q → can_retire pack s id (some q) ≡ true
  can id q l e =
      ap (can_retire pack s id) (sym e)
      ∙ each_at (λ id. can_retire pack s id (s.store.book id)) floor 0 all id (omega arith) (omega arith)

  -- it is logged through
  pub retired_logged : (id : ℕ) (q : Request) → id < floor → s.store.book id ≡ some q →
      logged_through pack s.store.log id (some q) ≡ true
  unfolding can_retire
  retired_logged id q l e = and_left (logged_through pack s.store.log id (some q)) _ (can id q l e)

  -- and not on the worklist
  pub retired_unlisted : (id : ℕ) (q : Request) → id < floor → s.store.book id ≡ some q → listed id s.work ≡ false
  unfolding can_retire
  retired_unlisted id q l e =
      go (listed id s.work) refl
      (and_right (in_no_slot s.slots id) _ (and_right (logged_through pack s.store.log id (some q)) _ (can id q l e)))
    where
      go : (b : Bool) → listed id s.work ≡ b → not (listed id s.work) ≡ true → listed id s.work ≡ false
      go true h n = absurd (not_true (listed id s.work) n h)
      go false h n = h

  -- an agent's request isn't retired
  pub slot_stays : (slot : ℕ) (a : Agent) → slot < 8 → s.slots slot ≡ some a → (q : Request) → s.store.book a.id ≡ some q →
      floor ≤ a.id
  unfolding can_retire in_no_slot
  slot_stays slot a low held q e = go (ltb a.id floor) refl
    where
      go : (b : Bool) → ltb a.id floor ≡ b → floor ≤ a.id
      go true h =
          let none_of =
          and_left (in_no_slot s.slots a.id) _
          (and_right (logged_through pack s.store.log a.id (some q)) _ (can a.id q (ltb-true a.id floor h) e)) in
          let free = each_at (λ slot. not (is_of a.id (s.slots slot))) 8 0 none_of slot (omega arith) (omega arith) in
          absurd (not_true (is_of a.id (s.slots slot)) free (ap (is_of a.id) held ∙ eqb_same a.id))
      go false h = nltb→le a.id floor (rw h tt)

-- for a walk over the book
module _ (pack : Pack) (s : State) (floor : ℕ) where
  -- 28 is answered yes if each smaller booked id can be retired
  pub all_can : ((id : ℕ) (q : Request) → id < floor → s.store.book id ≡ some q → can_retire pack s id (some q) ≡ true) →
      each floor (λ id. can_retire pack s id (s.store.book id)) ≡ true
  unfolding can_retire
  all_can h = each_all (λ id. can_retire pack s id (s.store.book id)) floor 0 (λ id l l'. go id (s.store.book id) refl (omega arith))
    where
      go : (id : ℕ) (o : Option Request) → s.store.book id ≡ o → id < floor → can_retire pack s id o ≡ true
      go id none e l = refl
      go id (some q) e l = h id q l e

  -- and no if one can't
  pub one_cannot : (id : ℕ) (q : Request) → id < floor → s.store.book id ≡ some q → can_retire pack s id (some q) ≡ false →
      each floor (λ id. can_retire pack s id (s.store.book id)) ≡ false
  one_cannot id q l e n = go (each floor (λ id. can_retire pack s id (s.store.book id))) refl
    where
      go : (b : Bool) → each floor (λ id. can_retire pack s id (s.store.book id)) ≡ b →
          each floor (λ id. can_retire pack s id (s.store.book id)) ≡ false
      go true h =
          let c = each_at (λ id. can_retire pack s id (s.store.book id)) floor 0 h id (omega arith) (omega arith) in
          false_true n (ap (can_retire pack s id) (sym e) ∙ c)
      go false h = h

-- 29 is answered yes if a smaller id is booked
pub one_booked : (s : Store) (floor id : ℕ) (q : Request) → id < floor → s.book id ≡ some q → 0 < booked_below s floor
unfolding booked_below
one_booked s floor id q l e = count_one floor (λ i. is_some (s.book i)) id l (ap is_some e)

-- and no if none is
pub none_booked : (s : Store) (floor : ℕ) → ((id : ℕ) → id < floor → s.book id ≡ none) → booked_below s floor ≡ 0
unfolding booked_below
none_booked s floor h =
    sum_same floor _ _ (λ id l. ap (λ (o : Option Request). if◌then◌otherwise◌ (is_some o) 1 0) (h id l)) ∙ count_none floor
