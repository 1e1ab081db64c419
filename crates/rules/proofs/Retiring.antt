-- W-209: the floor only rises, and what is below it doesn't act again.
use mathlib.Core.Bool.{false}
use mathlib.Core.Path.{◌≡◌, refl, sym, ◌∙◌, ap, subst}
use mathlib.Core.List.{List, [], ◌∷◌, ◌++◌}
use mathlib.Core.Option.{Option, none, some}
use Prim.Native.Nat.{ℕ, ◌≤◌, ◌<◌}
use native.Mathlib.Omega.{arith}
use borrow.Author.Tests.{leb-true}
use Rattle.questions.specs.Basics.{is_some}
use Rattle.questions.specs.Questions.{No}
use Rattle.rules.specs.Instructions.{Pack, Code, Place}
use Rattle.rules.specs.Blocks.{Result, run_block}
use Rattle.rules.specs.Courses.{Course, Next, goes, does, says, next_of}
use Rattle.rules.specs.Store.{Request, Store, found, with_row, floor_of}
use Rattle.rules.specs.Calls.{Call, arrival, retry, Agent, State, refusal, rule, unless, call, History, state_after}
use Rattle.rules.specs.Calls.{code_by, arrive, again, through_block, turn_on, turn_in}
use Rattle.rules.specs.Plain.{Reply, Machine, Tallies, accepted, machine_of, events_after, machine_after, tallies_after, replies_after}
use Rattle.rules.specs.Retired.{floor_after, NeverAgain, Retiring}
use Rattle.questions.proofs.Updates.{false_true}
use Rattle.questions.proofs.Questions.{ask_none}
use Rattle.rules.proofs.Follow.{Free, same_free, free_none, row_elsewhere}
use Rattle.rules.proofs.Invariant.{Inv}
use Rattle.rules.proofs.Retire.{retired_free, floor_rises, retire_asked}
use Rattle.rules.proofs.ByFeed.{Kind, an_arrival, a_retry, a_turn, a_retire, an_idle, kind}
use Rattle.rules.proofs.Theorem.{invariant}
use Rattle.rules.proofs.NotBooked.{no_agent_lem, run_same, no_reply_to}

-- An id below the floor has no log row. (Between the book and the log of a retire this doesn't hold, so that it is no part of `Inv`.)
abbrev pub Cleared : Store → Type 0
Cleared s = (p id t : ℕ) → id < floor_of s → Free s.log p id t

-- the floor of the second store isn't lower, and what is below it stays cleared
abbrev Rises : Store → Store → Type 0
Rises s s' = (floor_of s ≤ floor_of s') × (Cleared s → Cleared s')

stays : (s : Store) → Rises s s
stays s = (omega arith, λ h. h)

-- ── One call ──

module _ (pack : Pack) (s : State) (m : Machine) (t : Tallies) (rs : List Reply) (inv : Inv pack s m t rs) where
  arrive_rises : (slot id : ℕ) (q : Request) (o : Option Request) → Rises s.store (arrive s slot id q o).state.store
  unfolding arrive
  arrive_rises slot id q none = (omega arith, λ h. h)
  arrive_rises slot id q (some known) = stays s.store

  again_rises : (slot id : ℕ) (o : Option Request) → Rises s.store (again s slot id o).state.store
  unfolding again
  again_rises slot id none = stays s.store
  again_rises slot id (some known) = stays s.store

  -- a block's log row is one of a booked request, which isn't below the floor
  through_rises : (slot : ℕ) (a : Agent) → s.slots slot ≡ some a → (code : Code) (from : Place) (p : ℕ) (onto : Result → Course)
      (o : Option Result) → Rises s.store (through_block s slot a code from p onto o).state.store
  unfolding through_block
  through_rises slot a e code from p onto (some r) = stays s.store
  through_rises slot a e code from p onto none =
      let live = inv.slots slot a e in
      let l = inv.core.above a.id live.run.request live.book_is in
      let r = (run_block code from (s.store.rows p)).result in (
        omega arith,
        λ h p' id u below.
            same_free s.store.log (with_row s.store.log p a.id a.step r) p' id u
            (row_elsewhere s.store.log p a.id a.step r p' id u (λ i. omega arith)) (h p' id u below),
      )

  turn_rises : (slot : ℕ) (o : Option Agent) → s.slots slot ≡ o → Rises s.store (turn_in pack s slot o).state.store
  unfolding turn_in turn_on
  turn_rises slot none e = stays s.store
  turn_rises slot (some a) e =
      on (code_by pack (s.store.book a.id)) (next_of (code_by pack (s.store.book a.id)) a.course)
    where
      on : (code : Code) (x : Next) → Rises s.store (turn_on s slot a code x).state.store
      on code (says v) = stays s.store
      on code (does from p onto) = through_rises slot a e code from p onto (found s.store.log p a.id a.step)
      on code (goes to) = stays s.store

  rule_rises : (c : Call) → Kind pack s c → refusal pack s c ≡ none → Rises s.store (rule pack s c).state.store
  unfolding rule
  rule_rises c (an_arrival slot id w args) allow =
      arrive_rises slot id (record { workflow = w; arguments = args }) (s.store.book id)
  rule_rises c (a_retry slot id) allow = again_rises slot id (s.store.book id)
  rule_rises c (a_turn slot) allow = turn_rises slot (s.slots slot) refl
  rule_rises c (a_retire floor) allow =
      let l = floor_rises s.store floor inv.core.above (retire_asked pack s floor allow).1 in
      (omega arith, λ h p id u below. retired_free s.store floor p id u below)
  rule_rises c (an_idle _ i) allow = subst (λ (x : Store). Rises s.store x) (sym i.store_left) (stays s.store)

  call_rises : (c : Call) → Rises s.store (call pack s c).state.store
  unfolding call unless
  call_rises c = go (refusal pack s c) refl
    where
      go : (o : Option No) → refusal pack s c ≡ o → Rises s.store (unless o s (rule pack s c)).state.store
      go none e = rule_rises c (kind pack s c) e
      go (some n) e = stays s.store

  -- ── Below the floor ──

  module _ (id : ℕ) (below : id < floor_of s.store) where
    pub gone : s.store.book id ≡ none
    gone = go (s.store.book id) refl
      where
        go : (o : Option Request) → s.store.book id ≡ o → s.store.book id ≡ none
        go none e = e
        go (some q) e = absurd (let l = inv.core.above id q e in omega arith)

    -- 30 says no to its arrival
    shut : (slot w : ℕ) (args : List ℕ) → refusal pack s (arrival slot id w args) ≡ none → ⊥
    unfolding refusal
    shut slot w args allow =
        let a₃₀ = ask_none _ _ _ (ask_none _ _ _ (ask_none _ _ _ (ask_none _ _ _ allow).1).1).1 in
        let l = leb-true (floor_of s.store) id a₃₀.0 in
        omega arith

    -- and 20 to its retry
    not_again : (slot : ℕ) → refusal pack s (retry slot id) ≡ none → ⊥
    unfolding refusal
    not_again slot allow =
        false_true (ap (λ (o : Option Request). is_some o) gone) (ask_none _ _ _ (ask_none _ _ _ (ask_none _ _ _ allow).1).1).0

-- a call to which a question says no isn't accepted
not_accepted : (pack : Pack) (s : State) (c : Call) → (refusal pack s c ≡ none → ⊥) → accepted (call pack s c).answer ≡ false
unfolding call unless
not_accepted pack s c not_None = go (refusal pack s c) refl
  where
    go : (o : Option No) → refusal pack s c ≡ o → accepted (unless o s (rule pack s c)).answer ≡ false
    go none e = absurd (not_None e)
    go (some n) e = refl

-- ── Lists of calls ──

module _ (pack : Pack) (room : ℕ) where
  after_rises : (c : Call) (calls : History) → Rises (state_after pack room calls).store (state_after pack room (c ∷ calls)).store
  unfolding state_after
  after_rises c calls =
      call_rises pack (state_after pack room calls) (machine_after pack room calls) (tallies_after pack room calls)
      (replies_after pack room calls) (invariant pack room calls) c

  -- no log row is below the floor
  pub cleared : (calls : History) → Cleared (state_after pack room calls).store
  unfolding state_after
  cleared [] = λ p id t below. refl
  cleared (c ∷ calls) = (after_rises c calls).1 (cleared calls)

  module _ (calls : History) where
    -- the floor only rises
    pub rises : (later : History) → floor_after pack room calls ≤ floor_after pack room (later ++ calls)
    rises [] = omega arith
    rises (c ∷ later) = omega (arith, rises later, (after_rises c (later ++ calls)).0)

    module _ (id : ℕ) (below : id < floor_after pack room calls) where
      still_below : (later : History) → id < floor_after pack room (later ++ calls)
      still_below later = omega (arith, rises later)

      unbooked_later : (later : History) → (state_after pack room (later ++ calls)).store.book id ≡ none
      unbooked_later later =
          gone pack (state_after pack room (later ++ calls)) (machine_after pack room (later ++ calls))
          (tallies_after pack room (later ++ calls)) (replies_after pack room (later ++ calls)) (invariant pack room (later ++ calls)) id
          (still_below later)

      counted_still : (later : History) → (machine_after pack room (later ++ calls)).runs id ≡ (machine_after pack room calls).runs id
      unfolding events_after machine_of
      counted_still [] = refl
      counted_still (c ∷ later) =
          let s = state_after pack room (later ++ calls) in
          let m = machine_after pack room (later ++ calls) in
          let t = tallies_after pack room (later ++ calls) in
          let rs = replies_after pack room (later ++ calls) in
          let inv = invariant pack room (later ++ calls) in
          run_same pack s m t rs inv id (unbooked_later later) (shut pack s m t rs inv id (still_below later)) c ∙ counted_still later

      never_again : NeverAgain pack room calls id
      never_again =
          let s = state_after pack room calls in
          let m = machine_after pack room calls in
          let t = tallies_after pack room calls in
          let rs = replies_after pack room calls in
          let inv = invariant pack room calls in
          record {
            unbooked = unbooked_later [];
            no_log = λ p u. free_none s.store.log p id u (cleared calls p id u below);
            in_no_slot = no_agent_lem pack s m t rs inv id (unbooked_later []);
            arrives_never = λ slot w args. not_accepted pack s (arrival slot id w args) (shut pack s m t rs inv id below slot w args);
            retried_never = λ slot. not_accepted pack s (retry slot id) (not_again pack s m t rs inv id below slot);
            counted_still = counted_still;
            no_reply =
                λ later c v.
                no_reply_to pack (state_after pack room (later ++ calls)) (machine_after pack room (later ++ calls))
                (tallies_after pack room (later ++ calls)) (replies_after pack room (later ++ calls)) (invariant pack room (later ++ calls))
                id (unbooked_later later) v c;
          }

-- The theorem.
pub retiring : (pack : Pack) (room : ℕ) (calls : History) → Retiring pack room calls
retiring pack room calls = record { rises = rises pack room calls; never_again = never_again pack room calls }
