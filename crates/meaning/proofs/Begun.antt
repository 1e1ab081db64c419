-- Calls that begin with questions 1 to 16, or with 1 to 14 and 25: a no among them is the call's, and behind a yes to all the later
-- questions are left.
use mathlib.Core.Bool.{Bool, true, false, not}
use mathlib.Core.List.{List}
use mathlib.Core.Option.{Option, none, some}
use mathlib.Core.Path.{◌≡◌, refl}
use Prim.Native.Nat.{ℕ, ◌≤◌, ◌<◌}
use borrow.Author.Tests.{lt-ltb, le-ltb, ltb-true}
use lib.Dec.{eqb, ltb, leb}
use lib.ListN.{length}
use Rattle.questions.specs.Basics.{is_some, each}
use Rattle.questions.specs.Questions.{No, number, ask, or_else}
use Rattle.questions.specs.Questions as Questions
use Rattle.questions.proofs.Questions.{ask_none, or_else_none}
use Rattle.questions.proofs.Updates.{none_some}
use Rattle.rules.specs.Store.{floor_of, booked_below}
use Rattle.rules.specs.Calls.{arrival, retry, turn, crash, as_booked, can_book, can_turn, list_add, list_take, list_done, can_done}
use Rattle.rules.specs.Calls.{retire, can_retire}
use Rattle.rules.specs.Worklist.{Worklist, list_right, can_list, first_waiting}
use Rattle.rules.specs.Calls as Calls
use Rattle.pack.specs.Meaning.{pack_of}
use Rattle.store.specs.Rows.{store_of}
use Rattle.contents.specs.Contents.{contents_of}
use Rattle.agents.specs.Slots.{agent_at, slots_of}
use Rattle.agents.specs.Slots as Slots
use Rattle.meaning.specs.State.{state_of, Lent}
use Rattle.worklist.specs.Worklist.{worklist_of}
use Rattle.meaning.specs.Questions.{lent_refusal, list_refusal, as_wanted, first_sixteen, lent_for, refusal_for}

-- ── rows of questions that begin alike ──

module _ (o : Option No) (n₁ n₂ : No) (b₁ b₂ : Bool) (rest : Option No) where
  same_no : (n : No) → or_else o (ask n₁ b₁ (ask n₂ b₂ none)) ≡ some n → or_else o (ask n₁ b₁ (ask n₂ b₂ rest)) ≡ some n
  unfolding Questions.or_else Questions.ask
  same_no n e = go o b₁ b₂ e
    where
      go : (o : Option No) (b₁ b₂ : Bool) → or_else o (ask n₁ b₁ (ask n₂ b₂ none)) ≡ some n → or_else o (ask n₁ b₁ (ask n₂ b₂ rest)) ≡ some n
      go (some m) b₁ b₂ e = e
      go none false b₂ e = e
      go none true false e = e
      go none true true e = none_some n refl e

  rest_left : or_else o (ask n₁ b₁ (ask n₂ b₂ none)) ≡ none → or_else o (ask n₁ b₁ (ask n₂ b₂ rest)) ≡ rest
  unfolding Questions.or_else Questions.ask
  rest_left e = go o b₁ b₂ e
    where
      go : (o : Option No) (b₁ b₂ : Bool) → or_else o (ask n₁ b₁ (ask n₂ b₂ none)) ≡ none → or_else o (ask n₁ b₁ (ask n₂ b₂ rest)) ≡ rest
      go (some m) b₁ b₂ e = none_some m e refl
      go none false b₂ e = none_some n₁ e refl
      go none true false e = none_some n₂ e refl
      go none true true e = refl

-- ── calls that begin with 1 to 14 and 25 ──

module _ (o : Option No) (n₁ : No) (b₁ : Bool) (rest : Option No) where
  same_first : (n : No) → or_else o (ask n₁ b₁ none) ≡ some n → or_else o (ask n₁ b₁ rest) ≡ some n
  unfolding Questions.or_else Questions.ask
  same_first n e = go o b₁ e
    where
      go : (o : Option No) (b₁ : Bool) → or_else o (ask n₁ b₁ none) ≡ some n → or_else o (ask n₁ b₁ rest) ≡ some n
      go (some m) b₁ e = e
      go none false e = e
      go none true e = none_some n refl e

  first_left : or_else o (ask n₁ b₁ none) ≡ none → or_else o (ask n₁ b₁ rest) ≡ rest
  unfolding Questions.or_else Questions.ask
  first_left e = go o b₁ e
    where
      go : (o : Option No) (b₁ : Bool) → or_else o (ask n₁ b₁ none) ≡ none → or_else o (ask n₁ b₁ rest) ≡ rest
      go (some m) b₁ e = none_some m e refl
      go none false e = none_some n₁ e refl
      go none true e = refl

module _ (pack : List ℕ) (lent : Lent) where
  abbrev work : Worklist
  work = worklist_of lent.list

  -- the first no of 1 to 14 and 25
  pub list_of_lent : (n : No) → lent_refusal pack lent ≡ some n → list_refusal pack lent ≡ some n
  unfolding list_refusal Questions.or_else
  list_of_lent n e = rw e refl

  pub list_of_25 : lent_refusal pack lent ≡ none → list_right work ≡ false → list_refusal pack lent ≡ some (number 25)
  unfolding list_refusal Questions.or_else Questions.ask
  list_of_25 e f = rw (e, f) refl

  pub list_all : lent_refusal pack lent ≡ none → list_right work ≡ true → list_refusal pack lent ≡ none
  unfolding list_refusal Questions.or_else Questions.ask
  list_all e f = rw (e, f) refl

  -- what a yes to all says
  module _ (e : list_refusal pack lent ≡ none) where
    pub list_lent : lent_refusal pack lent ≡ none
    unfolding list_refusal
    list_lent = (or_else_none _ _ e).0

    pub list_right_lem : list_right work ≡ true
    unfolding list_refusal
    list_right_lem = (ask_none _ _ _ (or_else_none _ _ e).1).0

    -- and what is left of each call
    pub add_left : (id : ℕ) → refusal_for pack lent (list_add id)
        ≡ ask (number 26) (can_list id work) (ask (number 20) (is_some ((contents_of (store_of lent.store)).book id)) none)
    unfolding list_refusal refusal_for lent_for Calls.refusal state_of
    add_left id = first_left _ _ _ _ e

    pub take_left : refusal_for pack lent list_take ≡ ask (number 27) (is_some (first_waiting work)) none
    unfolding list_refusal refusal_for lent_for Calls.refusal state_of
    take_left = first_left _ _ _ _ e

    pub done_left : (id : ℕ) → refusal_for pack lent (list_done id) ≡ ask (number 27) (can_done (pack_of pack) (state_of lent) id) none
    unfolding list_refusal refusal_for lent_for Calls.refusal state_of
    done_left id = first_left _ _ _ _ e

    pub retire_left : (floor : ℕ) → refusal_for pack lent (retire floor)
        ≡ ask (number 28) (each floor (λ id. can_retire (pack_of pack) (state_of lent) id ((state_of lent).store.book id)))
        (ask (number 29) (ltb 0 (booked_below (state_of lent).store floor)) none)
    unfolding list_refusal refusal_for lent_for Calls.refusal state_of
    retire_left floor = first_left _ _ _ _ e

  -- a no among them is the call's
  module _ (n : No) (e : list_refusal pack lent ≡ some n) where
    pub add_stops : (id : ℕ) → refusal_for pack lent (list_add id) ≡ some n
    unfolding list_refusal refusal_for lent_for Calls.refusal state_of
    add_stops id = same_first _ _ _ _ n e

    pub take_stops : refusal_for pack lent list_take ≡ some n
    unfolding list_refusal refusal_for lent_for Calls.refusal state_of
    take_stops = same_first _ _ _ _ n e

    pub done_stops : (id : ℕ) → refusal_for pack lent (list_done id) ≡ some n
    unfolding list_refusal refusal_for lent_for Calls.refusal state_of
    done_stops id = same_first _ _ _ _ n e

    pub retire_stops : (floor : ℕ) → refusal_for pack lent (retire floor) ≡ some n
    unfolding list_refusal refusal_for lent_for Calls.refusal state_of
    retire_stops floor = same_first _ _ _ _ n e

module _ (pack : List ℕ) (lent : Lent) (slot : ℕ) where
  -- ── the first no of the sixteen ──

  wanted_as : (used : Bool) → (agent_at lent.records slot).in_use ≡ used → as_wanted used (slots_of lent.records slot) ≡ true
  unfolding slots_of Slots.agent_of
  wanted_as true e = rw e refl
  wanted_as false e = rw e refl

  unwanted_as : (used : Bool) → ((agent_at lent.records slot).in_use ≡ used → ⊥) → as_wanted used (slots_of lent.records slot) ≡ false
  unfolding slots_of Slots.agent_of
  unwanted_as used n = go used (agent_at lent.records slot).in_use refl n
    where
      go : (used b : Bool) → (agent_at lent.records slot).in_use ≡ b → (b ≡ used → ⊥) →
          as_wanted used (slots_of lent.records slot) ≡ false
      go true true e n = absurd (n refl)
      go true false e n = rw e refl
      go false true e n = rw e refl
      go false false e n = absurd (n refl)

  pub no_of_lent : (used : Bool) (n : No) → lent_refusal pack lent ≡ some n → first_sixteen pack lent slot used ≡ some n
  unfolding first_sixteen Questions.or_else
  no_of_lent used n e = rw e refl

  module _ (used : Bool) (e : lent_refusal pack lent ≡ none) where
    pub no_of_15 : 8 ≤ slot → first_sixteen pack lent slot used ≡ some (number 15)
    unfolding first_sixteen Questions.or_else Questions.ask
    no_of_15 h = rw (e, le-ltb slot 8 h) refl

    pub no_of_16 : slot < 8 → ((agent_at lent.records slot).in_use ≡ used → ⊥) → first_sixteen pack lent slot used ≡ some (number 16)
    unfolding first_sixteen Questions.or_else Questions.ask
    no_of_16 h n = rw (e, lt-ltb slot 8 h, unwanted_as used n) refl

    pub all_sixteen : slot < 8 → (agent_at lent.records slot).in_use ≡ used → first_sixteen pack lent slot used ≡ none
    unfolding first_sixteen Questions.or_else Questions.ask
    all_sixteen h u = rw (e, lt-ltb slot 8 h, wanted_as used u) refl

  -- ── what a yes to all sixteen says ──

  module _ (used : Bool) (e : first_sixteen pack lent slot used ≡ none) where
    pub begun_lent : lent_refusal pack lent ≡ none
    unfolding first_sixteen
    begun_lent = (or_else_none _ _ e).0

    pub begun_below : slot < 8
    unfolding first_sixteen
    begun_below = ltb-true slot 8 (ask_none _ _ _ (or_else_none _ _ e).1).0

    wanted : as_wanted used (slots_of lent.records slot) ≡ true
    unfolding first_sixteen
    wanted = (ask_none _ _ _ (ask_none _ _ _ (or_else_none _ _ e).1).1).0

  -- the slot is in use, or empty
  used_is : (b : Bool) → is_some (slots_of lent.records slot) ≡ b → (agent_at lent.records slot).in_use ≡ b
  unfolding slots_of Slots.agent_of
  used_is b e = go (agent_at lent.records slot).in_use refl
    where
      go : (u : Bool) → (agent_at lent.records slot).in_use ≡ u → u ≡ b
      go true f = rw f at e
      go false f = rw f at e

  pub begun_used : first_sixteen pack lent slot true ≡ none → (agent_at lent.records slot).in_use ≡ true
  begun_used e = used_is true (wanted true e)

  -- ── a no among the sixteen is the call's ──

  module _ (n : No) where
    pub crash_stops : first_sixteen pack lent slot true ≡ some n → refusal_for pack lent (crash slot) ≡ some n
    unfolding first_sixteen refusal_for lent_for Calls.refusal state_of
    crash_stops e = e

    pub turn_stops : first_sixteen pack lent slot true ≡ some n → refusal_for pack lent (turn slot) ≡ some n
    unfolding first_sixteen refusal_for lent_for Calls.refusal state_of
    turn_stops e = same_no _ _ _ _ _ _ n e

    pub retry_stops : (id : ℕ) → first_sixteen pack lent slot false ≡ some n → refusal_for pack lent (retry slot id) ≡ some n
    unfolding first_sixteen refusal_for lent_for Calls.refusal state_of
    retry_stops id e = same_no _ _ _ _ _ _ n e

    pub arrival_stops : (id w : ℕ) (args : List ℕ) → first_sixteen pack lent slot false ≡ some n →
        refusal_for pack lent (arrival slot id w args) ≡ some n
    unfolding first_sixteen refusal_for lent_for Calls.refusal state_of
    arrival_stops id w args e = same_no _ _ _ _ _ _ n e

  -- ── behind a yes to all sixteen ──

  pub crash_left : first_sixteen pack lent slot true ≡ none → refusal_for pack lent (crash slot) ≡ none
  unfolding first_sixteen refusal_for lent_for Calls.refusal state_of
  crash_left e = e

  pub turn_left : first_sixteen pack lent slot true ≡ none →
      refusal_for pack lent (turn slot)
      ≡ ask (number 21) (can_turn (pack_of pack) (contents_of (store_of lent.store)) (slots_of lent.records slot)) none
  unfolding first_sixteen refusal_for lent_for Calls.refusal state_of
  turn_left e = rest_left _ _ _ _ _ _ e

  pub retry_left : (id : ℕ) → first_sixteen pack lent slot false ≡ none →
      refusal_for pack lent (retry slot id) ≡ ask (number 20) (is_some ((contents_of (store_of lent.store)).book id)) none
  unfolding first_sixteen refusal_for lent_for Calls.refusal state_of
  retry_left id e = rest_left _ _ _ _ _ _ e

  pub arrival_left : (id w : ℕ) (args : List ℕ) → first_sixteen pack lent slot false ≡ none →
      refusal_for pack lent (arrival slot id w args)
      ≡ ask (number 24) (not (eqb id 0))
      (ask (number 30) (leb (floor_of (contents_of (store_of lent.store))) id)
      (ask (number 17) (ltb w (length (pack_of pack)))
      (ask (number 18) (as_booked (record { workflow = w; arguments = args }) ((contents_of (store_of lent.store)).book id))
      (ask (number 19) (can_book (contents_of (store_of lent.store)) ((contents_of (store_of lent.store)).book id)) none))))
  unfolding first_sixteen refusal_for lent_for Calls.refusal state_of
  arrival_left id w args e = rest_left _ _ _ _ _ _ e
