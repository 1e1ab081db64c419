-- What a call does to the store: nothing, one request more in the book, the rows of one block that isn't logged, or what a retire removes.
-- And what stays of the requests that are booked.
use mathlib.Core.Bool.{Bool, true, false}
use mathlib.Core.Path.{◌≡◌, refl, sym, ◌∙◌, ap, subst}
use mathlib.Core.Logic.{◌⊎◌, inl, inr}
use mathlib.Core.List.{List}
use mathlib.Core.Option.{Option, none, some, some-injective}
use Prim.Native.Nat.{ℕ, suc, ◌≤◌, ◌<◌}
use native.Mathlib.Omega.{arith}
use borrow.Author.Tests.{leb-true, ltb-true}
use lib.Dec.{ltb, nltb→le}
use Rattle.questions.specs.Basics.{each}
use Rattle.rules.specs.Instructions.{Code, Pack, Place}
use Rattle.rules.specs.Blocks.{Result, run_block}
use Rattle.rules.specs.Courses.{Course, Next, goes, does, says, next_of}
use Rattle.rules.specs.Store.{Request, Store, sought, found, booked, written, floor_of, booked_below, book_retired, retired}
use Rattle.rules.specs.Logged.{request_code, at, behind}
use Rattle.rules.specs.Calls.{code_by, Agent, State, Call, arrival, retire, can_retire, arrive, again, through_block, turn_on, turn_in}
use Rattle.rules.specs.Calls.{refusal, rule}
use Rattle.rules.specs.Plain.{Reply, Run, Machine, Tallies}
use Rattle.questions.proofs.Updates.{none_some, le_cases, update_other}
use Rattle.questions.proofs.Questions.{ask_none}
use Rattle.rules.proofs.Follow.{Free, follow_next, row_grows}
use Rattle.rules.proofs.Retire.{kept_from, gone_below, none_there, log_grows, retire_asked, floor_rises}
use Rattle.rules.proofs.Invariant.{followed, Progress, underway, over, Live, Above, Inv, Remains}
use Rattle.rules.proofs.Core.{come_to}
use Rattle.rules.proofs.ByFeed.{Kind, an_arrival, a_retry, a_turn, a_retire, an_idle, kind}

-- What a call does, when no question says no: a booked id is that of an arrival, new and not below the floor; what a retire removes was
-- asked for by 28 and 29.
pub data Change (pack : Pack) (s : State) (c : Call) (s' : Store) : Type 0 where
  same : s' ≡ s.store → Change pack s c s'
  books : (slot id : ℕ) (q : Request) → c ≡ arrival slot id q.workflow q.arguments → s.store.book id ≡ none →
      floor_of s.store ≤ id → s' ≡ booked s.store id q → Change pack s c s'
  writes : (slot : ℕ) (a : Agent) (from : Place) (p : ℕ) (onto : Result → Course) → s.slots slot ≡ some a →
      next_of (code_by pack (s.store.book a.id)) a.course ≡ does from p onto → found s.store.log p a.id a.step ≡ none →
      s' ≡ written s.store p a.id a.step (run_block (code_by pack (s.store.book a.id)) from (s.store.rows p)) →
      Change pack s c s'
  retires : (floor : ℕ) → c ≡ retire floor → each floor (λ id. can_retire pack s id (s.store.book id)) ≡ true →
      0 < booked_below s.store floor → s' ≡ retired s.store floor → Change pack s c s'

-- an accepted arrival's id isn't below the floor
pub from_floor_lem : (pack : Pack) (s : State) (slot id w : ℕ) (args : List ℕ) → refusal pack s (arrival slot id w args) ≡ none →
    floor_of s.store ≤ id
unfolding refusal
from_floor_lem pack s slot id w args allow =
    leb-true (floor_of s.store) id (ask_none _ _ _ (ask_none _ _ _ (ask_none _ _ _ (ask_none _ _ _ allow).1).1).1).0

module _ (pack : Pack) (s : State) where
  by_arrival : (c : Call) (slot id : ℕ) (q : Request) → c ≡ arrival slot id q.workflow q.arguments → floor_of s.store ≤ id →
      (o : Option Request) → s.store.book id ≡ o → Change pack s c (arrive s slot id q o).state.store
  unfolding arrive
  by_arrival c slot id q is l none e = books slot id q is e l refl
  by_arrival c slot id q is l (some known) e = same refl

  by_retry : (c : Call) (slot id : ℕ) (o : Option Request) → Change pack s c (again s slot id o).state.store
  unfolding again
  by_retry c slot id none = same refl
  by_retry c slot id (some known) = same refl

  module _ (c : Call) (slot : ℕ) (a : Agent) (held : s.slots slot ≡ some a) where
    abbrev code : Code
    code = code_by pack (s.store.book a.id)

    by_block : (from : Place) (p : ℕ) (onto : Result → Course) → next_of code a.course ≡ does from p onto → (o : Option Result) →
        found s.store.log p a.id a.step ≡ o → Change pack s c (through_block s slot a code from p onto o).state.store
    unfolding through_block
    by_block from p onto e none f = writes slot a from p onto held e f refl
    by_block from p onto e (some r) f = same refl

    by_next : (x : Next) → next_of code a.course ≡ x → Change pack s c (turn_on s slot a code x).state.store
    unfolding turn_on
    by_next (goes to) e = same refl
    by_next (says v) e = same refl
    by_next (does from p onto) e = by_block from p onto e (found s.store.log p a.id a.step) refl

  by_turn : (c : Call) (slot : ℕ) (o : Option Agent) → s.slots slot ≡ o → Change pack s c (turn_in pack s slot o).state.store
  unfolding turn_in
  by_turn c slot none e = same refl
  by_turn c slot (some a) e = by_next c slot a e (next_of (code_by pack (s.store.book a.id)) a.course) refl

  pub change : (c : Call) → refusal pack s c ≡ none → Change pack s c (rule pack s c).state.store
  unfolding refusal rule
  change c allow = by_kind c (kind pack s c) allow
    where
      by_kind : (c : Call) → Kind pack s c → refusal pack s c ≡ none → Change pack s c (rule pack s c).state.store
      by_kind c (an_arrival slot id w args) allow =
          by_arrival c slot id (record { workflow = w; arguments = args }) refl (from_floor_lem pack s slot id w args allow)
          (s.store.book id) refl
      by_kind c (a_retry slot id) allow = by_retry c slot id (s.store.book id)
      by_kind c (a_turn slot) allow = by_turn c slot (s.slots slot) refl
      by_kind c (a_retire floor) allow =
          let asked = retire_asked pack s floor allow in
          retires floor refl asked.0 asked.1 refl
      by_kind c (an_idle _ i) allow = same i.store_left

-- ── What stays ──

-- Where the call is a retire, no booked id is below the floor: on bytes an accepted one has passed 12.
abbrev pub AboveFor : Call → Store → Type 0
AboveFor c s = (floor : ℕ) → c ≡ retire floor → Above s

-- an id below the floor that isn't booked: it can't be booked again
abbrev pub Gone : Store → (id : ℕ) → Type 0
Gone s id = (id < floor_of s) × (s.book id ≡ none)

-- Each booked request stays booked and its log rows stay, or it is gone; the floor doesn't fall; and what is gone stays so.
pub record Stays (s s' : Store) : Type 0 where
  pub remains : (id : ℕ) → Remains s.log s'.log s.book s'.book id ⊎ Gone s' id
  pub rises : floor_of s ≤ floor_of s'
  pub gone : (id : ℕ) → Gone s id → Gone s' id

-- as it was
pub stays_here : (s : Store) → Stays s s
stays_here s = record { remains = λ id. inl (λ q e. (e, λ p t r f. f)); rises = omega arith; gone = λ id g. g }

-- one after the other
pub stays_on : (s s' s'' : Store) → Stays s s' → Stays s' s'' → Stays s s''
stays_on s s' s'' x y =
    record {
      remains = λ id. go id (x.remains id) (y.remains id);
      rises = let a = x.rises in let b = y.rises in omega arith;
      gone = λ id g. y.gone id (x.gone id g);
    }
  where
    go : (id : ℕ) → Remains s.log s'.log s.book s'.book id ⊎ Gone s' id →
        Remains s'.log s''.log s'.book s''.book id ⊎ Gone s'' id → Remains s.log s''.log s.book s''.book id ⊎ Gone s'' id
    go id (inr g) k = inr (y.gone id g)
    go id (inl h) (inr g) = inr g
    go id (inl h) (inl k) =
        inl
        (λ q e.
        let a = h q e in
        let b = k q a.0 in
        (b.0, λ p t r f. b.1 p t r (a.1 p t r f)))

-- a log row that isn't found isn't there
pub not_found : (o : Option ℕ) → sought o ≡ none → o ≡ none
not_found none e = refl
not_found (some v) e = none_some _ e refl

-- one request more in the book
pub booking_remains : (s : Store) (id : ℕ) (q : Request) → s.book id ≡ none → (j : ℕ) →
    Remains s.log (booked s id q).log s.book (booked s id q).book j
booking_remains s id q new j w f =
    (update_other s.book id (some q) j (λ p. none_some w (ap s.book p ∙ new) f) ∙ f, λ p t r g. g)

pub booking_stays : (s : Store) (id : ℕ) (q : Request) → s.book id ≡ none → floor_of s ≤ id → Stays s (booked s id q)
booking_stays s id q new l =
    record {
      remains = λ j. inl (booking_remains s id q new j);
      rises = omega arith;
      gone = λ j g. let g₀ = g.0 in (g₀, update_other s.book id (some q) j (λ p. omega (arith, p, l, g₀)) ∙ g.1);
    }

-- from the new floor on a request stays booked, and its log rows stay
pub retired_remains : (s : Store) (floor id : ℕ) → floor ≤ id → Remains s.log (retired s floor).log s.book (retired s floor).book id
retired_remains s floor id l q e = (kept_from floor id (s.book id) l ∙ e, log_grows (book_retired s floor) id l)

-- the smaller ones are gone
pub retired_gone : (s : Store) (floor id : ℕ) → id < floor → Gone (retired s floor) id
retired_gone s floor id l = (l, gone_below floor id (s.book id) l)

pub retiring_stays : (s : Store) (floor : ℕ) → floor_of s ≤ floor → Stays s (retired s floor)
retiring_stays s floor l =
    record {
      remains = λ id. go id (ltb id floor) refl;
      rises = l;
      gone = λ id g. let g₀ = g.0 in (omega arith, none_there (ltb id floor) (s.book id) g.1);
    }
  where
    go : (id : ℕ) (b : Bool) → ltb id floor ≡ b →
        Remains s.log (retired s floor).log s.book (retired s floor).book id ⊎ Gone (retired s floor) id
    go id true e = inr (retired_gone s floor id (ltb-true id floor e))
    go id false e = inl (retired_remains s floor id (nltb→le id floor (rw e tt)))

-- what a change leaves
pub change_stays : (pack : Pack) (s : State) (c : Call) (s' : Store) → AboveFor c s.store → Change pack s c s' → Stays s.store s'
change_stays pack s c s' above (same e) = subst (Stays s.store) (sym e) (stays_here s.store)
change_stays pack s c s' above (books slot id q is new l e) = subst (Stays s.store) (sym e) (booking_stays s.store id q new l)
change_stays pack s c s' above (writes slot a from p onto held next absent e) =
    subst (Stays s.store) (sym e)
    (record {
      remains =
          λ id.
          inl
          (λ q h. (
            h,
            row_grows s.store.log p a.id a.step
                (run_block (code_by pack (s.store.book a.id)) from (s.store.rows p)).result
                (not_found (s.store.log.usual p a.id a.step) absent) id,
          ));
      rises = omega arith;
      gone = λ id g. g;
    })
change_stays pack s c s' above (retires floor is all some_booked e) =
    subst (Stays s.store) (sym e)
    (retiring_stays s.store floor (let l = floor_rises s.store floor (above floor is) some_booked in omega arith))

-- Before a block that isn't logged an agent stands as far as its request has come: no partition has a log row of its step or a later one.
module _ (pack : Pack) (s : State) (m : Machine) (t : Tallies) (rs : List Reply) (inv : Inv pack s m t rs) (slot : ℕ) (a : Agent)
    (held : s.slots slot ≡ some a) where
  abbrev pub live : Live pack s.store.log s.store.book m.runs (t slot) a
  live = inv.slots slot a held

  abbrev pub asked : Request
  asked = live.run.request

  module _ (from : Place) (p : ℕ) (onto : Result → Course) (next : next_of (request_code pack asked) a.course ≡ does from p onto)
      (absent : found s.store.log p a.id a.step ≡ none) where
    stops : followed pack s.store.log a.id asked (suc live.turns) ≡ none
    unfolding behind
    stops =
        follow_next s.store.log a.id (request_code pack asked) asked live.turns a.course a.step (does from p onto) none
        live.there next (ap (behind onto a.step) absent)

    -- how far its request has come
    progress : Progress pack s.store.log m.replies a.id live.run
    progress =
        let g = inv.core.counterpart a.id asked live.book_is in
        subst (λ (r : Run). Progress pack s.store.log m.replies a.id r)
        (some-injective g.run live.run (sym g.run_is ∙ live.run_is)) g.progress

    pub none_ahead : (p' u : ℕ) → a.step ≤ u → Free s.store.log p' a.id u
    none_ahead p' u l = go (le_cases live.turns live.run.move_count live.behind) progress
      where
        go : (live.turns ≡ live.run.move_count) ⊎ (live.turns < live.run.move_count) →
            Progress pack s.store.log m.replies a.id live.run → Free s.store.log p' a.id u
        go (inl e) (underway step f free no_reply) =
            let here : followed pack s.store.log a.id asked live.run.move_count ≡ some (at a.course a.step) =
            ap (followed pack s.store.log a.id asked) (sym e) ∙ live.there in
            let same_step : step ≡ a.step = cc in
            free p' u (omega (arith, same_step))
        go (inl e) (over v f given) =
            let here : followed pack s.store.log a.id asked live.run.move_count ≡ some (at a.course a.step) =
            ap (followed pack s.store.log a.id asked) (sym e) ∙ live.there in
            absurd (let z : ◌≡◌ {A = ℕ} 0 1 = cc in omega arith)
        go (inr k) g =
            let c = come_to pack s.store.log m.replies a.id live.run g (suc live.turns) k in
            none_some c.0 stops c.1
