-- W-208: no listed request vanishes before its reply can be worked out from the log. First of one call, then of lists of calls.
use mathlib.Core.Bool.{Bool, true, false}
use mathlib.Core.Path.{◌≡◌, refl, sym, ◌∙◌, ap, subst}
use mathlib.Core.Logic.{◌⊎◌, inl, inr}
use mathlib.Core.List.Memᴰ
use mathlib.Core.List.{List, [], ◌∷◌, ◌++◌, Memᴰ}
use mathlib.Core.Option.{Option, none, some, some-injective}
use Prim.Native.Nat.{ℕ, ◌<◌}
use native.Mathlib.Omega.{arith}
use borrow.Author.Tests.{ltb-true}
use lib.Dec.{ltb, nltb→le}
use Rattle.questions.specs.Basics.{is_some, each}
use Rattle.questions.specs.Questions.{No}
use Rattle.rules.specs.Instructions.{Code, Pack, Place}
use Rattle.rules.specs.Blocks.{Result}
use Rattle.rules.specs.Courses.{Course, Next, goes, does, says, next_of}
use Rattle.rules.specs.Store.{Request, Store, found, floor_of, retired}
use Rattle.rules.specs.Logged.{request_code, finished, reply_logged, logged_through}
use Rattle.rules.specs.Worklist.{Worklist, Entry, waiting, listed, can_list, first_waiting, taken_on}
use Rattle.rules.specs.Worklist.{added, took_first, without, restarted}
use Rattle.rules.specs.Calls.{code_by, Agent, State, done, Outcome, arrive, again, through_block, turn_on, turn_in, takes}
use Rattle.rules.specs.Calls.{Call, arrival, retry, turn, crash, restart, order, list_add, list_take, list_done, retire, stopped}
use Rattle.rules.specs.Calls.{can_done, can_retire, refusal, rule, unless, call, History, state_after, answer_to}
use Rattle.rules.specs.Plain.{Reply, Machine, Tallies, with_answer, replies_of, events_after, machine_after, tallies_after, replies_after}
use Rattle.rules.specs.Retired.{floor_after}
use Rattle.rules.specs.Listed.{worked_out, work_after, TakenOff, Listing, Reading}
use Rattle.questions.proofs.Tests.{no_yes, and_right}
use Rattle.questions.proofs.Updates.{none_some, false_true, eqb_cases}
use Rattle.questions.proofs.Questions.{ask_none}
use Rattle.rules.proofs.Replies.{reply_to}
use Rattle.rules.proofs.Logged.{ends_once, logged_ends, logged_stays}
use Rattle.rules.proofs.Invariant.{followed, Progress, underway, over, Counterpart, Remains, Inv}
use Rattle.rules.proofs.ByFeed.{Kind, an_arrival, a_retry, a_turn, a_retire, an_idle, kind}
use Rattle.rules.proofs.Retire.{retired_unlisted}
use Rattle.rules.proofs.Changes.{Change, same, books, writes, retires, change, change_stays, AboveFor, Gone, Stays, stays_here}
use Rattle.rules.proofs.Changes.{booking_remains, retired_remains}
use Rattle.rules.proofs.Theorem.{invariant}
use Rattle.rules.proofs.Worklists.{SameOrNot, listed_added, added_listed, listed_took, listed_restarted, listed_without}
use Rattle.rules.proofs.Worklists.{without_listed, Right, is_right, right_added, right_took, right_without, right_restarted}
use Rattle.rules.proofs.Worklists.{restarted_is, waits_all}

-- what is there
is_some_lem : {A : Type 0} (o : Option A) → is_some o ≡ true → (x : A) × (o ≡ some x)
is_some_lem none e = no_yes e
is_some_lem (some x) e = (x, refl)

-- ── What a call does to the worklist ──

-- Nothing, what restart does, or what an add, a take or a done does, each with what was asked of it. (An add leaves the book.)
pub data Relisted (pack : Pack) (s : State) (c : Call) (o : Outcome) : Type 0 where
  as_it_was : o.state.work ≡ s.work → Relisted pack s c o
  restarts : o.state.work ≡ restarted s.work → Relisted pack s c o
  adds : (id : ℕ) → can_list id s.work ≡ true → is_some (o.state.store.book id) ≡ true → o.state.work ≡ added id s.work →
      Relisted pack s c o
  takes_one : o.state.work ≡ took_first s.work → Relisted pack s c o
  removes : (id : ℕ) → c ≡ list_done id → o.answer ≡ done → logged_through pack s.store.log id (s.store.book id) ≡ true →
      o.state.work ≡ without id s.work → Relisted pack s c o

module _ (pack : Pack) (s : State) where
  -- arrival, retry and turn leave the worklist
  work_of_arrive : (slot id : ℕ) (q : Request) (o : Option Request) → (arrive s slot id q o).state.work ≡ s.work
  unfolding arrive
  work_of_arrive slot id q none = refl
  work_of_arrive slot id q (some known) = refl

  work_of_again : (slot id : ℕ) (o : Option Request) → (again s slot id o).state.work ≡ s.work
  unfolding again
  work_of_again slot id none = refl
  work_of_again slot id (some known) = refl

  work_of_turn : (slot : ℕ) (o : Option Agent) → (turn_in pack s slot o).state.work ≡ s.work
  unfolding turn_in turn_on through_block
  work_of_turn slot none = refl
  work_of_turn slot (some a) =
      on (code_by pack (s.store.book a.id)) (next_of (code_by pack (s.store.book a.id)) a.course)
    where
      through : (code : Code) (from : Place) (p : ℕ) (onto : Result → Course) (o : Option Result) →
          (through_block s slot a code from p onto o).state.work ≡ s.work
      through code from p onto none = refl
      through code from p onto (some r) = refl

      on : (code : Code) (x : Next) → (turn_on s slot a code x).state.work ≡ s.work
      on code (goes to) = refl
      on code (says r) = refl
      on code (does from p onto) = through code from p onto (found s.store.log p a.id a.step)

  -- a take, by the first waiting id
  by_take : (o : Option ℕ) → Relisted pack s list_take (takes s o)
  unfolding takes
  by_take none = as_it_was refl
  by_take (some id) = takes_one refl

  -- each call, when no question says no
  pub relisted : (c : Call) → refusal pack s c ≡ none → Relisted pack s c (rule pack s c)
  unfolding refusal rule can_done
  relisted (arrival slot id w args) allow =
      as_it_was (work_of_arrive slot id (record { workflow = w; arguments = args }) (s.store.book id))
  relisted (retry slot id) allow = as_it_was (work_of_again slot id (s.store.book id))
  relisted (turn slot) allow = as_it_was (work_of_turn slot (s.slots slot))
  relisted (crash slot) allow = as_it_was refl
  relisted restart allow = restarts refl
  relisted order allow = as_it_was refl
  relisted (list_add id) allow =
      let behind_25 = (ask_none _ _ _ allow).1 in
      let behind_26 = ask_none _ _ _ behind_25 in
      adds id behind_26.0 (ask_none _ _ _ behind_26.1).0 refl
  relisted list_take allow = by_take (first_waiting s.work)
  relisted (list_done id) allow =
      removes id refl refl (and_right (taken_on id s.work) _ (ask_none _ _ _ (ask_none _ _ _ allow).1).0) refl
  relisted (retire floor) allow = as_it_was refl
  relisted (stopped n) allow = as_it_was refl

  -- a refused call too
  pub call_relisted : (c : Call) → Relisted pack s c (call pack s c)
  unfolding call unless
  call_relisted c = go (refusal pack s c) refl
    where
      go : (o : Option No) → refusal pack s c ≡ o → Relisted pack s c (unless o s (rule pack s c))
      go none e = relisted c e
      go (some n) e = as_it_was refl

  -- A listed request stays listed, or the call is its done, and its reply can be worked out from the log.
  abbrev pub StaysListed : (id : ℕ) → Call → Outcome → Type 0
  StaysListed id c o = (listed id o.state.work ≡ true)
      ⊎ ((c ≡ list_done id) × (o.answer ≡ done) × (v : Result) × (worked_out pack s id ≡ some v))

  module _ (c : Call) (o : Outcome) where
    -- done removes an id only when its log leads through; no other call removes one
    pub stays_listed : Relisted pack s c o → (id : ℕ) → listed id s.work ≡ true → StaysListed id c o
    stays_listed (as_it_was e) id h = inl (ap (listed id) e ∙ h)
    stays_listed (restarts e) id h = inl (ap (listed id) e ∙ listed_restarted id s.work ∙ h)
    stays_listed (adds j can known e) id h = inl (ap (listed id) e ∙ listed_added j id s.work h)
    stays_listed (takes_one e) id h = inl (ap (listed id) e ∙ listed_took id s.work ∙ h)
    stays_listed (removes j is answers through e) id h = go (eqb_cases id j)
      where
        go : SameOrNot id j → StaysListed id c o
        go (inl k) =
            let v = is_some_lem (worked_out pack s j) through in
            inr (is ∙ ap list_done (sym k.0), answers, v.0, ap (worked_out pack s) k.0 ∙ v.1)
        go (inr k) = inl (ap (listed id) e ∙ listed_without j id s.work k.0 ∙ h)

    -- a list that passes 25 still does
    pub stays_right : Relisted pack s c o → Right s.work → Right o.state.work
    stays_right (as_it_was e) r = subst Right (sym e) r
    stays_right (restarts e) r = subst Right (sym e) (right_restarted s.work r)
    stays_right (adds j can known e) r = subst Right (sym e) (right_added j s.work r can)
    stays_right (takes_one e) r = subst Right (sym e) (right_took s.work r)
    stays_right (removes j is answers through e) r = subst Right (sym e) (right_without j s.work r)

    -- who is listed after a call was listed, or is booked
    pub was_listed : Relisted pack s c o → (id : ℕ) → listed id o.state.work ≡ true →
        (listed id s.work ≡ true) ⊎ (is_some (o.state.store.book id) ≡ true)
    was_listed (as_it_was e) id h = inl (ap (listed id) (sym e) ∙ h)
    was_listed (restarts e) id h = inl (sym (listed_restarted id s.work) ∙ ap (listed id) (sym e) ∙ h)
    was_listed (adds j can known e) id h = go (added_listed j id s.work (ap (listed id) (sym e) ∙ h))
      where
        go : (listed id s.work ≡ true) ⊎ (id ≡ j) → (listed id s.work ≡ true) ⊎ (is_some (o.state.store.book id) ≡ true)
        go (inl k) = inl k
        go (inr k) = inr (ap (λ i. is_some (o.state.store.book i)) k ∙ known)
    was_listed (takes_one e) id h = inl (sym (listed_took id s.work) ∙ ap (listed id) (sym e) ∙ h)
    was_listed (removes j is answers through e) id h = inl (without_listed j id s.work (ap (listed id) (sym e) ∙ h))

  -- the same of a call, accepted or refused
  module _ (c : Call) where
    abbrev after : Worklist
    after = (call pack s c).state.work

    pub call_stays : (id : ℕ) → listed id s.work ≡ true → StaysListed id c (call pack s c)
    call_stays = stays_listed c (call pack s c) (call_relisted c)

    pub call_right : Right s.work → Right after
    call_right = stays_right c (call pack s c) (call_relisted c)

    pub call_was : (id : ℕ) → listed id after ≡ true →
        (listed id s.work ≡ true) ⊎ (is_some ((call pack s c).state.store.book id) ≡ true)
    call_was = was_listed c (call pack s c) (call_relisted c)

-- ── What a call does to what is booked and logged ──

module _ (pack : Pack) (s : State) where
  -- a booked request stays booked and its log rows stay, or it is retired
  pub booked_stays : (c : Call) → AboveFor c s.store → Stays s.store (call pack s c).state.store
  unfolding call unless
  booked_stays c above = go (refusal pack s c) refl
    where
      go : (o : Option No) → refusal pack s c ≡ o → Stays s.store (unless o s (rule pack s c)).state.store
      go none e = change_stays pack s c (rule pack s c).state.store above (change pack s c e)
      go (some n) e = stays_here s.store

  -- a listed request isn't retired, by 28
  pub listed_remains : (c : Call) (s' : Store) → Change pack s c s' → (id : ℕ) → listed id s.work ≡ true →
      (q : Request) → s.store.book id ≡ some q → s'.book id ≡ some q
  listed_remains c s' ch id on q h = go ch
    where
      kept : (floor : ℕ) → each floor (λ j. can_retire pack s j (s.store.book j)) ≡ true → (b : Bool) → ltb id floor ≡ b →
          (retired s.store floor).book id ≡ some q
      kept floor all true l = false_true (retired_unlisted pack s floor all id q (ltb-true id floor l) h) on
      kept floor all false l = (retired_remains s.store floor id (nltb→le id floor (rw l tt)) q h).0

      go : Change pack s c s' → s'.book id ≡ some q
      go (same e) = ap (λ (x : Store). x.book id) e ∙ h
      go (books slot j w is new l e) = ap (λ (x : Store). x.book id) e ∙ (booking_remains s.store j w new id q h).0
      go (writes slot a from p onto held next absent e) = ap (λ (x : Store). x.book id) e ∙ h
      go (retires floor is all some_booked e) = ap (λ (x : Store). x.book id) e ∙ kept floor all (ltb id floor) refl

  -- the same of a call, accepted or refused
  pub call_remains : (c : Call) (id : ℕ) → listed id s.work ≡ true →
      (q : Request) → s.store.book id ≡ some q → (call pack s c).state.store.book id ≡ some q
  unfolding call unless
  call_remains c id on q h = go (refusal pack s c) refl
    where
      go : (o : Option No) → refusal pack s c ≡ o → (unless o s (rule pack s c)).state.store.book id ≡ some q
      go none e = listed_remains c (rule pack s c).state.store (change pack s c e) id on q h
      go (some n) e = h

-- the request of a reply that can be worked out is booked
pub worked_booked : (pack : Pack) (s : State) (id : ℕ) (v : Result) → worked_out pack s id ≡ some v →
    (q : Request) × (s.store.book id ≡ some q)
unfolding reply_logged
worked_booked pack s id v e = go (s.store.book id) refl e
  where
    go : (o : Option Request) → s.store.book id ≡ o → reply_logged pack s.store.log id o ≡ some v →
        (q : Request) × (s.store.book id ≡ some q)
    go none b h = none_some v refl h
    go (some q) b h = (q, b)

-- what can be worked out still can, or its request has been retired
pub worked_stays : (pack : Pack) (s s' : State) → Stays s.store s'.store → (id : ℕ) (v : Result) → worked_out pack s id ≡ some v →
    (worked_out pack s' id ≡ some v) ⊎ (id < floor_of s'.store)
worked_stays pack s s' on id v e = go (on.remains id) (worked_booked pack s id v e)
  where
    go : Remains s.store.log s'.store.log s.store.book s'.store.book id ⊎ Gone s'.store id →
        (q : Request) × (s.store.book id ≡ some q) → (worked_out pack s' id ≡ some v) ⊎ (id < floor_of s'.store)
    go (inr g) b = inr g.0
    go (inl h) b =
        let k = h b.0 b.1 in
        inl (ap (reply_logged pack s'.store.log id) k.0
        ∙ logged_stays pack s.store.log s'.store.log id b.0 v k.1
        (ap (reply_logged pack s.store.log id) (sym b.1) ∙ e))

-- and it is each reply that was given
module _ (pack : Pack) (s : State) (m : Machine) (t : Tallies) (rs : List Reply) (inv : Inv pack s m t rs) where
  pub worked_is_reply : (id : ℕ) (v : Result) → worked_out pack s id ≡ some v → (r : Reply) → Memᴰ r rs → r.id ≡ id → r.value ≡ v
  worked_is_reply id v e r h p = go g.progress
    where
      b : (q : Request) × (s.store.book id ≡ some q)
      b = worked_booked pack s id v e

      g : Counterpart pack s.store.log m.runs m.replies id b.0
      g = inv.core.counterpart id b.0 b.1

      given_is : reply_to id m.replies ≡ some r.value
      given_is = ap (λ j. reply_to j m.replies) (sym p) ∙ inv.core.settled r h

      go : Progress pack s.store.log m.replies id g.run → r.value ≡ v
      go (underway step f free none_yet) = none_some r.value none_yet given_is
      go (over w f w_is) =
          some-injective r.value w (sym given_is ∙ w_is)
          ∙ ends_once s.store.log id (request_code pack b.0) b.0 w v (
            g.run.move_count,
            subst (λ x. followed pack s.store.log id x g.run.move_count ≡ some (finished w)) g.request_is f,
          )
          (logged_ends pack s.store.log id b.0 v (ap (reply_logged pack s.store.log id) (sym b.1) ∙ e))

  -- no reply to an id below the floor is added: an agent's request is booked, and no booked id is below the floor
  module _ (slot : ℕ) (a : Agent) (held : s.slots slot ≡ some a) (r : Reply) where
    through_adds : (code : Code) (from : Place) (p : ℕ) (onto : Result → Course) (o : Option Result) →
        Memᴰ r (with_answer (through_block s slot a code from p onto o).answer rs) → Memᴰ r rs
    unfolding through_block
    through_adds code from p onto none h = h
    through_adds code from p onto (some w) h = h

    turn_adds : (code : Code) (x : Next) → Memᴰ r (with_answer (turn_on s slot a code x).answer rs) →
        r.id < floor_of (turn_on s slot a code x).state.store → Memᴰ r rs
    unfolding turn_on
    turn_adds code (goes to) h l = h
    turn_adds code (does from p onto) h l = through_adds code from p onto (found s.store.log p a.id a.step) h
    turn_adds code (says v) h l = go (Memᴰ.cases_cons h)
      where
        go : (r ≡ record { id = a.id; value = v }) ⊎ Memᴰ r rs → Memᴰ r rs
        go (inl e) =
            let live = inv.slots slot a held in
            let up = inv.core.above a.id live.run.request live.book_is in
            absurd (omega (arith, up, l, ap (λ (x : Reply). x.id) e))
        go (inr m) = m

  pub rule_adds : (c : Call) (r : Reply) → Memᴰ r (with_answer (rule pack s c).answer rs) →
      r.id < floor_of (rule pack s c).state.store → Memᴰ r rs
  unfolding rule arrive again turn_in
  rule_adds c r h l = by_kind c (kind pack s c) h l
    where
      arrived : (slot id : ℕ) (q : Request) (o : Option Request) →
          Memᴰ r (with_answer (arrive s slot id q o).answer rs) → Memᴰ r rs
      arrived slot id q none h = h
      arrived slot id q (some known) h = h

      retried : (slot id : ℕ) (o : Option Request) → Memᴰ r (with_answer (again s slot id o).answer rs) → Memᴰ r rs
      retried slot id none h = h
      retried slot id (some known) h = h

      turned : (slot : ℕ) (o : Option Agent) → s.slots slot ≡ o → Memᴰ r (with_answer (turn_in pack s slot o).answer rs) →
          r.id < floor_of (turn_in pack s slot o).state.store → Memᴰ r rs
      turned slot none e h l = h
      turned slot (some a) e h l =
          turn_adds slot a e r (code_by pack (s.store.book a.id)) (next_of (code_by pack (s.store.book a.id)) a.course) h l

      by_kind : (c : Call) → Kind pack s c → Memᴰ r (with_answer (rule pack s c).answer rs) →
          r.id < floor_of (rule pack s c).state.store → Memᴰ r rs
      by_kind c (an_arrival slot id w args) h l = arrived slot id (record { workflow = w; arguments = args }) (s.store.book id) h
      by_kind c (a_retry slot id) h l = retried slot id (s.store.book id) h
      by_kind c (a_turn slot) h l = turned slot (s.slots slot) refl h l
      by_kind c (a_retire floor) h l = h
      by_kind c (an_idle _ i) h l = subst (λ (x : List Reply). Memᴰ r x) (i.no_reply rs) h

  -- the same of a call, accepted or refused
  pub call_adds : (c : Call) (r : Reply) → Memᴰ r (with_answer (call pack s c).answer rs) →
      r.id < floor_of (call pack s c).state.store → Memᴰ r rs
  unfolding call unless
  call_adds c r = go (refusal pack s c)
    where
      go : (o : Option No) → Memᴰ r (with_answer (unless o s (rule pack s c)).answer rs) →
          r.id < floor_of (unless o s (rule pack s c)).state.store → Memᴰ r rs
      go none h l = rule_adds c r h l
      go (some n) h l = h

-- ── After each list of calls ──

module _ (pack : Pack) (room : ℕ) where
  abbrev at : History → State
  at calls = state_after pack room calls

  -- 25 never says no
  list_right : (calls : History) → Right (work_after pack room calls)
  unfolding state_after
  list_right [] = record { few = omega arith; once = refl; marked = refl }
  list_right (c ∷ calls) = call_right pack (at calls) c (list_right calls)

  -- an id is booked
  abbrev Booked : State → (id : ℕ) → Type 0
  Booked s id = (q : Request) × (s.store.book id ≡ some q)

  -- a listed request is in the book
  list_booked : (calls : History) (id : ℕ) → listed id (work_after pack room calls) ≡ true → Booked (at calls) id
  unfolding state_after
  list_booked [] id h = no_yes h
  list_booked (c ∷ calls) id h = go (call_was pack (at calls) c id h) (list_booked calls id)
    where
      go : (listed id (at calls).work ≡ true) ⊎ (is_some ((call pack (at calls) c).state.store.book id) ≡ true) →
          (listed id (at calls).work ≡ true → Booked (at calls) id) → Booked (call pack (at calls) c).state id
      go (inl l) rec = let b = rec l in (b.0, call_remains pack (at calls) c id l b.0 b.1)
      go (inr l) rec = is_some_lem ((call pack (at calls) c).state.store.book id) l

  -- what a restart leaves of the list: all waiting, the ids as before
  restart_list : (calls : History) → work_after pack room (restart ∷ calls) ≡ restarted (work_after pack room calls)
  unfolding state_after call unless refusal rule
  restart_list calls = refl

  list_waits : (calls : History) (e : Entry) → Memᴰ e (work_after pack room (restart ∷ calls)) → e.mark ≡ waiting
  list_waits calls e h =
      waits_all (at calls).work e
      (subst (λ (l : Worklist). Memᴰ e l) (restart_list calls ∙ restarted_is (at calls).work (list_right calls)) h)

  same_ids : (calls : History) (id : ℕ) → listed id (work_after pack room (restart ∷ calls)) ≡ listed id (work_after pack room calls)
  same_ids calls id = ap (listed id) (restart_list calls) ∙ listed_restarted id (at calls).work

  -- ── What can be worked out from the log ──

  module _ (id : ℕ) (v : Result) where
    -- each reply that was given to the id is this
    abbrev EachIs : History → Type 0
    EachIs calls = (r : Reply) → Memᴰ r (replies_after pack room calls) → r.id ≡ id → r.value ≡ v

    -- it can be worked out, or the request has been retired
    abbrev Still : History → Type 0
    Still calls = (worked_out pack (at calls) id ≡ some v) ⊎ (id < floor_after pack room calls)

    -- what can be worked out is each reply that was given
    worked_reply : (calls : History) → worked_out pack (at calls) id ≡ some v → EachIs calls
    worked_reply calls worked =
        worked_is_reply pack (at calls) (machine_after pack room calls) (tallies_after pack room calls) (replies_after pack room calls)
        (invariant pack room calls) id v worked

    -- one call more
    module _ (calls : History) (c : Call) where
      stays : Stays (at calls).store (call pack (at calls) c).state.store
      stays = booked_stays pack (at calls) c (λ floor e. (invariant pack room calls).core.above)

      still_on : Still calls → Still (c ∷ calls)
      unfolding state_after
      still_on (inl w) = worked_stays pack (at calls) (call pack (at calls) c).state stays id v w
      still_on (inr l) = let up = stays.rises in inr (omega arith)

      -- it is still each reply that was given
      each_on : EachIs calls → Still (c ∷ calls) → EachIs (c ∷ calls)
      unfolding state_after events_after replies_of
      each_on known (inl w) = worked_reply (c ∷ calls) w
      each_on known (inr l) =
          λ r h e.
          known r
          (call_adds pack (at calls) (machine_after pack room calls) (tallies_after pack room calls) (replies_after pack room calls)
          (invariant pack room calls) c r h (omega (arith, l, e))) e

    worked_still : (calls later : History) → Still calls → Still (later ++ calls)
    worked_still calls [] w = w
    worked_still calls (c ∷ later) w = still_on (later ++ calls) c (worked_still calls later w)

  -- ── No listed request vanishes ──

  module _ (before : History) (id : ℕ) (was : listed id (work_after pack room before) ≡ true) where
    -- a request that was listed still is, or was taken off
    abbrev Fate : (later : History) → Type 0
    Fate later = (listed id (work_after pack room (later ++ before)) ≡ true) ⊎ TakenOff pack room before later id

    -- the latest call takes it off
    taken_off : (later : History) (c : Call) → StaysListed pack (at (later ++ before)) id c (call pack (at (later ++ before)) c) →
        Fate (c ∷ later)
    unfolding state_after
    taken_off later c (inl h) = inl h
    taken_off later c (inr h) =
        let v = h.2 in
        let still = still_on id v (later ++ before) c (inl h.3) in
        inr
        (record {
          since = [];
          upto = later;
          split = ap (λ x. x ∷ later) h.0;
          accepted = ap (answer_to pack room (later ++ before)) (sym h.0) ∙ h.1;
          value = v;
          is_worked_out = h.3;
          still = still;
          is_reply = each_on id v (later ++ before) c (worked_reply id v (later ++ before) h.3) still;
        })

    -- it was taken off before the latest call
    was_off : (later : History) (c : Call) → TakenOff pack room before later id → TakenOff pack room before (c ∷ later) id
    was_off later c o =
        let still = still_on id o.value (later ++ before) c o.still in
        record {
          since = c ∷ o.since;
          upto = o.upto;
          split = ap (λ l. c ∷ l) o.split;
          accepted = o.accepted;
          value = o.value;
          is_worked_out = o.is_worked_out;
          still = still;
          is_reply = each_on id o.value (later ++ before) c o.is_reply still;
        }

    fate : (later : History) → Fate later
    fate [] = inl was
    fate (c ∷ later) = go (fate later)
      where
        go : Fate later → Fate (c ∷ later)
        go (inl h) = taken_off later c (call_stays pack (at (later ++ before)) c id h)
        go (inr o) = inr (was_off later c o)

-- The theorem.
pub listing : (pack : Pack) (room : ℕ) (calls : History) → Listing pack room calls
listing pack room calls =
    record {
      right = is_right (work_after pack room calls) (list_right pack room calls);
      booked = list_booked pack room calls;
      waits = list_waits pack room calls;
      same_ids = same_ids pack room calls;
      none_vanishes = λ later id h. fate pack room calls id h later;
    }

-- and what a reading call relies on
pub reading : (pack : Pack) (room : ℕ) (calls : History) → Reading pack room calls
reading pack room calls =
    record {
      worked = λ id v. worked_reply pack room id v calls;
      still = λ later id v e. worked_still pack room id v calls later (inl e);
    }
