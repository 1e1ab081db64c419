-- Demand 3: the runtime is the plain machine.
use mathlib.Core.Bool.{Bool, true, false}
use mathlib.Core.Logic.{◌⊎◌, inl, inr}
use mathlib.Core.Path.{◌≡◌, refl, sym, ◌∙◌, ap, subst}
use mathlib.Core.List.Memᴰ
use mathlib.Core.List.{List, [], ◌∷◌, reverse, Memᴰ}
use mathlib.Core.Option.{Option, none, some, some-injective}
use Prim.Native.Nat.{ℕ, suc, ◌<◌}
use borrow.Author.Tests.{ltb-true}
use lib.Dec.{ltb, nltb→le}
use lib.ListN.{length}
use Rattle.questions.specs.Basics.{is_some}
use Rattle.questions.specs.Questions.{No}
use Rattle.rules.specs.Instructions.{Pack}
use Rattle.rules.specs.Store.{Request, Log}
use Rattle.rules.specs.Logged.{request_code, reply_logged}
use Rattle.rules.specs.Calls.{State, Agent, Outcome, refusal, rule, unless, turn_in, turn, call, History, state_after}
use Rattle.rules.specs.Plain.{Reply, Run, Machine, Tallies, accepted, Feed, tallied, tallies_of, machine_of, replies_of, first_replies}
use Rattle.rules.specs.Plain.{events_after, tallies_after, machine_after, replies_after}
use Rattle.rules.specs.Checked.{Checked, CheckedPack}
use Rattle.rules.specs.Retired.{floor_after}
use Rattle.rules.specs.Demand3.{InTime, PlainRun, Demand3, SoundAgent}
use Rattle.questions.proofs.Updates.{none_some, false_true, update_same}
use Rattle.rules.proofs.Replies.{reply_to}
use Rattle.rules.proofs.Invariant.{Progress, underway, over, Live, Inv}
use Rattle.rules.proofs.Logged.{ends_logged}
use Rattle.rules.proofs.Stands.{turn_is, turn_counted, turns_at_most, last_replies}
use Rattle.rules.proofs.Turn.{live_stands, tally_of}
use Rattle.questions.proofs.Questions.{ask_none}
use Rattle.rules.proofs.Calls.{feed_accepted, call_keeps}
use Rattle.rules.proofs.Positions.{follow_position}

-- The invariant holds after each list of calls.
pub invariant : (pack : Pack) (room : ℕ) (calls : History) →
    Inv pack (state_after pack room calls) (machine_after pack room calls) (tallies_after pack room calls) (replies_after pack room calls)
unfolding state_after events_after machine_of tallies_of replies_of first_replies
invariant pack room [] =
    record {
      core =
          record {
            tables = refl;
            counterpart = λ id q e. none_some q refl e;
            valid = λ id q e. none_some q refl e;
            above = λ id q e. none_some q refl e;
            unbooked = λ id l e. refl;
            unlogged = λ id e p t. refl;
            unreplied = λ id e. refl;
            settled = λ r h. absurd (Memᴰ.not-nil h);
            firsts = refl;
          };
      slots = λ slot a e. none_some a refl e;
      eight = λ slot a e. none_some a refl e;
    }
invariant pack room (c ∷ before) =
    (call_keeps pack (state_after pack room before) (machine_after pack room before) (tallies_after pack room before)
    (replies_after pack room before)
    (invariant pack room before) c).kept

-- An accepted turn is one of an agent, and the last that its workflow's size allows is a reply.
module _ (pack : Pack) (checked : CheckedPack pack) (room : ℕ) (calls : History) (slot : ℕ) where
  abbrev s : State
  s = state_after pack room calls

  abbrev m : Machine
  m = machine_after pack room calls

  abbrev t : Tallies
  t = tallies_after pack room calls

  abbrev rs : List Reply
  rs = replies_after pack room calls

  live_in_time : (a : Agent) → s.slots slot ≡ some a → (live : Live pack s.store.log s.store.book m.runs (t slot) a) →
      (call pack s (turn slot)).answer ≡ (turn_in pack s slot (some a)).answer →
      accepted (call pack s (turn slot)).answer ≡ true → InTime pack room calls slot
  unfolding events_after tallies_of
  live_in_time a held live same allow =
      let inv = invariant pack room calls in
      let own = live.book_is in
      let c = checked live.run.request.workflow (inv.core.valid a.id live.run.request own) in
      let st = live_stands pack s m t rs inv slot (inv.eight slot a held) a live in
      record {
        agent = a;
        turns = suc live.turns;
        request = live.run.request;
        in_slot = held;
        counted =
            ap (λ (f : Feed). tallied t f slot) (feed_accepted (turn slot) (call pack s (turn slot)).answer allow)
            ∙ ap (λ (f : Tallies). f slot) (turn_counted pack s t slot a st)
            ∙ update_same t slot (tally_of a.id (suc live.turns));
        booked = own;
        at_most = turns_at_most pack s t slot a st c;
        last =
            λ e.
            let l = last_replies pack s t slot a st c e in
            (l.0, same ∙ ap (λ (o : Outcome). o.answer) (turn_is pack s t slot a st) ∙ l.1);
      }

  turn_in_time : accepted (call pack s (turn slot)).answer ≡ true → InTime pack room calls slot
  unfolding call refusal rule unless
  turn_in_time allow = go (refusal pack s (turn slot)) refl
    where
      held : (o : Option Agent) → s.slots slot ≡ o → is_some o ≡ true → refusal pack s (turn slot) ≡ none → InTime pack room calls slot
      held none e u q = false_true refl u
      held (some a) e u q =
          live_in_time a e ((invariant pack room calls).slots slot a e)
          (ap (λ (o : Option No). (unless o s (rule pack s (turn slot))).answer) q
          ∙ ap (λ (o : Option Agent). (turn_in pack s slot o).answer) e) allow

      go : (o : Option No) → refusal pack s (turn slot) ≡ o → InTime pack room calls slot
      go none q = held (s.slots slot) refl (ask_none _ _ _ (ask_none _ _ _ q).1).0 q
      go (some n) q = false_true refl (ap (λ (o : Option No). accepted (unless o s (rule pack s (turn slot))).answer) (sym q) ∙ allow)

-- Rows, replies and equal replies: for any pack, checked or not.
module _ (pack : Pack) (room : ℕ) (calls : History) where
  pub rows_are : (p k : ℕ) → (state_after pack room calls).store.rows p k ≡ (machine_after pack room calls).tables p k
  rows_are p k = ap (λ (T : ℕ → ℕ → Option ℕ). T p k) (invariant pack room calls).core.tables

  pub replies_are : first_replies (replies_after pack room calls) ≡ (machine_after pack room calls).replies
  replies_are = (invariant pack room calls).core.firsts

  pub equal_are : (r r' : Reply) → Memᴰ r (replies_after pack room calls) → Memᴰ r' (replies_after pack room calls) →
      r.id ≡ r'.id → r.value ≡ r'.value
  equal_are r r' h h' e =
      let m = machine_after pack room calls in
      let inv = invariant pack room calls in
      some-injective r.value r'.value
      (sym (inv.core.settled r h) ∙ ap (λ j. reply_to j m.replies) e ∙ inv.core.settled r' h')

-- The theorem.
pub plain_run : (pack : Pack) → CheckedPack pack → (room : ℕ) (calls : History) → PlainRun pack room calls
plain_run pack checked room calls =
    record {
      rows = rows_are pack room calls;
      replies = replies_are pack room calls;
      equal = equal_are pack room calls;
      in_time = turn_in_time pack checked room calls;
    }

pub demand3 : Demand3
demand3 pack checked room calls = plain_run pack checked room (reverse calls)

-- Each reply that was given can be worked out from the log, or its id is below the floor (W-209): as long as its request is in the book,
-- the log leads through to it.
module _ (pack : Pack) (room : ℕ) (calls : History) (r : Reply) (given : Memᴰ r (replies_after pack room calls)) where
  abbrev log : Log
  log = (state_after pack room calls).store.log

  booked_logged : CheckedPack pack → (q : Request) → (state_after pack room calls).store.book r.id ≡ some q →
      reply_logged pack log r.id (some q) ≡ some r.value
  booked_logged checked q e =
      let inv = invariant pack room calls in
      let g = inv.core.counterpart r.id q e in
      subst (λ x. reply_logged pack log r.id (some x) ≡ some r.value) g.request_is
      (go g.run (subst (λ (x : Request). Checked (request_code pack x)) (sym g.request_is)
      (checked q.workflow (inv.core.valid r.id q e))) g.progress
      (inv.core.settled r given))
    where
      go : (run : Run) → Checked (request_code pack run.request) →
          Progress pack log (machine_after pack room calls).replies r.id run →
          reply_to r.id (machine_after pack room calls).replies ≡ some r.value →
          reply_logged pack log r.id (some run.request) ≡ some r.value
      go run c (underway t f free not_yet) is = none_some r.value not_yet is
      go run c (over v f first) is = ends_logged pack log r.id run.request v c (run.move_count, f) ∙ sym first ∙ is

  pub replied_logged : ((q : Request) → (state_after pack room calls).store.book r.id ≡ some q → CheckedPack pack) →
      (reply_logged pack log r.id ((state_after pack room calls).store.book r.id) ≡ some r.value)
      ⊎ (r.id < floor_after pack room calls)
  replied_logged checked = go ((state_after pack room calls).store.book r.id) refl
    where
      -- a reply to what isn't booked was given before it was retired
      retired : (state_after pack room calls).store.book r.id ≡ none → (b : Bool) → ltb r.id (floor_after pack room calls) ≡ b →
          r.id < floor_after pack room calls
      retired e true h = ltb-true r.id (floor_after pack room calls) h
      retired e false h =
          let core = (invariant pack room calls).core in
          none_some r.value
          (core.unreplied r.id (core.unbooked r.id (nltb→le r.id (floor_after pack room calls) (rw h tt)) e))
          (core.settled r given)

      go : (o : Option Request) → (state_after pack room calls).store.book r.id ≡ o →
          (reply_logged pack log r.id o ≡ some r.value) ⊎ (r.id < floor_after pack room calls)
      go none e = inr (retired e (ltb r.id (floor_after pack room calls)) refl)
      go (some q) e = inl (booked_logged (checked q e) q e)

-- booked workflows are below m
pub booked_below_lem : (pack : Pack) (room : ℕ) (calls : History) (id : ℕ) (q : Request) →
    (state_after pack room calls).store.book id ≡ some q → q.workflow < length pack
booked_below_lem pack room calls id q e = (invariant pack room calls).core.valid id q e

-- Question 14 never says no: after each list of calls, each slot is empty or holds a sound agent.
pub sound_agents : (pack : Pack) → CheckedPack pack → (room : ℕ) (calls : History) (slot : ℕ) (a : Agent) →
    (state_after pack room calls).slots slot ≡ some a → SoundAgent pack (state_after pack room calls) a
sound_agents pack checked room calls slot a e =
    let inv = invariant pack room calls in
    let live = inv.slots slot a e in
    let book = live.book_is in
    let p =
    follow_position (request_code pack live.run.request)
    (checked live.run.request.workflow (inv.core.valid a.id live.run.request book))
    (state_after pack room calls).store.log a.id live.run.request live.turns a.course a.step live.there in
    record { request = live.run.request; booked = book; below = p.1; side = p.2; steps = p.3 }
