-- An id that isn't booked and can't arrive: no agent has it, the plain machine's run of it stays as it is, and no call replies to it.
use mathlib.Core.Bool.{Bool, true, false}
use mathlib.Core.Path.{◌≡◌, refl, sym, ◌∙◌, ap, subst}
use mathlib.Core.List.{List, []}
use mathlib.Core.Option.{Option, none, some}
use Prim.Native.Nat.{ℕ, suc}
use native.Mathlib.Omega.{arith}
use lib.Dec.{ltb}
use Rattle.questions.specs.Basics.{if◌then◌otherwise◌, is_some}
use Rattle.questions.specs.Questions.{No}
use Rattle.rules.specs.Instructions.{Pack, Code, Place}
use Rattle.rules.specs.Blocks.{Result}
use Rattle.rules.specs.Courses.{Course, Next, goes, does, says, next_of}
use Rattle.rules.specs.Store.{Request, found}
use Rattle.rules.specs.Logged.{request_code}
use Rattle.rules.specs.Calls.{Call, arrival, reply, Answer, Agent, State, refusal, rule, unless, call}
use Rattle.rules.specs.Calls.{code_by, arrive, again, through_block, turn_on, turn_in}
use Rattle.rules.specs.Plain.{Reply, Run, Machine, Tally, Tallies, accepted, with_answer, Feed, nothing, feeds, feed_of}
use Rattle.rules.specs.Plain.{move_on, move, fed, fed_arrival, fed_run, fed_turn}
use Rattle.questions.proofs.Updates.{none_some, false_true, update_other}
use Rattle.questions.proofs.Questions.{ask_none}
use Rattle.rules.proofs.Invariant.{Inv}
use Rattle.rules.proofs.ByFeed.{Kind, an_arrival, a_retry, a_turn, a_retire, an_idle, kind}

-- a move of one run leaves the others
move_other : (pack : Pack) (m : Machine) (j : ℕ) (r : Run) (id : ℕ) → (id ≡ j → ⊥) → (move pack m j r).runs id ≡ m.runs id
unfolding move move_on
move_other pack m j r id n = go (next_of (request_code pack r.request) r.course)
  where
    go : (x : Next) → (move_on m j r (request_code pack r.request) x).runs id ≡ m.runs id
    go (goes to) = update_other m.runs j _ id n
    go (does from p onto) = update_other m.runs j _ id n
    go (says v) = update_other m.runs j _ id n

module _
    (pack : Pack)
    (s : State)
    (m : Machine)
    (t : Tallies)
    (rs : List Reply)
    (inv : Inv pack s m t rs)
    (id : ℕ)
    (free : s.store.book id ≡ none)
  where
    pub no_agent_lem : (slot : ℕ) (a : Agent) → s.slots slot ≡ some a → a.id ≡ id → ⊥
    no_agent_lem slot a e h =
        let live = inv.slots slot a e in
        none_some live.run.request (ap s.store.book h ∙ free) live.book_is

    -- ── What the machine is fed ──

    module _ (shut : (slot w : ℕ) (args : List ℕ) → refusal pack s (arrival slot id w args) ≡ none → ⊥) where
      fed_arrival_lem : (j : ℕ) (q : Request) (o : Option Run) → (id ≡ j → ⊥) → (fed_arrival m j q o).runs id ≡ m.runs id
      unfolding fed_arrival
      fed_arrival_lem j q none n = update_other m.runs j _ id n
      fed_arrival_lem j q (some r) n = refl

      fed_run_lem : (j k : ℕ) (o : Option Run) → (id ≡ j → ⊥) → (fed_run pack m j k o).runs id ≡ m.runs id
      unfolding fed_run
      fed_run_lem j k none n = refl
      fed_run_lem j k (some r) n = go (ltb r.move_count k)
        where
          go : (b : Bool) → (if◌then◌otherwise◌ b (move pack m j r) m).runs id ≡ m.runs id
          go true = move_other pack m j r id n
          go false = refl

      fed_turn_lem : (slot : ℕ) (o : Option Agent) → s.slots slot ≡ o → is_some o ≡ true → (fed_turn pack m (t slot)).runs id ≡ m.runs id
      unfolding fed_turn
      fed_turn_lem slot none e u = false_true refl u
      fed_turn_lem slot (some a) e u =
          ap (λ (o : Option Tally). (fed_turn pack m o).runs id) (inv.slots slot a e).tally_is
          ∙ fed_run_lem a.id (suc (inv.slots slot a e).turns) (m.runs a.id) (λ p. no_agent_lem slot a e (sym p))

      fed_same : (c : Call) → Kind pack s c → refusal pack s c ≡ none → (fed pack m t (feeds c)).runs id ≡ m.runs id
      unfolding fed refusal
      fed_same c (an_arrival slot j w args) allow =
          fed_arrival_lem j (record { workflow = w; arguments = args }) (m.runs j)
          (λ p. shut slot w args (subst (λ i. refusal pack s (arrival slot i w args) ≡ none) (sym p) allow))
      fed_same c (a_retry slot j) allow = refl
      fed_same c (a_turn slot) allow = fed_turn_lem slot (s.slots slot) refl (ask_none _ _ _ (ask_none _ _ _ allow).1).0
      fed_same c (a_retire floor) allow = refl
      fed_same c (an_idle _ i) allow = ap (λ (f : Feed). (fed pack m t f).runs id) i.feeds_none

      pub run_same : (c : Call) → (fed pack m t (feed_of (record { made = c; answer = (call pack s c).answer }))).runs id ≡ m.runs id
      unfolding call unless fed
      run_same c = go (refusal pack s c) refl
        where
          either : (b : Bool) → (fed pack m t (feeds c)).runs id ≡ m.runs id →
              (fed pack m t (if◌then◌otherwise◌ b (feeds c) nothing)).runs id ≡ m.runs id
          either true h = h
          either false h = refl

          go : (o : Option No) → refusal pack s c ≡ o →
              (fed pack m t (feed_of (record { made = c; answer = (unless o s (rule pack s c)).answer }))).runs id ≡ m.runs id
          go none e = either (accepted (rule pack s c).answer) (fed_same c (kind pack s c) e)
          go (some n) e = refl

    -- ── Whom a call replies to ──

    module _ (v : Result) where
      through_reply : (slot : ℕ) (a : Agent) (code : Code) (from : Place) (p : ℕ) (onto : Result → Course) (o : Option Result) →
          (through_block s slot a code from p onto o).answer ≡ reply id v → ⊥
      unfolding through_block
      through_reply slot a code from p onto none g = absurd (let z : ◌≡◌ {A = ℕ} 0 1 = cc in omega arith)
      through_reply slot a code from p onto (some w) g = absurd (let z : ◌≡◌ {A = ℕ} 0 1 = cc in omega arith)

      turn_reply : (slot : ℕ) (a : Agent) → s.slots slot ≡ some a → (code : Code) (x : Next) →
          (turn_on s slot a code x).answer ≡ reply id v → ⊥
      unfolding turn_on
      turn_reply slot a e code (says w) g = no_agent_lem slot a e cc
      turn_reply slot a e code (does from p onto) g =
          through_reply slot a code from p onto (found s.store.log p a.id a.step) g
      turn_reply slot a e code (goes to) g = absurd (let z : ◌≡◌ {A = ℕ} 0 1 = cc in omega arith)

      slot_reply : (slot : ℕ) (o : Option Agent) → s.slots slot ≡ o → (turn_in pack s slot o).answer ≡ reply id v → ⊥
      unfolding turn_in
      slot_reply slot none e g = absurd (let z : ◌≡◌ {A = ℕ} 0 1 = cc in omega arith)
      slot_reply slot (some a) e g =
          turn_reply slot a e (code_by pack (s.store.book a.id)) (next_of (code_by pack (s.store.book a.id)) a.course) g

      arrive_reply : (slot j : ℕ) (q : Request) (o : Option Request) → (arrive s slot j q o).answer ≡ reply id v → ⊥
      unfolding arrive
      arrive_reply slot j q none g = absurd (let z : ◌≡◌ {A = ℕ} 0 1 = cc in omega arith)
      arrive_reply slot j q (some known) g = absurd (let z : ◌≡◌ {A = ℕ} 0 1 = cc in omega arith)

      again_reply : (slot j : ℕ) (o : Option Request) → (again s slot j o).answer ≡ reply id v → ⊥
      unfolding again
      again_reply slot j none g = absurd (let z : ◌≡◌ {A = ℕ} 0 1 = cc in omega arith)
      again_reply slot j (some known) g = absurd (let z : ◌≡◌ {A = ℕ} 0 1 = cc in omega arith)

      rule_reply : (c : Call) → Kind pack s c → (rule pack s c).answer ≡ reply id v → ⊥
      unfolding rule
      rule_reply c (an_arrival slot j w args) g = arrive_reply slot j (record { workflow = w; arguments = args }) (s.store.book j) g
      rule_reply c (a_retry slot j) g = again_reply slot j (s.store.book j) g
      rule_reply c (a_turn slot) g = slot_reply slot (s.slots slot) refl g
      rule_reply c (a_retire floor) g = absurd (let z : ◌≡◌ {A = ℕ} 0 1 = cc in omega arith)
      rule_reply c (an_idle _ i) g =
          let e = ap (λ (x : Answer). with_answer x []) (sym g) ∙ i.no_reply [] in
          absurd (let z : ◌≡◌ {A = ℕ} 0 1 = cc in omega arith)

      pub no_reply_to : (c : Call) → (call pack s c).answer ≡ reply id v → ⊥
      unfolding call unless
      no_reply_to c g = go (refusal pack s c) g
        where
          go : (o : Option No) → (unless o s (rule pack s c)).answer ≡ reply id v → ⊥
          go none h = rule_reply c (kind pack s c) h
          go (some n) h = absurd (let z : ◌≡◌ {A = ℕ} 0 1 = cc in omega arith)
