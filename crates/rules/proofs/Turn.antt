-- A turn keeps the invariant.
use mathlib.Core.Bool.{Bool, true, false}
use mathlib.Core.Path.{◌≡◌, refl, sym, ◌∙◌, ap, subst}
use mathlib.Core.Logic.{◌⊎◌, inl, inr}
use mathlib.Core.List.Memᴰ
use mathlib.Core.List.{List, [], ◌∷◌, ◌++◌, Memᴰ}
use mathlib.Core.Option.{Option, none, some, some-injective}
use Prim.Native.Nat.{ℕ, suc, ◌≤◌, ◌<◌}
use native.Mathlib.Omega.{arith}
use lib.Dec.{eqb, ltb, lt→ltb, ltb→lt}
use Rattle.questions.specs.Basics.{if◌then◌otherwise◌, update, is_some}
use Rattle.rules.specs.Instructions.{Code, Pack, Place}
use Rattle.rules.specs.Blocks.{Table, Result, Block, run_block}
use Rattle.rules.specs.Courses.{Course, Next, goes, does, says, next_of}
use Rattle.rules.specs.Store.{Log, Store, found, with_row, written}
use Rattle.rules.specs.Logged.{request_code, Stage, at, finished, behind}
use Rattle.rules.specs.Calls.{Agent, State, Outcome, with_slot, through_block, turn_on, turn_in, turn, with_store}
use Rattle.rules.specs.Plain.{Reply, Run, Machine, Tally, Tallies, answered, first_replies, with_answer, runs_with, move_on}
use Rattle.rules.specs.Plain.{move, feeds, fed, fed_turn, fed_run, tallied}
use Rattle.questions.proofs.Updates.{none_some, false_true, le_cases, T_true, eqb_cases, update_same}
use Rattle.rules.proofs.Follow.{Free, Same, same_here, Grows, same_grows, free_none, row_grows, row_elsewhere, row_later, row_here}
use Rattle.rules.proofs.Follow.{follow_stays, follow_below, follow_next}
use Rattle.rules.proofs.Replies.{reply_to, reply_more, reply_other, reply_new, answered_by, answered_first}
use Rattle.rules.proofs.Invariant.{followed, Progress, underway, over, Live, Inv, Remains, slots_stay, slots_set, eight_set}
use Rattle.rules.proofs.Core.{come, come_to, run_ahead, core_moved}
use Rattle.rules.proofs.Stands.{StandsByLog, turn_is, turn_counted}

-- the invariant after what a call did, with the machine and the tallies behind what it feeds; rs are the replies before it
pub record Keeps (pack : Pack) (m : Machine) (t : Tallies) (rs : List Reply) (o : Outcome) : Type 0 where
  pub kept : Inv pack o.state m t (with_answer o.answer rs)

abbrev pub tally_of : ℕ → ℕ → Option Tally
tally_of id k = some (record { id = id; turns = k })

-- ── The agent is as far on as its request has come ──

module _
    (pack : Pack)
    (s : State)
    (m : Machine)
    (t : Tallies)
    (rs : List Reply)
    (inv : Inv pack s m t rs)
    (slot id : ℕ)
    (low : slot < 8)
    (r : Run)
    (step : ℕ)
    (run_is : m.runs id ≡ some r)
    (open_at : followed pack s.store.log id r.request r.move_count ≡ some (at r.course step))
    (none_from : (p u : ℕ) → step ≤ u → Free s.store.log p id u)
    (no_reply : reply_to id m.replies ≡ none)
    (book_is : s.store.book id ≡ some r.request)
  where
    abbrev code : Code
    code = request_code pack r.request

    -- the agent's slot and the machine's run change together
    front : (s' : Store) (rs' : List Reply) (r₁ : Run) (o : Option Agent) (tables : ℕ → Table) (replies : List Reply) →
        r₁.request ≡ r.request →
        r₁.move_count ≡ suc r.move_count →
        Grows s.store.log s'.log id →
        ((p j u : ℕ) → (j ≡ id → ⊥) → Same s.store.log s'.log p j u) →
        s'.rows ≡ tables →
        s'.book ≡ s.store.book →
        s'.floor ≡ s.store.floor →
        Progress pack s'.log replies id r₁ →
        ((j : ℕ) → (j ≡ id → ⊥) → reply_to j replies ≡ reply_to j m.replies) →
        ((w : Reply) → Memᴰ w rs' → reply_to w.id replies ≡ some w.value) →
        first_replies rs' ≡ replies →
        ((a : Agent) → o ≡ some a →
        (a.id ≡ id) × (followed pack s'.log id r.request (suc r.move_count) ≡ some (at a.course a.step))) →
        Inv pack (with_slot (with_store s s') slot o)
        (record { tables = tables; runs = update m.runs id (some r₁); replies = replies })
        (update t slot (tally_of id (suc r.move_count))) rs'
    front s' rs' r₁ o tables replies request_is moved_is grows apart same_rows same_book same_floor progress others settled firsts agent =
        record {
          core =
              core_moved pack s.store s' m rs rs' inv.core id r r₁ run_is request_is further apart
              tables replies same_rows same_book same_floor progress others settled firsts;
          slots =
              slots_set pack s'.log s'.book runs' t s.slots
              (slots_stay pack s.store.log s'.log s.store.book s'.book m.runs runs'
              (run_ahead pack s.store s' m rs rs' inv.core id r r₁ run_is request_is further apart)
              t s.slots (λ j a e. remains a.id) inv.slots)
              slot (tally_of id (suc r.move_count)) o
              (λ a e.
              let h = agent a e in
              record {
                run = r₁;
                turns = suc r.move_count;
                tally_is = ap (λ j. tally_of j (suc r.move_count)) (sym h.0);
                run_is = ap runs' h.0 ∙ update_same m.runs id (some r₁);
                book_is = ap (λ f. f a.id) same_book ∙ ap s.store.book h.0 ∙ book_is ∙ ap some (sym request_is);
                behind = omega (arith, moved_is);
                there =
                    subst (λ j. followed pack s'.log j r₁.request (suc r.move_count) ≡ some (at a.course a.step)) (sym h.0)
                    (subst (λ q. followed pack s'.log id q (suc r.move_count) ≡ some (at a.course a.step)) (sym request_is)
                    h.1);
              });
          eight = eight_set s.slots inv.eight slot o low;
        }
      where
        runs' : ℕ → Option Run
        runs' = update m.runs id (some r₁)

        further : r.move_count ≤ r₁.move_count
        further = omega (arith, moved_is)

        remains : (j : ℕ) → Remains s.store.log s'.log s.store.book s'.book j
        remains j q e = (ap (λ f. f j) same_book ∙ e, go (eqb_cases j id))
          where
            go : ((j ≡ id) × (eqb j id ≡ true)) ⊎ ((j ≡ id → ⊥) × (eqb j id ≡ false)) → Grows s.store.log s'.log j
            go (inl h) = subst (λ i. Grows s.store.log s'.log i) (sym h.0) grows
            go (inr h) = same_grows s.store.log s'.log j (λ p u. apart p j u h.0)

    -- one instruction outside a block
    front_moves : (to : Course) → next_of code r.course ≡ goes to →
        followed pack s.store.log id r.request (suc r.move_count) ≡ some (at to step) →
        Inv pack (with_slot s slot (some (record { id = id; course = to; step = step })))
        (record { tables = m.tables; runs = runs_with m id r to; replies = m.replies })
        (update t slot (tally_of id (suc r.move_count))) rs
    front_moves to e f =
        front s.store rs (record { request = r.request; course = to; move_count = suc r.move_count })
        (some (record { id = id; course = to; step = step })) m.tables m.replies refl refl
        (λ p u v e. e) (λ p j u n. same_here s.store.log p j u) inv.core.tables refl refl
        (underway step f none_from no_reply) (λ j n. refl) inv.core.settled inv.core.firsts
        (λ a e. subst (λ (x : Agent). (x.id ≡ id) ×
        (followed pack s.store.log id r.request (suc r.move_count) ≡ some (at x.course x.step)))
        (some-injective (record { id = id; course = to; step = step }) a e) (refl, f))

    not_yet : answered id rs ≡ false
    not_yet = go (answered id rs) refl
      where
        go : (b : Bool) → answered id rs ≡ b → answered id rs ≡ false
        go true e =
            let x = answered_by id rs e in
            none_some x.0.value no_reply (ap (λ j. reply_to j m.replies) (sym x.2) ∙ inv.core.settled x.0 x.1)
        go false e = e

    -- a first reply
    front_returns : (v : Result) → followed pack s.store.log id r.request (suc r.move_count) ≡ some (finished v) →
        Inv pack (with_slot s slot none)
        (record {
          tables = m.tables;
          runs = runs_with m id r r.course;
          replies = m.replies ++ record { id = id; value = v } ∷ [];
        })
        (update t slot (tally_of id (suc r.move_count))) (record { id = id; value = v } ∷ rs)
    unfolding first_replies
    front_returns v f =
        front s.store (record { id = id; value = v } ∷ rs) r₁ none m.tables (m.replies ++ record { id = id; value = v } ∷ [])
        refl refl
        (λ p u v e. e) (λ p j u n. same_here s.store.log p j u) inv.core.tables refl refl
        (over v f new) (λ j n. reply_other j m.replies (record { id = id; value = v }) n) (λ w h. go w (Memᴰ.cases_cons h))
        (rw not_yet (ap (λ l. l ++ record { id = id; value = v } ∷ []) inv.core.firsts))
        (λ a e. none_some a refl e)
      where
        r₁ : Run
        r₁ = record { request = r.request; course = r.course; move_count = suc r.move_count }

        new : reply_to id (m.replies ++ record { id = id; value = v } ∷ []) ≡ some v
        new = reply_new id v m.replies no_reply

        go : (w : Reply) → (w ≡ record { id = id; value = v }) ⊎ Memᴰ w rs →
            reply_to w.id (m.replies ++ record { id = id; value = v } ∷ []) ≡ some w.value
        go w (inl e) =
            subst (λ (x : Reply). reply_to x.id (m.replies ++ record { id = id; value = v } ∷ []) ≡ some x.value) (sym e) new
        go w (inr h) = reply_more w.id w.value m.replies (record { id = id; value = v }) (inv.core.settled w h)

    -- a block that has no log row
    front_block : (from : Place) (p : ℕ) (onto : Result → Course) (b : Block) → next_of code r.course ≡ does from p onto →
        Inv pack
        (with_slot (with_store s (written s.store p id step b)) slot
        (some (record { id = id; course = onto b.result; step = suc step })))
        (record { tables = update s.store.rows p b.table; runs = runs_with m id r (onto b.result); replies = m.replies })
        (update t slot (tally_of id (suc r.move_count))) rs
    unfolding behind
    front_block from p onto b e =
        front (written s.store p id step b) rs (record { request = r.request; course = to; move_count = suc r.move_count })
        (some (record { id = id; course = to; step = suc step })) (update s.store.rows p b.table) m.replies refl refl
        grows (row_elsewhere s.store.log p id step b.result) refl refl refl
        (underway (suc step) f (λ p' u l. row_later s.store.log p id step b.result p' u l (none_from p' u (omega arith))) no_reply)
        (λ j n. refl) inv.core.settled inv.core.firsts
        (λ a e. subst (λ (x : Agent). (x.id ≡ id) ×
        (followed pack log' id r.request (suc r.move_count) ≡ some (at x.course x.step)))
        (some-injective (record { id = id; course = to; step = suc step }) a e) (refl, f))
      where
        to : Course
        to = onto b.result

        log' : Log
        log' = with_row s.store.log p id step b.result

        free : Free s.store.log p id step
        free = none_from p step (omega arith)

        grows : Grows s.store.log log' id
        grows = row_grows s.store.log p id step b.result free id

        f : followed pack log' id r.request (suc r.move_count) ≡ some (at to (suc step))
        f =
            follow_next log' id code r.request r.move_count r.course step (does from p onto) (some (at to (suc step)))
            (follow_stays s.store.log log' id code r.request r.move_count (at r.course step) grows open_at) e
            (ap (behind onto step) (row_here s.store.log p id step b.result))

    -- the agent that stands where its request stands
    abbrev agent : Agent
    agent = record { id = id; course = r.course; step = step }

    -- the machine after the block, over the tables T
    abbrev block_done : (from : Place) (p : ℕ) (onto : Result → Course) → (ℕ → Table) → Machine
    block_done from p onto T =
        record {
          tables = update T p (run_block code from (T p)).table;
          runs = runs_with m id r (onto (run_block code from (T p)).result);
          replies = m.replies;
        }

    -- by what its log row says: there is none
    front_does : (from : Place) (p : ℕ) (onto : Result → Course) → next_of code r.course ≡ does from p onto → (o : Option Result) →
        o ≡ none →
        (T : ℕ → Table) → s.store.rows ≡ T →
        Keeps pack (block_done from p onto T) (update t slot (tally_of id (suc r.move_count))) rs
        (through_block s slot agent code from p onto o)
    unfolding through_block
    front_does from p onto e o no_row T same =
        subst (λ (x : Option Result). Keeps pack (block_done from p onto T) counted rs (through_block s slot agent code from p onto x))
        (sym no_row)
        (subst (λ (x : ℕ → Table). Keeps pack (block_done from p onto x) counted rs
        (through_block s slot agent code from p onto none)) same
        (record { kept = front_block from p onto (run_block code from (s.store.rows p)) e }))
      where
        counted : Tallies
        counted = update t slot (tally_of id (suc r.move_count))

    -- whatever the agent does next
    pub front_keeps : (x : Next) → next_of code r.course ≡ x →
        Keeps pack (move_on m id r code x) (update t slot (tally_of id (suc r.move_count))) rs (turn_on s slot agent code x)
    unfolding move_on turn_on
    front_keeps (goes to) e = record { kept = front_moves to e (follow_next _ _ _ _ _ _ _ _ _ open_at e refl) }
    front_keeps (says v) e = record { kept = front_returns v (follow_next _ _ _ _ _ _ _ _ _ open_at e refl) }
    front_keeps (does from p onto) e =
        front_does from p onto e _ (free_none s.store.log p id step (none_from p step (omega arith))) m.tables inv.core.tables

-- ── The agent is behind: its request has come further ──

module _
    (pack : Pack)
    (s : State)
    (m : Machine)
    (t : Tallies)
    (rs : List Reply)
    (inv : Inv pack s m t rs)
    (slot : ℕ)
    (low : slot < 8)
    (a : Agent)
    (r : Run)
    (k : ℕ)
    (run_is : m.runs a.id ≡ some r)
    (book_is : s.store.book a.id ≡ some r.request)
    (progress : Progress pack s.store.log m.replies a.id r)
    (less : k < r.move_count)
    (there : followed pack s.store.log a.id r.request k ≡ some (at a.course a.step))
  where
    -- so its next move is in the log
    further : (st : Stage) × (followed pack s.store.log a.id r.request (suc k) ≡ some st)
    further = come_to pack s.store.log m.replies a.id r progress (suc k) less

    in_all : (st : Stage) × (followed pack s.store.log a.id r.request r.move_count ≡ some st)
    in_all = come pack s.store.log m.replies a.id r progress

    back_moves : (to : Course) (step : ℕ) → followed pack s.store.log a.id r.request (suc k) ≡ some (at to step) →
        Inv pack (with_slot s slot (some (record { id = a.id; course = to; step = step }))) m (update t slot (tally_of a.id (suc k))) rs
    back_moves to step f =
        record {
          core = inv.core;
          slots =
              slots_set pack s.store.log s.store.book m.runs t s.slots inv.slots slot (tally_of a.id (suc k))
              (some (record { id = a.id; course = to; step = step }))
              (λ b e. subst (λ (x : Agent). Live pack s.store.log s.store.book m.runs (tally_of a.id (suc k)) x)
              (some-injective (record { id = a.id; course = to; step = step }) b e)
              (record { run = r; turns = suc k; tally_is = refl; run_is = run_is; book_is = book_is; behind = less; there = f }));
          eight = eight_set s.slots inv.eight slot (some (record { id = a.id; course = to; step = step })) low;
        }

    -- a reply is the end of the request, so that the machine has given it
    ended : (v : Result) → followed pack s.store.log a.id r.request (suc k) ≡ some (finished v) →
        reply_to a.id m.replies ≡ some v
    ended v f = go (le_cases (suc k) r.move_count less) progress
      where
        go : (suc k ≡ r.move_count) ⊎ (suc k < r.move_count) → Progress pack s.store.log m.replies a.id r →
            reply_to a.id m.replies ≡ some v
        go (inl e) (over w g h) =
            let f' : followed pack s.store.log a.id r.request r.move_count ≡ some (finished v) =
            ap (followed pack s.store.log a.id r.request) (sym e) ∙ f in
            let same : w ≡ v = cc in
            h ∙ ap some same
        go (inl e) (underway u g h n) =
            let f' : followed pack s.store.log a.id r.request r.move_count ≡ some (finished v) =
            ap (followed pack s.store.log a.id r.request) (sym e) ∙ f in
            absurd (let z : ◌≡◌ {A = ℕ} 0 1 = cc in omega arith)
        go (inr l) _ =
            let b =
            follow_below s.store.log a.id (request_code pack r.request) r.request r.move_count in_all.0 (suc k) l
            in_all.1 in
            let b₂ = b.2 in
            absurd (let z : ◌≡◌ {A = ℕ} 0 1 = cc in omega arith)

    -- a later reply
    back_returns : (v : Result) → followed pack s.store.log a.id r.request (suc k) ≡ some (finished v) →
        Inv pack (with_slot s slot none) m (update t slot (tally_of a.id (suc k))) (record { id = a.id; value = v } ∷ rs)
    unfolding first_replies
    back_returns v f =
        record {
          core =
              record {
                tables = inv.core.tables;
                counterpart = inv.core.counterpart;
                valid = inv.core.valid;
                above = inv.core.above;
                unbooked = inv.core.unbooked;
                unlogged = inv.core.unlogged;
                unreplied = inv.core.unreplied;
                settled = λ w h. go w (Memᴰ.cases_cons h);
                firsts = rw given inv.core.firsts;
              };
          slots =
              slots_set pack s.store.log s.store.book m.runs t s.slots inv.slots slot (tally_of a.id (suc k)) none
              (λ b e. none_some b refl e);
          eight = eight_set s.slots inv.eight slot none low;
        }
      where
        given : answered a.id rs ≡ true
        given = answered_first a.id v rs (ap (reply_to a.id) inv.core.firsts ∙ ended v f)

        go : (w : Reply) → (w ≡ record { id = a.id; value = v }) ⊎ Memᴰ w rs → reply_to w.id m.replies ≡ some w.value
        go w (inl e) = subst (λ (x : Reply). reply_to x.id m.replies ≡ some x.value) (sym e) (ended v f)
        go w (inr h) = inv.core.settled w h

    back_does : (from : Place) (p : ℕ) (onto : Result → Course) → next_of (request_code pack r.request) a.course ≡ does from p onto →
        (o : Option Result) → found s.store.log p a.id a.step ≡ o →
        Keeps pack m (update t slot (tally_of a.id (suc k))) rs (through_block s slot a (request_code pack r.request) from p onto o)
    unfolding through_block behind
    back_does from p onto e none h =
        let n : followed pack s.store.log a.id r.request (suc k) ≡ none =
        follow_next _ _ _ _ _ _ _ _ _ there e (ap (behind onto a.step) h) in
        none_some further.0 n further.1
    back_does from p onto e (some v) h =
        record { kept = back_moves (onto v) (suc a.step) (follow_next _ _ _ _ _ _ _ _ _ there e (ap (behind onto a.step) h)) }

    pub back_keeps : (x : Next) → next_of (request_code pack r.request) a.course ≡ x →
        Keeps pack m (update t slot (tally_of a.id (suc k))) rs (turn_on s slot a (request_code pack r.request) x)
    unfolding turn_on
    back_keeps (goes to) e = record { kept = back_moves to a.step (follow_next _ _ _ _ _ _ _ _ _ there e refl) }
    back_keeps (says v) e = record { kept = back_returns v (follow_next _ _ _ _ _ _ _ _ _ there e refl) }
    back_keeps (does from p onto) e = back_does from p onto e (found s.store.log p a.id a.step) refl

-- ── A turn ──

pub keeps_by : (pack : Pack) (m m' : Machine) (t t' : Tallies) (rs : List Reply) (o o' : Outcome) → m ≡ m' → t ≡ t' → o ≡ o' →
    Keeps pack m' t' rs o' → Keeps pack m t rs o
keeps_by pack m m' t t' rs o o' em et eo h =
    subst (λ (x : Machine). Keeps pack x t rs o) (sym em)
    (subst (λ (x : Tallies). Keeps pack m' x rs o) (sym et) (subst (λ (x : Outcome). Keeps pack m' t' rs x) (sym eo) h))

ltb_yes : (n k : ℕ) → n < k → ltb n k ≡ true
ltb_yes n k h = T_true (ltb n k) (lt→ltb n k h)

ltb_no : (n k : ℕ) → k ≤ n → ltb n k ≡ false
ltb_no n k h = go (ltb n k) refl
  where
    go : (b : Bool) → ltb n k ≡ b → ltb n k ≡ false
    go true e = absurd (let l : n < k = ltb→lt n k (rw e tt) in omega arith)
    go false e = e

module _
    (pack : Pack)
    (s : State)
    (m : Machine)
    (t : Tallies)
    (rs : List Reply)
    (inv : Inv pack s m t rs)
    (slot : ℕ)
    (low : slot < 8)
    (a : Agent)
    (live : Live pack s.store.log s.store.book m.runs (t slot) a)
  where
    abbrev pub r : Run
    r = live.run

    abbrev pub k : ℕ
    k = live.turns

    -- how far its request has come
    progress : Progress pack s.store.log m.replies a.id r
    progress =
        let g = inv.core.counterpart a.id r.request live.book_is in
        subst (λ (x : Run). Progress pack s.store.log m.replies a.id x)
        (some-injective g.run r (sym g.run_is ∙ live.run_is)) g.progress

    -- it stands where the log leads its request
    abbrev pub live_stands : StandsByLog pack s.store (t slot) a
    live_stands = record { request = r.request; moves = k; counted = live.tally_is; book_is = live.book_is; there = live.there }

    outcome_is : turn_in pack s slot (some a)
        ≡ turn_on s slot a (request_code pack r.request) (next_of (request_code pack r.request) a.course)
    outcome_is = turn_is pack s t slot a live_stands

    fed_is : fed pack m t (feeds (turn slot)) ≡ if◌then◌otherwise◌ (ltb r.move_count (suc k)) (move pack m a.id r) m
    unfolding fed fed_turn fed_run
    fed_is = ap (fed_turn pack m) live.tally_is ∙ ap (fed_run pack m a.id (suc k)) live.run_is

    tallied_is : tallied t (feeds (turn slot)) ≡ update t slot (tally_of a.id (suc k))
    tallied_is = turn_counted pack s t slot a live_stands

    -- at the front
    front_turn : k ≡ r.move_count → Progress pack s.store.log m.replies a.id r →
        Keeps pack (fed pack m t (feeds (turn slot))) (tallied t (feeds (turn slot))) rs (turn_in pack s slot (some a))
    unfolding move
    front_turn e (over v f h) =
        let there : followed pack s.store.log a.id r.request r.move_count ≡ some (at a.course a.step) =
        ap (followed pack s.store.log a.id r.request) (sym e) ∙ live.there in
        absurd (let z : ◌≡◌ {A = ℕ} 0 1 = cc in omega arith)
    front_turn e (underway step f none_from no_reply) =
        keeps_by pack (fed pack m t (feeds (turn slot))) (move pack m a.id r) (tallied t (feeds (turn slot)))
        (update t slot (tally_of a.id (suc r.move_count))) rs
        (turn_in pack s slot (some a))
        (turn_on s slot stands (request_code pack r.request) (next_of (request_code pack r.request) r.course))
        (fed_is ∙ ap (λ b. if◌then◌otherwise◌ b (move pack m a.id r) m) (ltb_yes r.move_count (suc k) (omega arith)))
        (tallied_is ∙ ap (λ n. update t slot (tally_of a.id (suc n))) e)
        (outcome_is
        ∙ ap (λ (x : Agent). turn_on s slot x (request_code pack r.request) (next_of (request_code pack r.request) x.course)) same)
        (front_keeps pack s m t rs inv slot a.id low r step live.run_is f none_from no_reply live.book_is
        (next_of (request_code pack r.request) r.course) refl)
      where
        there : followed pack s.store.log a.id r.request r.move_count ≡ some (at a.course a.step)
        there = ap (followed pack s.store.log a.id r.request) (sym e) ∙ live.there

        stands : Agent
        stands = record { id = a.id; course = r.course; step = step }

        same_course : a.course ≡ r.course
        same_course = cc

        same_step : a.step ≡ step
        same_step = cc

        same : a ≡ stands
        same = λ i. record { id = a.id; course = same_course i; step = same_step i }

    -- behind it
    back_turn : k < r.move_count →
        Keeps pack (fed pack m t (feeds (turn slot))) (tallied t (feeds (turn slot))) rs (turn_in pack s slot (some a))
    back_turn l =
        keeps_by pack (fed pack m t (feeds (turn slot))) m (tallied t (feeds (turn slot))) (update t slot (tally_of a.id (suc k))) rs
        (turn_in pack s slot (some a)) (turn_on s slot a (request_code pack r.request) (next_of (request_code pack r.request) a.course))
        (fed_is ∙ ap (λ b. if◌then◌otherwise◌ b (move pack m a.id r) m) (ltb_no r.move_count (suc k) l))
        tallied_is outcome_is
        (back_keeps pack s m t rs inv slot low a r k live.run_is live.book_is progress l live.there
        (next_of (request_code pack r.request) a.course) refl)

    pub live_turn : Keeps pack (fed pack m t (feeds (turn slot))) (tallied t (feeds (turn slot))) rs (turn_in pack s slot (some a))
    live_turn = go (le_cases k r.move_count live.behind)
      where
        go : (k ≡ r.move_count) ⊎ (k < r.move_count) →
            Keeps pack (fed pack m t (feeds (turn slot))) (tallied t (feeds (turn slot))) rs (turn_in pack s slot (some a))
        go (inl e) = front_turn e progress
        go (inr l) = back_turn l

pub turn_keeps : (pack : Pack) (s : State) (m : Machine) (t : Tallies) (rs : List Reply) → Inv pack s m t rs → (slot : ℕ) →
    is_some (s.slots slot) ≡ true →
    Keeps pack (fed pack m t (feeds (turn slot))) (tallied t (feeds (turn slot))) rs (turn_in pack s slot (s.slots slot))
turn_keeps pack s m t rs inv slot used = go (s.slots slot) refl used
  where
    go : (o : Option Agent) → s.slots slot ≡ o → is_some o ≡ true →
        Keeps pack (fed pack m t (feeds (turn slot))) (tallied t (feeds (turn slot))) rs (turn_in pack s slot o)
    go none e u = false_true refl u
    go (some a) e u = live_turn pack s m t rs inv slot (inv.eight slot a e) a (inv.slots slot a e)
