-- How the core of the invariant is kept when a run of the machine moves.
use mathlib.Core.Path.{◌≡◌, refl, sym, ◌∙◌, ap, subst}
use mathlib.Core.Logic.{◌⊎◌, inl, inr}
use mathlib.Core.List.{List, Memᴰ}
use mathlib.Core.Option.{Option, none, some, get_or, some-injective}
use Prim.Native.Nat.{ℕ, ◌≤◌, ◌<◌}
use native.Mathlib.Omega.{arith}
use Rattle.questions.specs.Basics.{update}
use Rattle.rules.specs.Instructions.{Pack}
use Rattle.rules.specs.Blocks.{Table}
use Rattle.rules.specs.Store.{Request, Log, Store, floor_of}
use Rattle.rules.specs.Logged.{request_code, Stage, at, finished}
use Rattle.rules.specs.Plain.{Reply, Run, Machine, first_replies}
use Rattle.questions.proofs.Updates.{none_some, le_cases, update_cases}
use Rattle.rules.proofs.Follow.{Free, Same, same_free, same_grows, follow_stays, follow_below}
use Rattle.rules.proofs.Replies.{reply_to}
use Rattle.rules.proofs.Invariant.{followed, Progress, underway, over, Counterpart, Core, Ahead, AllAhead}

-- the progress of a request of which log and replies have nothing new
pub progress_stays : (pack : Pack) (log log' : Log) (replies replies' : List Reply) (id : ℕ) (r : Run) →
    ((p t : ℕ) → Same log log' p id t) → reply_to id replies' ≡ reply_to id replies →
    Progress pack log replies id r → Progress pack log' replies' id r
progress_stays pack log log' replies replies' id r same reply (underway t f none_from not_yet) =
    underway t (follow_stays log log' id (request_code pack r.request) r.request r.move_count (at r.course t)
    (same_grows log log' id same) f)
    (λ p t' h. same_free log log' p id t' (same p t') (none_from p t' h)) (reply ∙ not_yet)
progress_stays pack log log' replies replies' id r same reply (over v f e) =
    over v
    (follow_stays log log' id (request_code pack r.request) r.request r.move_count (finished v) (same_grows log log' id same) f)
    (reply ∙ e)

-- and what the machine has of it, if its run stays
pub counterpart_stays : (pack : Pack) (log log' : Log) (runs runs' : ℕ → Option Run) (replies replies' : List Reply) (id : ℕ)
    (q : Request) →
    ((p t : ℕ) → Same log log' p id t) → runs' id ≡ runs id → reply_to id replies' ≡ reply_to id replies →
    Counterpart pack log runs replies id q → Counterpart pack log' runs' replies' id q
counterpart_stays pack log log' runs runs' replies replies' id q same run reply g =
    record {
      run = g.run;
      run_is = run ∙ g.run_is;
      request_is = g.request_is;
      progress = progress_stays pack log log' replies replies' id g.run same reply g.progress;
    }

-- where a request stands in all
pub come : (pack : Pack) (log : Log) (replies : List Reply) (id : ℕ) (r : Run) → Progress pack log replies id r →
    (st : Stage) × (followed pack log id r.request r.move_count ≡ some st)
come pack log replies id r (underway u f n o) = (at r.course u, f)
come pack log replies id r (over v f e) = (finished v, f)

-- and in between
pub come_to : (pack : Pack) (log : Log) (replies : List Reply) (id : ℕ) (r : Run) → Progress pack log replies id r → (n : ℕ) →
    n ≤ r.move_count →
    (st : Stage) × (followed pack log id r.request n ≡ some st)
come_to pack log replies id r p n l = go (le_cases n r.move_count l) (come pack log replies id r p)
  where
    go : (n ≡ r.move_count) ⊎ (n < r.move_count) → ((st : Stage) × (followed pack log id r.request r.move_count ≡ some st)) →
        (st : Stage) × (followed pack log id r.request n ≡ some st)
    go (inl e) h = (h.0, ap (followed pack log id r.request) e ∙ h.1)
    go (inr u) h =
        let b = follow_below log id (request_code pack r.request) r.request r.move_count h.0 n u h.1 in
        (at b.0 b.1, b.2)

-- A run r of the machine moves on to r₁. The store goes from s to s' with the same book and with no new log row for another id.
module _
    (pack : Pack)
    (s s' : Store)
    (m : Machine)
    (rs rs' : List Reply)
    (core : Core pack s m rs)
    (id : ℕ)
    (r r₁ : Run)
    (run_is : m.runs id ≡ some r)
    (request_is : r₁.request ≡ r.request)
    (further : r.move_count ≤ r₁.move_count)
    (elsewhere : (p j u : ℕ) → (j ≡ id → ⊥) → Same s.log s'.log p j u)
  where
    pub run_ahead : AllAhead m.runs (update m.runs id (some r₁))
    run_ahead j w e = go (update_cases m.runs id (some r₁) j)
      where
        go : ((j ≡ id) × (update m.runs id (some r₁) j ≡ some r₁)) ⊎ ((j ≡ id → ⊥) × (update m.runs id (some r₁) j ≡ m.runs j)) →
            Ahead (update m.runs id (some r₁)) j w
        go (inl h) =
            let same : r ≡ w = some-injective r w (sym run_is ∙ ap m.runs (sym h.0) ∙ e) in
            record {
              run = r₁;
              run_is = h.1;
              request_is = request_is ∙ ap (λ (x : Run). x.request) same;
              further = subst (λ (x : Run). x.move_count ≤ r₁.move_count) same further;
            }
        go (inr h) = record { run = w; run_is = h.1 ∙ e; request_is = refl; further = omega arith }

    -- the core after the move, from what the move itself brings
    pub core_moved : (tables : ℕ → Table) (replies : List Reply) →
        s'.rows ≡ tables →
        s'.book ≡ s.book →
        s'.floor ≡ s.floor →
        Progress pack s'.log replies id r₁ →
        ((j : ℕ) → (j ≡ id → ⊥) → reply_to j replies ≡ reply_to j m.replies) →
        ((w : Reply) → Memᴰ w rs' → reply_to w.id replies ≡ some w.value) →
        first_replies rs' ≡ replies →
        Core pack s' (record { tables = tables; runs = update m.runs id (some r₁); replies = replies }) rs'
    core_moved tables replies same_rows same_book same_floor new others settled firsts =
        record {
          tables = same_rows;
          counterpart = λ j q e. go_on j q (ap (λ f. f j) (sym same_book) ∙ e) (update_cases m.runs id (some r₁) j);
          valid = λ j q e. core.valid j q (ap (λ f. f j) (sym same_book) ∙ e);
          above = λ j q e. subst (λ n. n ≤ j) (sym floor_is) (core.above j q (ap (λ f. f j) (sym same_book) ∙ e));
          unbooked =
              λ j l e.
              go_book j (core.unbooked j (subst (λ n. n ≤ j) floor_is l) (ap (λ f. f j) (sym same_book) ∙ e))
              (update_cases m.runs id (some r₁) j);
          unlogged = λ j e p u. go_log j e p u (update_cases m.runs id (some r₁) j);
          unreplied = λ j e. go_reply j e (update_cases m.runs id (some r₁) j);
          settled = settled;
          firsts = firsts;
        }
      where
        floor_is : floor_of s' ≡ floor_of s
        floor_is = ap (λ (o : Option ℕ). get_or o 0) same_floor

        go_on : (j : ℕ) (q : Request) → s.book j ≡ some q →
            ((j ≡ id) × (update m.runs id (some r₁) j ≡ some r₁)) ⊎ ((j ≡ id → ⊥) × (update m.runs id (some r₁) j ≡ m.runs j)) →
            Counterpart pack s'.log (update m.runs id (some r₁)) replies j q
        go_on j q e (inl h) =
            let g = core.counterpart j q e in
            record {
              run = r₁;
              run_is = h.1;
              request_is =
                  request_is
                  ∙ ap (λ (x : Run). x.request) (some-injective r g.run (sym run_is ∙ ap m.runs (sym h.0) ∙ g.run_is))
                  ∙ g.request_is;
              progress = subst (λ i. Progress pack s'.log replies i r₁) (sym h.0) new;
            }
        go_on j q e (inr h) =
            counterpart_stays pack s.log s'.log m.runs (update m.runs id (some r₁)) m.replies replies j q
            (λ p u. elsewhere p j u h.0) h.1 (others j h.0) (core.counterpart j q e)

        go_book : (j : ℕ) → m.runs j ≡ none →
            ((j ≡ id) × (update m.runs id (some r₁) j ≡ some r₁)) ⊎ ((j ≡ id → ⊥) × (update m.runs id (some r₁) j ≡ m.runs j)) →
            update m.runs id (some r₁) j ≡ none
        go_book j e (inl h) = none_some r (ap m.runs (sym h.0) ∙ e) run_is
        go_book j e (inr h) = h.1 ∙ e

        go_log : (j : ℕ) → update m.runs id (some r₁) j ≡ none → (p u : ℕ) →
            ((j ≡ id) × (update m.runs id (some r₁) j ≡ some r₁)) ⊎ ((j ≡ id → ⊥) × (update m.runs id (some r₁) j ≡ m.runs j)) →
            Free s'.log p j u
        go_log j e p u (inl h) = none_some r₁ e h.1
        go_log j e p u (inr h) =
            same_free s.log s'.log p j u (elsewhere p j u h.0) (core.unlogged j (sym h.1 ∙ e) p u)

        go_reply : (j : ℕ) → update m.runs id (some r₁) j ≡ none →
            ((j ≡ id) × (update m.runs id (some r₁) j ≡ some r₁)) ⊎ ((j ≡ id → ⊥) × (update m.runs id (some r₁) j ≡ m.runs j)) →
            reply_to j replies ≡ none
        go_reply j e (inl h) = none_some r₁ e h.1
        go_reply j e (inr h) = others j h.0 ∙ core.unreplied j (sym h.1 ∙ e)
