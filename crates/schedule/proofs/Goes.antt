-- A run under way, call by call.
use mathlib.Core.Path.{◌≡◌, refl, sym, ap, subst, ◌∙◌}
use mathlib.Core.Bool.{true}
use mathlib.Core.List.{List, [], ◌∷◌, ◌++◌}
use mathlib.Core.Option.{Option, none, some}
use Prim.Native.Nat.{ℕ, zero, suc, ◌+◌, ◌*◌, ◌≤◌}
use native.Mathlib.Nat.{mul-le-mul}
use native.Mathlib.Numerals.{add-one}
use native.Mathlib.Omega.{arith}
use borrow.Author.Tests.{eq-eqb}
use lib.Dec.{leb}
use lib.ListN.{length, take, drop, replicate}
use lib.Seq.{take_at, drop_at}
use Rattle.questions.specs.Questions.{No, ask}
use Rattle.questions.specs.Verdicts.{verdict_of, refusal_of}
use Rattle.questions.specs.declared.Refusal.{Refusal}
use Rattle.rules.specs.Plain.{Event}
use Rattle.questions.specs.Verdicts.{Verdict}
use Rattle.std.specs.Prelude.{Ok, Err}
use Rattle.questions.proofs.Questions.{ask_none, or_else_none}
use Rattle.questions.proofs.Tests.{and_right}
use Rattle.store.specs.Layout.{parts_of, cap_of, store_length}
use Rattle.store.specs.Questions.{numbers_right, question9, create_refusal}
use Rattle.store.specs.Created.{Created}
use Rattle.store.specs.Sound.{Sound}
use Rattle.store.proofs.Sound.{store_ok, numbers_mean}
use Rattle.agents.specs.declared.Agent.{Agent}
use Rattle.agents.specs.Answers.{Answer}
use Rattle.agents.specs.Slots.{no_agent}
use Rattle.agents.specs.Answers.{answer_of}
use Rattle.text.specs.Text.{Appended}
use Rattle.text.proofs.Laws.{appended_none, appended_then}
use Rattle.lines.specs.Lines.{events_line, refused_line, answer_line}
use Rattle.listing.specs.Store.{store_text}
use Rattle.worklist.specs.Worklist.{no_worklist}
use Rattle.meaning.specs.Carried.{Carried}
use Rattle.chain.specs.Chain.{Chain, begins, goes_on}
use Rattle.chain.proofs.Theorem.{sized}
use Rattle.schedule_check.specs.Layout.{event_count}
use Rattle.schedule_check.specs.Questions.{bytes_refusal, Allowed, schedule_refusal}
use Rattle.schedule.specs.Events.{call_at, calls_of}
use Rattle.schedule.specs.Run.{made_in, answer_lines, RunPrints, store_size, WholeRun, Printed}
use Rattle.schedule.specs.Going.{Going, Went}
use Rattle.schedule_check.proofs.Steps.{laid}

-- ---- what is allowed

pub allowed : (p s : List ℕ) → schedule_refusal p s ≡ none → Allowed s
unfolding schedule_refusal bytes_refusal question9
allowed p s h =
    let b = (or_else_none _ _ h).1 in
    let q = ask_none _ _ _ b in
    let t = ask_none _ _ _ q.1 in
    let u = ask_none _ _ _ t.1 in
    record { laid = laid s q.0; events = t.0; numbers = and_right (leb 3 (length s)) _ u.0 }

verdict_none : (o : Option No) → Ok tt ≡ verdict_of o → o ≡ none
verdict_none none e = refl
verdict_none (some n) e = let z : ◌≡◌ {A = ℕ} 0 1 = cc in absurd (omega arith)

-- a create on a store of that length is accepted, and begins a list of calls
pub fresh_chain : (pack s xs ys : List ℕ) (P C : ℕ) (v : Verdict) → P ≡ parts_of s → C ≡ cap_of s → Allowed s →
    length xs ≡ store_length (parts_of s) (cap_of s) → Created xs ys P C v
    → Chain pack (parts_of s) (cap_of s) [] (record { store = ys; records = replicate 8 no_agent; list = no_worklist })
unfolding create_refusal ask
fresh_chain pack s xs ys P C v p q h l c =
    begins xs ys (accepted (parts_of s) (cap_of s)
    (subst (λ (k : ℕ). Created xs ys (parts_of s) k v) q (subst (λ (k : ℕ). Created xs ys k C v) p c)))
  where
    accepts : verdict_of (create_refusal (parts_of s) (cap_of s) (length xs)) ≡ Ok tt
    accepts = rw (h.numbers, eq-eqb (length xs) (store_length (parts_of s) (cap_of s)) l) refl

    accepted : (P C : ℕ) → Created xs ys (parts_of s) (cap_of s) v → Created xs ys (parts_of s) (cap_of s) (Ok tt)
    accepted P C c = subst (λ (x : Verdict). Created xs ys (parts_of s) (cap_of s) x) (c.answer ∙ accepts) c

-- the longest store
pub size_fits : (P C : ℕ) → numbers_right P C ≡ true → (P ≤ 8) × (C ≤ 256) × (store_length P C ≤ 27669)
size_fits P C h =
    let n = numbers_mean P C h in
    let p : P + 1 ≤ 9 = omega (arith, n.1) in
    let m : (P + 1) * C ≤ 9 * 256 = mul-le-mul p n.3 in
    (n.1, n.3, omega arith)

pub size_as : (P C P' C' r : ℕ) → r ≡ store_length P' C' → P' ≡ P → C' ≡ C → r ≡ store_length P C
size_as P C P' C' r e p q = e ∙ ap (λ x. store_length x C') p ∙ ap (store_length P) q

-- ---- calls in a row

length_calls : (s : List ℕ) (n : ℕ) → length (calls_of s n) ≡ n
unfolding calls_of
length_calls s zero = refl
length_calls s (suc n) = ap suc (length_calls s n)

length_made : (es : List Event) → length (made_in es) ≡ length es
unfolding made_in
length_made [] = refl
length_made (e ∷ es) = ap suc (length_made es)

module _ {pack s out : List ℕ} {n : ℕ} where
  pub going_none : (store : List ℕ) (records : List Agent) →
      Chain pack (parts_of s) (cap_of s) [] (record { store = store; records = replicate 8 no_agent; list = no_worklist }) →
      records ≡ replicate 8 no_agent →
      n ≤ length out
      → Going pack s out n 0 store records out n
  unfolding calls_of made_in answer_lines
  going_none store records c e h =
      record {
        events = [];
        ran = record {
          chain = subst (λ (rs : List Agent). Chain pack (parts_of s) (cap_of s) []
              (record { store = store; records = rs; list = no_worklist }))
              (sym e) c;
          calls = refl;
        };
        said = appended_none out n h;
      }

  pub going_more : {i : ℕ} {store : List ℕ} {records : List Agent} {out' : List ℕ} {at : ℕ} {answer : Answer} {records' : List Agent}
      {store' out'' : List ℕ} {at' : ℕ}
      → Going pack s out n i store records out' at →
      Carried pack (record { store = store; records = records; list = no_worklist }) (call_at s i) answer
      (record { store = store'; records = records'; list = no_worklist }) →
      Appended out' at (answer_line i (answer_of answer)) out'' at'
      → Going pack s out n (i + 1) store' records' out'' at'
  unfolding calls_of made_in answer_lines
  going_more {i} {store} {records} {out'} {at} {answer} {records'} {store'} {out''} {at'} g c a =
      let many : length g.events ≡ i = sym (length_made g.events) ∙ ap length g.ran.calls ∙ length_calls s i in
      record {
        events = record { made = call_at s i; answer = answer_of answer } ∷ g.events;
        ran =
            record {
              chain = goes_on _ _ _ _ _ g.ran.chain c;
              calls = rw (add-one i) (ap (λ cs. call_at s i ∷ cs) g.ran.calls);
            };
        said = appended_then g.said (rw many a);
      }

  pub gone : {i : ℕ} {store : List ℕ} {records : List Agent} {out' : List ℕ} {at : ℕ} → i ≡ event_count s →
      Going pack s out n i store records out' at → Went pack s out n store out' at
  gone {i} {store} {records} {out'} {at} e g =
      record { records = records; going = subst (λ (k : ℕ). Going pack s out n k store records out' at) e g }

-- ---- the store that is left is sound

pub chain_sound : {pack : List ℕ} {P C : ℕ} {events : List Event} {store : List ℕ} {records : List Agent} →
    Chain pack P C events (record { store = store; records = records; list = no_worklist }) → Sound store
chain_sound {pack} {P} {C} {events} {store} {records} h =
    (store_ok store (sized pack P C events (record { store = store; records = records; list = no_worklist }) h).passes).0

-- ---- what is printed

module _ {pack s out : List ℕ} (e : ℕ) {a b r : ℕ} {store out1 out2 out3 : List ℕ} (x : Appended out 0 (events_line e) out1 a)
    (w : Went pack s out1 a store out2 b) (z : Appended out2 b (store_text store) out3 r) where
  -- the event total, the answers and the store, one behind the other
  pub all_said : Appended out 0 (events_line e ++ (answer_lines w.going.events ++ store_text store)) out3 r
  all_said = appended_then x (appended_then w.going.said z)

  pub prints : e ≡ event_count s → RunPrints pack s store (take r out3)
  prints q =
      record {
        events = w.going.events;
        records = w.records;
        ran = w.going.ran;
        prints = all_said.says ∙ ap (λ k. events_line k ++ (answer_lines w.going.events ++ store_text store)) q;
      }

-- a run on the first bytes of what is lent, which are put back in front of those behind them
pub on_first : (pack s store lent text : List ℕ) (size : ℕ) → size ≡ store_size s → length store ≡ store_size s →
    RunPrints pack s store text → WholeRun pack s lent (store ++ drop size lent) text
on_first pack s store lent text size e l w =
    record {
      run = subst (λ xs. RunPrints pack s xs text) (sym (take_at store (drop size lent) (store_size s) l)) w;
      behind = drop_at store (drop size lent) (store_size s) l ∙ ap (λ n. drop n lent) e;
    }

module _ (p s : List ℕ) (v : Verdict) (said : v ≡ verdict_of (schedule_refusal p s)) where
  pub none_said : v ≡ Ok tt → schedule_refusal p s ≡ none
  none_said e = verdict_none _ (sym e ∙ said)

  pub printed_run : (lent lent' text : List ℕ) → v ≡ Ok tt → WholeRun p s lent lent' text → Printed p s lent lent' text
  printed_run lent lent' text e r =
      record {
        refused = λ n q. let f = none_said e in let z : ◌≡◌ {A = ℕ} 0 1 = cc in absurd (omega arith);
        run = λ q. r;
      }

  pub printed_refused : (lent out out' : List ℕ) (r : ℕ) (n : Refusal) → v ≡ Err n → Appended out 0 (refused_line n.question) out' r
      → Printed p s lent lent (take r out')
  printed_refused lent out out' r n e a =
      record {
        refused = λ m q. let z : ◌≡◌ {A = Verdict} (Err n) (Err (refusal_of m)) = sym e ∙ said ∙ ap verdict_of q in
            let f : n ≡ refusal_of m = cc in
            (a.says ∙ ap (λ (x : Refusal). refused_line x.question) f, refl);
        run = λ q. let y : ◌≡◌ {A = Verdict} (Err n) (Ok tt) = sym e ∙ said ∙ ap verdict_of q in let z : ◌≡◌ {A = ℕ} 0 1 =
            cc in absurd (omega arith);
      }
