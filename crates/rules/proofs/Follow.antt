-- Following a request by its log: what it has done after n moves, if each block among them has its log row. A follow is a function of the
-- log, so that it is unique; and it stays when rows are added to the log.
use mathlib.Core.Path.{◌≡◌, refl, sym, ◌∙◌, ap}
use mathlib.Core.Logic.{◌⊎◌, inl, inr}
use mathlib.Core.Option.{Option, none, some}
use Prim.Native.Nat.{ℕ, zero, suc, ◌≤◌, ◌<◌}
use native.Mathlib.Omega.{arith}
use native.Mathlib.Nat.{not-suc-le-zero}
use Rattle.questions.specs.Basics.{update}
use Rattle.questions.proofs.Updates.{none_some, le_cases, eqb_same, update_cases}
use Rattle.rules.specs.Instructions.{Code}
use Rattle.rules.specs.Blocks.{Result, yields}
use Rattle.rules.specs.Courses.{Course, Next, goes, does, says, next_of}
use Rattle.rules.specs.Store.{Request, Log, sought, found, logged, with_row}
use Rattle.rules.specs.Logged.{Stage, at, finished, behind, by_next, onward, follow}

-- ── Logs ──

-- there is no row of this step
abbrev pub Free : Log → (partition id step : ℕ) → Type 0
Free log p id t = log.usual p id t ≡ none

-- both logs have the same rows of this step
abbrev pub Same : Log → Log → (partition id step : ℕ) → Type 0
Same log log' p id t = log'.usual p id t ≡ log.usual p id t

-- the log has each row of this id that it had
abbrev pub Grows : Log → Log → (id : ℕ) → Type 0
Grows log log' id = (p t : ℕ) (r : Result) → found log p id t ≡ some r → found log' p id t ≡ some r

pub same_here : (log : Log) (p id t : ℕ) → Same log log p id t
same_here log p id t = refl

pub same_free : (log log' : Log) (p id t : ℕ) → Same log log' p id t → Free log p id t → Free log' p id t
same_free log log' p id t s f = s ∙ f

pub same_grows : (log log' : Log) (id : ℕ) → ((p t : ℕ) → Same log log' p id t) → Grows log log' id
same_grows log log' id same p t r e = ap sought (same p t) ∙ e

pub free_none : (log : Log) (p id t : ℕ) → Free log p id t → found log p id t ≡ none
free_none log p id t f = ap sought f

-- rows by request and step, with one more
module _ (log : (partition id step : ℕ) → Option ℕ) (p id t v : ℕ) where
  logged_here : logged log p id t v p id t ≡ some v
  logged_here = rw (eqb_same p, eqb_same id, eqb_same t) refl

  -- a row of the new log is the row written, or was there before
  logged_cases : (p' id' t' : ℕ) → ((p' ≡ p) × (id' ≡ id) × (t' ≡ t)) ⊎ (logged log p id t v p' id' t' ≡ log p' id' t')
  logged_cases p' id' t' = go (update_cases log p log₁ p') (update_cases (log p) id log₂ id') (update_cases (log p id) t (some v) t')
    where
      log₂ : ℕ → Option ℕ
      log₂ = update (log p id) t (some v)

      log₁ : ℕ → ℕ → Option ℕ
      log₁ = update (log p) id log₂

      go : ((p' ≡ p) × (update log p log₁ p' ≡ log₁)) ⊎ ((p' ≡ p → ⊥) × (update log p log₁ p' ≡ log p')) →
          ((id' ≡ id) × (update (log p) id log₂ id' ≡ log₂)) ⊎ ((id' ≡ id → ⊥) × (update (log p) id log₂ id' ≡ log p id')) →
          ((t' ≡ t) × (update (log p id) t (some v) t' ≡ some v)) ⊎ ((t' ≡ t → ⊥) × (update (log p id) t (some v) t' ≡ log p id t')) →
          ((p' ≡ p) × (id' ≡ id) × (t' ≡ t)) ⊎ (logged log p id t v p' id' t' ≡ log p' id' t')
      go (inr h) b c = inr (ap (λ f. f id' t') h.1)
      go (inl h) (inr i) c = inr (ap (λ f. f id' t') h.1 ∙ ap (λ f. f t') i.1 ∙ ap (λ r. log r id' t') (sym h.0))
      go (inl h) (inl i) (inr j) =
          inr (ap (λ f. f id' t') h.1 ∙ ap (λ f. f t') i.1 ∙ j.1 ∙ ap (λ r. log p r t') (sym i.0)
          ∙ ap (λ r. log r id' t') (sym h.0))
      go (inl h) (inl i) (inl j) = inl (h.0, i.0, j.0)

-- one log row more
module _ (log : Log) (p id t : ℕ) where
  -- a step of the new log is the one written, or is as before
  pub row_cases : (r : Result) (p' id' t' : ℕ) → ((p' ≡ p) × (id' ≡ id) × (t' ≡ t)) ⊎ Same log (with_row log p id t r) p' id' t'
  unfolding with_row
  row_cases (yields v) p' id' t' = logged_cases log.usual p id t v p' id' t'

  pub row_grows : (r : Result) → Free log p id t → (id' : ℕ) → Grows log (with_row log p id t r) id'
  row_grows r free id' p' t' w e = go (row_cases r p' id' t')
    where
      go : ((p' ≡ p) × (id' ≡ id) × (t' ≡ t)) ⊎ Same log (with_row log p id t r) p' id' t' → found (with_row log p id t r) p' id' t' ≡ some w
      go (inl h) = none_some w (free_none log p' id' t' (rw (h.0, h.1, h.2) free)) e
      go (inr h) = ap sought h ∙ e

  pub row_elsewhere : (r : Result) (p' id' t' : ℕ) → (id' ≡ id → ⊥) → Same log (with_row log p id t r) p' id' t'
  row_elsewhere r p' id' t' n = go (row_cases r p' id' t')
    where
      go : ((p' ≡ p) × (id' ≡ id) × (t' ≡ t)) ⊎ Same log (with_row log p id t r) p' id' t' → Same log (with_row log p id t r) p' id' t'
      go (inl h) = absurd (n h.1)
      go (inr h) = h

  pub row_later : (r : Result) (p' t' : ℕ) → suc t ≤ t' → Free log p' id t' → Free (with_row log p id t r) p' id t'
  row_later r p' t' l f = go (row_cases r p' id t')
    where
      go : ((p' ≡ p) × (id ≡ id) × (t' ≡ t)) ⊎ Same log (with_row log p id t r) p' id t' → Free (with_row log p id t r) p' id t'
      go (inl h) = absurd (let h₂ = h.2 in omega arith)
      go (inr h) = same_free log (with_row log p id t r) p' id t' h f

  -- the row written is found
  pub row_here : (r : Result) → found (with_row log p id t r) p id t ≡ some r
  unfolding with_row
  row_here (yields v) = ap sought (logged_here log.usual p id t v)

-- ── The walk ──

behind_stays : (onto : Result → Course) (t : ℕ) (o o' : Option Result) (s : Stage) →
    ((r : Result) → o ≡ some r → o' ≡ some r) → behind onto t o ≡ some s → behind onto t o' ≡ some s
unfolding behind
behind_stays onto t none o' s g e = none_some s refl e
behind_stays onto t (some r) o' s g e = rw (g r refl) e

-- behind a block that was logged
pub behind_at : (onto : Result → Course) (t : ℕ) (o : Option Result) (c : Course) (u : ℕ) → behind onto t o ≡ some (at c u) →
    (r : Result) × (onto r ≡ c) × (suc t ≡ u)
unfolding behind
behind_at onto t none c u e = none_some (at c u) refl e
behind_at onto t (some r) c u e = (r, cc, cc)

by_next_stays : (log log' : Log) (id t : ℕ) (x : Next) (s : Stage) →
    Grows log log' id → by_next log id t x ≡ some s → by_next log' id t x ≡ some s
by_next_stays log log' id t (goes to) s g e = e
by_next_stays log log' id t (says r) s g e = e
by_next_stays log log' id t (does from p onto) s g e = behind_stays onto t _ _ s (g p _) e

pub onward_stays : (log log' : Log) (id : ℕ) (code : Code) (o o' : Option Stage) (s : Stage) →
    Grows log log' id → ((u : Stage) → o ≡ some u → o' ≡ some u) → onward log id code o ≡ some s → onward log' id code o' ≡ some s
onward_stays log log' id code none o' s g k e = cc
onward_stays log log' id code (some (at c t)) o' s g k e =
    rw (k (at c t) refl) (by_next_stays log log' id t (next_of code c) s g e)
onward_stays log log' id code (some (finished r)) o' s g k e = cc

-- A follow stays when the log grows.
pub follow_stays : (log log' : Log) (id : ℕ) (code : Code) (q : Request) (n : ℕ) (s : Stage) →
    Grows log log' id → follow log id code q n ≡ some s → follow log' id code q n ≡ some s
unfolding follow
follow_stays log log' id code q zero s g e = e
follow_stays log log' id code q (suc n) s g e =
    onward_stays log log' id code (follow log id code q n) (follow log' id code q n) s g
    (λ u. follow_stays log log' id code q n u g) e

-- Who has come to n moves has come to n - 1.
onward_from : (log : Log) (id : ℕ) (code : Code) (o : Option Stage) (s : Stage) → onward log id code o ≡ some s →
    (c : Course) × (t : ℕ) × (o ≡ some (at c t))
onward_from log id code none s e = absurd (let z : ◌≡◌ {A = ℕ} 0 1 = cc in omega arith)
onward_from log id code (some (at c t)) s e = (c, t, refl)
onward_from log id code (some (finished r)) s e = absurd (let z : ◌≡◌ {A = ℕ} 0 1 = cc in omega arith)

pub follow_before : (log : Log) (id : ℕ) (code : Code) (q : Request) (n : ℕ) (s : Stage) → follow log id code q (suc n) ≡ some s →
    (c : Course) × (t : ℕ) × (follow log id code q n ≡ some (at c t))
unfolding follow
follow_before log id code q n s e = onward_from log id code (follow log id code q n) s e

-- and to each number of moves below n
pub follow_below : (log : Log) (id : ℕ) (code : Code) (q : Request) (n : ℕ) (s : Stage) (m : ℕ) → m < n →
    follow log id code q n ≡ some s → (c : Course) × (t : ℕ) × (follow log id code q m ≡ some (at c t))
follow_below log id code q zero s m h e = absurd (not-suc-le-zero h)
follow_below log id code q (suc n) s m h e =
    let b = follow_before log id code q n s e in
    go (le_cases m n (omega arith)) b (λ l. follow_below log id code q n (at b.0 b.1) m l b.2)
  where
    go : (m ≡ n) ⊎ (m < n) → ((c : Course) × (t : ℕ) × (follow log id code q n ≡ some (at c t))) →
        (m < n → (c : Course) × (t : ℕ) × (follow log id code q m ≡ some (at c t))) →
        (c : Course) × (t : ℕ) × (follow log id code q m ≡ some (at c t))
    go (inl i) b rec = rw i b
    go (inr i) b rec = rec i

-- the next stage, by what the agent does next
pub follow_next : (log : Log) (id : ℕ) (code : Code) (q : Request) (n : ℕ) (c : Course) (t : ℕ) (x : Next) (o : Option Stage) →
    follow log id code q n ≡ some (at c t) → next_of code c ≡ x → by_next log id t x ≡ o → follow log id code q (suc n) ≡ o
unfolding follow
follow_next log id code q n c t x o f e h = ap (onward log id code) f ∙ ap (by_next log id t) e ∙ h
