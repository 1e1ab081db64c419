-- The key forms: each passes its test, is within its bounds, and data keys and log keys never meet; so a data row put is a change of the
-- table, and a log row put one of the log and none of the table.
use mathlib.Core.Bool.{Bool, true, false}
use mathlib.Core.Path.{◌≡◌, refl, sym, ◌∙◌, ap}
use mathlib.Core.Logic.{◌⊎◌, inl, inr, ⊎_elim}
use mathlib.Core.Option.{Option, none, some}
use Prim.Native.Nat.{ℕ, ◌+◌, ◌%◌, ◌^◌, ◌≤◌, ◌<◌}
use native.Mathlib.Omega.{arith}
use borrow.Author.Tests.{lt-ltb, le-leb, lt-leb, leb-true, ltb-true, le-ltb, eq-eqb, ne_eqb, eqb-true}
use lib.Dec.{eqb, ltb, leb, ltb→lt, lt→ltb, nltb→le}
use Rattle.questions.specs.Basics.{if◌then◌otherwise◌, update}
use Rattle.keys.specs.Keys.{data_key, is_data_key, data_of, log_key, is_log_key, id_of, step_of, is_form, table_of, log_of}
use Rattle.keys.specs.Keys.{book_key, is_book_key, booked_id, book_row, is_workflow_key, floor_key, is_floor_key}
use Rattle.questions.proofs.Tests.{and_left, and_right, no_yes}
use Rattle.questions.proofs.Updates.{eqb_cases, T_true, true_T, update_same, update_other}

-- ── Each form passes its test ──

pub data_is : (k : ℕ) → k < 2 ^ 32 → is_data_key (data_key k) ≡ true
unfolding is_data_key
data_is k h = rw (le-leb (2 ^ 63) (data_key k) (omega arith), lt-ltb (data_key k) (2 ^ 63 + 2 ^ 32) (omega arith)) refl

pub log_is : (id t : ℕ) → id < 2 ^ 32 → t < 65536 → is_log_key (log_key id t) ≡ true
unfolding is_log_key
log_is id t h g = lt-ltb (log_key id t) (2 ^ 48) (omega arith)

pub book_is : (id j : ℕ) → id < 2 ^ 32 → j ≤ 4 → is_book_key (book_key id j) ≡ true
unfolding is_book_key
book_is id j h g = rw (lt-ltb (book_key id j) (2 ^ 35) (omega arith), le-leb (book_key id j % 8) 4 (omega arith)) refl

pub workflow_is : (id : ℕ) → id < 2 ^ 32 → is_workflow_key (book_key id 0) ≡ true
unfolding is_workflow_key
workflow_is id h = rw (book_is id 0 h (omega arith), eq-eqb (book_row (book_key id 0)) 0 (omega arith)) refl

pub floor_is : is_floor_key floor_key ≡ true
unfolding is_floor_key
floor_is = eq-eqb floor_key floor_key refl

-- ── And is within its bounds ──

pub data_bounds : (k : ℕ) → is_data_key k ≡ true → (2 ^ 63 ≤ k) × (k < 2 ^ 63 + 2 ^ 32)
unfolding is_data_key
data_bounds k e = (leb-true (2 ^ 63) k (and_left (leb (2 ^ 63) k) _ e), ltb-true k (2 ^ 63 + 2 ^ 32) (and_right (leb (2 ^ 63) k) _ e))

pub log_bounds : (k : ℕ) → is_log_key k ≡ true → k < 2 ^ 48
unfolding is_log_key
log_bounds k e = ltb-true k (2 ^ 48) e

pub book_bounds : (k : ℕ) → is_book_key k ≡ true → (k < 2 ^ 35) × (k % 8 ≤ 4)
unfolding is_book_key
book_bounds k e = (ltb-true k (2 ^ 35) (and_left (ltb k (2 ^ 35)) _ e), leb-true (k % 8) 4 (and_right (ltb k (2 ^ 35)) _ e))

pub floor_bounds : (k : ℕ) → is_floor_key k ≡ true → k ≡ floor_key
unfolding is_floor_key
floor_bounds k e = eqb-true k floor_key e

-- a key of the book's forms is a book key or the floor's
pub form_book : (k : ℕ) → is_form true k ≡ true → (is_book_key k ≡ true) ⊎ (k ≡ floor_key)
unfolding is_form
form_book k e = go (is_book_key k) refl
  where
    go : (t : Bool) → is_book_key k ≡ t → (is_book_key k ≡ true) ⊎ (k ≡ floor_key)
    go true b = inl b
    go false b = inr (floor_bounds k (rw b at e))

-- so none of them is greater than the floor's
pub form_floor : (k : ℕ) → is_form true k ≡ true → k ≤ floor_key
form_floor k e = ⊎_elim (λ b. omega (arith, book_bounds k b)) (λ f. omega (arith, f)) (form_book k e)

-- every key of a form lies below this, so that there is one above it
abbrev pub key_bound : ℕ
key_bound = data_key (2 ^ 32)

pub form_bound : (b : Bool) (k : ℕ) → is_form b k ≡ true → k < key_bound
unfolding is_form
form_bound true k e = omega (arith, form_floor k e)
form_bound false k e = go (is_data_key k) refl
  where
    go : (t : Bool) → is_data_key k ≡ t → k < key_bound
    go true d = (data_bounds k d).1
    go false d = omega (arith, log_bounds k (rw d at e))

-- ── The floor's key and book keys never meet ──

pub book_no_floor : (k : ℕ) → is_book_key k ≡ true → is_floor_key k ≡ false
unfolding is_floor_key
book_no_floor k e = ne_eqb k floor_key (λ q. omega (arith, (book_bounds k e).0))

pub floor_no_book : is_book_key floor_key ≡ false
unfolding is_book_key
floor_no_book = rw (le-ltb floor_key (2 ^ 35) (omega arith)) refl

-- nor does a row of a request have it
pub key_no_floor : (id j : ℕ) → id < 2 ^ 32 → j ≤ 4 → is_floor_key (book_key id j) ≡ false
key_no_floor id j h g = book_no_floor (book_key id j) (book_is id j h g)

-- the floor's key is of a form of the book
pub floor_form : is_form true floor_key ≡ true
unfolding is_form
floor_form = rw (floor_no_book, floor_is) refl

-- ── What is taken apart is put together again ──

data_again : (k : ℕ) → is_data_key k ≡ true → (data_of k < 2 ^ 32) × (data_key (data_of k) ≡ k)
data_again k e = let b = data_bounds k e in (omega arith, omega arith)

log_again : (k : ℕ) → is_log_key k ≡ true → (id_of k < 2 ^ 32) × (step_of k < 65536) × (log_key (id_of k) (step_of k) ≡ k)
log_again k e = let b = log_bounds k e in (omega arith, omega arith, omega arith)

pub book_again : (k : ℕ) → is_book_key k ≡ true → (booked_id k < 2 ^ 32) × (book_row k ≤ 4) × (book_key (booked_id k) (book_row k) ≡ k)
book_again k e = let b = book_bounds k e in (omega arith, b.1, omega arith)

-- ── What the table and the log say of a stored key is what the rows say ──

module _ (f : ℕ → Option ℕ) (k : ℕ) where
  pub data_said : is_data_key k ≡ true → table_of f (data_of k) ≡ f k
  data_said e = let b = data_again k e in rw (lt-ltb (data_of k) (2 ^ 32) b.0) (ap f b.1)

  pub log_said : is_log_key k ≡ true → log_of f (id_of k) (step_of k) ≡ f k
  log_said e = let b = log_again k e in rw (lt-ltb (id_of k) (2 ^ 32) b.0, lt-ltb (step_of k) 65536 b.1) (ap f b.2)

-- ── Data keys and log keys never meet ──

pub log_no_data : (k : ℕ) → is_log_key k ≡ true → is_data_key k ≡ false
unfolding is_data_key
log_no_data k e = let l = log_bounds k e in rw (lt-leb (2 ^ 63) k (omega arith)) refl

-- a key is of one kind by its side of data key 0
pub no_log : (k : ℕ) → data_key 0 ≤ k → is_log_key k ≡ false
unfolding is_log_key
no_log k h = le-ltb k (2 ^ 48) (omega arith)

pub no_data : (k : ℕ) → k < data_key 0 → is_data_key k ≡ false
unfolding is_data_key
no_data k h = rw (lt-leb (data_key 0) k h) refl

-- and a key of a form is of that kind (the book's keys lie within those of log rows)
pub form_log : (b : Bool) (k : ℕ) → is_form b k ≡ true → k < data_key 0 → is_log_key k ≡ true
unfolding is_form
form_log true k f h = unfold is_log_key in lt-ltb k (2 ^ 48) (omega (arith, form_floor k f))
form_log false k f h = rw (no_data k h) at f

pub form_data : (b : Bool) (k : ℕ) → is_form b k ≡ true → data_key 0 ≤ k → is_data_key k ≡ true
unfolding is_form
form_data true k f h = absurd (omega (arith, form_floor k f))
form_data false k f h = go (is_data_key k) refl
  where
    go : (d : Bool) → is_data_key k ≡ d → is_data_key k ≡ true
    go true e = e
    go false e = no_yes (sym (no_log k h) ∙ (rw e at f))

-- ── A row put ──

abbrev EqbCases : ℕ → ℕ → Type 0
EqbCases j k = ((j ≡ k) × (eqb j k ≡ true)) ⊎ ((j ≡ k → ⊥) × (eqb j k ≡ false))

less : (m n : ℕ) → ltb m n ≡ true → m < n
less m n e = ltb→lt m n (true_T (ltb m n) e)

below : (m n : ℕ) → m < n → ltb m n ≡ true
below m n h = T_true (ltb m n) (lt→ltb m n h)

not_below : (j n : ℕ) → ltb j n ≡ false → n ≤ j
not_below j n e = nltb→le j n (rw e tt)

module _ (f : ℕ → Option ℕ) (v : ℕ) where
  -- a data row put is a change of the table
  module _ (k : ℕ) (h : k < 2 ^ 32) where
    pub data_put : (j : ℕ) → table_of (update f (data_key k) (some v)) j ≡ update (table_of f) k (some v) j
    data_put j = go (ltb j (2 ^ 32)) refl (eqb_cases j k)
      where
        go : (b : Bool) → ltb j (2 ^ 32) ≡ b → EqbCases j k →
            if◌then◌otherwise◌ b (update f (data_key k) (some v) (data_key j)) none ≡ if◌then◌otherwise◌ (eqb j k) (some v)
            (if◌then◌otherwise◌ b (f (data_key j)) none)
        go true e (inl c) =
            ap (λ i. update f (data_key k) (some v) (data_key i)) c.0 ∙ update_same f (data_key k) (some v)
            ∙ ap (λ b. if◌then◌otherwise◌ b (some v) (f (data_key j))) (sym c.1)
        go true e (inr c) =
            update_other f (data_key k) (some v) (data_key j) (λ p. c.0 (omega arith))
            ∙ ap (λ b. if◌then◌otherwise◌ b (some v) (f (data_key j))) (sym c.1)
        go false e (inl c) = absurd (let l = not_below j (2 ^ 32) e in omega arith)
        go false e (inr c) = rw c.1 refl

  -- a log row put is a change of the log, and none of the table
  module _ (id t : ℕ) (h : id < 2 ^ 32) (h' : t < 65536) where
    log_same : log_of (update f (log_key id t) (some v)) id t ≡ some v
    log_same = rw (below id (2 ^ 32) h, below t 65536 h') (update_same f (log_key id t) (some v))

    log_other : (i u : ℕ) → (i ≡ id → u ≡ t → ⊥) → log_of (update f (log_key id t) (some v)) i u ≡ log_of f i u
    log_other i u n = go (ltb i (2 ^ 32)) (ltb u 65536) refl
      where
        go : (b c : Bool) → ltb u 65536 ≡ c →
            if◌then◌otherwise◌ b (if◌then◌otherwise◌ c (update f (log_key id t) (some v) (log_key i u)) none) none ≡
            if◌then◌otherwise◌ b (if◌then◌otherwise◌ c (f (log_key i u)) none) none
        go true true e =
            update_other f (log_key id t) (some v) (log_key i u)
            (λ p. let l = less u 65536 e in let q : i ≡ id = omega arith in n q (omega arith))
        go true false e = refl
        go false c e = refl

    pub log_put : (i u : ℕ) → log_of (update f (log_key id t) (some v)) i u ≡ update (log_of f) id (update (log_of f id) t (some v)) i u
    log_put i u = go (eqb_cases i id) (eqb_cases u t)
      where
        row : ℕ → Option ℕ
        row = update (log_of f id) t (some v)

        at_id : i ≡ id → update (log_of f) id row i u ≡ row u
        at_id p = ap (λ x. update (log_of f) id row x u) p ∙ ap (λ g. g u) (update_same (log_of f) id row)

        go : EqbCases i id → EqbCases u t → log_of (update f (log_key id t) (some v)) i u ≡ update (log_of f) id row i u
        go (inl a) (inl b) =
            ap (λ x. log_of (update f (log_key id t) (some v)) x u) a.0 ∙ ap (log_of (update f (log_key id t) (some v)) id) b.0
            ∙ log_same
            ∙ sym (at_id a.0 ∙ ap row b.0 ∙ update_same (log_of f id) t (some v))
        go (inl a) (inr b) =
            log_other i u (λ p q. b.0 q)
            ∙ sym (at_id a.0 ∙ update_other (log_of f id) t (some v) u b.0 ∙ ap (λ x. log_of f x u) (sym a.0))
        go (inr a) b = log_other i u (λ p q. a.0 p) ∙ sym (ap (λ g. g u) (update_other (log_of f) id row i a.0))

    pub log_put_data : (k : ℕ) → table_of (update f (log_key id t) (some v)) k ≡ table_of f k
    log_put_data k = go (ltb k (2 ^ 32))
      where
        go : (b : Bool) → if◌then◌otherwise◌ b (update f (log_key id t) (some v) (data_key k)) none ≡ if◌then◌otherwise◌ b (f (data_key k)) none
        go true = update_other f (log_key id t) (some v) (data_key k) (λ p. omega arith)
        go false = refl
