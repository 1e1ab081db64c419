-- Laws of sums and of some partition, for W-207: rows by rising key are summed by what is found at each key, so a change at one key
-- changes the sum by that.
use mathlib.Core.Bool.{Bool, true, false, ◌||◌}
use mathlib.Core.List.{List, [], ◌∷◌}
use mathlib.Core.Option.{Option, none, some}
use mathlib.Core.Path.{◌≡◌, refl, sym, ◌∙◌, ap, ap₂}
use Prim.Native.Nat.{ℕ, zero, suc, ◌+◌, ◌<◌}
use native.Mathlib.Omega.{arith}
use native.Mathlib.Decide.{ℕ_discrete}
use borrow.Author.Tests.{eq-eqb, ne_eqb, eqb-true, eqb-false}
use lib.Dec.{eqb}
use Rattle.questions.specs.Basics.{if◌then◌otherwise◌, sum_below}
use Rattle.questions.proofs.Tests.{and_right}
use Rattle.store.specs.Rows.{Row, keys_in, lookup}
use Rattle.store.specs.Questions.{ahead, rising}
use Rattle.store.proofs.Lists.{rises_none}
use Rattle.chain.specs.NothingLost.{any_below, sum_over}

-- what is found at a key counts
abbrev pub count_at : (counts : Row → ℕ) → (k : ℕ) → Option ℕ → ℕ
count_at counts k none = 0
count_at counts k (some v) = counts (k, v)

-- all rows but that of key k
abbrev without : (k : ℕ) → (counts : Row → ℕ) → Row → ℕ
without k counts r = if eqb r.0 k then 0 otherwise counts r

count_gone : (counts : Row → ℕ) (K k : ℕ) (o : Option ℕ) → eqb k K ≡ true → count_at (without K counts) k o ≡ 0
count_gone counts K k none q = refl
count_gone counts K k (some v) q = rw q refl

count_kept : (counts : Row → ℕ) (K k : ℕ) (o : Option ℕ) → eqb k K ≡ false → count_at (without K counts) k o ≡ count_at counts k o
count_kept counts K k none q = refl
count_kept counts K k (some v) q = rw q refl

-- a key that has no row
without_none : (counts : Row → ℕ) (k : ℕ) (rows : List Row) → lookup k rows ≡ none → sum_over (without k counts) rows ≡ sum_over counts rows
unfolding sum_over lookup
without_none counts k [] e = refl
without_none counts k (r ∷ rows) e = go (eqb r.0 k) refl (without_none counts k rows)
  where
    go : (b : Bool) → eqb r.0 k ≡ b → (lookup k rows ≡ none → sum_over (without k counts) rows ≡ sum_over counts rows) →
        sum_over (without k counts) (r ∷ rows) ≡ sum_over counts (r ∷ rows)
    go true q rec = absurd (let h : some r.1 ≡ none = rw q at e in let z : ◌≡◌ {A = ℕ} 0 1 = cc in omega arith)
    go false q rec = rw q (ap (λ n. counts r + n) (rec (rw q at e)))

pub tail_rises : (r : Row) (rows : List Row) → rising (keys_in (r ∷ rows)) ≡ true → rising (keys_in rows) ≡ true
unfolding rising keys_in
tail_rises r rows u = and_right (ahead r.0 (keys_in rows)) _ u

pub head_alone : (r : Row) (rows : List Row) → rising (keys_in (r ∷ rows)) ≡ true → lookup r.0 rows ≡ none
unfolding keys_in
head_alone r rows u = rises_none r.0 rows u

-- one row and all others
split_at : (counts : Row → ℕ) (k : ℕ) (rows : List Row) → rising (keys_in rows) ≡ true →
    sum_over counts rows ≡ count_at counts k (lookup k rows) + sum_over (without k counts) rows
unfolding sum_over lookup
split_at counts k [] u = refl
split_at counts k (r ∷ rows) u = go (eqb r.0 k) refl (split_at counts k rows (tail_rises r rows u))
  where
    go : (b : Bool) → eqb r.0 k ≡ b → sum_over counts rows ≡ count_at counts k (lookup k rows) + sum_over (without k counts) rows →
        sum_over counts (r ∷ rows) ≡ count_at counts k (lookup k (r ∷ rows)) + sum_over (without k counts) (r ∷ rows)
    go true q rec =
        let e = eqb-true r.0 k q in
        let rest = without_none counts k rows (ap (λ n. lookup n rows) (sym e) ∙ head_alone r rows u) in
        let here : counts r ≡ counts (k, r.1) = ap (λ n. counts (n, r.1)) e in
        rw q (omega (arith, rest, here))
    go false q rec = rw q (omega (arith, rec))

-- rows of which none counts
sum_zero : (counts : Row → ℕ) (rows : List Row) → rising (keys_in rows) ≡ true → ((k : ℕ) → count_at counts k (lookup k rows) ≡ 0) →
    sum_over counts rows ≡ 0
unfolding sum_over lookup
sum_zero counts [] u h = refl
sum_zero counts (r ∷ rows) u h =
    let here : counts r ≡ 0 = rw (eq-eqb r.0 r.0 refl) at (h r.0) in
    let rest = sum_zero counts rows (tail_rises r rows u) (λ k. go k (eqb r.0 k) refl) in
    omega (arith, here, rest)
  where
    go : (k : ℕ) (b : Bool) → eqb r.0 k ≡ b → count_at counts k (lookup k rows) ≡ 0
    go k true q = ap (λ n. count_at counts k (lookup n rows)) (sym (eqb-true r.0 k q)) ∙ ap (count_at counts k) (head_alone r rows u)
    go k false q = rw q at (h k)

-- Where at each key the same is counted, the sums are the same.
pub same_sum : (counts counts' : Row → ℕ) (rows rows' : List Row) → rising (keys_in rows) ≡ true → rising (keys_in rows') ≡ true →
    ((k : ℕ) → count_at counts k (lookup k rows) ≡ count_at counts' k (lookup k rows')) → sum_over counts rows ≡ sum_over counts' rows'
unfolding sum_over lookup
same_sum counts counts' [] rows' u u' h = sym (sum_zero counts' rows' u' (λ k. sym (h k)))
same_sum counts counts' (r ∷ rows) rows' u u' h =
    let here : counts r ≡ count_at counts' r.0 (lookup r.0 rows') = rw (eq-eqb r.0 r.0 refl) at (h r.0) in
    let rest = same_sum counts (without r.0 counts') rows rows' (tail_rises r rows u) u' (λ k. go k (eqb r.0 k) refl) in
    omega (arith, here, rest, split_at counts' r.0 rows' u')
  where
    go : (k : ℕ) (b : Bool) → eqb r.0 k ≡ b → count_at counts k (lookup k rows) ≡ count_at (without r.0 counts') k (lookup k rows')
    go k true q =
        let e = eqb-true r.0 k q in
        ap (λ n. count_at counts k (lookup n rows)) (sym e) ∙ ap (count_at counts k) (head_alone r rows u)
        ∙ sym (count_gone counts' r.0 k (lookup k rows') (eq-eqb k r.0 (sym e)))
    go k false q =
        (let z : count_at counts k (lookup k rows) ≡ count_at counts' k (lookup k rows') = rw q at (h k) in z)
        ∙ sym (count_kept counts' r.0 k (lookup k rows') (ne_eqb k r.0 (λ e. eqb-false r.0 k q (sym e))))

-- Where only at one key something else is counted, the sums differ by that.
pub changed_sum : (counts counts' : Row → ℕ) (K : ℕ) (rows rows' : List Row) → rising (keys_in rows) ≡ true → rising (keys_in rows') ≡ true →
    ((k : ℕ) → (k ≡ K → ⊥) → count_at counts k (lookup k rows) ≡ count_at counts' k (lookup k rows')) →
    sum_over counts' rows' + count_at counts K (lookup K rows) ≡ sum_over counts rows + count_at counts' K (lookup K rows')
changed_sum counts counts' K rows rows' u u' h =
    omega (
      arith,
      split_at counts K rows u,
      split_at counts' K rows' u',
      same_sum (without K counts) (without K counts') rows rows' u u' (λ k. go k (eqb k K) refl),
    )
  where
    go : (k : ℕ) (b : Bool) → eqb k K ≡ b → count_at (without K counts) k (lookup k rows) ≡ count_at (without K counts') k (lookup k rows')
    go k true q = count_gone counts K k (lookup k rows) q ∙ sym (count_gone counts' K k (lookup k rows') q)
    go k false q =
        count_kept counts K k (lookup k rows) q ∙ h k (eqb-false k K q) ∙ sym (count_kept counts' K k (lookup k rows') q)

-- ── over partitions ──

pub same_below : (n : ℕ) (f g : ℕ → ℕ) → ((p : ℕ) → p < n → f p ≡ g p) → sum_below n f ≡ sum_below n g
unfolding sum_below
same_below zero f g h = refl
same_below (suc n) f g h = omega (arith, same_below n f g (λ p l. h p (omega arith)), h n (omega arith))

pub changed_below : (n : ℕ) (f g : ℕ → ℕ) (q : ℕ) → q < n → ((p : ℕ) → p < n → (p ≡ q → ⊥) → f p ≡ g p) →
    sum_below n g + f q ≡ sum_below n f + g q
unfolding sum_below
changed_below zero f g q l h = absurd (omega arith)
changed_below (suc n) f g q l h = go (ℕ_discrete q n) (λ m. changed_below n f g q m (λ p k. h p (omega arith)))
  where
    go : Dec (q ≡ n) → (q < n → sum_below n g + f q ≡ sum_below n f + g q) → sum_below (suc n) g + f q ≡ sum_below (suc n) f + g q
    go (yes e) rec =
        let same = same_below n f g (λ p k. h p (omega arith) (λ w. omega arith)) in
        let a : f q ≡ f n = ap f e in
        let b : g q ≡ g n = ap g e in
        omega (arith, same, a, b)
    go (no d) rec = let same = h n (omega arith) (λ w. d (sym w)) in omega (arith, rec (omega arith), same)

pub none_below : (n : ℕ) (f : ℕ → ℕ) → ((p : ℕ) → f p ≡ 0) → sum_below n f ≡ 0
unfolding sum_below
none_below zero f h = refl
none_below (suc n) f h = omega (arith, none_below n f h, h n)

-- ── some partition ──

pub any_same : (n : ℕ) (f g : ℕ → Bool) → ((p : ℕ) → p < n → f p ≡ g p) → any_below n f ≡ any_below n g
unfolding any_below
any_same zero f g h = refl
any_same (suc n) f g h = ap₂ ◌||◌ (any_same n f g (λ p l. h p (omega arith))) (h n (omega arith))

pub any_none : (n : ℕ) (f : ℕ → Bool) → ((p : ℕ) → f p ≡ false) → any_below n f ≡ false
unfolding any_below
any_none zero f h = refl
any_none (suc n) f h = ap₂ ◌||◌ (any_none n f h) (h n)

pub any_some : (n : ℕ) (f : ℕ → Bool) (p : ℕ) → p < n → f p ≡ true → any_below n f ≡ true
unfolding any_below
any_some zero f p l e = absurd (omega arith)
any_some (suc n) f p l e = go (ℕ_discrete p n) (any_some n f p)
  where
    or_true : (b : Bool) → (b || true) ≡ true
    or_true true = refl
    or_true false = refl

    go : Dec (p ≡ n) → (p < n → f p ≡ true → any_below n f ≡ true) → any_below (suc n) f ≡ true
    go (yes w) rec = ap (λ b. any_below n f || b) (ap f (sym w) ∙ e) ∙ or_true (any_below n f)
    go (no w) rec = ap (λ b. b || f n) (rec (omega arith) e)
