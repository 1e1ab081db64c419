-- The search for a key: what it comes to key by key, and that a reading of all rising keys comes to the same.
use mathlib.Core.Bool.{Bool, true, false}
use mathlib.Core.List.{List, [], ◌∷◌, ◌++◌}
use mathlib.Core.Path.{◌≡◌, refl, sym, ap, ◌∙◌}
use Prim.Native.Nat.{ℕ, suc, ◌+◌, ◌<◌}
use native.Mathlib.Omega.{arith}
use borrow.Author.Tests.{eq-eqb, ne_eqb, eqb-true, eqb-false, lt-ltb, le-ltb, ltb-true, ltb-false}
use lib.Dec.{eqb, ltb}
use lib.ListN.{drop}
use Rattle.words.specs.Words.{le, fields}
use Rattle.questions.specs.Basics.{if◌then◌otherwise◌}
use Rattle.questions.proofs.Tests.{and_left, and_right}
use Rattle.store.specs.Rows.{Row, keys_in, index_of, rank_of, first_has}
use Rattle.store.specs.Questions.{member, ahead, rising}
use Rattle.store.specs.Answers.{smaller, found_in, up_to, Searched, ended_at, rows_found}
use Rattle.store.specs.Answers.{Found}
use Rattle.std.specs.Prelude.{Ok, Err}

-- an answer n places further on
unfoldable pub shift : (n : ℕ) → Found → Found
shift n (Ok i) = Ok (n + i)
shift n (Err i) = Err (n + i)

-- what the search comes to: each smaller key is passed, and the first other one decides
unfoldable pub sought : (k : ℕ) → List ℕ → Found
sought k [] = Err 0
sought k (x ∷ ks) = if ltb x k then shift 1 (sought k ks) otherwise (if eqb x k then Ok 0 otherwise Err 0)

pub shift_none : (f : Found) → shift 0 f ≡ f
unfolding shift
shift_none (Ok i) = ap Ok (omega arith)
shift_none (Err i) = ap Err (omega arith)

pub shift_at : (n : ℕ) → shift n (Ok 0) ≡ Ok n
unfolding shift
shift_at n = ap Ok (omega arith)

pub shift_belongs : (n : ℕ) → shift n (Err 0) ≡ Err n
unfolding shift
shift_belongs n = ap Err (omega arith)

pub shift_more : (n : ℕ) (f : Found) → shift n (shift 1 f) ≡ shift (n + 1) f
unfolding shift
shift_more n (Ok i) = ap Ok (omega arith)
shift_more n (Err i) = ap Err (omega arith)

-- ---- a reading of the keys

-- a smaller key ahead puts all one place further on
found_later : (k x : ℕ) (ks : List ℕ) → x < k → found_in k (x ∷ ks) ≡ shift 1 (found_in k ks)
unfolding found_in member index_of smaller shift
found_later k x ks l = rw (ne_eqb x k (omega arith), lt-ltb x k l) (go (member k ks))
  where
    go : (b : Bool) → if◌then◌otherwise◌ b (Ok (suc (index_of k ks))) (Err (1 + smaller k ks)) ≡ shift 1
        (if◌then◌otherwise◌ b (Ok (index_of k ks)) (Err (smaller k ks)))
    go true = ap Ok (omega arith)
    go false = refl

found_here : (k x : ℕ) (ks : List ℕ) → x ≡ k → found_in k (x ∷ ks) ≡ Ok 0
unfolding found_in member index_of
found_here k x ks e = rw (eq-eqb x k e) refl

-- ahead of a greater key, where no key behind it is k or smaller
found_first : (k x : ℕ) (ks : List ℕ) → k < x → member k ks ≡ false → smaller k ks ≡ 0 → found_in k (x ∷ ks) ≡ Err 0
unfolding found_in member smaller
found_first k x ks l m s = rw (ne_eqb x k (omega arith), le-ltb x k (omega arith), m, s) refl

-- behind a greater key, rising keys are all greater
all_greater : (k x : ℕ) (ks : List ℕ) → k < x → rising (x ∷ ks) ≡ true → (member k ks ≡ false) × (smaller k ks ≡ 0)
unfolding rising ahead member smaller
all_greater k x [] l u = (refl, refl)
all_greater k x (y ∷ ks) l u =
    let m : x < y = ltb-true x y (and_left (ltb x y) _ u) in
    let more = all_greater k y ks (omega arith) (and_right (ltb x y) _ u) in
    (rw (ne_eqb y k (omega arith)) more.0, rw (le-ltb y k (omega arith)) (omega (arith, more.1)))

-- ---- the search agrees with it

module _ (k x : ℕ) (ks : List ℕ) where
  sought_more : x < k → sought k (x ∷ ks) ≡ shift 1 (sought k ks)
  unfolding sought
  sought_more l = rw (lt-ltb x k l) refl

  sought_here : x ≡ k → sought k (x ∷ ks) ≡ Ok 0
  unfolding sought
  sought_here e = rw (le-ltb x k (omega arith), eq-eqb x k e) refl

  sought_first : k < x → sought k (x ∷ ks) ≡ Err 0
  unfolding sought
  sought_first l = rw (le-ltb x k (omega arith), ne_eqb x k (omega arith)) refl

-- what it reads is enough
read_is : (k : ℕ) (ks : List ℕ) → found_in k (up_to k ks) ≡ sought k ks
unfolding up_to
read_is k [] = unfold found_in sought member smaller in refl
read_is k (x ∷ ks) = go (read_is k ks) (ltb x k) refl (eqb x k) refl
  where
    go : found_in k (up_to k ks) ≡ sought k ks → (b : Bool) → ltb x k ≡ b → (c : Bool) → eqb x k ≡ c →
        found_in k (up_to k (x ∷ ks)) ≡ sought k (x ∷ ks)
    go ih true e c f = let l : x < k = ltb-true x k e in rw e (found_later k x (up_to k ks) l ∙ ap (shift 1) ih ∙ sym (sought_more k x ks l))
    go ih false e true f = let q : x ≡ k = eqb-true x k f in rw e (found_here k x [] q ∙ sym (sought_here k x ks q))
    go ih false e false f =
        let l : k < x = omega (arith, ltb-false x k e, eqb-false x k f) in
        rw e (found_first k x [] l (unfold member in refl) (unfold smaller in refl) ∙ sym (sought_first k x ks l))

-- and so would all be, where the keys rise
all_is : (k : ℕ) (ks : List ℕ) → rising ks ≡ true → found_in k ks ≡ sought k ks
all_is k [] u = unfold found_in sought member smaller in refl
all_is k (x ∷ ks) u = go (all_is k ks (unfold rising in and_right (ahead x ks) _ u)) (ltb x k) refl (eqb x k) refl
  where
    go : found_in k ks ≡ sought k ks → (b : Bool) → ltb x k ≡ b → (c : Bool) → eqb x k ≡ c → found_in k (x ∷ ks) ≡ sought k (x ∷ ks)
    go ih true e c f = let l : x < k = ltb-true x k e in found_later k x ks l ∙ ap (shift 1) ih ∙ sym (sought_more k x ks l)
    go ih false e true f = let q : x ≡ k = eqb-true x k f in found_here k x ks q ∙ sym (sought_here k x ks q)
    go ih false e false f =
        let l : k < x = omega (arith, ltb-false x k e, eqb-false x k f) in
        let more = all_greater k x ks l u in
        found_first k x ks l more.0 more.1 ∙ sym (sought_first k x ks l)

-- what stands behind a greater key isn't read
sought_behind : (k g : ℕ) (low more other : List ℕ) → k < g → sought k (low ++ g ∷ more) ≡ sought k (low ++ g ∷ other)
sought_behind k g [] more other l = sought_first k g more l ∙ sym (sought_first k g other l)
sought_behind k g (x ∷ low) more other l = go (sought_behind k g low more other l)
  where
    go : sought k (low ++ g ∷ more) ≡ sought k (low ++ g ∷ other) → sought k (x ∷ low ++ g ∷ more) ≡ sought k (x ∷ low ++ g ∷ other)
    go ih = unfold sought in ap (λ (f : Found). if◌then◌otherwise◌ (ltb x k) (shift 1 f) (if◌then◌otherwise◌ (eqb x k) (Ok 0) (Err 0))) ih

-- The search's promise, of an answer found key by key.
pub searched : (k : ℕ) (ks : List ℕ) (found : Found) → found ≡ sought k ks → Searched k ks found
searched k ks found e =
    record {
      all = λ u. e ∙ sym (all_is k ks u);
      read = e ∙ sym (read_is k ks);
      behind = λ low more other g l same u. e ∙ ap (sought k) same ∙ sought_behind k g low more other l
          ∙ sym (all_is k (low ++ g ∷ other) u);
    }

-- ---- keys that lie in bytes, one behind the other

module _ (k w : ℕ) (xs : List ℕ) (o m n : ℕ) (e : m ≡ suc n) where
  pub next_smaller : le w xs o < k → sought k (fields w xs o m) ≡ shift 1 (sought k (fields w xs (o + w) n))
  unfolding fields
  next_smaller l = rw e (sought_more k (le w xs o) (fields w xs (o + w) n) l)

  pub next_equal : le w xs o ≡ k → sought k (fields w xs o m) ≡ Ok 0
  unfolding fields
  next_equal q = rw e (sought_here k (le w xs o) (fields w xs (o + w) n) q)

  pub next_greater : k < le w xs o → sought k (fields w xs o m) ≡ Err 0
  unfolding fields
  next_greater l = rw e (sought_first k (le w xs o) (fields w xs (o + w) n) l)

pub none_left : (k w : ℕ) (xs : List ℕ) (o m : ℕ) → m ≡ 0 → sought k (fields w xs o m) ≡ Err 0
unfolding fields sought
none_left k w xs o m e = rw e refl

-- ---- rows: the place where the search ends, and whether the row there has the key

ended_more : (f : Found) → ended_at (shift 1 f) ≡ suc (ended_at f)
unfolding ended_at shift
ended_more (Ok i) = omega arith
ended_more (Err i) = omega arith

found_more : (f : Found) → rows_found (shift 1 f) ≡ rows_found f
unfolding rows_found shift
found_more (Ok i) = refl
found_more (Err i) = refl

ended_rank : (k : ℕ) (rs : List Row) → ended_at (sought k (keys_in rs)) ≡ rank_of k rs
unfolding keys_in rank_of
ended_rank k [] = unfold ended_at sought in refl
ended_rank k (r ∷ rs) = go (ended_rank k rs) (ltb r.0 k) refl (eqb r.0 k) refl
  where
    go : ended_at (sought k (keys_in rs)) ≡ rank_of k rs → (b : Bool) → ltb r.0 k ≡ b → (c : Bool) → eqb r.0 k ≡ c →
        ended_at (sought k (r.0 ∷ keys_in rs)) ≡ rank_of k (r ∷ rs)
    go ih true e c f = rw (e, sought_more k r.0 (keys_in rs) (ltb-true r.0 k e)) (ended_more (sought k (keys_in rs)) ∙ ap suc ih)
    go ih false e true f = rw (e, sought_here k r.0 (keys_in rs) (eqb-true r.0 k f)) (unfold ended_at in refl)
    go ih false e false f =
        rw (e, sought_first k r.0 (keys_in rs) (omega (arith, ltb-false r.0 k e, eqb-false r.0 k f))) (unfold ended_at in refl)

found_first_has : (k : ℕ) (rs : List Row) → rows_found (sought k (keys_in rs)) ≡ first_has k (drop (rank_of k rs) rs)
unfolding keys_in rank_of
found_first_has k [] = unfold rows_found sought first_has in refl
found_first_has k (r ∷ rs) = go (found_first_has k rs) (ltb r.0 k) refl (eqb r.0 k) refl
  where
    go : rows_found (sought k (keys_in rs)) ≡ first_has k (drop (rank_of k rs) rs) → (b : Bool) → ltb r.0 k ≡ b → (c : Bool) →
        eqb r.0 k ≡ c
        → rows_found (sought k (r.0 ∷ keys_in rs)) ≡ first_has k (drop (rank_of k (r ∷ rs)) (r ∷ rs))
    go ih true e c f = rw (e, sought_more k r.0 (keys_in rs) (ltb-true r.0 k e)) (found_more (sought k (keys_in rs)) ∙ ih)
    go ih false e true f = rw (e, sought_here k r.0 (keys_in rs) (eqb-true r.0 k f)) (unfold rows_found first_has in rw f refl)
    go ih false e false f =
        rw (e, sought_first k r.0 (keys_in rs) (omega (arith, ltb-false r.0 k e, eqb-false r.0 k f)))
        (unfold rows_found first_has in rw f refl)

module _ (k : ℕ) (rs : List Row) (f : Found) (s : Searched k (keys_in rs) f) where
  is_sought : f ≡ sought k (keys_in rs)
  is_sought = s.read ∙ read_is k (keys_in rs)

  pub ends_at_rank : ended_at f ≡ rank_of k rs
  ends_at_rank = ap ended_at is_sought ∙ ended_rank k rs

  pub finds_first : rows_found f ≡ first_has k (drop (ended_at f) rs)
  finds_first = ap rows_found is_sought ∙ found_first_has k rs ∙ ap (λ (n : ℕ). first_has k (drop n rs)) (sym ends_at_rank)

-- the same of a reading of all rising keys that found none
module _ (k : ℕ) (rs : List Row) (u : rising (keys_in rs) ≡ true) (i : ℕ) (e : found_in k (keys_in rs) ≡ Err i) where
  not_found : sought k (keys_in rs) ≡ Err i
  not_found = sym (all_is k (keys_in rs) u) ∙ e

  pub belongs_at : i ≡ rank_of k rs
  belongs_at = unfold ended_at in (sym (ap ended_at not_found) ∙ ended_rank k rs)

  pub none_first : 0 ≡ first_has k (drop i rs)
  none_first = unfold rows_found in
      (sym (ap rows_found not_found) ∙ found_first_has k rs ∙ ap (λ (n : ℕ). first_has k (drop n rs)) (sym belongs_at))
