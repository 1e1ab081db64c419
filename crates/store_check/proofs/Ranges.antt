-- Tests of every number of a range, or of the keys at its places, as `all`, `any` and `find` answer them.
use mathlib.Core.Bool.{Bool, true, false, ◌&&◌, ◌||◌}
use mathlib.Core.List.{List}
use mathlib.Core.Path.{◌≡◌, refl, sym, ap, ◌∙◌}
use Prim.Native.Nat.{ℕ, zero, suc, ◌+◌, ◌-◌, ◌*◌, ◌≤◌, ◌<◌}
use native.Mathlib.Omega.{arith}
use borrow.Author.Tests.{eq-eqb, ne_eqb}
use lib.Dec.{eqb}
use denote.Bor.{Bor}
use denote.Param.Members.{Mut}
use Rattle.std.proofs.iter.Yields.{nat_range_steps}
use Rattle.std.proofs.lemmas.Iterator.{YieldsList-from_range, first_from_Range}
use Rattle.std.proofs.lemmas.Iterator.Search.{all_from_yields_List, any_from_yields_List}
use Rattle.std.specs.Bool.{⊤}
use Rattle.std.specs.Fn.{Called, CalledAt}
use Rattle.std.specs.Iterator.{YieldsThen}
use Rattle.std.specs.List.{FoldsTo, list_all, list_any, range_with_len}
use Rattle.std.specs.Option.{MatchOption}
use Rattle.std.specs.Prelude.{Option, Some, None}
use Rattle.std.specs.declared.ops.Range.{Range}
use Rattle.words.specs.Words.{le, fields}
use Rattle.questions.specs.Basics.{if◌then◌otherwise◌, each_from}
use Rattle.questions.proofs.Each.{each_fails, each_more, each_none}
use Rattle.store.specs.Rows.{index_of}
use Rattle.store.specs.Questions.{member, all_in}

-- ---- lists of numbers in a row

each_listed : (f : ℕ → Bool) (n a : ℕ) → list_all f (range_with_len a n) ≡ each_from f n a
unfolding each_from
each_listed f zero a = refl
each_listed f (suc n) a = go (f a) (each_listed f n (a + 1))
  where
    go : {r e : Bool} → (b : Bool) → r ≡ e → (b && r) ≡ (if b then e otherwise false)
    go true q = q
    go false q = refl

-- the keys from byte `from` on
module _ (xs : List ℕ) (from : ℕ) where
  all_listed : (f : ℕ → Bool) (n a : ℕ) →
      list_all (λ i. f (le 8 xs (from + 8 * i))) (range_with_len a n) ≡ all_in f (fields 8 xs (from + 8 * a) n)
  unfolding all_in fields
  all_listed f zero a = refl
  all_listed f (suc n) a =
      let o : from + 8 * a + 8 ≡ from + 8 * (a + 1) = omega arith in
      rw o (ap (λ (b : Bool). f (le 8 xs (from + 8 * a)) && b) (all_listed f n (a + 1)))

  any_listed : (k n a : ℕ) →
      list_any (λ i. eqb (le 8 xs (from + 8 * i)) k) (range_with_len a n) ≡ member k (fields 8 xs (from + 8 * a) n)
  unfolding member fields
  any_listed k zero a = refl
  any_listed k (suc n) a =
      let o : from + 8 * a + 8 ≡ from + 8 * (a + 1) = omega arith in
      rw o (ap (λ (b : Bool). eqb (le 8 xs (from + 8 * a)) k || b) (any_listed k n (a + 1)))

-- ---- what `all` and `any` answer over a range

module _ {F : Type 0} {g : Mut F (ℕ × Unit {0}) Bool} {s : Range ℕ} (u : Range ℕ) (c : F) (r : Bool) (n : ℕ) (e : s.end - s.start ≡ n) where
  module _ (ran : (xs : List ℕ) × (o : Option ℕ) × (j : F) × YieldsThen nat_range_steps s xs o u
      × FoldsTo (λ p x q. Called g p (x, tt) true q) c xs j
      × MatchOption o (r ≡ true) (λ x. (r ≡ false) × ((h : F) × Called g j (x, tt) false h))) where
    pub each_of_all : (f : ℕ → Bool) → ((x : ℕ) (b : Bool) (q : F) → Called g c (x, tt) b q → (q ≡ c) × (b ≡ f x)) →
        r ≡ each_from f n s.start
    each_of_all f h =
        all_from_yields_List f u c r ran (YieldsList-from_range s.start s.end n refl e) h
        ∙ each_listed f n s.start

    pub keys_of_all : (xs : List ℕ) (from at : ℕ) → at ≡ from + 8 * s.start → (f : ℕ → Bool) →
        ((x : ℕ) (b : Bool) (q : F) → Called g c (x, tt) b q → (q ≡ c) × (b ≡ f (le 8 xs (from + 8 * x)))) →
        r ≡ all_in f (fields 8 xs at n)
    keys_of_all xs from at o f h =
        all_from_yields_List (λ i. f (le 8 xs (from + 8 * i))) u c r ran (YieldsList-from_range s.start s.end n refl e) h
        ∙ all_listed xs from f n s.start
        ∙ ap (λ (o : ℕ). all_in f (fields 8 xs o n)) (sym o)

  pub member_of_any : (xs : List ℕ) (from k : ℕ) →
      (ys : List ℕ) × (o : Option ℕ) × (j : F) × YieldsThen nat_range_steps s ys o u
      × FoldsTo (λ p x q. Called g p (x, tt) false q) c ys j
      × MatchOption o (r ≡ false) (λ x. (r ≡ true) × ((h : F) × Called g j (x, tt) true h)) →
      ((x : ℕ) (b : Bool) (q : F) → Called g c (x, tt) b q → (q ≡ c) × (b ≡ eqb (le 8 xs (from + 8 * x)) k)) →
      r ≡ member k (fields 8 xs (from + 8 * s.start) n)
  member_of_any xs from k ran h =
      any_from_yields_List (λ i. eqb (le 8 xs (from + 8 * i)) k) u c r ran (YieldsList-from_range s.start s.end n refl e) h
      ∙ any_listed xs from k n s.start

-- ---- the first key that is k, as `find` answers it

pub index_first : (k : ℕ) (xs : List ℕ) (from n i : ℕ) → i < n → le 8 xs (from + 8 * i) ≡ k →
    ((j : ℕ) → j < i → le 8 xs (from + 8 * j) ≡ k → ⊥) → index_of k (fields 8 xs from n) ≡ i
unfolding index_of fields
index_first k xs from zero i h e never = absurd (omega arith)
index_first k xs from (suc n) zero h e never =
    let o : from + 8 * 0 ≡ from = omega arith in
    rw (eq-eqb (le 8 xs from) k (ap (le 8 xs) (sym o) ∙ e)) refl
index_first k xs from (suc n) (suc i) h e never =
    let o : from + 8 * 0 ≡ from = omega arith in
    let there : (j : ℕ) → from + 8 + 8 * j ≡ from + 8 * suc j = λ j. omega arith in
    rw (ne_eqb (le 8 xs from) k (λ q. never 0 (omega arith) (ap (le 8 xs) o ∙ q)))
    (ap suc (index_first k xs (from + 8) n i (omega arith) (ap (le 8 xs) (there i) ∙ e)
    (λ j l q. never (suc j) (omega arith) (ap (le 8 xs) (sym (there j)) ∙ q))))

pub index_absent : (k : ℕ) (xs : List ℕ) (from n : ℕ) → ((j : ℕ) → j < n → le 8 xs (from + 8 * j) ≡ k → ⊥) →
    index_of k (fields 8 xs from n) ≡ n
unfolding index_of fields
index_absent k xs from zero never = refl
index_absent k xs from (suc n) never =
    let o : from + 8 * 0 ≡ from = omega arith in
    let there : (j : ℕ) → from + 8 + 8 * j ≡ from + 8 * suc j = λ j. omega arith in
    rw (ne_eqb (le 8 xs from) k (λ q. never 0 (omega arith) (ap (le 8 xs) o ∙ q)))
    (ap suc (index_absent k xs (from + 8) n (λ j l q. never (suc j) (omega arith) (ap (le 8 xs) (sym (there j)) ∙ q))))

pub place_of_find : {F : Type 0} {g : Mut F (Bor ℕ × Unit {0}) Bool} (xs : List ℕ) (from k n : ℕ) (u : Range ℕ) (c : F) (r : Option ℕ) →
    (ys : List ℕ) × (j : F) × YieldsThen nat_range_steps record { start = 0; end = n } ys r u
    × FoldsTo (λ p x q. CalledAt g p x false q) c ys j × MatchOption r ⊤ (λ x. (h : F) × CalledAt g j x true h) →
    ((x : ℕ) (q : F) → CalledAt g c x true q → le 8 xs (from + 8 * x) ≡ k) →
    ((x : ℕ) (q : F) → CalledAt g c x false q → (q ≡ c) × (le 8 xs (from + 8 * x) ≡ k → ⊥)) →
    MatchOption r (index_of k (fields 8 xs from n) ≡ n) (λ i. (i < n) × (index_of k (fields 8 xs from n) ≡ i))
place_of_find xs from k n u c r ran is_k other =
    go r
    (first_from_Range record { start = 0; end = n } u c r (λ i. le 8 xs (from + 8 * i) ≡ k) (λ i. le 8 xs (from + 8 * i) ≡ k → ⊥) ran is_k other)
  where
    go : (r : Option ℕ) →
        MatchOption r ((j : ℕ) → 0 ≤ j → j < n → le 8 xs (from + 8 * j) ≡ k → ⊥)
        (λ i. (0 ≤ i) × (i < n) × (le 8 xs (from + 8 * i) ≡ k) × ((j : ℕ) → 0 ≤ j → j < i → le 8 xs (from + 8 * j) ≡ k → ⊥)) →
        MatchOption r (index_of k (fields 8 xs from n) ≡ n) (λ i. (i < n) × (index_of k (fields 8 xs from n) ≡ i))
    go None h = index_absent k xs from n (λ j l. h j (omega arith) l)
    go (Some i) h = (h.1, index_first k xs from n i h.1 h.2 (λ j l. h.3 j (omega arith) l))

-- what a loop that leaves at the first no needs
pub ruleset each_on = (each_fails, each_more, each_none)
