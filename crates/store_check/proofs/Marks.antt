-- A table of marks: each key that is passed leaves a mark at its place, key % 8179, so a key whose place has no mark has not been passed.
use mathlib.Core.Bool.{Bool, true, false, not, ◌&&◌}
use mathlib.Core.List.{List, [], ◌∷◌}
use mathlib.Core.Path.{◌≡◌, refl, ap, ◌∙◌}
use Prim.Native.Nat.{ℕ, zero, suc, ◌+◌, ◌*◌, ◌-◌, ◌%◌, ◌≤◌, ◌<◌}
use native.Mathlib.Decide.{ℕ_discrete}
use native.Mathlib.Omega.{arith}
use borrow.Author.Tests.{eqb-true, eq-eqb}
use lib.Dec.{eqb}
use lib.ListN.{length, get_or, set}
use lib.Seq.{get_or-set_same, get_or-set_other}
use Rattle.keys.specs.Keys.{is_form}
use Rattle.words.specs.Words.{le, fields}
use Rattle.questions.proofs.Tests.{and_left, and_right, and_both, and_false}
use Rattle.store.specs.Questions.{member, keys_apart, all_in}
use Rattle.store.proofs.Sound.{in_all}
use Rattle.store_check.proofs.Steps.{keys_step, all_step}

-- is the place of k marked?
abbrev pub marked : (marks : List ℕ) (mark k : ℕ) → Bool
marked marks mark k = eqb (get_or marks (k % 8179) 0) mark

-- a key whose place has no mark is none of those that are marked
pub unmarked : (marks : List ℕ) (mark k : ℕ) (ks : List ℕ) → all_in (marked marks mark) ks ≡ true → (get_or marks (k % 8179) 0 ≡ mark → ⊥) →
    member k ks ≡ false
unmarked marks mark k ks a n = go (member k ks) refl
  where
    go : (b : Bool) → member k ks ≡ b → member k ks ≡ false
    go true e = absurd (n (eqb-true _ mark (in_all (marked marks mark) ks k a e)))
    go false e = e

-- a mark is put
module _ (marks : List ℕ) (mark p : ℕ) (h : p < length marks) where
  mark_put : (k : ℕ) → k % 8179 ≡ p → marked (set marks p mark) mark k ≡ true
  mark_put k e = eq-eqb _ mark (ap (λ (i : ℕ). get_or (set marks p mark) i 0) e ∙ get_or-set_same marks p mark 0 h)

  mark_kept : (k : ℕ) → marked marks mark k ≡ true → marked (set marks p mark) mark k ≡ true
  mark_kept k e = go (ℕ_discrete (k % 8179) p)
    where
      go : Dec (k % 8179 ≡ p) → marked (set marks p mark) mark k ≡ true
      go (yes q) = mark_put k q
      go (no q) = ap (λ (v : ℕ). eqb v mark) (get_or-set_other marks p (k % 8179) mark 0 q) ∙ e

  -- every mark that stands is kept
  marks_kept : (ks : List ℕ) → all_in (marked marks mark) ks ≡ true → all_in (marked (set marks p mark) mark) ks ≡ true
  unfolding all_in
  marks_kept [] a = refl
  marks_kept (k ∷ ks) a =
      and_both (marked (set marks p mark) mark k) _ (mark_kept k (and_left (marked marks mark k) _ a))
      (marks_kept ks (and_right (marked marks mark k) _ a))

-- ---- keys passed, from the last to the first

-- all of them are passed
pub keys_all : (b t : Bool) (xs : List ℕ) (from n i at : ℕ) → i ≡ 0 → at ≡ from + 8 * i → keys_apart b (fields 8 xs at (n - i)) ≡ t →
    keys_apart b (fields 8 xs from n) ≡ t
keys_all b t xs from n i at z e k =
    let e0 : at ≡ from = omega arith in
    let e1 : n - i ≡ n = omega arith in
    rw (e0, e1) at k

-- where those that are passed fail, all fail
keys_rear : (b : Bool) (xs : List ℕ) (from n i at : ℕ) → i ≤ n → at ≡ from + 8 * i → keys_apart b (fields 8 xs at (n - i)) ≡ false →
    keys_apart b (fields 8 xs from n) ≡ false
keys_rear b xs from n zero at h e f = keys_all b false xs from n 0 at refl e f
keys_rear b xs from zero (suc i) at h e f = absurd (omega arith)
keys_rear b xs from (suc n) (suc i) at h e f =
    let m : suc n - suc i ≡ n - i = omega arith in
    keys_step b xs from (suc n) n refl
    ∙ rw (
      keys_rear b xs (from + 8) n i at (omega arith) (omega arith) (rw m at f),
      and_false (not (member (le 8 xs from) (fields 8 xs (from + 8) n))),
    ) (and_false (is_form b (le 8 xs from)))

-- k is the key ahead of those that are passed: it begins at `low`, they at `at`
module _ (xs : List ℕ) (from n i at low k : ℕ) (h : i ≤ n) (g : 0 < i) (e : at ≡ from + 8 * i) (d : low ≡ from + 8 * (i - 1))
    (q : k ≡ le 8 xs low) where
  ahead : (b : Bool) → keys_apart b
      (fields 8 xs low (n - (i - 1)))
      ≡ (is_form b k && (not (member k (fields 8 xs at (n - i))) && keys_apart b (fields 8 xs at (n - i))))
  ahead b =
      let o : low + 8 ≡ at = omega arith in
      rw (q, keys_step b xs low (n - (i - 1)) (n - i) (omega arith), o) refl

  pub no_form : (b : Bool) → is_form b k ≡ false → keys_apart b (fields 8 xs from n) ≡ false
  no_form b f = keys_rear b xs from n (i - 1) low (omega arith) (omega arith) (ahead b ∙ rw f refl)

  pub key_twice : (b : Bool) → member k (fields 8 xs at (n - i)) ≡ true → keys_apart b (fields 8 xs from n) ≡ false
  key_twice b m = keys_rear b xs from n (i - 1) low (omega arith) (omega arith) (ahead b ∙ rw m (and_false (is_form b k)))

  pub key_more : (b : Bool) → is_form b k ≡ true → member k (fields 8 xs at (n - i)) ≡ false →
      keys_apart b (fields 8 xs at (n - i)) ≡ true → keys_apart b (fields 8 xs low (n - (i - 1))) ≡ true
  key_more b f m o = ahead b ∙ rw (f, m, o) refl

  pub mark_more : (marks : List ℕ) (mark : ℕ) → k % 8179 < length marks → all_in (marked marks mark) (fields 8 xs at (n - i)) ≡ true →
      all_in (marked (set marks (k % 8179) mark) mark) (fields 8 xs low (n - (i - 1))) ≡ true
  mark_more marks mark l a =
      let o : low + 8 ≡ at = omega arith in
      let m = marked (set marks (k % 8179) mark) mark in
      all_step m xs low (n - (i - 1)) (n - i) (omega arith)
      ∙ rw (o, ← q) (and_both (m k) _ (mark_put marks mark (k % 8179) l k refl)
      (marks_kept marks mark (k % 8179) l (fields 8 xs at (n - i)) a))
