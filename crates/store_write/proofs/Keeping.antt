-- A partition's rows written anew by way of a buffer: the rows from a key on, and a row put behind them.
use mathlib.Core.Bool.{Bool, true}
use mathlib.Core.List.{List, [], ◌∷◌, ◌++◌}
use mathlib.Core.Path.{◌≡◌, refl, sym, ap, subst, ◌∙◌}
use Prim.Native.Nat.{ℕ, ◌+◌, ◌≤◌, ◌<◌}
use native.Mathlib.Omega.{arith}
use lib.Dec.{eqb, leb}
use lib.ListN.{length, take, drop, replicate, length-take, length-drop}
use lib.Seq.{take_all}
use Rattle.questions.proofs.Tests.{and_both}
use Rattle.words.specs.Words.{put}
use Rattle.keys.specs.Keys.{is_form}
use Rattle.store.specs.Layout.{parts_of, cap_of}
use Rattle.store.specs.Answers.{Searched, ended_at}
use Rattle.store.specs.Parts.{part_size, with_part, Holds}
use Rattle.store.specs.Questions.{rising, keys_ok, all_in}
use Rattle.store.specs.Rows.{Row, rows_of, store_of, keys_in, put_row, put_all, rows_from, rank_of}
use Rattle.store.specs.Sound.{Sound, Changed, Stored}
use Rattle.store.specs.Answers.{Found}
use Rattle.store.proofs.Buffer.{holds_none, holds_counted}
use Rattle.store.proofs.Found.{ends_at_rank}
use Rattle.store.proofs.From.{from_drop, rising_behind, all_behind, put_last}
use Rattle.store.proofs.Held.{with_changed}
use Rattle.store.proofs.Lists.{altered, rank_within}
use Rattle.store.proofs.Search.{changed_as}
use Rattle.store.proofs.Sound.{keys_put_all, stored_by}

-- A buffer that holds what f leaves of a partition's rows is written to it, with their number.
pub kept : (xs ys : List ℕ) (p : ℕ) (f : List Row → List Row) (bs : List ℕ) (n : ℕ) → Sound xs → p ≤ parts_of xs →
    Holds (cap_of xs) bs n (f (rows_of xs p)) → keys_ok (eqb p (parts_of xs)) (keys_in (f (rows_of xs p))) ≡ true →
    ys ≡ with_part (parts_of xs) (cap_of xs) p (put 2 bs 0 n) xs → Stored xs ys p f
kept xs ys p f bs n s l h k e =
    let held = holds_counted (cap_of xs) bs n (f (rows_of xs p)) h s.formed.shape.cap_high in
    stored_by xs ys p f s k
    (subst (λ (zs : List ℕ). Changed xs zs p f) (sym e)
    (changed_as xs _ p (λ (old : List Row). f (rows_of xs p)) f
    (with_changed xs p (put 2 bs 0 n) n (f (rows_of xs p)) s.formed l held.0 held.1) refl))

-- a change by g is one by h, where the two make the same of the rows
pub stored_as : (xs ys : List ℕ) (p : ℕ) (g h : List Row → List Row) → Stored xs ys p g → g (rows_of xs p) ≡ h (rows_of xs p) →
    Stored xs ys p h
stored_as xs ys p g h s e =
    record { sound = s.sound; is = (changed_as xs ys p g h (record { formed = s.sound.formed; is = s.is }) e).is }

-- nothing written, where f leaves the rows as they are
pub stays : (xs : List ℕ) (p : ℕ) (f : List Row → List Row) → Sound xs → f (rows_of xs p) ≡ rows_of xs p → Stored xs xs p f
stays xs p f s e = record { sound = s; is = altered (store_of xs) (store_of xs) p f refl refl (sym e) (λ q n. refl) }

-- one put keeps the keys in order
pub keys_one : (book : Bool) (k v : ℕ) (rs : List Row) → is_form book k ≡ true → keys_ok book (keys_in rs) ≡ true →
    keys_ok book (keys_in (put_row k v rs)) ≡ true
unfolding put_all keys_in all_in
keys_one book k v rs f h = keys_put_all book ((k, v) ∷ []) rs (and_both (is_form book k) true f refl) h

-- a part of a buffer of m bytes, from its beginning
pub take_count : (n m : ℕ) (l : List ℕ) → length l ≡ m → n ≤ m → n ≡ length (take n l)
take_count n m l e h = simp length-take (omega arith)

-- a buffer made zero holds no row
pub cleared : (C : ℕ) (bs part : List ℕ) → bs ≡ replicate (length part) 0 → length part ≡ part_size C → Holds C bs 0 []
cleared C bs part e long = subst (λ (zs : List ℕ). Holds C zs 0 []) (sym e) (holds_none C (length part) long)

-- all rows from row `first` on copied to it
pub copied_all : (C : ℕ) (bs : List ℕ) (rs : List Row) (first n : ℕ) → first + n ≡ length rs → Holds C bs (0 + n) (take n (drop first rs)) →
    Holds C bs n (drop first rs)
copied_all C bs rs first n e h =
    subst (λ (m : ℕ). Holds C bs m (drop first rs)) (omega arith)
    (subst (Holds C bs (0 + n)) (take_all n (drop first rs) (simp length-drop (omega arith))) h)

-- a search for `low` ends at the first of the rows with keys from it on
module _ (low : ℕ) (rs : List Row) (u : rising (keys_in rs) ≡ true) (found : Found) (s : Searched low (keys_in rs) found) (first : ℕ)
    (e : first ≡ ended_at found) where
  pub first_within : first ≤ length rs
  first_within = omega (arith, e, ends_at_rank low rs found s, rank_within low rs)

  pub from_first : drop first rs ≡ rows_from low rs
  from_first = ap (λ (n : ℕ). drop n rs) (e ∙ ends_at_rank low rs found s) ∙ sym (from_drop low rs u)

  -- where it isn't the first of all, some are left out
  pub fewer : 0 < first → rows_from low rs ≡ rs → ⊥
  fewer h same = omega (arith, ap length (from_first ∙ same), length-drop first rs, first_within)

-- a search for a key that none is above, among the rows from row `first` on, ends behind the rows of smaller keys
module _ (key : ℕ) (rs : List Row) (first : ℕ) (found : Found) (s : Searched key (keys_in (drop first rs)) found) (n : ℕ)
    (e : n ≡ ended_at found) where
  place : n ≡ rank_of key (drop first rs)
  place = e ∙ ends_at_rank key (drop first rs) found s

  pub place_within : n ≤ length (drop first rs)
  place_within = omega (arith, place, rank_within key (drop first rs))

  pub put_there : (v : ℕ) → rising (keys_in rs) ≡ true → all_in (λ k. leb k key) (keys_in rs) ≡ true →
      take n (drop first rs) ++ (key, v) ∷ [] ≡ put_row key v (drop first rs)
  put_there v u a =
      ap (λ (m : ℕ). take m (drop first rs) ++ (key, v) ∷ []) place
      ∙ sym (put_last key v (drop first rs) (rising_behind first rs u) (all_behind (λ k. leb k key) first rs a))
