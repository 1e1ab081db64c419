-- What a search's answer tells its caller, what a change tells of each part of the store, and puts one after the other.
use mathlib.Core.Bool.{Bool, true, false}
use mathlib.Core.List.{List, [], ◌∷◌}
use mathlib.Core.Logic.{◌≢◌}
use mathlib.Core.Option.{Option, none, some}
use mathlib.Core.Path.{◌≡◌, refl, ap, ◌∙◌}
use Prim.Native.Nat.{ℕ, ◌<◌}
use native.Mathlib.Omega.{arith}
use lib.Dec.{eqb}
use lib.ListN.{length, get_or}
use Rattle.store.specs.Layout.{parts_of, cap_of}
use Rattle.store.specs.Rows.{Row, Store, rows_of, store_of, new_rows, lookup, index_of, keys_in, alter}
use Rattle.store.specs.Sound.{Changed}
use Rattle.store.specs.Questions.{member}
use Rattle.store.specs.Answers.{found_in, smaller}
use Rattle.std.specs.Prelude.{Ok, Err}
use Rattle.store.proofs.Lists.{altered, alter_here, alter_there}

-- ---- what an answer tells of the rows that were searched

member_lookup : (k : ℕ) (rs : List Row) → member k (keys_in rs) ≡ true →
    (index_of k (keys_in rs) < length rs) × (lookup k rs ≡ some (get_or rs (index_of k (keys_in rs)) (0, 0)).1)
unfolding member index_of keys_in lookup
member_lookup k [] m = let z : ◌≡◌ {A = ℕ} 0 1 = cc in absurd (omega arith)
member_lookup k (r ∷ rs) m = go (member_lookup k rs) (eqb r.0 k) refl
  where
    go : (member k (keys_in rs) ≡ true →
        (index_of k (keys_in rs) < length rs) × (lookup k rs ≡ some (get_or rs (index_of k (keys_in rs)) (0, 0)).1)) →
        (b : Bool) → eqb r.0 k ≡ b →
        (index_of k (keys_in (r ∷ rs)) < length (r ∷ rs))
        × (lookup k (r ∷ rs) ≡ some (get_or (r ∷ rs) (index_of k (keys_in (r ∷ rs))) (0, 0)).1)
    go ih true e = rw e (omega arith, refl)
    go ih false e = let h = ih (rw e at m) in rw e (omega (arith, h.0), h.1)

no_member : (k : ℕ) (rs : List Row) → member k (keys_in rs) ≡ false → lookup k rs ≡ none
unfolding member keys_in lookup
no_member k [] m = refl
no_member k (r ∷ rs) m = go (no_member k rs) (eqb r.0 k) refl
  where
    go : (member k (keys_in rs) ≡ false → lookup k rs ≡ none) → (b : Bool) → eqb r.0 k ≡ b → lookup k (r ∷ rs) ≡ none
    go ih true e = let q : true ≡ false = rw e at m in let z : ◌≡◌ {A = ℕ} 0 1 = cc in absurd (omega arith)
    go ih false e = rw e (ih (rw e at m))

module _ (k : ℕ) (rs : List Row) (i : ℕ) (e : found_in k (keys_in rs) ≡ Ok i) where
  at_place : (member k (keys_in rs) ≡ true) × (index_of k (keys_in rs) ≡ i)
  unfolding found_in
  at_place = go (member k (keys_in rs)) refl
    where
      go : (b : Bool) → member k (keys_in rs) ≡ b → (member k (keys_in rs) ≡ true) × (index_of k (keys_in rs) ≡ i)
      go true t = let q : Ok (index_of k (keys_in rs)) ≡ Ok i = rw t at e in (t, cc)
      go false t = let q : Err (smaller k (keys_in rs)) ≡ Ok i = rw t at e in let z : ◌≡◌ {A = ℕ} 0 1 = cc in absurd (omega arith)

  pub at_row : i < length rs
  at_row = omega (arith, at_place.1, (member_lookup k rs at_place.0).0)

  pub at_lookup : lookup k rs ≡ some (get_or rs i (0, 0)).1
  at_lookup = (member_lookup k rs at_place.0).1 ∙ ap (λ (n : ℕ). some (get_or rs n (0, 0)).1) at_place.1

module _ (k : ℕ) (rs : List Row) (i : ℕ) (e : found_in k (keys_in rs) ≡ Err i) where
  pub no_lookup : lookup k rs ≡ none
  unfolding found_in
  no_lookup = go (member k (keys_in rs)) refl
    where
      go : (b : Bool) → member k (keys_in rs) ≡ b → lookup k rs ≡ none
      go true t = let q : Ok (index_of k (keys_in rs)) ≡ Err i = rw t at e in let z : ◌≡◌ {A = ℕ} 0 1 = cc in absurd (omega arith)
      go false t = no_member k rs t

-- a change by g is one by h, where the two make the same of the rows
pub changed_as : (xs ys : List ℕ) (p : ℕ) (g h : List Row → List Row) → Changed xs ys p g → g (rows_of xs p) ≡ h (rows_of xs p) →
    Changed xs ys p h
unfolding alter
changed_as xs ys p g h c e =
    record {
      formed = c.formed;
      is = c.is ∙ altered (store_of xs) (alter p g (store_of xs)) p h refl refl (alter_here p g (store_of xs) ∙ e)
          (λ q n. alter_there p q g (store_of xs) n);
    }

pub new_none : (o : Option ℕ) → o ≡ none → new_rows o ≡ 1
unfolding new_rows
new_none o e = rw e refl

-- ---- what a change tells of each part of the store

module _ (xs ys : List ℕ) (p : ℕ) (g : List Row → List Row) (e : store_of ys ≡ alter p g (store_of xs)) where
  -- P and C do not change
  pub changed_parts : parts_of ys ≡ parts_of xs
  unfolding alter
  changed_parts = ap (λ (st : Store). st.parts) e

  pub changed_cap : cap_of ys ≡ cap_of xs
  unfolding alter
  changed_cap = ap (λ (st : Store). st.cap) e

  -- p's rows are changed by g, and no others
  pub changed_here : rows_of ys p ≡ g (rows_of xs p)
  changed_here = ap (λ (st : Store). st.rows p) e ∙ alter_here p g (store_of xs)

  pub changed_there : (q : ℕ) → q ≢ p → rows_of ys q ≡ rows_of xs q
  changed_there q n = ap (λ (st : Store). st.rows q) e ∙ alter_there p q g (store_of xs) n
