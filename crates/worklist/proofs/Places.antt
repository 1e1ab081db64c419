-- The first entry of which a test holds, by its place.
use mathlib.Core.Bool.{Bool, true, false, cond}
use mathlib.Core.List.{List}
use mathlib.Core.Path.{◌≡◌, refl, sym, ap, ◌∙◌}
use Prim.Native.Nat.{ℕ, ◌≤◌, ◌<◌}
use native.Mathlib.Omega.{arith}
use borrow.Author.Tests.{ltb-false}
use lib.Dec.{ltb}
use lib.ListN.{length, get_or, take}
use Rattle.std.proofs.Common.{Some, None}
use Rattle.std.proofs.lemmas.List.{get_or-take, length-take-le}
use Rattle.std.proofs.lemmas.List.Quantifiers.{position-Some}
use Rattle.std.proofs.lemmas.List.Sums.{fails_before_first}
use Rattle.std.specs.List.{position, position_or_len}
use Rattle.worklist.specs.declared.Entry.{Entry}
use Rattle.worklist.specs.Worklist.{no_entry, place_at}

-- f holds at place p, one of the first n, and at none before it
pub record FirstAt (f : Entry → Bool) (es : List Entry) (n p : ℕ) : Type 0 where
  pub within : p < n
  pub here : f (place_at es p) ≡ true
  pub before : (k : ℕ) → k < p → f (place_at es k) ≡ false

beyond : (p n : ℕ) → cond (ltb p n) (Some p) None ≡ None → n ≤ p
beyond p n e = go (ltb p n) refl e
  where
    go : (b : Bool) → ltb p n ≡ b → cond b (Some p) None ≡ None → n ≤ p
    go true t e = absurd (let z : ◌≡◌ {A = ℕ} 0 1 = cc in omega arith)
    go false t e = ltb-false p n t

module _ (f : Entry → Bool) (es : List Entry) (n : ℕ) (fits : n ≤ length es) where
  at : (k : ℕ) → k < n → f (get_or (take n es) k no_entry) ≡ f (place_at es k)
  at k h = ap f (get_or-take n es k no_entry h)

  pub found : (p : ℕ) → position f (take n es) ≡ Some p → FirstAt f es n p
  found p e =
      let l = length-take-le n es fits in
      let s = position-Some f (take n es) p no_entry e in
      let h : p < n = omega (arith, s.0, l) in
      record { within = h; here = sym (at p h) ∙ s.1; before = λ k q. sym (at k (omega arith)) ∙ s.2 k q }

  pub absent : position f (take n es) ≡ None → (k : ℕ) → k < n → f (place_at es k) ≡ false
  absent e k h =
      sym (at k h)
      ∙ fails_before_first f (take n es) k no_entry
      (omega (arith, length-take-le n es fits, beyond (position_or_len f (take n es)) (length (take n es)) e))
