-- A record that is all zero: its registers, as the code compares them, against the specification, which asks of each of them.
use mathlib.Core.Bool.{Bool, true, false, ◌&&◌}
use mathlib.Core.List.{List, [], ◌∷◌}
use mathlib.Core.Path.{◌≡◌, refl, sym, ◌∙◌, ap, subst}
use Prim.Native.Nat.{ℕ, zero, suc, ◌+◌, ◌<◌}
use native.Mathlib.Nat.{add-zero}
use native.Mathlib.Omega.{arith}
use lib.Dec.{eqb}
use lib.ListN.{length, get_or, replicate}
use Rattle.std.specs.Cmp.Lexicographic.{pointwise}
use Rattle.std.specs.List.{list_all}
use Rattle.questions.specs.Basics.{if◌then◌otherwise◌, each, each_from}

both : (b c : Bool) → if◌then◌otherwise◌ b c false ≡ (b && c)
both true c = refl
both false c = refl

-- What is asked of each number below a list's length is what is asked of each of its elements.
module _ {A : Type 0} (p : A → Bool) (d : A) (f : ℕ → Bool) where
  from : (xs : List A) (i : ℕ) → ((k : ℕ) → k < length xs → f (i + k) ≡ p (get_or xs k d)) → each_from f (length xs) i ≡ list_all p xs
  unfolding each_from
  from [] i h = refl
  from (x ∷ xs) i h =
      let here : f i ≡ p x = ap f (sym (add-zero i)) ∙ h zero (omega arith) in
      let rest = from xs (i + 1) (λ k l. ap f (omega arith) ∙ h (suc k) (omega arith)) in
      rw (here, rest) (both (p x) (list_all p xs))

  pub each_all : (n : ℕ) (xs : List A) → length xs ≡ n → ((k : ℕ) → f k ≡ p (get_or xs k d)) → each n f ≡ list_all p xs
  each_all n xs e h = subst (λ m. each_from f m 0 ≡ list_all p xs) e (from xs 0 (λ k l. ap f (omega arith) ∙ h k))

zeros : (xs : List ℕ) → pointwise eqb xs (replicate (length xs) 0) ≡ list_all (λ x. eqb x 0) xs
zeros [] = refl
zeros (x ∷ xs) = ap (λ b. eqb x 0 && b) (zeros xs)

pub blank_registers : (xs : List ℕ) → length xs ≡ 8 → pointwise eqb xs (replicate 8 0) ≡ each 8 (λ i. eqb (get_or xs i 0) 0)
blank_registers xs e =
    subst (λ n. pointwise eqb xs (replicate n 0) ≡ list_all (λ x. eqb x 0) xs) e (zeros xs)
    ∙ sym (each_all (λ x. eqb x 0) 0 (λ i. eqb (get_or xs i 0) 0) 8 xs e (λ k. refl))
