-- Two tests are the same Bool where each one's fact gives the other's.
use Rattle.std.proofs.Common.{◌≡◌, ℕ, Bool, true, false, eqb, refl, eq-eqb, ne_eqb, eqb-true}
use borrow.Author.Tests.{eqb-false}

pub eqb_iff : (a b c d : ℕ) → (a ≡ b → c ≡ d) → (c ≡ d → a ≡ b) → eqb a b ≡ eqb c d
eqb_iff a b c d f g = go (eqb c d) refl where
  go : (t : Bool) → eqb c d ≡ t → eqb a b ≡ t
  go true e = eq-eqb a b (g (eqb-true c d e))
  go false e = ne_eqb a b (λ p. eqb-false c d e (f p))
