-- Laws of tests that are joined.
use mathlib.Core.Path.{◌≡◌, refl, sym}
use mathlib.Core.Bool.{Bool, true, false, ◌&&◌, ◌||◌, false≢true, not, beq}

-- a test cannot come out both ways
pub no_yes {ℓ} : {A : Type ℓ} → false ≡ true → A
no_yes e = absurd (false≢true e)

pub yes_no {ℓ} : {A : Type ℓ} → true ≡ false → A
yes_no e = no_yes (sym e)

-- both of two tests that hold together
pub and_left : (a b : Bool) → (a && b) ≡ true → a ≡ true
and_left true b e = refl
and_left false b e = e

pub and_right : (a b : Bool) → (a && b) ≡ true → b ≡ true
and_right true b e = e
and_right false b e = no_yes e

-- and back
pub and_both : (a b : Bool) → a ≡ true → b ≡ true → (a && b) ≡ true
and_both a b p q = rw (p, q) refl

pub and_false : (a : Bool) → (a && false) ≡ false
and_false true = refl
and_false false = refl

-- neither of two tests of which none holds
pub or_left : (a b : Bool) → (a || b) ≡ false → a ≡ false
or_left true b e = e
or_left false b e = refl

pub or_right : (a b : Bool) → (a || b) ≡ false → b ≡ false
or_right true b e = yes_no e
or_right false b e = e

-- the rest of tests that are joined, after a yes and after a no
pub and_yes : (a b : Bool) → a ≡ true → (a && b) ≡ b
and_yes a b e = rw e refl

pub and_no : (a b : Bool) → a ≡ false → (a && b) ≡ false
and_no a b e = rw e refl

-- two tests that came out unlike, and alike
pub came_unlike : (a b : Bool) → not (beq a b) ≡ true → a ≡ b → ⊥
came_unlike true true n e = no_yes n
came_unlike true false n e = yes_no e
came_unlike false true n e = no_yes e
came_unlike false false n e = no_yes n

pub came_alike : (a b : Bool) → not (beq a b) ≡ false → a ≡ b
came_alike true true n = refl
came_alike true false n = yes_no n
came_alike false true n = yes_no n
came_alike false false n = refl
