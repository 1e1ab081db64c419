-- Numbers in bytes, unsigned, low byte first: one of w bytes at a place, and n such in a row.
use Rattle.std.specs.Prelude.{List, [], ◌∷◌, ◌⊎◌, ℕ, zero, suc, ◌+◌, ◌*◌, ◌/◌, ◌%◌, ◌≤◌, get_or, set}

-- the number in the w bytes of xs from `at` on
unfoldable pub le : (w : ℕ) (xs : List ℕ) (at : ℕ) → ℕ
le zero xs at = 0
le (suc w) xs at = get_or xs at 0 + 256 * le w xs (at + 1)

-- xs with x in its w bytes from `at` on
unfoldable pub put : (w : ℕ) (xs : List ℕ) (at x : ℕ) → List ℕ
put zero xs at x = xs
put (suc w) xs at x = put w (set xs at (x % 256)) (at + 1) (x / 256)

-- the n numbers of w bytes each from `at` on
unfoldable pub fields : (w : ℕ) (xs : List ℕ) (at n : ℕ) → List ℕ
fields w xs at zero = []
fields w xs at (suc n) = le w xs at ∷ fields w xs (at + w) n

-- the m bytes from `at` on and the n bytes from `to` on have none in common
abbrev pub Apart : (at m to n : ℕ) → Type 0
Apart at m to n = (at + m ≤ to) ⊎ (to + n ≤ at)
