-- The floor's row: rows of a book by rising key have it last, if they have it.
use mathlib.Core.Bool.{true}
use mathlib.Core.List.{List, [], ◌∷◌}
use mathlib.Core.Option.{none, some}
use mathlib.Core.Path.{◌≡◌, refl}
use Prim.Native.Nat.{ℕ, suc}
use native.Mathlib.Omega.{arith}
use borrow.Author.Tests.{ltb-true, ne_eqb}
use lib.Dec.{ltb}
use lib.ListN.{length, get_or}
use Rattle.questions.specs.Basics.{if◌then◌otherwise◌}
use Rattle.questions.proofs.Tests.{and_left, and_right}
use Rattle.keys.specs.Keys.{floor_key, is_floor_key, is_form}
use Rattle.keys.proofs.Keys.{form_floor}
use Rattle.store.specs.Rows.{Row, keys_in, lookup}
use Rattle.store.specs.Questions.{ahead, rising, all_in}

-- the key and the value of the last row, one of n + 1
pub floor_last : (rs : List Row) (n : ℕ) → length rs ≡ suc n → all_in (is_form true) (keys_in rs) ≡ true → rising (keys_in rs) ≡ true →
    lookup floor_key rs ≡ (if is_floor_key (get_or rs n (0, 0)).0 then some (get_or rs n (0, 0)).1 otherwise none)
unfolding lookup is_floor_key all_in keys_in rising ahead
floor_last [] n e f u = absurd (omega arith)
floor_last (r ∷ []) n e f u = let z : n ≡ 0 = omega arith in rw z refl
floor_last (r ∷ q ∷ rs) n e f u =
    let z : n ≡ suc (length rs) = omega arith in
    let behind = and_right (is_form true r.0) _ f in
    let l = ltb-true r.0 q.0 (and_left (ltb r.0 q.0) _ u) in
    let h = form_floor q.0 (and_left (is_form true q.0) _ behind) in
    rw (z, ne_eqb r.0 floor_key (omega arith)) (floor_last (q ∷ rs) (length rs) refl behind (and_right (ltb r.0 q.0) _ u))

-- a book with no row has no floor's
pub floor_none : lookup floor_key [] ≡ none
unfolding lookup
floor_none = refl
