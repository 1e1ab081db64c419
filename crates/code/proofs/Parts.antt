-- The bytes of a part of a workflow are those of the instructions there.
use Rattle.std.proofs.Common.{◌≡◌, refl, ℕ, zero, suc, ◌+◌, ◌-◌, ◌≤◌, ◌<◌, List, Bool, true, false, ◌&&◌, length, take, drop, get_or, add-one, arith, drop-cons}
use Rattle.std.specs.List.{list_all}
use Rattle.std.proofs.lemmas.Grind.{common_steps}
use Rattle.questions.specs.Basics.{if◌then◌otherwise◌, each_from}

-- a byte of the part
pub part_byte : (xs : List ℕ) (first end i : ℕ) → first ≤ end → end ≤ length xs → i < length (take (end - first) (drop first xs)) →
    get_or (take (end - first) (drop first xs)) i 0 ≡ get_or xs (first + i) 0
part_byte xs first end i h k l = grind (arith, common_steps)

pub part_length : (xs : List ℕ) (first end : ℕ) → first ≤ end → end ≤ length xs → length (take (end - first) (drop first xs)) ≡ end - first
part_length xs first end h k = grind (arith, common_steps)

joined : (a b c : Bool) → b ≡ c → (a && b) ≡ if◌then◌otherwise◌ a c false
joined true b c e = e
joined false b c e = refl

-- what holds of each byte of the part holds of each instruction there
pub all_each : (p f : ℕ → Bool) (xs : List ℕ) → ((k : ℕ) → p (get_or xs k 0) ≡ f k) → (n i : ℕ) → i + n ≤ length xs →
    list_all p (take n (drop i xs)) ≡ each_from f n i
unfolding each_from
all_each p f xs e zero i h = refl
all_each p f xs e (suc n) i h =
    let k : i < length xs = omega arith in
    let rest = all_each p f xs e n (i + 1) (omega arith) in
    rw (drop-cons xs i 0, e, add-one i) (joined (f i) _ _ (rw add-one at rest))
