-- `store::head::value_place` meets its contract.
use borrow.Author.Rules.{rules}
use mathlib.Core.Path.{ap, ap₂}
use Prim.Native.Nat.{ℕ, ◌+◌, ◌*◌}
use native.Mathlib.Omega.{arith}
use Rattle.store.proofs.head.value_place.Statement.{statement}
use Rattle.store.proofs.head.value_place.Tie as tie

pub value_place_spec : {M : Type 1} → statement M
value_place_spec =
    tie.close
    (tie.spec
    (λ c κs. search rules)
    (λ c κs. search rules)
    (λ c. search rules)
    (λ c. search rules)
    (λ c. search rules)
    (λ c. search rules)
    (λ c κs. search rules)
    (λ c. search rules)
    (λ c. search rules)
    (λ c κs. search rules)
    (λ c. search rules)
    (λ c. search rules)
    (λ c. search rules)
    (λ c. let a = c.args in
    omega (
      arith,
      ap (λ (n : ℕ). a.partition * n) c.capacity-cap.ensures,
      ap₂ (λ (m n : ℕ). (m + 1) * n) c.partition_count-parts.ensures c.capacity-cap.ensures,
    )))
