-- `store::head::key_place` meets its contract.
use borrow.Author.Rules.{rules}
use mathlib.Core.Path.{ap}
use Prim.Native.Nat.{ℕ, ◌*◌}
use native.Mathlib.Omega.{arith}
use Rattle.store.proofs.head.key_place.Statement.{statement}
use Rattle.store.proofs.head.key_place.Tie as tie

pub key_place_spec : {M : Type 1} → statement M
key_place_spec =
    tie.close
    (tie.spec
    (λ c κs. search rules)
    (λ c κs. search rules)
    (λ c. search rules)
    (λ c. search rules)
    (λ c. search rules)
    (λ c κs. search rules)
    (λ c. search rules)
    (λ c. search rules)
    (λ c. search rules)
    (λ c. let a = c.args in
    omega (arith, ap (λ (n : ℕ). a.partition * n) c.capacity-cap.ensures)))
