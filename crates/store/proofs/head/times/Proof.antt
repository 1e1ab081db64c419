-- `store::head::times` meets its contract.
use mathlib.Core.Path.{refl}
use native.Mathlib.Nat.{mul-le-mul}
use native.Mathlib.Omega.{arith}
use Rattle.store.proofs.head.times.Statement.{statement}
use Rattle.store.proofs.head.times.Tie as tie

pub times_spec : {M : Type 1} → statement M
times_spec =
    tie.close
    (tie.spec
    (λ c. omega (arith, mul-le-mul c.requires.0 c.requires.1))
    (λ c. (refl, mul-le-mul c.requires.0 c.requires.1)))
