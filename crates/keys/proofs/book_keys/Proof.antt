-- `keys::book_keys` meets its contract.
use mathlib.Core.List.{[], ◌∷◌}
use mathlib.Core.Path.{sym, ap}
use Prim.Native.Nat.{ℕ, ◌+◌, ◌*◌}
use native.Mathlib.Nat.{add-zero}
use native.Mathlib.Omega.{arith}
use borrow.Author.Rules.{rules}
use Rattle.keys.proofs.book_keys.Statement.{statement}
use Rattle.keys.proofs.book_keys.Tie as tie

pub book_keys_spec : {M : Type 1} → statement M
book_keys_spec =
    tie.close
    (tie.spec
    (λ c. search rules)
    (λ c. search rules)
    (λ c. search rules)
    (λ c. search rules)
    (λ c. search rules)
    (λ c. let f = c.args.id * 8 in
    (ap (λ (k : ℕ). k ∷ (f + 1) ∷ (f + 2) ∷ (f + 3) ∷ (f + 4) ∷ []) (sym (add-zero f)), omega arith)))
