-- `store_write::part::add_row` meets its contract.
use borrow.Author.Rules.{rules}
use mathlib.Core.List.{List, [], ◌∷◌, ◌++◌}
use mathlib.Core.Path.{subst, sym, ap, ◌∙◌}
use Prim.Native.Nat.{ℕ, ◌+◌, ◌*◌}
use native.Mathlib.Omega.{arith}
use Rattle.words.specs.Words.{put}
use Rattle.store.specs.Parts.{Holds}
use Rattle.store.proofs.Buffer.{added_row}
use Rattle.store_write.proofs.part.add_row.Statement.{statement}
use Rattle.store_write.proofs.part.add_row.Tie as tie

pub add_row_spec : {M : Type 1} → statement M
add_row_spec =
    tie.close
    (tie.spec
    (λ c. search rules)
    (λ c. search rules)
    (λ c κs. search rules)
    (λ c. search rules)
    (λ c. search rules)
    (λ c. search rules)
    (λ c. search rules)
    (λ c κs. search rules)
    (λ c. search rules)
    (λ c rs h. let w2 = c in
    let w1 = w2 in
    let st = w1 in
    let a = st.args in
    subst (λ (bs : List ℕ). Holds a.cap bs (a.held + 1) (rs ++ (a.key, a.value) ∷ []))
    (sym (w2.write32.ensures ∙ ap (λ (bs : List ℕ). put 4 bs (2 + 8 * a.cap + 4 * a.held) a.value) w1.write64.ensures))
    (added_row a.cap a.part.now a.held a.key a.value rs h st.requires.1 (omega arith) (omega arith))))
