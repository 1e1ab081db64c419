-- `store::head::used_count` meets its contract: the used count is the number of rows.
use borrow.Author.Rules.{rules}
use mathlib.Core.Path.{sym, ◌∙◌}
use Rattle.store.proofs.Bytes.{count_is, used_here}
use Rattle.store.proofs.head.used_count.Statement.{statement}
use Rattle.store.proofs.head.used_count.Tie as tie

pub used_count_spec : {M : Type 1} → statement M
used_count_spec =
    tie.close
    (tie.spec
    (λ c. search rules)
    (λ c. search rules)
    (λ c κs. search rules)
    (λ c. search rules)
    (λ c. let st = c in let a = st.args in
    c.read16.ensures ∙ sym (count_is a.store.now a.partition ∙ used_here a.store.now a.partition st.requires.1)))
