-- `answers::write_figures` meets its contract.
use borrow.Author.Rules.{rules}
use mathlib.Core.Path.{ap, ◌∙◌}
use mathlib.Core.List.{List}
use Prim.Native.Nat.{ℕ}
use Rattle.slots.specs.Records.{puts}
use Rattle.answers.proofs.Answers.{nine_words}
use Rattle.answers.proofs.write_figures.Statement.{statement}
use Rattle.answers.proofs.write_figures.Tie as tie

pub write_figures_spec : {M : Type 1} → statement M
write_figures_spec =
    tie.close
    (tie.spec
    (λ c κs. search rules)
    (λ c κs. search rules)
    (λ c. search rules)
    (λ c.
    let e = c in
    let w = e in
    let a = w.args in
    e.write_eight.ensures ∙ ap (λ (l : List ℕ). puts 4 l 16 a.rows 8) w.write32.ensures
    ∙ nine_words a.answer.now a.turns a.rows))
