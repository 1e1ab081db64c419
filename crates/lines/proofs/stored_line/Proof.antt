-- `lines::stored_line` meets its contract, by the kind of key.
use mathlib.Core.Path.{sym, ◌∙◌}
use borrow.Author.Rules.{rules}
use Rattle.lines.proofs.Pieces.{data_line, log_line_lem}
use Rattle.lines.proofs.stored_line.Statement.{statement}
use Rattle.lines.proofs.stored_line.Tie as tie

pub stored_line_spec : {M : Type 1} → statement M
stored_line_spec =
    tie.close
    (tie.spec
    (λ c κs. search rules)
    (λ c κs. sym c.is_data.ensures ∙ c.if-is_data.true)
    (λ c κs. search rules)
    (λ c. search rules)
    (λ c. let d = c in
    let b = d in (
      data_line _ _ _ (sym b.is_data.ensures ∙ d.if-is_data.true)
          (rw (← d.data_of.ensures) d.row_line.ensures.0),
      d.row_line.ensures.1,
    ))
    (λ c κs. search rules)
    (λ c κs. search rules)
    (λ c κs. search rules)
    (λ c. search rules)
    (λ c. let d = c in
    let b = d in (
      log_line_lem _ _ _ (sym b.is_data.ensures ∙ d.if-is_data.false)
          (rw (← d.id_of.ensures, ← d.step_of.ensures) d.log_line.ensures.0),
      d.log_line.ensures.1,
    )))
