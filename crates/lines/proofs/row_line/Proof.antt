-- `lines::row_line` meets its contract, piece by piece.
use native.Mathlib.Omega.{arith}
use borrow.Author.Rules.{rules}
use Rattle.text.proofs.Laws.{appended_then}
use Rattle.lines.specs.Lines.{row_line}
use Rattle.lines.proofs.row_line.Statement.{statement}
use Rattle.lines.proofs.row_line.Tie as tie

pub row_line_spec : {M : Type 1} → statement M
unfolding row_line
row_line_spec =
    tie.close
    (tie.spec
    (λ c κs. search rules)
    (λ c κs. search rules)
    (λ c κs. search rules)
    (λ c κs. search rules)
    (λ c κs. search rules)
    (λ c. search rules)
    (λ c. let d5 = c in
    let d4 = d5 in
    let d3 = d4 in
    let d2 = d3 in
    let d1 = d2 in (
      appended_then d1.append_bytes-written.ensures
          (appended_then d2.append_field-written.ensures.0
          (appended_then d3.append_field-written-2.ensures.0 (appended_then d4.append_field-written-3.ensures.0 d5.append_byte.ensures))),
      omega
          arith,
    )))
