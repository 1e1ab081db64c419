-- `lines::log_line` meets its contract, piece by piece.
use native.Mathlib.Omega.{arith}
use borrow.Author.Rules.{rules}
use Rattle.text.proofs.Laws.{appended_then}
use Rattle.lines.specs.Lines.{log_line}
use Rattle.lines.proofs.log_line.Statement.{statement}
use Rattle.lines.proofs.log_line.Tie as tie

pub log_line_spec : {M : Type 1} → statement M
unfolding log_line
log_line_spec =
    tie.close
    (tie.spec
    (λ c κs. search rules)
    (λ c κs. search rules)
    (λ c κs. search rules)
    (λ c κs. search rules)
    (λ c κs. search rules)
    (λ c κs. search rules)
    (λ c. search rules)
    (λ c. let d6 = c in
    let d5 = d6 in
    let d4 = d5 in
    let d3 = d4 in
    let d2 = d3 in
    let d1 = d2 in (
      appended_then d1.append_bytes-written.ensures
          (appended_then d2.append_field-written.ensures.0
          (appended_then d3.append_field-written-2.ensures.0
          (appended_then d4.append_field-written-3.ensures.0 (appended_then d5.append_field-written-4.ensures.0 d6.append_byte.ensures)))),
      omega arith,
    )))
