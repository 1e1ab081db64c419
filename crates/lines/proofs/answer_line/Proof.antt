-- `lines::answer_line` meets its contract, piece by piece.
use native.Mathlib.Omega.{arith}
use borrow.Author.Rules.{rules}
use Rattle.text.proofs.Laws.{appended_then}
use Rattle.lines.specs.Lines.{answer_line}
use Rattle.lines.proofs.answer_line.Statement.{statement}
use Rattle.lines.proofs.answer_line.Tie as tie

pub answer_line_spec : {M : Type 1} → statement M
unfolding answer_line
answer_line_spec =
    tie.close
    (tie.spec
    (λ c κs. search rules)
    (λ c κs. search rules)
    (λ c κs. search rules)
    (λ c κs. search rules)
    (λ c. search rules)
    (λ c. let d4 = c in
    let d3 = d4 in
    let d2 = d3 in
    let d1 = d2 in (
      appended_then d1.append_number-written.ensures.0
          (appended_then d2.append_byte-written.ensures (appended_then d3.append_answer-written.ensures.0 d4.append_byte.ensures)),
      omega
          arith,
    )))
