-- `lines::events_line` meets its contract, piece by piece.
use native.Mathlib.Omega.{arith}
use borrow.Author.Rules.{rules}
use Rattle.text.proofs.Laws.{appended_then}
use Rattle.lines.specs.Lines.{events_line}
use Rattle.lines.proofs.events_line.Statement.{statement}
use Rattle.lines.proofs.events_line.Tie as tie

pub events_line_spec : {M : Type 1} → statement M
unfolding events_line
events_line_spec =
    tie.close
    (tie.spec
    (λ c κs. search rules)
    (λ c κs. search rules)
    (λ c κs. search rules)
    (λ c. search rules)
    (λ c. let d3 = c in
    let d2 = d3 in
    let d1 = d2 in
    (appended_then d1.append_bytes-written.ensures (appended_then d2.append_field-written.ensures.0 d3.append_byte.ensures), omega arith)))
