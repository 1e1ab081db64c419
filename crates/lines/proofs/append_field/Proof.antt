-- `lines::append_field` meets its contract, piece by piece.
use native.Mathlib.Omega.{arith}
use borrow.Author.Rules.{rules}
use Rattle.text.proofs.Laws.{appended_then}
use Rattle.lines.specs.Lines.{field}
use Rattle.lines.proofs.append_field.Statement.{statement}
use Rattle.lines.proofs.append_field.Tie as tie

pub append_field_spec : {M : Type 1} → statement M
unfolding field
append_field_spec =
    tie.close
    (tie.spec
    (λ c κs. search rules)
    (λ c κs. search rules)
    (λ c. search rules)
    (λ c. let d2 = c in
    let d1 = d2 in
    (appended_then d1.append_byte-written.ensures d2.append_number.ensures.0, omega arith)))
