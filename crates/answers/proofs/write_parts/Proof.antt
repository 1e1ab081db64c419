-- `answers::write_parts` meets its contract.
use borrow.Author.Rules.{rules}
use Rattle.answers.proofs.Answers.{low_parts}
use Rattle.answers.proofs.write_parts.Statement.{statement}
use Rattle.answers.proofs.write_parts.Tie as tie

pub write_parts_spec : {M : Type 1} → statement M
write_parts_spec =
    tie.close
    (tie.spec
    (λ c κs. search rules)
    (λ c κs. search rules)
    (λ c κs. search rules)
    (λ c κs. search rules)
    (λ c κs. search rules)
    (λ c κs. search rules)
    (λ c κs. search rules)
    (λ c κs. search rules)
    (λ c. search rules)
    (λ c.
    let third = c in
    let between = third in
    let second = between in
    let first = second in
    let s = first.args in
    cc (low_parts s.answer.now s.first s.second s.third s.fourth)))
