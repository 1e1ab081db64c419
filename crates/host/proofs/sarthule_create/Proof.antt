-- `host::sarthule_create` meets its contract.
use borrow.Author.Rules.{rules}
use Rattle.host.proofs.Told.{made_short, made}
use Rattle.host.proofs.sarthule_create.Statement.{statement}
use Rattle.host.proofs.sarthule_create.Tie as tie

pub sarthule_create_spec : {M : Type 1} → statement M
sarthule_create_spec =
    tie.close
    (tie.spec
    (λ c. made_short _ _ _ _ c.if-answer-lt12.true)
    (λ c κs. search rules)
    (λ c κs. search rules)
    (λ c κs. search rules)
    (λ c. search rules)
    (λ c. search rules)
    (λ c.
    let w = c in
    let m = w in
    made _ _ _ _ _ _ _ _ _ m.if-answer-lt12.false m.create-v.ensures (w.judge.ensures _ m.create-v.ensures.answer)
    w.write_answer.ensures.0))
