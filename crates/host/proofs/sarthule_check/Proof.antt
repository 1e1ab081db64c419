-- `host::sarthule_check` meets its contract.
use borrow.Author.Rules.{rules}
use Rattle.pack.specs.Refusal.{pack_refusal}
use Rattle.pack.proofs.Placed.{pack_placed}
use Rattle.host.proofs.Told.{told_short, told_judged}
use Rattle.host.proofs.sarthule_check.Statement.{statement}
use Rattle.host.proofs.sarthule_check.Tie as tie

pub sarthule_check_spec : {M : Type 1} → statement M
sarthule_check_spec =
    tie.close
    (tie.spec
    (λ c. told_short 12 _ _ _ c.if-answer-lt12.true)
    (λ c κs. search rules)
    (λ c κs. search rules)
    (λ c κs. search rules)
    (λ c. search rules)
    (λ c.
    let w = c in
    let k = w in
    told_judged _ (pack_refusal _) _ _ _ k.if-answer-lt12.false (pack_placed _) (w.judge.ensures _ k.check.ensures)
    w.write_answer.ensures.0))
