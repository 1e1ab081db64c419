-- `host::sarthule_order` meets its contract.
use borrow.Author.Rules.{rules}
use Rattle.host.proofs.Exports.{in_order_short, in_order}
use Rattle.host.proofs.sarthule_order.Statement.{statement}
use Rattle.host.proofs.sarthule_order.Tie as tie

pub sarthule_order_spec : {M : Type 1} → statement M
sarthule_order_spec =
    tie.close
    (tie.spec
    (λ c. in_order_short _ _ c.if-answer-lt12.true)
    (λ c κs. search rules)
    (λ c κs. search rules)
    (λ c. search rules)
    (λ c. search rules)
    (λ c.
    let w = c in
    let o = w in
    in_order _ _ _ _ _ o.order-a.result o.if-answer-lt12.false o.order-a.ensures w.write_answer.ensures))
