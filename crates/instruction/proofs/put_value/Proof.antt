-- `instruction::put_value` meets its contract.
use borrow.Author.Rules.{rules}
use Rattle.keys.proofs.Keys.{data_is}
use Rattle.instruction.proofs.Steps.{step_put}
use Rattle.instruction.proofs.put_value.Statement.{statement}
use Rattle.instruction.proofs.put_value.Tie as tie

pub put_value_spec : {M : Type 1} → statement M
put_value_spec =
    tie.close
    (tie.spec
    (λ c. search rules)
    (λ c. search rules)
    (λ c κs. search rules)
    (λ c. search rules)
    (λ c. search rules)
    (λ c κs.
    let dk = c in
    let st = dk in
    let k = dk.data_key-key.ensures in
    (st.requires.0, st.requires.1, rw k.0 (data_is _ k.1)))
    (λ c κs. search rules)
    (λ c rs.
    let pp = c in
    let dk = pp in
    let st = dk in
    let a = st.args in
    let k = dk.data_key-key.ensures in
    let q = pp.pending_put-pending.ensures in
    step_put rs a.x st.requires.0 a.d a.s k.1 pp.pending_put-pending.result (rw k.0 at q.1)
    c.advanced-place.result c.advanced-place.ensures q.0 q.2 q.3))
