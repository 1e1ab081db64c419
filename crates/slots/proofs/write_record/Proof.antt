-- `slots::write_record` meets its contract.
use borrow.Author.Rules.{rules}
use Prim.Native.Nat.{◌*◌}
use Rattle.slots.proofs.Records.{record_written}
use Rattle.slots.proofs.write_record.Statement.{statement}
use Rattle.slots.proofs.write_record.Tie as tie

pub write_record_spec : {M : Type 1} → statement M
write_record_spec =
    tie.close
    (tie.spec
    (λ c. search rules)
    (λ c. search rules)
    (λ c κs. search rules)
    (λ c. search rules)
    (λ c κs. search rules)
    (λ c. search rules)
    (λ c. search rules)
    (λ c κs. search rules)
    (λ c. search rules)
    (λ c. search rules)
    (λ c κs. search rules)
    (λ c. search rules)
    (λ c κs. search rules)
    (λ c. search rules)
    (λ c.
    let fourth = c in
    let third = fourth in
    let second = third in
    let first = second in
    let s = first.args in
    cc (record_written s.bytes.now (48 * s.slot) s.agent)))
