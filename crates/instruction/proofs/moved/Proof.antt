-- `instruction::moved` meets its contract.
use native.Mathlib.Omega.{arith}
use borrow.Author.Rules.{rules}
use Rattle.instruction.proofs.Steps.{moved_set, moved_copy, moved_add, moved_sub, moved_less, moved_same}
use Rattle.instruction.proofs.moved.Statement.{statement}
use Rattle.instruction.proofs.moved.Tie as tie

pub moved_spec : {M : Type 1} → statement M
moved_spec =
    tie.close
    (tie.spec
    (λ c κs. search rules)
    (λ c. search rules)
    (λ c. search rules)
    (λ c. search rules)
    (λ c. search rules)
    (λ c κs. search rules)
    (λ c κs. search rules)
    (λ c κs. search rules)
    (λ c κs. search rules)
    (λ c κs. search rules)
    (λ c κs. search rules)
    (λ c κs. search rules)
    (λ c κs. search rules)
    (λ c κs. search rules)
    (λ c. moved_set _ _ _ _ _ c.in-0.is c.with_register.ensures)
    (λ c.
    let so = c in
    moved_copy _ _ _ _ _ _ so.register_named-s.ensures.0 so.requires.3 c.in-1.is c.with_register-in-1.ensures)
    (λ c.
    let m = c in
    let so = m in
    moved_add _ _ _ _ _ _ so.register_named-s.ensures.0 so.requires.3 m.in-2.is _ c.add32.ensures
    c.with_register-in-2.ensures)
    (λ c.
    let m = c in
    let so = m in
    moved_sub _ _ _ _ _ _ so.register_named-s.ensures.0 so.requires.3 m.in-3.is _ c.sub32.ensures
    c.with_register-in-3.ensures)
    (λ c.
    let m = c in
    let so = m in
    moved_less _ _ _ _ _ _ so.register_named-s.ensures.0 so.requires.3 _ m.target_of-target.ensures m.in-4.is
    c.jumped.ensures)
    (λ c.
    let m = c in
    let so = m in
    let r = m.in_default.in_default-own.rest in
    moved_same _ _ _ _ _ _ so.register_named-s.ensures.0 so.requires.3 _ m.target_of-target.ensures
    (omega (arith, so.requires.0, r.1, r.0.1, r.0.0.1, r.0.0.0.1, r.0.0.0.0.1)) c.jumped-in_default.ensures))
