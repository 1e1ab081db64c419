-- `slots::read_record` meets its contract.
use borrow.Author.Rules.{rules}
use borrow.Author.Tests.{lt-ltb, le-ltb}
use mathlib.Core.Path.{refl, sym, ◌∙◌}
use Prim.Native.Nat.{◌^◌}
use Rattle.slots.proofs.Records.{record_read}
use Rattle.slots.proofs.read_record.Statement.{statement}
use Rattle.slots.proofs.read_record.Tie as tie

pub read_record_spec : {M : Type 1} → statement M
read_record_spec =
    tie.close
    (tie.spec
    (λ c. search rules)
    (λ c κs. search rules)
    (λ c. search rules)
    (λ c κs. search rules)
    (λ c. search rules)
    (λ c κs. search rules)
    (λ c κs. search rules)
    (λ c. c.no_record.ensures
    ∙ sym (record_read _ _ _ _ _ c.read32-in_use.ensures c.read32-position.ensures
    c.read32-step.ensures ∙ rw (le-ltb _ 2 c.if-in_use-ge2.true) refl))
    (λ c κs. search rules)
    (λ c. c.no_record-then-position-ge65536.ensures
    ∙ sym (record_read _ _ _ _ _ c.read32-in_use.ensures
    c.read32-position.ensures c.read32-step.ensures
    ∙ rw (lt-ltb _ 2 c.if-in_use-ge2.false, le-ltb _ (2 ^ 16) c.if-position-ge65536.true) refl))
    (λ c κs. search rules)
    (λ c. c.no_record-then-step-ge65536.ensures
    ∙ sym (record_read _ _ _ _ _ c.read32-in_use.ensures
    c.read32-position.ensures c.read32-step.ensures
    ∙ rw (
      lt-ltb _ 2 c.if-in_use-ge2.false,
      lt-ltb _ (2 ^ 16) c.if-position-ge65536.false,
      le-ltb _ (2 ^ 16) c.if-step-ge65536.true,
    ) refl))
    (λ c. search rules)
    (λ c κs. search rules)
    (λ c. search rules)
    (λ c. search rules)
    (λ c. search rules)
    (λ c κs. search rules)
    (λ c. sym (record_read _ _ _ _ _ c.read32-in_use.ensures
    c.read32-position.ensures
    c.read32-step.ensures
    ∙ rw (
      lt-ltb _ 2 c.if-in_use-ge2.false,
      lt-ltb _ (2 ^ 16) c.if-position-ge65536.false,
      lt-ltb _ (2 ^ 16) c.if-step-ge65536.false,
      c.read32.ensures,
      c.read_registers.ensures,
    ) refl)))
