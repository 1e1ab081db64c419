-- `cases::call::store_call`: the promise of the export that each byte calls.
use Rattle.std.proofs.Common.{arith}
use mathlib.Core.Logic.{inl, inr}
use Rattle.cases.proofs.Made.{on_exported, on_order, on_listed, on_retire, on_restart}
use Rattle.cases.proofs.call.store_call.Goals.{in_default-via-then-call-lt3}
use Rattle.cases.proofs.call.store_call.Goals.{in_default-via-else-call-lt3+else-call-lt7+then-call-lt9}
use Rattle.cases.proofs.call.store_call.Goals.{in_default-via-else-call-lt3+else-call-lt7+else-call-lt9+else-call-lt13}
use Rattle.cases.proofs.call.store_call.Goals as goal

pub returns-in-9 : goal.returns-in-9
returns-in-9 c = let p = c.requires in on_order _ _ _ _ _ _ _ p.1 p.2 p.3 _ _ _ c.in-9.is c.sarthule_order.ensures

pub returns-in-13 : goal.returns-in-13
returns-in-13 c = let p = c.requires in on_retire _ _ _ _ _ _ _ p.1 p.2 p.3 _ _ _ c.in-13.is c.sarthule_retire.ensures

pub returns-in-3-to-6 : goal.returns-in-3-to-6
returns-in-3-to-6 c = let p = c.requires in on_exported _ _ _ _ _ _ _ p.1 p.2 p.3 _ _ _ _ (omega arith) c.export_call.ensures

pub returns-in-10-to-12 : goal.returns-in-10-to-12
returns-in-10-to-12 c =
    let p = c.requires in on_listed _ _ _ _ _ _ _ p.1 p.2 p.3 _ _ _ (omega arith) (omega arith) c.list_call.ensures

pub returns-in_default : goal.returns-in_default
returns-in_default c =
    let p = c.requires in
    elim c.in_default.branch [
      | in_default-via-then-call-lt3 w ↦ let q = p.0 in absurd (omega arith)
      | in_default-via-else-call-lt3+else-call-lt7+then-call-lt9 w ↦
          on_restart _ _ _ _ _ _ _ p.1 p.2 p.3 _ _ _ _ (omega arith) (λ z. omega (arith, z)) (inl (omega arith)) c.sarthule_restart.ensures
      | in_default-via-else-call-lt3+else-call-lt7+else-call-lt9+else-call-lt13 w ↦
          on_restart _ _ _ _ _ _ _ p.1 p.2 p.3 _ _ _ _ (omega arith) (λ z. omega (arith, z)) (inr (omega arith)) c.sarthule_restart.ensures
    ]
