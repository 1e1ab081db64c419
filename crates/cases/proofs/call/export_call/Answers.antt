-- `cases::call::export_call`: what is promised of a call is promised of the call that the byte stands for.
use Rattle.std.proofs.Common.{arith, ◌≡◌, ℕ, List, subst}
use Rattle.rules.specs.Calls.{Call}
use Rattle.host.specs.Exports.{Exported}
use Rattle.cases.proofs.Made.{by_3, by_4, by_5, by_6}
use Rattle.cases.proofs.call.export_call.Goals as goal

promised : (pack store records answer : List ℕ) (c c' : Call) (number : ℕ) (store' records' answer' : List ℕ) → c ≡ c' →
    Exported pack store records answer c number store' records' answer' →
    Exported pack store records answer c' number store' records' answer'
promised pack store records answer c c' number store' records' answer' e x =
    subst (λ (k : Call). Exported pack store records answer k number store' records' answer') e x

pub returns-in-3 : goal.returns-in-3
returns-in-3 c = promised _ _ _ _ _ _ _ _ _ _ (by_3 _ _ c.in-3.is) c.sarthule_arrival.ensures

pub returns-in-4 : goal.returns-in-4
returns-in-4 c = promised _ _ _ _ _ _ _ _ _ _ (by_4 _ _ c.in-4.is) c.sarthule_retry.ensures

pub returns-in-5 : goal.returns-in-5
returns-in-5 c = promised _ _ _ _ _ _ _ _ _ _ (by_5 _ _ c.in-5.is) c.sarthule_turn.ensures

pub returns-in_default : goal.returns-in_default
returns-in_default c = promised _ _ _ _ _ _ _ _ _ _ (by_6 _ _ (omega arith)) c.sarthule_crash.ensures
