-- `cases::call::list_call`: what is promised of a call is promised of the call that the byte stands for.
use Rattle.std.proofs.Common.{arith, ◌≡◌, ℕ, List, subst}
use Rattle.rules.specs.Calls.{Call}
use Rattle.host.specs.Exports.{ListExported}
use Rattle.cases.proofs.Made.{by_10, by_11, by_12}
use Rattle.cases.proofs.call.list_call.Goals as goal

promised : (pack store records list answer : List ℕ) (c c' : Call) (number : ℕ) (list' answer' : List ℕ) → c ≡ c' →
    ListExported pack store records list answer c number list' answer' → ListExported pack store records list answer c' number list' answer'
promised pack store records list answer c c' number list' answer' e x =
    subst (λ (k : Call). ListExported pack store records list answer k number list' answer') e x

pub returns-in-10 : goal.returns-in-10
returns-in-10 c = promised _ _ _ _ _ _ _ _ _ _ (by_10 _ _ c.in-10.is) c.sarthule_add.ensures

pub returns-in-11 : goal.returns-in-11
returns-in-11 c = promised _ _ _ _ _ _ _ _ _ _ (by_11 _ _ c.in-11.is) c.sarthule_take.ensures

pub returns-in_default : goal.returns-in_default
returns-in_default c = promised _ _ _ _ _ _ _ _ _ _ (by_12 _ _ (omega arith)) c.sarthule_done.ensures
