use Rattle.std.proofs.Common.{◌≡◌}
use Rattle.questions.specs.Basics.{each}
use Rattle.rules.specs.Calls.{can_retire}
use Rattle.pack.specs.Meaning.{pack_of}
use Rattle.meaning.specs.State.{state_of, Lent}
use Rattle.retirable.proofs.Walk.{can_from}
use Rattle.retirable.proofs.all_retirable.Given as goal

-- what is left answers the whole
abbrev pub invariant-loop-row : goal.invariant-loop-row
invariant-loop-row l =
    let lent : Lent = record { store = l.store; records = l.agents; list = l.list } in
    can_from l.pack lent l.floor l.rows l.row
    ≡ each l.floor (λ id. can_retire (pack_of l.pack) (state_of lent) id ((state_of lent).store.book id))
