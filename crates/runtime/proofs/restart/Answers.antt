-- `runtime::restart`: every slot is empty, and the list is that of a restart.
use Rattle.std.proofs.Common.{◌≡◌, sym, subst, List}
use Rattle.std.specs.Prelude.{Ok}
use Rattle.agents.specs.declared.Agent.{Agent}
use Rattle.agents.specs.declared.Accepted.TheVariants.{Done}
use Rattle.rules.specs.Calls as Calls
use Rattle.meaning.specs.Carried.{Carried}
use Rattle.meaning.proofs.Carry.{is_restart}
use Rattle.runtime.proofs.restart.Goals as goal

pub returns : goal.returns
returns c pack store records =
    subst (λ (rs : List Agent). Carried pack
    (record { store = store; records = records; list = c.args.list.now }) Calls.restart (Ok Done)
    (record { store = store; records = rs; list = c.restarted.result }))
    (sym c.no_agents.ensures)
    (is_restart pack (record { store = store; records = records; list = c.args.list.now }) c.restarted.result c.restarted.ensures)
