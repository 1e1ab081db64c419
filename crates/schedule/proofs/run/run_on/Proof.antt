-- `schedule::run::run_on` meets its contract.
use native.Mathlib.Omega.{arith}
use borrow.Author.Rules.{rules}
use Rattle.schedule.proofs.Goes.{fresh_chain, chain_sound, all_said, prints}
use Rattle.schedule.proofs.run.run_on.Statement.{statement}
use Rattle.schedule.proofs.run.run_on.Tie as tie

-- what the code had in hand at each call, from a later one
abbrev start : tie.After-capacity-cap → tie.Start
start c = c.before.before.before.before.before.before.before

abbrev begun : tie.After-create → tie.After-capacity-cap
begun c = c.before.before

abbrev created : tie.After-events_line-written → tie.After-create
created c = c.before.before.before.before

abbrev total : tie.After-run_events-written → tie.After-events_line-written
total c = c.before.before.before.before.before

abbrev went : tie.After-print_store-arg-1 → tie.After-run_events-written
went c = c.before.before.before.before.before

pub run_on_spec : {M : Type 1} → statement M
run_on_spec =
    tie.close
    (tie.spec
    (λ c κs. search rules)
    (λ c. search rules)
    (λ c κs. search rules)
    (λ c κs. search rules)
    (λ c κs. search rules)
    (λ c κs. search rules)
    (λ c κs. let m = created c.before.before.before.before in
    let k = begun m in
    let q = (start k).requires in (
      q.0,
      fresh_chain _ _ _ _ _ _ _ k.partition_count-partitions.ensures k.capacity-cap.ensures q.0 q.1 m.create.ensures,
      omega arith,
    ))
    (λ c κs. let d = went c in
    let t = total d in (
      chain_sound d.run_events-written.ensures.0.going.ran.chain,
      omega (
        arith,
        d.run_events-written.ensures.1,
        d.run_events-written.auto.out,
        t.events_line-written.ensures.1,
        t.events_line-written.auto.out,
        (start (begun (created t))).requires.2,
      ),
    ))
    (λ c. search rules)
    (λ c. search rules)
    (λ c. let p = c in
    let d = went p.before.before.before in
    let t = total d in
    let x = t.events_line-written.ensures.0 in
    let w = d.run_events-written.ensures.0 in
    let z = p.print_store.ensures in
    (prints _ x w z (begun (created t)).read16-events.ensures, z.room, (all_said _ x w z).stays)))
