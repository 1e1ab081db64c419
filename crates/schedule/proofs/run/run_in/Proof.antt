-- `schedule::run::run_in` meets its contract: no store is longer than the buffer.
use mathlib.Core.Path.{◌≡◌, sym, ◌∙◌}
use Prim.Native.Nat.{◌≤◌}
use native.Mathlib.Omega.{arith}
use lib.ListN.{length}
use lib.Seq.{length-take-le}
use Rattle.schedule.specs.Run.{store_size}
use borrow.Author.Rules.{rules}
use Rattle.schedule.proofs.Goes.{size_fits, size_as, on_first}
use Rattle.schedule.proofs.run.run_in.Statement.{statement}
use Rattle.schedule.proofs.run.run_in.Tie as tie

abbrev start : tie.After-capacity → tie.Start
start c = c.before.before.before.before.before.before

-- the length of the store, and that it fits
sized : (c : tie.After-store_size-size) → c.store_size-size.result ≡ store_size (start c.before).args.schedule.now
sized c = size_as _ _ _ _ _ c.store_size-size.ensures c.partition_count.ensures c.capacity.ensures

fits : (c : tie.After-store_size-size) → c.store_size-size.result ≤ length (start c.before).args.store.now
fits c = let q = (start c.before).requires in omega (arith, sized c, (size_fits _ _ q.0.numbers).2)

pub run_in_spec : {M : Type 1} → statement M
run_in_spec =
    tie.close
    (tie.spec
    (λ c κs. search rules)
    (λ c κs. search rules)
    (λ c κs. let f = size_fits _ _ (start c).requires.0.numbers in
    (omega (arith, f.0), omega (arith, f.1)))
    (λ c. fits c)
    (λ c. sym (length-take-le _ _ (fits c.before)))
    (λ c κs. let d = c.before.before in let q = (start d.before).requires in (q.0, length-take-le _ _ (fits d) ∙ sized d, q.2))
    (λ c. search rules)
    (λ c. search rules)
    (λ c. let r = c in
    let d = r.before.before.before.before.before.before.before in (
      on_first _ _ _ _ _ _ (sized d) (r.run_on.auto.store ∙ length-take-le _ _ (fits d) ∙ sized d) r.run_on.ensures.0,
      r.run_on.ensures.1,
      r.run_on.ensures.2,
    )))
