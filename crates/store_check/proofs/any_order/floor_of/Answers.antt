use Rattle.std.proofs.Common.{rules, sym, ◌∙◌, arith}
use Rattle.keys.specs.Keys.{floor_key}
use Rattle.store_check.proofs.Floor.{floor_found, floor_missed}
use Rattle.store_check.proofs.Ranges.{place_of_find}
use Rattle.store_check.proofs.any_order.floor_of.Goals as goal

pub value-requires : goal.value-requires
value-requires c =
    let r = c.args.rows.now in
    let first = place_of_find r.store.now r.keys_at floor_key r.used _ _ _ c.find.ensures.ran (λ x q k. search rules) (λ x q k. search rules) in
    let here = rw c.in-Some.is at first in
    omega (arith, here.0)

pub returns-in-Some : goal.returns-in-Some
returns-in-Some c =
    let r = c.args.rows.now in
    let first = place_of_find r.store.now r.keys_at floor_key r.used _ _ _ c.find.ensures.ran (λ x q k. search rules) (λ x q k. search rules) in
    let here = rw c.in-Some.is at first in
    c.value.ensures ∙ floor_found _ _ _ _ _ (sym here.1) here.0

pub returns-in-None : goal.returns-in-None
returns-in-None c =
    let r = c.args.rows.now in
    let first = place_of_find r.store.now r.keys_at floor_key r.used _ _ _ c.find.ensures.ran (λ x q k. search rules) (λ x q k. search rules) in
    let here = rw c.in-None.is at first in
    floor_missed r.store.now r.keys_at r.values_at r.used _ (sym here) (omega arith)
