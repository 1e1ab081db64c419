-- `booking::write_request` meets its contract.
use borrow.Author.Rules.{rules}
use mathlib.Core.Path.{refl}
use native.Mathlib.Omega.{arith}
use Rattle.agents.specs.Requests.{asked}
use Rattle.booking.proofs.Booking.{keys_rise, keys_right, first_belongs, five_stored}
use Rattle.booking.proofs.write_request.Statement.{statement}
use Rattle.booking.proofs.write_request.Tie as tie

pub write_request_spec : {M : Type 1} → statement M
write_request_spec =
    tie.close
    (tie.spec
    (λ c κs. search rules)
    (λ c κs. search rules)
    (λ c. search rules)
    (λ c. search rules)
    (λ c κs.
    let k = c in
    let p = k.partition_count-book in
    let s = k in
    let a = s.args in
    rw k.book_keys-keys.ensures.0 (
      (s.requires.0, omega (arith, p.ensures), omega arith, refl, keys_rise a.id),
      (
        keys_right a.store.now p.result a.id (asked a.q) p.ensures k.book_keys-keys.ensures.1,
        first_belongs a.store.now p.result a.id (asked a.q) p.ensures a.place s.requires.1,
      ),
    ))
    (λ c. search rules)
    (λ c.
    let w = c in
    let k = w in
    let p = k.partition_count-book in
    let s = k in
    let a = s.args in
    five_stored a.store.now p.result a.id (asked a.q) p.ensures k.book_keys-keys.result _ w.put_all.result
    k.book_keys-keys.ensures.0 s.requires.2 w.put_all.ensures))
