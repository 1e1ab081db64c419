-- `cases::call::make_call`: the promise of the export that each byte calls, and its answer as it is read.
use Rattle.std.proofs.Common.{rules, refl}
use Rattle.cases.proofs.Made.{made_check, made_open, made_create, made_call}
use Rattle.cases.proofs.call.make_call.Goals.{in-0, in-1, in-2, in_default}
use Rattle.cases.proofs.call.make_call.Goals as goal

pub returns : goal.returns
returns c =
    elim c.match-call.branch [
      | in-0 w ↦
          let reads = rw (w.number-is, w.answer-is) at c.read_answer.ensures in
          rw (w.store-is, w.records-is, w.list-is) (made_check _ _ _ _ _ _ _ _ refl _ _ reads w.in-0.is w.sarthule_check-number.ensures)
      | in-1 w ↦
          let reads = rw (w.number-is, w.answer-is) at c.read_answer.ensures in
          rw (w.store-is, w.records-is, w.list-is) (made_open _ _ _ _ _ _ _ _ refl _ _ reads w.in-1.is w.sarthule_open-number.ensures)
      | in-2 w ↦
          let reads = rw (w.number-is, w.answer-is) at c.read_answer.ensures in
          rw (w.store-is, w.records-is, w.list-is)
          (made_create _ _ _ _ _ _ _ _ refl _ _ reads _ w.in-2.is w.sarthule_create-number.ensures)
      | in_default w ↦
          let reads = rw (w.number-is, w.answer-is) at c.read_answer.ensures in
          rw (w.store-is, w.records-is, w.list-is)
          (made_call _ _ _ _ _ _ _ _ _ reads _ _ _ (search rules) (search rules) (search rules) w.store_call-number.ensures)
    ]
