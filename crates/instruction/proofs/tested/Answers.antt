use Rattle.std.proofs.Common.{ap, ◌∙◌, refl, is_some}
use Rattle.store.specs.Rows.{rows_of}
use Rattle.store.specs.Answers.{Got}
use Rattle.instruction.specs.Step.{place_of}
use Rattle.rules.specs.Instructions.{becomes}
use Rattle.instruction.proofs.Rows.{got_there, as_number}
use Rattle.instruction.proofs.Steps.{step_has}
use Rattle.instruction.proofs.tested.Goals as goal

pub returns : goal.returns
returns c =
    let k = c.data_key-key.ensures in
    let x = c.args.x in
    let there = c.is_some.ensures ∙ ap (λ (g : Got). is_some g) (rw k.0 at c.seen_value-seen.ensures) ∙ got_there _ in
    rw c.at_place.ensures
    (step_has (rows_of c.args.store.now c.args.partition) x c.with_register.result c.requires.2 c.args.d c.args.s k.1 _ refl
    (c.with_register.ensures ∙ ap (becomes (place_of x.place) c.args.d) (c.from.ensures ∙ as_number _ _ there)))
