use Rattle.std.proofs.Common.{ap, ◌∙◌, refl, unwrap_or, get_or}
use Rattle.store.specs.Rows.{rows_of}
use Rattle.store.specs.Answers.{Got}
use Rattle.instruction.specs.Step.{place_of}
use Rattle.rules.specs.Instructions.{becomes}
use Rattle.instruction.proofs.Rows.{got_or}
use Rattle.instruction.proofs.Steps.{step_get}
use Rattle.instruction.proofs.got.Goals as goal

pub returns : goal.returns
returns c =
    let k = c.data_key-key.ensures in
    let x = c.args.x in
    let old = get_or x.place.registers c.args.d 0 in
    let value = c.unwrap_or.ensures ∙ ap (λ (g : Got). unwrap_or g old) (rw k.0 at c.seen_value-seen.ensures) ∙ got_or _ old in
    rw c.at_place.ensures
    (step_get (rows_of c.args.store.now c.args.partition) x c.with_register.result c.requires.2 c.args.d c.args.s k.1 _ refl
    (c.with_register.ensures ∙ ap (becomes (place_of x.place) c.args.d) value))
