use Rattle.std.proofs.Common.{ℕ, sym, ap, ◌∙◌, eqb}
use Rattle.questions.proofs.Tests.{and_yes, and_no}
use Rattle.store.specs.Questions.{keys_apart}
use Rattle.store_check.specs.Places.{keys_of}
use Rattle.store_check.proofs.Steps.{places_part}
use Rattle.store_check.proofs.any_order.part_apart.Goals as goal

pub returns-then-filled : goal.returns-then-filled
returns-then-filled c =
    c.keys_apart.ensures
    ∙ ap (λ (n : ℕ). keys_apart (eqb c.args.partition n) (keys_of c.of-rows.result)) c.partition_count.ensures
    ∙ sym (places_part _ _ _ c.of-rows.ensures keys_apart ∙ and_yes _ _ (sym c.filled.ensures ∙ c.if-filled.true))

pub returns-else-filled : goal.returns-else-filled
returns-else-filled c =
    c.if-filled.false ∙ sym (places_part _ _ _ c.of-rows.ensures keys_apart ∙ and_no _ _ (sym c.filled.ensures ∙ c.if-filled.false))
