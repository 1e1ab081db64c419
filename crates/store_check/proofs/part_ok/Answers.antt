use Rattle.std.proofs.Common.{ℕ, sym, ap, ◌∙◌, eqb}
use Rattle.questions.proofs.Tests.{and_yes, and_no}
use Rattle.store.specs.Questions.{keys_ok}
use Rattle.store_check.specs.Places.{keys_of}
use Rattle.store_check.proofs.Steps.{places_part}
use Rattle.store_check.proofs.part_ok.Goals as goal

pub returns-then-filled : goal.returns-then-filled
returns-then-filled c =
    c.keys_ok.ensures
    ∙ ap (λ (n : ℕ). keys_ok (eqb c.args.partition n) (keys_of c.of-rows.result)) c.partition_count.ensures
    ∙ sym (places_part _ _ _ c.of-rows.ensures keys_ok ∙ and_yes _ _ (sym c.filled.ensures ∙ c.if-filled.true))

pub returns-else-filled : goal.returns-else-filled
returns-else-filled c =
    c.if-filled.false ∙ sym (places_part _ _ _ c.of-rows.ensures keys_ok ∙ and_no _ _ (sym c.filled.ensures ∙ c.if-filled.false))
