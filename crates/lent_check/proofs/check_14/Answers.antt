-- `lent_check::check_14`: what is asked of each record is what is asked of each slot.
use Rattle.std.proofs.Common.{rules, tests, ◌≡◌, refl, sym, length, ◌∙◌}
use Rattle.std.proofs.lemmas.Iterator.{YieldsList-from_slice}
use Rattle.std.proofs.lemmas.Iterator.Search.{all_from_yields_List}
use Rattle.agents.specs.Slots.{agent_at}
use Rattle.agents.proofs.Blank.{each_all}
use Rattle.meaning.specs.Questions.{slot_right, question14}
use Rattle.lent_check.proofs.Steps.{past}
use Rattle.lent_check.proofs.check_14.Goals as goal

pub returns : goal.returns
unfolding question14
returns c =
    let e : length c.args.agents.now ≡ 8 = search rules in
    all_from_yields_List (slot_right c.args.pack.now c.args.store.now) _ _ _ c.all.ensures.ran
    (YieldsList-from_slice c.args.agents.now cc)
    (λ x b q k. search (rules, tests))
    ∙ sym (each_all (slot_right c.args.pack.now c.args.store.now) past
    (λ i. slot_right c.args.pack.now c.args.store.now (agent_at c.args.agents.now i)) 8 c.args.agents.now e (λ k. refl))
