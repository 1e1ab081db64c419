use Rattle.std.proofs.Common.{rules, tests, ◌≡◌, length, ◌∙◌}
use Rattle.std.proofs.lemmas.Iterator.{YieldsList-from_slice}
use Rattle.std.proofs.lemmas.Iterator.Search.{all_from_yields_List}
use mathlib.Core.Bool.{not}
use Rattle.rules.specs.Calls.{is_of}
use Rattle.agents.specs.Slots.{agent_of}
use Rattle.agents.proofs.InSlots.{in_none}
use Rattle.agents.proofs.in_no_slot.Goals as goal

pub returns : goal.returns
returns c =
    let e : length c.args.agents ≡ 8 = search rules in
    all_from_yields_List (λ a. not (is_of c.args.id (agent_of a))) _ _ _ c.all.ensures.ran
    (YieldsList-from_slice c.args.agents cc)
    (λ x b q k. search (rules, tests))
    ∙ in_none _ _ e
