-- The questions' answers in order.
use Rattle.std.proofs.Common.{rules, ◌≡◌, sym, ◌∙◌, ap}
use Rattle.code.specs.Questions.{question4}
use Rattle.code.specs.Stopped.{at_place}
use Rattle.code.proofs.Asked.{asked_yes}
use Rattle.code.proofs.Judged.{stops_4, stops_5, stops_6, comes_to_7, asked_5, asked_6, asked_7, ranged_operand, no_put}
use Rattle.code.proofs.judge.Goals as goal

pub returns-in_err-ask_number : goal.returns-in_err-ask_number
unfolding question4
returns-in_err-ask_number g c w =
    let at = at_place w c.args.index in
    let r : c.from_residual.result ≡ c.ask_number.result = search rules in
    ap at r ∙ stops_4 _ _ _ _ _ _ _ (sym c.is_legal.ensures) (c.ask_number.ensures w c.args.index) (ap at c.in_err-ask_number.was)

pub returns-in_err-ask_number-2 : goal.returns-in_err-ask_number-2
unfolding question4
returns-in_err-ask_number-2 g c w =
    let at = at_place w c.args.index in
    let r : c.from_residual-in_err-ask_number-2.result ≡ c.ask_number-2.result = search rules in
    let y4 = sym c.is_legal.ensures ∙ asked_yes _ _ _ (c.ask_number.ensures w c.args.index) (ap at c.in_ok-ask_number.was) in
    let q5 = asked_5 _ _ _ _ _ c.word_in-word.ensures c.entry_of-entry.ensures _ c.is_ranged-ranged.ensures in
    ap at r ∙ stops_5 _ _ _ _ _ y4 _ _ q5 (c.ask_number-2.ensures w c.args.index) (ap at c.in_err-ask_number-2.was)

pub is_sided-sided-requires-clause-in_range : goal.is_sided-sided-requires-clause-in_range
is_sided-sided-requires-clause-in_range g c =
    ranged_operand _ _ _ _ _ _ _ c.is_ranged-ranged.ensures
    (asked_yes _ _ _ (c.ask_number-2.ensures 0 c.args.index) (ap (at_place 0 c.args.index) c.in_ok-ask_number-2.was))

pub returns-in_err-ask_number-3 : goal.returns-in_err-ask_number-3
unfolding question4
returns-in_err-ask_number-3 g c w =
    let at = at_place w c.args.index in
    let r : c.from_residual-in_err-ask_number-3.result ≡ c.ask_number-3.result = search rules in
    let y4 = sym c.is_legal.ensures ∙ asked_yes _ _ _ (c.ask_number.ensures w c.args.index) (ap at c.in_ok-ask_number.was) in
    let q5 = asked_5 _ _ _ _ _ c.word_in-word.ensures c.entry_of-entry.ensures _ c.is_ranged-ranged.ensures in
    let y5 = q5 ∙ asked_yes _ _ _ (c.ask_number-2.ensures w c.args.index) (ap at c.in_ok-ask_number-2.was) in
    let q6 = asked_6 _ _ _ _ _ c.word_in-word.ensures c.entry_of-entry.ensures _ _ c.requires.side c.is_sided-sided.ensures in
    ap at r ∙ stops_6 _ _ _ _ _ y4 y5 _ _ q6 (c.ask_number-3.ensures w c.args.index) (ap at c.in_err-ask_number-3.was)

pub is_counted-requires : goal.is_counted-requires
is_counted-requires g c =
    let q6 = asked_6 _ _ _ _ _ c.word_in-word.ensures c.entry_of-entry.ensures _ _ c.requires.side c.is_sided-sided.ensures in
    let yes = asked_yes _ _ _ (c.ask_number-3.ensures 0 c.args.index) (ap (at_place 0 c.args.index) c.in_ok-ask_number-3.was) in
    no_put _ _ _ _ c.requires.side (q6 ∙ yes)

pub returns : goal.returns
unfolding question4
returns g c w =
    let at = at_place w c.args.index in
    let y4 = sym c.is_legal.ensures ∙ asked_yes _ _ _ (c.ask_number.ensures w c.args.index) (ap at c.in_ok-ask_number.was) in
    let q5 = asked_5 _ _ _ _ _ c.word_in-word.ensures c.entry_of-entry.ensures _ c.is_ranged-ranged.ensures in
    let y5 = q5 ∙ asked_yes _ _ _ (c.ask_number-2.ensures w c.args.index) (ap at c.in_ok-ask_number-2.was) in
    let q6 = asked_6 _ _ _ _ _ c.word_in-word.ensures c.entry_of-entry.ensures _ _ c.requires.side c.is_sided-sided.ensures in
    let y6 = q6 ∙ asked_yes _ _ _ (c.ask_number-3.ensures w c.args.index) (ap at c.in_ok-ask_number-3.was) in
    comes_to_7 _ _ _ _ _ y4 y5 _ y6 (asked_7 _ _ _ _ _ c.requires.counted (no_put _ _ _ _ c.requires.side y6) c.is_counted.ensures)
    (c.ask_number-4.ensures w c.args.index)
