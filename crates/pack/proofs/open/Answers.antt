-- The pack check, then question 17.
use Rattle.std.proofs.Common.{rules, ◌≡◌, sym, ◌∙◌, ap, ltb, arith}
use Rattle.questions.specs.Verdicts.{verdict_of}
use Rattle.questions.proofs.Chains.{accepted}
use Rattle.pack.proofs.Workflows.{pack_laid, pack_refused, pack_fine}
use Rattle.pack.proofs.open.Goals as goal

pub returns-in_err-check : goal.returns-in_err-check
returns-in_err-check c =
    let r : c.from_residual.result ≡ c.check.result = search rules in
    r ∙ pack_refused _ _ _ _ c.check.ensures c.in_err-check.was

pub count_of-requires : goal.count_of-requires
count_of-requires c = omega (arith, (pack_laid _ (accepted _ _ c.check.ensures c.in_ok-check.was)).whole)

pub returns : goal.returns
returns c =
    c.ask.ensures
    ∙ ap verdict_of (sym (pack_fine _ _ _ _ c.check.ensures c.in_ok-check.was (ap (ltb c.args.workflow) (sym c.count_of.ensures))))
