-- The layout first, then the workflows.
use Rattle.std.proofs.Common.{rules, ◌≡◌, sym, ◌∙◌, ap}
use Rattle.questions.specs.Verdicts.{verdict_of}
use Rattle.questions.proofs.Chains.{accepted}
use Rattle.pack.proofs.Sizes.{laid}
use Rattle.pack.proofs.Workflows.{layout_refused, layout_fine}
use Rattle.pack.proofs.check.Goals as goal

pub returns-in_err-check_layout : goal.returns-in_err-check_layout
returns-in_err-check_layout c =
    let r : c.from_residual.result ≡ c.check_layout.result = search rules in
    r ∙ layout_refused _ _ _ c.check_layout.ensures c.in_err-check_layout.was

pub check_workflows-requires : goal.check_workflows-requires
check_workflows-requires c = laid _ (accepted _ _ c.check_layout.ensures c.in_ok-check_layout.was)

pub returns : goal.returns
returns c = c.check_workflows.ensures ∙ ap verdict_of (sym (layout_fine _ _ c.check_layout.ensures c.in_ok-check_layout.was))
