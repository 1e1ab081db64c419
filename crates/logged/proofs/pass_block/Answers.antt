use Rattle.std.proofs.Common.{rules, ◌≡◌, ap, ◌∙◌, None}
use Rattle.logged.specs.Logged.{stage_of}
use Rattle.logged.proofs.Rows.{row_passes, no_row}
use Rattle.logged.proofs.pass_block.Goals as goal

pub returns-in_err-result : goal.returns-in_err-result
returns-in_err-result c ws logged e =
    let none_there : c.from_residual.result ≡ None = search rules in
    ap stage_of none_there ∙ no_row _ _ logged _ e c.in_err-result.was

pub returns : goal.returns
returns c ws logged e = row_passes _ _ logged _ e _ c.in_ok-result.was _ (c.behind_block.ensures ws)
