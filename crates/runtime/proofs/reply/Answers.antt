-- `runtime::reply`: a no to 1 to 13 or 20, or what the log leads to.
use Rattle.std.proofs.Common.{◌≡◌, sym, ◌∙◌, ap, Err}
use Rattle.questions.proofs.Chains.{passed_on}
use Rattle.agents.proofs.Answers.{accepted_none, refused_some}
use Rattle.meaning.proofs.Asked.{to_13_pack, to_13_store, to_13_right}
use Rattle.runtime.proofs.Listing.{through_is, not_yet_is, unbooked_is, read_refused, read_20, read_not_yet, read_reply}
use Rattle.runtime.proofs.reply.Goals as goal

pub returns-in_err-check_to_13 : goal.returns-in_err-check_to_13
returns-in_err-check_to_13 c =
    passed_on _ _ c.from_residual.ensures.1 ∙ read_refused _ _ _ _ (refused_some _ _ _ c.check_to_13.ensures c.in_err-check_to_13.was)

pub reply_logged-requires : goal.reply_logged-requires
reply_logged-requires c =
    let e = accepted_none _ _ c.check_to_13.ensures c.in_ok-check_to_13.was in
    (to_13_pack _ _ e, to_13_store _ _ e, to_13_right _ _ e)

pub returns-in-Through : goal.returns-in-Through
returns-in-Through c =
    read_reply _ _ _ (accepted_none _ _ c.check_to_13.ensures c.in_ok-check_to_13.was) _
    (through_is _ _ _ _ c.reply_logged.ensures _ c.in-Through.is)

pub returns-in-NotYet : goal.returns-in-NotYet
returns-in-NotYet c =
    read_not_yet _ _ _ (accepted_none _ _ c.check_to_13.ensures c.in_ok-check_to_13.was)
    (not_yet_is _ _ _ _ c.reply_logged.ensures c.in-NotYet.is)

pub returns-in-Unbooked : goal.returns-in-Unbooked
returns-in-Unbooked c =
    ap Err c.number.ensures
    ∙ read_20 _ _ _ (accepted_none _ _ c.check_to_13.ensures c.in_ok-check_to_13.was)
    (unbooked_is _ _ _ _ c.reply_logged.ensures c.in-Unbooked.is)
