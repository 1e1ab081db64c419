-- `lent_check::check_to_13`: the first no of the pack's questions, of the store's, and of 13.
use Rattle.std.proofs.Common.{◌≡◌, sym, ◌∙◌}
use Rattle.pack.proofs.Laws.{accepted_laid}
use Rattle.store.proofs.Sound.{store_ok}
use Rattle.agents.proofs.Answers.{accepted_none, handed, asked_last}
use Rattle.meaning.proofs.Asked.{thirteen_of_pack, thirteen_of_store, thirteen_of_13, all_thirteen}
use Rattle.lent_check.proofs.check_to_13.Goals as goal

pub returns-in_err-check : goal.returns-in_err-check
returns-in_err-check c =
    handed _ _ _ _ _ c.check.ensures c.in_err-check.was c.from_residual.ensures.1 (thirteen_of_pack _ _)

pub returns-in_err-check_store : goal.returns-in_err-check_store
returns-in_err-check_store c =
    handed _ _ _ _ _ c.check_store.ensures c.in_err-check_store.was c.from_residual-in_err-check_store.ensures.1
    (thirteen_of_store _ _ (accepted_none _ _ c.check.ensures c.in_ok-check.was))

pub check_13-requires : goal.check_13-requires
check_13-requires c = (
  accepted_laid _ (accepted_none _ _ c.check.ensures c.in_ok-check.was),
  (store_ok _ (accepted_none _ _ c.check_store.ensures c.in_ok-check_store.was)).0,
)

pub returns : goal.returns
returns c =
    asked_last 13 _ _ _ c.ask.ensures
    (λ f. thirteen_of_13 _ _ (accepted_none _ _ c.check.ensures c.in_ok-check.was)
    (accepted_none _ _ c.check_store.ensures c.in_ok-check_store.was) (sym c.check_13.ensures ∙ f))
    (λ f. all_thirteen _ _ (accepted_none _ _ c.check.ensures c.in_ok-check.was)
    (accepted_none _ _ c.check_store.ensures c.in_ok-check_store.was) (sym c.check_13.ensures ∙ f))
