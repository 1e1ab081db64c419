-- `runtime::order`: a no, or the rows in order.
use Rattle.std.proofs.Common.{◌≡◌, sym, ◌∙◌, ap, subst}
use Rattle.questions.proofs.Chains.{passed_on}
use Rattle.questions.proofs.Tests.{no_yes}
use Rattle.rules.specs.Calls as Calls
use Rattle.rules.specs.Plain.{accepted}
use Rattle.agents.specs.Answers.{Answer, answer_of}
use Rattle.meaning.specs.Carried.{Carried}
use Rattle.meaning.proofs.Carry.{order_done, order_refused}
use Rattle.runtime.proofs.order.Goals as goal

pub returns-in_err-order : goal.returns-in_err-order
unfolding answer_of
returns-in_err-order c = (
  λ pack records list.
      subst (λ (x : Answer). Carried pack (record { store = c.args.store.now; records = records; list = list }) Calls.order x
      (record { store = c.order.new.store; records = records; list = list })) (sym (passed_on _ _ c.from_residual.ensures.1))
      (order_refused pack (record { store = c.args.store.now; records = records; list = list }) c.order.new.store c.order.result
      c.order.ensures _ c.in_err-order.was),
  λ y. no_yes (sym (ap (λ (x : Answer). accepted (answer_of x)) (passed_on _ _ c.from_residual.ensures.1)) ∙ y),
)

pub returns : goal.returns
returns c = (
  λ pack records list.
      order_done pack (record { store = c.args.store.now; records = records; list = list }) c.order.new.store c.order.result
      c.order.ensures c.in_ok-order.was,
  λ y. c.order.ensures.made c.in_ok-order.was,
)
