-- `turn::turn_agent` meets its contract.
use borrow.Author.Rules.{rules}
use mathlib.Core.Path.{◌≡◌, sym, ◌∙◌, ap, subst}
use Prim.Native.Nat.{ℕ, ◌^◌, ◌<◌}
use native.Mathlib.Omega.{arith}
use Rattle.pack.specs.Layout.{count, operations_of, operands_of}
use Rattle.pack.proofs.Laws.{accepted_laid}
use Rattle.store.proofs.Sound.{store_ok}
use Rattle.turn.proofs.Standing.{below, ops, ws}
use Rattle.turn.proofs.Turns.{may_ask, replies, may_go, goes_on, may_run, may_leave, does_block}
use Rattle.turn.proofs.turn_agent.Statement.{statement}
use Rattle.turn.proofs.turn_agent.Tie as tie

small : (c : tie.After-slice_known-1) → c.args.a.id < 2 ^ 32
small c = omega arith

-- the workflow is below m
under : (c : tie.After-workflow_of-workflow) → c.workflow_of-workflow.result < count c.args.pack.now
under c =
    let s = c in
    subst (λ (x : ℕ). x < count s.args.pack.now) (sym c.workflow_of-workflow.ensures) (below _ _ s.args.a (small c.before) s.requires)

-- from the operand bytes back to the start
abbrev start : tie.After-operands_part-operands → tie.Start
start o = o.before.before.before.before.before

-- its operation bytes and its operand bytes
ops_are : (c : tie.After-operands_part-operands) →
    let s = start c in
    c.operations_part-ops.result.now ≡ ops s.args.pack.now s.args.store.now s.args.a
    (small c.before.before.before) s.requires
ops_are c =
    let s = start c in
    c.operations_part-ops.ensures ∙ ap (operations_of s.args.pack.now) c.workflow_of-workflow.ensures

words_are : (c : tie.After-operands_part-operands) →
    let s = start c in
    c.operands_part-operands.result.now ≡ ws s.args.pack.now s.args.store.now s.args.a (small c.before.before.before) s.requires
words_are c =
    let s = start c in
    c.operands_part-operands.ensures ∙ ap (operands_of s.args.pack.now) c.workflow_of-workflow.ensures

pub turn_agent_spec : {M : Type 1} → statement M
turn_agent_spec =
    tie.close
    (tie.spec
    (λ c κs. (store_ok _ c.requires.stored).0)
    (λ c κs. (accepted_laid _ c.requires.accepted, under c))
    (λ c κs. (accepted_laid _ c.requires.accepted, under c.before))
    (λ c. search rules)
    (λ c κs.
    let o = c.before.before in
    let s = start o in
    may_ask _ _ s.args.a (small o.before.before.before) s.requires _ _ (ops_are o) (words_are o))
    (λ c. search rules)
    (λ c κs.
    let n = c in
    let o = n.before.before.before.before.before in
    let s = start o in
    may_go _ _ s.args.a (small o.before.before.before) s.requires _ _ (ops_are o) (words_are o) n.next_of-upcoming.result
    n.next_of-upcoming.ensures c.in-Goes.is)
    (λ c. search rules)
    (λ c κs.
    let x = c in
    let n = x in
    let o = n.before.before.before.before.before.before.before in
    let s = start o in
    may_run _ _ s.args.a (small o.before.before.before) s.requires _ _ (ops_are o) (words_are o) n.next_of-upcoming.result
    n.next_of-upcoming.ensures _ x.in-Does.is)
    (λ c κs.
    let g = c in
    let x = g in
    let n = x in
    let o = n.before.before.before.before.before.before.before.before.before.before in
    let s = start o in
    may_leave _ _ s.args.a (small o.before.before.before) s.requires _ _ (ops_are o) (words_are o) n.next_of-upcoming.result
    n.next_of-upcoming.ensures _ x.in-Does.is)
    (λ c. search rules)
    (λ c κs. search rules)
    (λ c. search rules)
    (λ c.
    let x = c in
    let n = x in
    let o = n.before.before.before.before.before.before in
    let s = start o in
    goes_on _ _ s.args.a (small o.before.before.before) s.requires _ _ (ops_are o) (words_are o) n.next_of-upcoming.result
    n.next_of-upcoming.ensures x.in-Goes.is _ c.stand_at.ensures)
    (λ c. search rules)
    (λ c.
    let g = c in
    let x = g in
    let n = x in
    let o = n.before.before.before.before.before.before.before.before.before.before.before in
    let s = start o in
    does_block _ _ s.args.a (small o.before.before.before) s.requires _ _ (ops_are o) (words_are o) n.next_of-upcoming.result
    n.next_of-upcoming.ensures _ x.in-Does.is
    _ _ _ g.through_block-outcome.ensures (c.leave_block.ensures _))
    (λ c. search rules)
    (λ c.
    let x = c in
    let n = x in
    let o = n.before.before.before.before.before.before in
    let s = start o in
    replies _ _ s.args.a (small o.before.before.before) s.requires _ _ (ops_are o) (words_are o) n.next_of-upcoming.result
    n.next_of-upcoming.ensures _ x.in-Says.is _ c.reply.ensures))
