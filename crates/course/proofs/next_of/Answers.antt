-- RETURN, BEGIN, and what moves on.
use Rattle.std.proofs.Common.{rules}
use Rattle.course.proofs.Nexts.{replies, opens_block, may_move, moves_on}
use Rattle.course.proofs.next_of.Goals as goal

pub returns-then-op-eq-RETURN : goal.returns-then-op-eq-RETURN
returns-then-op-eq-RETURN c =
    replies _ _ c.args.from c.requires _ _ c.operation_of-op.ensures c.register_of-d.ensures c.if-op-eq-RETURN.true

pub returns-then-op-eq-BEGIN : goal.returns-then-op-eq-BEGIN
returns-then-op-eq-BEGIN c =
    opens_block _ _ c.args.from c.requires _ _ c.operation_of-op.ensures c.register_of-d.ensures _ c.word_in-word.ensures
    c.if-op-eq-BEGIN.true

pub moved-requires : goal.moved-requires
moved-requires c =
    let m =
    may_move _ _ c.args.from c.requires _ _ c.operation_of-op.ensures c.register_of-d.ensures _ c.word_in-word.ensures
    c.if-op-eq-RETURN.false c.if-op-eq-BEGIN.false in
    (m.0, search rules, search rules, m.1)

pub returns : goal.returns
returns c =
    moves_on _ _ c.args.from c.requires _ _ c.operation_of-op.ensures c.register_of-d.ensures _ c.word_in-word.ensures c.moved.result
    c.moved.ensures
