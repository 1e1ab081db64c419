use Rattle.std.proofs.Common.{sym, ◌∙◌, arith}
use Rattle.worklist.proofs.Kept.{added_listed, added_new, room_for_new}
use Rattle.worklist.proofs.with_id.Goals as goal

pub returns-then-is_listed : goal.returns-then-is_listed
returns-then-is_listed c = added_listed _ _ (sym c.is_listed.ensures ∙ c.if-is_listed.true)

pub bounds-l-l : goal.bounds-l-l
bounds-l-l c = room_for_new _ _ (sym c.is_listed.ensures ∙ c.if-is_listed.false) c.requires.can_list

pub overflow_add-l : goal.overflow_add-l
overflow_add-l c = omega (arith, room_for_new _ _ (sym c.is_listed.ensures ∙ c.if-is_listed.false) c.requires.can_list)

pub returns : goal.returns
returns c =
    let e = sym c.is_listed.ensures ∙ c.if-is_listed.false in
    added_new _ _ e (omega (arith, room_for_new _ _ e c.requires.can_list))
