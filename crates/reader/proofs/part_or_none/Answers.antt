-- Where the pack has not so many bytes, both parts are empty; otherwise the range has just `count` bytes.
use native.Mathlib.Nat.{add-sub_cancel_left}
use Rattle.std.proofs.Common.{sym, arith}
use Rattle.reader.proofs.Laws.{part_whole, part_none}
use Rattle.reader.proofs.part_or_none.Goals as goal

pub returns-then-pack-start : goal.returns-then-pack-start
returns-then-pack-start c = sym (part_none _ _ _ (omega arith))

pub returns-then-pack-start-2 : goal.returns-then-pack-start-2
returns-then-pack-start-2 c = sym (part_none _ _ _ (omega arith))

pub returns : goal.returns
returns c = let a = c.args in rw (part_whole a.pack.now a.start a.count (omega arith), add-sub_cancel_left)
