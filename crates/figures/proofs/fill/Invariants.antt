-- The side of the instruction behind the next one, the index behind the next END from there on, and the table filled from there on.
use Rattle.std.proofs.Common.{◌≡◌, ◌+◌, ◌≤◌, length, drop}
use Rattle.rules.specs.Blocks.{through_end}
use Rattle.code.specs.Meaning.{code_of}
use Rattle.code.specs.Questions.{inside_at}
use Rattle.figures.specs.Counted.{Filled}
use Rattle.figures.proofs.fill.Given as goal

abbrev pub invariant-loop-index : goal.invariant-loop-index
invariant-loop-index l =
    record {
      in_code : l.index ≤ length l.ops;
      side : l.inside ≡ inside_at l.ops l.index;
      end : l.behind ≡ l.index + through_end (drop l.index (code_of l.ops l.operands));
      filled : Filled l.by l.ops l.operands l.index l.most;
    }
