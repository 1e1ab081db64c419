-- Each call has fewer instructions ahead. Each loop: the side of the instruction that comes next, and that those before it were answered yes.
use Rattle.std.proofs.Common.{ℕ, ◌≡◌, true, false, ◌-◌, ◌≤◌, length}
use Rattle.questions.specs.Questions.{first_no}
use Rattle.code.specs.Questions.{inside_at, puts_before}
use Rattle.code.specs.Refusal.{instruction_no}
use Rattle.code.proofs.+walk_inside_walk_outside.Given as goal

abbrev pub decreases-walk_inside : goal.decreases-walk_inside
decreases-walk_inside l = length l.ops.now - l.first

abbrev pub decreases-walk_outside : goal.decreases-walk_outside
decreases-walk_outside l = length l.ops.now - l.first

abbrev pub invariant-walk_inside-loop-i : goal.invariant-walk_inside-loop-i
invariant-walk_inside-loop-i l =
    record {
      inside : inside_at l.ops l.i ≡ true;
      counted : puts_before l.ops l.i ≡ l.puts;
      few : l.puts ≤ 16;
      ahead : (workflow : ℕ) → first_no (instruction_no workflow l.ops l.operands) (length l.ops - l.fn.first) l.fn.first
          ≡ first_no (instruction_no workflow l.ops l.operands) (length l.ops - l.i) l.i;
    }

abbrev pub invariant-walk_outside-loop-i : goal.invariant-walk_outside-loop-i
invariant-walk_outside-loop-i l =
    record {
      outside : inside_at l.ops l.i ≡ false;
      ahead : (workflow : ℕ) → first_no (instruction_no workflow l.ops l.operands) (length l.ops - l.fn.first) l.fn.first
          ≡ first_no (instruction_no workflow l.ops l.operands) (length l.ops - l.i) l.i;
    }
