-- A workflow's bytes to which the questions say yes: what stands between the pack check and those who run the workflow.
use Rattle.std.specs.Prelude.{List, ◌≡◌, ℕ, ◌*◌, length}
use Rattle.std.proofs.Math.Option.{none}
use Rattle.code.specs.Refusal.{code_no}

-- operation bytes and operand bytes of a workflow to which questions 4 to 8 say yes
pub record Right (ops ws : List ℕ) : Type 0 where
  pub sized : length ws ≡ 4 * length ops
  pub workflow : ℕ
  pub yes : code_no workflow ops ws ≡ none
