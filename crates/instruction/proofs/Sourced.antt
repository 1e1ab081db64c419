-- The register s that an operand names, in a workflow that is right.
use mathlib.Core.Bool.{true}
use mathlib.Core.List.{List}
use mathlib.Core.Path.{◌≡◌, refl}
use Prim.Native.Nat.{ℕ, ◌%◌, ◌<◌}
use native.Mathlib.Omega.{arith}
use borrow.Author.Tests.{ltb-true, eqb-true}
use lib.Dec.{ltb}
use lib.ListN.{length}
use Rattle.questions.proofs.Tests.{and_left}
use Rattle.operation.specs.declared.Operand.TheVariants.{Jump}
use Rattle.operation.specs.Parts.{source_of, target_of}
use Rattle.operation.specs.Operations.{operand_of}
use Rattle.operation.specs.Operations as Operations
use Rattle.code.specs.Layout.{operation_at, word_at}
use Rattle.code.specs.Questions.{in_range}
use Rattle.code.specs.Questions as Questions
use Rattle.code.specs.Right.{Right}
use Rattle.code.proofs.Decoded.{by_operation, ◌also◌}
use Rattle.code.proofs.Right.{known_at, ranged_at}
use Rattle.instruction.specs.Step.{Sourced}

-- the register that an operand in range names
sourced : (op size i w : ℕ) → op < 12 → in_range (operand_of op) size i w ≡ true → Sourced op w
unfolding Operations.operand_of Questions.in_range
sourced op size i w h r =
    by_operation (λ (n : ℕ). in_range (operand_of n) size i w ≡ true → Sourced n w)
    ((λ e n. absurd (n refl))
    also below8
    also below8
    also below8
    also (λ e n. low e)
    also (λ e n. low e)
    also below8
    also (λ e n. let l = eqb-true w 0 e in omega arith)
    also below8
    also below8
    also below8
    also (λ e n. let l = eqb-true w 0 e in omega arith)
    also tt)
    op h r
  where
    below8 : {n : ℕ} → ltb w 8 ≡ true → (n ≡ 0 → ⊥) → w ≡ w % 8
    below8 e n = let l = ltb-true w 8 e in omega arith

    low : in_range Jump size i w ≡ true → source_of w ≡ w % 8
    low e =
        let l =
        ltb-true (source_of w) 8 (and_left (ltb (source_of w) 8) (ltb i (target_of w)) (and_left _ (ltb (target_of w) size) e)) in omega arith

pub sourced_at : (ops ws : List ℕ) → Right ops ws → (i : ℕ) → i < length ops → Sourced (operation_at ops i) (word_at ws i)
sourced_at ops ws right i h =
    sourced (operation_at ops i) (length ops) i (word_at ws i) (known_at ops ws right i h) (ranged_at ops ws right i h)
