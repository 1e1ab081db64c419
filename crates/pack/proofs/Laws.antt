-- Laws for callers: what an accepted pack is, and how its instructions are read from its bytes.
use mathlib.Core.Path.{◌≡◌, refl, sym, ◌∙◌, ap, ap₂, subst}
use mathlib.Core.List.{List, []}
use mathlib.Core.Option.{none}
use Prim.Native.Nat.{ℕ, zero, suc, ◌+◌, ◌*◌, ◌≤◌, ◌<◌}
use native.Mathlib.Nat.{zero-add}
use native.Mathlib.Omega.{arith}
use lib.ListN.{length, get_or, take, drop}
use lib.Seq.{get_or-take, get_or-drop}
use Rattle.words.specs.Words.{le}
use Rattle.rules.specs.Instructions.{instruction_at}
use Rattle.rules.specs.Checked.{CheckedPack, Checked}
use Rattle.questions.proofs.Questions.{or_else_none}
use Rattle.questions.proofs.Chains.{each_yes}
use Rattle.code.specs.Layout.{word_at}
use Rattle.code.specs.Right.{Right}
use Rattle.code.specs.Meaning.{instruction_of, code_of}
use Rattle.code.proofs.Decoded.{length_list_of, get_or_list_of, length_code, instruction_at_lem, checked_code}
use Rattle.pack.specs.Layout.{count, size_of, operations_at, operands_at, operation_byte, operand_word, operations_of, operands_of}
use Rattle.pack.specs.Laid.{Laid}
use Rattle.pack.specs.Refusal.{workflow_no, pack_refusal}
use Rattle.pack.specs.Meaning.{pack_of}
use Rattle.pack.proofs.Sizes.{length_operations, length_operands}
use Rattle.pack.proofs.Workflows.{pack_laid}

-- a number in a part of a list
le_part : (n k a : ℕ) (xs : List ℕ) (at : ℕ) → at + n ≤ k → le n (take k (drop a xs)) at ≡ le n xs (a + at)
unfolding le
le_part zero k a xs at h = refl
le_part (suc n) k a xs at h =
    let e : a + at + 1 ≡ a + (at + 1) = omega arith in
    let b : get_or (take k (drop a xs)) at 0 ≡ get_or xs (a + at) 0 = rw (get_or-take k (drop a xs) at 0 (omega arith), get_or-drop) in
    rw (b, le_part n k a xs (at + 1) (omega arith), e)

module _ (p : List ℕ) where
  pub length_pack : length (pack_of p) ≡ count p
  unfolding pack_of
  length_pack = length_list_of (λ w. code_of (operations_of p w) (operands_of p w)) (count p) 0

  pub workflow_at : (w : ℕ) → w < count p → get_or (pack_of p) w [] ≡ code_of (operations_of p w) (operands_of p w)
  unfolding pack_of
  workflow_at w h = get_or_list_of (λ w. code_of (operations_of p w) (operands_of p w)) (count p) w [] h

  -- a byte and a word of the parts, from the pack
  byte_at : (w i : ℕ) → i < size_of p w → get_or (operations_of p w) i 0 ≡ operation_byte p w i
  unfolding operations_of operation_byte
  byte_at w i h = rw (get_or-take (size_of p w) (drop (operations_at p w) p) i 0 h, get_or-drop)

  word_at_lem : (w i : ℕ) → i < size_of p w → word_at (operands_of p w) i ≡ operand_word p w i
  unfolding operands_of operand_word
  word_at_lem w i h =
      le_part 4 (4 * size_of p w) (operands_at p w) p (4 * i) (omega arith)

  module _ (e : pack_refusal p ≡ none) where
    pub accepted_laid : Laid p
    accepted_laid = pack_laid p e

    pub accepted_workflow : (w : ℕ) → w < count p → workflow_no p w ≡ none
    unfolding pack_refusal
    accepted_workflow w h = rw zero-add at (each_yes (workflow_no p) (count p) 0 w (or_else_none _ _ e).1 h)

    module _ (w : ℕ) (h : w < count p) where
      operations_sized : length (operations_of p w) ≡ size_of p w
      operations_sized = length_operations p accepted_laid w h

      -- its bytes are right
      pub accepted_right : Right (operations_of p w) (operands_of p w)
      accepted_right =
          record {
            sized = length_operands p accepted_laid w h ∙ ap (λ (n : ℕ). 4 * n) (sym (length_operations p accepted_laid w h));
            workflow = w;
            yes = accepted_workflow w h;
          }

      pub length_workflow : length (get_or (pack_of p) w []) ≡ size_of p w
      length_workflow = ap length (workflow_at w h) ∙ length_code (operations_of p w) (operands_of p w) ∙ operations_sized

      pub instruction_in : (i : ℕ) → i < size_of p w →
          instruction_at (get_or (pack_of p) w []) i ≡ instruction_of (operation_byte p w i) (operand_word p w i)
      instruction_in i l =
          ap (λ c. instruction_at c i) (workflow_at w h)
          ∙ instruction_at_lem (operations_of p w) (operands_of p w) i (omega (arith, operations_sized))
          ∙ ap₂ instruction_of (byte_at w i l) (word_at_lem w i l)

    -- the hypothesis of demand 3
    pub accepted_checked : CheckedPack (pack_of p)
    accepted_checked w l =
        let h : w < count p = omega (arith, length_pack) in
        subst Checked (sym (workflow_at w h))
        (checked_code w (operations_of p w) (operands_of p w) (accepted_workflow w h)
        (omega (arith, length_operations p accepted_laid w h, (accepted_laid.sizes w h).0)))
