-- Every no that questions 1 to 8 and 17 come to names a place of a pack: a workflow below 16, an instruction below 256.
use mathlib.Core.List.{List}
use Prim.Native.Nat.{ℕ, ◌<◌}
use native.Mathlib.Omega.{arith}
use Rattle.questions.specs.Questions.{number, Placed}
use Rattle.questions.proofs.Every.{Every, every_none, every_ask, every_or, every_first, no_place}
use Rattle.code.proofs.Placed.{code_placed}
use Rattle.pack.specs.Layout.{count, operations_of, operands_of}
use Rattle.pack.specs.Laid.{Laid}
use Rattle.pack.specs.Questions.{question1, question2, question3, question17}
use Rattle.pack.specs.Refusal.{workflow_no, layout_no, pack_refusal, open_refusal}
use Rattle.pack.proofs.Sizes.{laid, length_operations}

module _ (p : List ℕ) where
  layout_placed : Every Placed (layout_no p)
  unfolding layout_no
  layout_placed =
      every_ask Placed (number 1) (question1 p) _ (no_place 1 (omega arith))
      (every_ask Placed (number 2) (question2 p) _ (no_place 2 (omega arith))
      (every_ask Placed (number 3) (question3 p) _ (no_place 3 (omega arith)) (every_none Placed)))

  workflow_placed : Laid p → (w : ℕ) → w < count p → Every Placed (workflow_no p w)
  workflow_placed l w h n e =
      let size = length_operations p l w h in
      let placed = code_placed w (operations_of p w) (operands_of p w) (omega (arith, size, (l.sizes w h).0)) n e in
      (placed.0, omega (arith, placed.1, h, l.few), omega (arith, placed.2, size, (l.sizes w h).1))

  pub pack_placed : Every Placed (pack_refusal p)
  unfolding pack_refusal
  pack_placed =
      every_or Placed (layout_no p) _ layout_placed
      (λ e. every_first Placed (workflow_no p) (count p) 0 (λ w l h. workflow_placed (laid p e) w (omega arith)))

  pub open_placed : (w : ℕ) → Every Placed (open_refusal p w)
  unfolding open_refusal
  open_placed w =
      every_or Placed (pack_refusal p) _ pack_placed
      (λ e. every_ask Placed (number 17) (question17 p w) _ (no_place 17 (omega arith)) (every_none Placed))
