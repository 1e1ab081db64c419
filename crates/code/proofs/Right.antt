-- An instruction of a workflow that is right: what the questions say of it, on either side of a block.
use mathlib.Core.Bool.{Bool, true, false}
use mathlib.Core.List.{List}
use mathlib.Core.Option.{none, some}
use mathlib.Core.Path.{◌≡◌, refl, sym, ◌∙◌}
use Prim.Native.Nat.{ℕ, ◌<◌}
use native.Mathlib.Omega.{arith}
use lib.ListN.{length}
use Rattle.rules.specs.Shapes.{outside, shape}
use Rattle.rules.specs.Checked.{side_at, Checked}
use Rattle.questions.proofs.Tests.{no_yes}
use Rattle.rules.proofs.Positions.{two_sides}
use Rattle.operation.specs.declared.Side as Declared
use Rattle.operation.specs.declared.Side.TheVariants.{Anywhere, Inside, Outside}
use Rattle.operation.specs.Operations.{op_begin, op_end, op_get, op_put, op_has, op_return, operand_of}
use Rattle.operation.specs.Operations as Operations
use Rattle.code.specs.Layout.{operation_at, word_at}
use Rattle.code.specs.Questions.{inside_at, in_range, stands, question6}
use Rattle.code.specs.Refusal.{instruction_no}
use Rattle.code.specs.Meaning.{decode, code_of}
use Rattle.code.specs.Right.{Right}
use Rattle.code.proofs.Judged.{yes_5, yes_6, operand_ranged, stood}
use Rattle.code.proofs.Decoded.{side_for, own_side, decoded_shape, side_known, right_at_lem, operation_known, checked_code}

module _ (ops ws : List ℕ) (right : Right ops ws) where
  pub yes_at : (i : ℕ) → i < length ops → instruction_no right.workflow ops ws i ≡ none
  yes_at i h = right_at_lem right.workflow ops ws right.yes i h

  pub known_at : (i : ℕ) → i < length ops → operation_at ops i < 12
  known_at i h = operation_known right.workflow ops ws right.yes i h

  pub ranged_at : (i : ℕ) → i < length ops → in_range (operand_of (operation_at ops i)) (length ops) i (word_at ws i) ≡ true
  ranged_at i h = operand_ranged ops ws i (yes_5 right.workflow ops ws i (yes_at i h))

  pub yes_6_at : (i : ℕ) → i < length ops → question6 ops ws i ≡ true
  yes_6_at i h = yes_6 right.workflow ops ws i (yes_at i h)

  -- in the sense of the rules
  pub right_checked : 0 < length ops → Checked (code_of ops ws)
  right_checked h = checked_code right.workflow ops ws right.yes h

  -- outside in the sense of the rules
  pub outside_at : (i : ℕ) → i < length ops → side_at (code_of ops ws) i ≡ outside → inside_at ops i ≡ false
  outside_at i h e = go (inside_at ops i) (sym (side_known ops ws known_at i (omega arith)) ∙ e)
    where
      go : (b : Bool) → side_for b ≡ outside → b ≡ false
      go false f = refl
      go true f = two_sides refl f

  -- inside a block
  module _ (i : ℕ) (h : i < length ops) (s : inside_at ops i ≡ true) where
    pub no_begin : operation_at ops i ≡ op_begin → ⊥
    unfolding Operations.side_of stands
    no_begin e = no_yes (stood ops ws i op_begin true e s (yes_6_at i h))

    pub no_return : operation_at ops i ≡ op_return → ⊥
    unfolding Operations.side_of stands
    no_return e = no_yes (stood ops ws i op_return true e s (yes_6_at i h))

    -- no instruction of the rules that stands outside
    pub not_outside : (d w : ℕ) → (shape (decode (operation_at ops i) d w)).stands ≡ some outside → ⊥
    unfolding stands
    not_outside d w e =
        go (Operations.side_of (operation_at ops i)) (stood ops ws i (operation_at ops i) true refl s (yes_6_at i h))
        (sym (decoded_shape d w (operation_at ops i) (known_at i h)).0 ∙ e)
      where
        go : (side : Declared.Side) → stands side true ≡ true → own_side side ≡ some outside → ⊥
        go Anywhere t f = let z : ◌≡◌ {A = ℕ} 0 1 = cc in omega arith
        go Inside t f = let z : ◌≡◌ {A = ℕ} 0 1 = cc in omega arith
        go Outside t f = no_yes t

  -- outside
  module _ (i : ℕ) (h : i < length ops) (s : inside_at ops i ≡ false) where
    not_there : (op : ℕ) → stands (Operations.side_of op) false ≡ false → operation_at ops i ≡ op → ⊥
    not_there op n e = no_yes (sym n ∙ stood ops ws i op false e s (yes_6_at i h))

    -- what is neither RETURN nor BEGIN works on registers alone
    pub on_registers : (operation_at ops i ≡ op_return → ⊥) → (operation_at ops i ≡ op_begin → ⊥) → operation_at ops i < 6
    unfolding Operations.side_of stands
    on_registers r b =
        let k = known_at i h in
        let below_return : operation_at ops i < 11 = omega arith in
        let below_has : operation_at ops i < 10 = omega (arith, not_there op_has refl) in
        let below_put : operation_at ops i < 9 = omega (arith, not_there op_put refl) in
        let below_get : operation_at ops i < 8 = omega (arith, not_there op_get refl) in
        let below_end : operation_at ops i < 7 = omega (arith, not_there op_end refl) in
        omega arith
