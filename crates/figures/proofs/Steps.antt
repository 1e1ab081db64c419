-- The most from an instruction on, by its byte and its operand, of the most from those behind it.
use mathlib.Core.Bool.{Bool, true, false}
use mathlib.Core.List.{List}
use mathlib.Core.Option.{none, some}
use mathlib.Core.Path.{◌≡◌, refl, sym, ap, ◌∙◌, subst}
use Prim.Native.Nat.{ℕ, suc, ◌+◌, ◌≤◌, ◌<◌, max}
use native.Mathlib.Numerals.{add-one}
use native.Mathlib.Omega.{arith}
use borrow.Author.Tests.{ltb-true, ltb-false}
use lib.Dec.{eqb, ltb}
use lib.ListN.{length, get_or}
use Rattle.questions.specs.Basics.{if◌then◌otherwise◌}
use Rattle.questions.proofs.Updates.{false_true}
use Rattle.rules.specs.Instructions.{Code, Instruction, BEGIN, END, RETURN, instruction_at}
use Rattle.rules.specs.Shapes.{Shape, shape, GoesOn}
use Rattle.rules.specs.Blocks.{behind_end}
use Rattle.rules.specs.Checked.{side_at, Checked}
use Rattle.rules.specs.Routes.{puts_of}
use Rattle.rules.proofs.Positions.{same_side, begins_inside, block_closed}
use Rattle.rules.proofs.Routes.{larger, Rising, turns_rise, rows_rise, Small, turns_small, rows_small, own, Landing, jump_lands}
use Rattle.rules.proofs.Routes.{best_return, best_end, best_next, best_jump, best_begin, best_within}
use Rattle.operation.specs.declared.Operand.{Operand}
use Rattle.operation.specs.declared.Operand.TheVariants.{Any, Below8, Jump, Zero}
use Rattle.operation.specs.Parts.{target_of}
use Rattle.operation.specs.Operations.{op_begin, op_end, op_put, op_return, operand_of}
use Rattle.code.specs.Layout.{operation_at, register_at, word_at}
use Rattle.code.specs.Meaning.{decode, code_of}
use Rattle.code.proofs.Decoded.{by_operation, ◌also◌, side_for, target_by, decoded_shape, length_code, instruction_at_lem, side_known}
use Rattle.code.proofs.Right.{known_at, right_checked}
use Rattle.figures.specs.declared.Counted.{Counted}
use Rattle.figures.specs.declared.Counted.TheVariants.{Turns, Rows}
use Rattle.figures.specs.Counted.{counting_of, is_jump, MostAt, Filled, Reached}

-- the larger of two numbers, as std has it
pub max_larger : (a b : ℕ) → max a b ≡ larger a b
max_larger a b = go (ltb a b) refl
  where
    go : (t : Bool) → ltb a b ≡ t → max a b ≡ if◌then◌otherwise◌ t b a
    go true e = omega (arith, ltb-true a b e)
    go false e = omega (arith, ltb-false a b e)

-- ── What an operation stands for ──

on : {s : Shape} → s.behind ≡ none → s.leads_on ≡ true → GoesOn s
on same leads = record { same_side = same; leads_on = leads }

module _ (d w : ℕ) where
  abbrev Leads : (operation : ℕ) → Type 0
  Leads op = (op ≡ op_begin → ⊥) → (op ≡ op_end → ⊥) → (op ≡ op_return → ⊥) → GoesOn (shape (decode op d w))

  leads_on : (op : ℕ) → op < 12 → Leads op
  unfolding decode
  leads_on =
      by_operation Leads
      ((λ b e r. on refl refl)
      also (λ b e r. on refl refl)
      also (λ b e r. on refl refl)
      also (λ b e r. on refl refl)
      also (λ b e r. on refl refl)
      also (λ b e r. on refl refl)
      also (λ b e r. absurd (b refl))
      also (λ b e r. absurd (e refl))
      also (λ b e r. on refl refl)
      also (λ b e r. on refl refl)
      also (λ b e r. on refl refl)
      also (λ b e r. absurd (r refl))
      also tt)

  abbrev OnePut : (operation : ℕ) → Type 0
  OnePut op = puts_of (decode op d w) ≡ if◌then◌otherwise◌ (eqb op op_put) 1 0

  one_put : (op : ℕ) → op < 12 → OnePut op
  unfolding decode
  one_put =
      by_operation OnePut
      (refl also refl also refl also refl also refl also refl also refl also refl also refl also refl also refl also refl also tt)

-- a jump has a target, and nothing else has one
no_target : (o : Operand) (w : ℕ) → is_jump o ≡ false → target_by o w ≡ none
no_target Any w e = refl
no_target Below8 w e = refl
no_target Jump w e = false_true e refl
no_target Zero w e = refl

its_target : (o : Operand) (w : ℕ) → is_jump o ≡ true → target_by o w ≡ some (target_of w)
its_target Any w e = false_true refl e
its_target Below8 w e = false_true refl e
its_target Jump w e = refl
its_target Zero w e = false_true refl e

-- ── What is counted ──

rises : (by : Counted) → Rising (counting_of by)
rises Turns = turns_rise
rises (Rows p) = rows_rise p

small : (by : Counted) → Small (counting_of by)
small Turns = turns_small
small (Rows p) = rows_small p

-- ── The instruction where the loop stands ──

module _ (ops ws : List ℕ) (i : ℕ) (side : Bool) (behind : ℕ) (at : Reached ops ws i side behind) where
  abbrev code : Code
  code = code_of ops ws

  abbrev x : Instruction
  x = instruction_at code i

  abbrev op : ℕ
  op = operation_at ops i

  abbrev w : ℕ
  w = word_at ws i

  checked : Checked code
  checked = right_checked ops ws at.sized.right at.sized.some_instruction

  below : i < length code
  below = omega (arith, length_code ops ws, at.in_code)

  read : x ≡ decode op (register_at ops i) w
  read = instruction_at_lem ops ws i at.in_code

  known : op < 12
  known = known_at ops ws at.sized.right i at.in_code

  is_end_lem : op ≡ op_end → x ≡ END (register_at ops i)
  unfolding decode
  is_end_lem e = read ∙ ap (λ n. decode n (register_at ops i) w) e

  is_return : op ≡ op_return → x ≡ RETURN (register_at ops i)
  unfolding decode
  is_return e = read ∙ ap (λ n. decode n (register_at ops i) w) e

  is_begin : op ≡ op_begin → x ≡ BEGIN w
  unfolding decode
  is_begin e = read ∙ ap (λ n. decode n (register_at ops i) w) e

  module _ (by : Counted) where
    -- the most is at most the number of instructions ahead
    pub most_few : (n : ℕ) → MostAt by ops ws i n → i + n ≤ 256
    most_few n m = omega (arith, best_within code checked (counting_of by) (small by) i n below m, length_code ops ws, at.sized.few)

    pub end_most : op ≡ op_end → MostAt by ops ws i 0
    end_most e = best_end code checked (counting_of by) i (register_at ops i) below (is_end_lem e)

    pub return_most : op ≡ op_return → MostAt by ops ws i (counting_of by).one
    return_most e = best_return code checked (counting_of by) i (register_at ops i) below (is_return e)

    module _ (most : List ℕ) (filled : Filled by ops ws (i + 1) most) where
      -- what the table has of an instruction behind this one
      ahead : (j : ℕ) → i < j → j < length code → MostAt by ops ws j (get_or most j 0)
      ahead j l b = filled.each j (omega arith) (omega (arith, length_code ops ws))

      -- and of the next
      next_there : suc i < length code → MostAt by ops ws (suc i) (get_or most (i + 1) 0)
      next_there l =
          subst (λ n. MostAt by ops ws n (get_or most (i + 1) 0)) (add-one i) (ahead (i + 1) (omega arith) (omega (arith, l)))

      -- ── BEGIN ──

      module _ (e : op ≡ op_begin) where
        pub begin_next : i + 1 < length ops
        begin_next = omega (arith, (begins_inside code checked i w below (is_begin e)).0, length_code ops ws)

        pub begin_few : get_or most (i + 1) 0 ≤ 256
        begin_few =
            let n = (begins_inside code checked i w below (is_begin e)).0 in
            omega (
              arith,
              best_within code checked (counting_of by) (small by) (suc i) _ n (next_there n),
              length_code ops ws,
              at.sized.few,
            )

        pub behind_in : behind < length ops
        behind_in = omega (arith, at.end, (block_closed code checked i w below (is_begin e)).0, length_code ops ws)

        pub begin_most : MostAt by ops ws i ((counting_of by).block w (get_or most (i + 1) 0) + get_or most behind 0)
        begin_most =
            let b = block_closed code checked i w below (is_begin e) in
            subst (λ k. MostAt by ops ws i ((counting_of by).block w (get_or most (i + 1) 0) + get_or most k 0)) (sym at.end)
            (best_begin code checked (counting_of by) (rises by) i w _ _ below (is_begin e)
            (next_there (begins_inside code checked i w below (is_begin e)).0)
            (ahead (behind_end code i) (omega arith) b.0))

      -- ── what leads on ──

      module _ (b : op ≡ op_begin → ⊥) (e : op ≡ op_end → ⊥) (r : op ≡ op_return → ⊥) where
        goes_on : GoesOn (shape x)
        goes_on = subst (λ y. GoesOn (shape y)) (sym read) (leads_on (register_at ops i) w op known b e r)

        next_ahead : suc i < length code
        next_ahead = (same_side code checked i below goes_on).0

        pub next_in_lem : i + 1 < length ops
        next_in_lem = omega (arith, next_ahead, length_code ops ws)

        target_is : (shape x).target ≡ target_by (operand_of op) w
        target_is = ap (λ y. (shape y).target) read ∙ (decoded_shape (register_at ops i) w op known).2

        -- what it counts itself
        own_is : own (counting_of by) (side_at code i) x ≡ if◌then◌otherwise◌ side (if◌then◌otherwise◌ (eqb op op_put) 1 0) (counting_of by).one
        own_is =
            ap (λ s. own (counting_of by) s x) (side_known ops ws (known_at ops ws at.sized.right) i (omega (arith, at.in_code))
            ∙ ap side_for (sym at.side))
            ∙ go side
          where
            go : (s : Bool) → own (counting_of by) (side_for s) x ≡ if◌then◌otherwise◌ s (if◌then◌otherwise◌ (eqb op op_put) 1 0) (counting_of by).one
            go true = ap puts_of read ∙ one_put (register_at ops i) w op known
            go false = refl

        pub next_most : (own_count : ℕ) → own_count ≡ if◌then◌otherwise◌ side (if◌then◌otherwise◌ (eqb op op_put) 1 0) (counting_of by).one →
            is_jump (operand_of op) ≡ false → MostAt by ops ws i (own_count + get_or most (i + 1) 0)
        next_most c f n =
            subst (λ k. MostAt by ops ws i (k + get_or most (i + 1) 0)) (own_is ∙ sym f)
            (best_next code checked (counting_of by) i _ below goes_on (target_is ∙ no_target (operand_of op) w n) (next_there next_ahead))

        module _ (jump : is_jump (operand_of op) ≡ true) where
          lands : Landing code checked i (target_of w)
          lands = jump_lands code checked i (target_of w) below goes_on (target_is ∙ its_target (operand_of op) w jump)

          pub target_in : target_of w < length ops
          target_in = omega (arith, lands.in_code, length_code ops ws)

          pub jump_most : (own_count : ℕ) → own_count ≡ if◌then◌otherwise◌ side (if◌then◌otherwise◌ (eqb op op_put) 1 0) (counting_of by).one →
              MostAt by ops ws i (own_count + larger (get_or most (i + 1) 0) (get_or most (target_of w) 0))
          jump_most c f =
              subst (λ k. MostAt by ops ws i (k + larger (get_or most (i + 1) 0) (get_or most (target_of w) 0))) (own_is ∙ sym f)
              (best_jump code checked (counting_of by) i _ (target_of w) _ below goes_on (target_is ∙ its_target (operand_of op) w jump)
              (next_there next_ahead) (ahead (target_of w) lands.further lands.in_code))
