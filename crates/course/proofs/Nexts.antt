-- What an agent does next, by the byte and the operand of its instruction.
use mathlib.Core.List.{List}
use mathlib.Core.Path.{◌≡◌, refl, sym, ap, ◌∙◌, subst}
use Prim.Native.Nat.{ℕ, ◌<◌}
use lib.ListN.{get_or}
use Rattle.rules.specs.Instructions.{Instruction, Act, moves, opens, returns, act}
use Rattle.rules.specs.Instructions as Instructions
use Rattle.rules.specs.Blocks.{yields}
use Rattle.rules.specs.Courses.{going, passed, goes, does, says, next_by, next_of}
use Rattle.rules.specs.Courses as Courses
use Rattle.operation.specs.Operations.{op_begin, op_return}
use Rattle.code.specs.Layout.{operation_at, register_at, word_at}
use Rattle.code.specs.Meaning.{decode, code_of}
use Rattle.code.specs.Meaning as Meaning
use Rattle.code.proofs.Decoded.{instruction_at_lem}
use Rattle.code.proofs.Right.{on_registers}
use Rattle.instruction.specs.declared.Spot.{Spot}
use Rattle.instruction.specs.Step.{place_of, Sourced}
use Rattle.instruction.proofs.Sourced.{sourced_at}
use Rattle.course.specs.Next.{StandsOutside}

-- `from` is where the agent stands, op and d are the operation and the register of its instruction
module _ (ops ws : List ℕ) (from : Spot) (on : StandsOutside ops ws from) (op d : ℕ) (eo : op ≡ operation_at ops from.position)
    (ed : d ≡ register_at ops from.position) where
  -- what its instruction asks for
  asks : (w : ℕ) → w ≡ word_at ws from.position → (y : Act) → act (decode op d w) (place_of from) ≡ y →
      next_by (code_of ops ws) (place_of from) y ≡ next_of (code_of ops ws) (going (place_of from))
  unfolding Courses.next_of Instructions.act_at
  asks w ew y e =
      sym
      (ap (λ (i : Instruction). next_by (code_of ops ws) (place_of from) (act i (place_of from)))
      (instruction_at_lem ops ws from.position on.in_code ∙ λ i. decode (sym eo i) (sym ed i) (sym ew i))
      ∙ ap (next_by (code_of ops ws) (place_of from)) e)

  pub replies : op ≡ op_return → says (yields (get_or from.registers d 0)) ≡ next_of (code_of ops ws) (going (place_of from))
  unfolding Courses.next_by Meaning.decode Instructions.act
  replies e =
      asks (word_at ws from.position) refl (returns (get_or from.registers d 0))
      (ap (λ (n : ℕ). act (decode n d (word_at ws from.position)) (place_of from)) e)

  module _ (w : ℕ) (ew : w ≡ word_at ws from.position) where
    pub opens_block : op ≡ op_begin →
        does (place_of from) w (passed (code_of ops ws) (place_of from)) ≡ next_of (code_of ops ws) (going (place_of from))
    unfolding Courses.next_by Meaning.decode Instructions.act
    opens_block e = asks w ew (opens w) (ap (λ (n : ℕ). act (decode n d w) (place_of from)) e)

    -- what is neither works on registers alone
    pub may_move : (op ≡ op_return → ⊥) → (op ≡ op_begin → ⊥) → (op < 6) × Sourced op w
    may_move r b = (
      subst (λ (n : ℕ). n < 6) (sym eo)
          (on_registers ops ws on.right from.position on.in_code on.outside (λ e. r (eo ∙ e)) (λ e. b (eo ∙ e))),
      subst (λ (n : ℕ). Sourced n w) (sym eo)
          (subst (Sourced (operation_at ops from.position)) (sym ew) (sourced_at ops ws on.right from.position on.in_code)),
    )

    pub moves_on : (to : Spot) → moves (place_of to) ≡ act (decode op d w) (place_of from) →
        goes (going (place_of to)) ≡ next_of (code_of ops ws) (going (place_of from))
    unfolding Courses.next_by
    moves_on to e = asks w ew (moves (place_of to)) (sym e)
