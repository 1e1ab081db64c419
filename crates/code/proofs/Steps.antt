-- The side and the PUTs behind an instruction that is right.
use Rattle.std.proofs.Common.{◌≡◌, refl, Bool, true, false, not, List, ℕ, ◌+◌, ◌≤◌, eqb, eqb-true, ne_eqb, add-one, arith}
use Rattle.std.proofs.Math.Option.{none}
use Rattle.questions.specs.Basics.{if◌then◌otherwise◌}
use Rattle.questions.proofs.Tests.{no_yes}
use Rattle.operation.specs.Operations.{op_begin, op_end, op_put, side_of}
use Rattle.code.specs.Layout.{operation_at}
use Rattle.code.specs.Questions.{inside_at, puts_before, stands}
use Rattle.code.specs.Refusal.{instruction_no}
use Rattle.code.proofs.Judged.{stood, yes_6, yes_7, counted_put}

-- the operation that turns a side
abbrev pub turn : (inside : Bool) → ℕ
turn inside = if◌then◌otherwise◌ inside op_end op_begin

module _ (workflow : ℕ) (ops ws : List ℕ) (i : ℕ) (e : instruction_no workflow ops ws i ≡ none) where
  -- what does not turn its side is neither BEGIN nor END
  neither : (side : Bool) → inside_at ops i ≡ side → (operation_at ops i ≡ turn side → ⊥) →
      (operation_at ops i ≡ op_begin → ⊥) × (operation_at ops i ≡ op_end → ⊥)
  unfolding side_of stands
  neither true s n = (λ b. no_yes (stood ops ws i op_begin true b s (yes_6 workflow ops ws i e)), n)
  neither false s n = (n, λ b. no_yes (stood ops ws i op_end false b s (yes_6 workflow ops ws i e)))

  module _ (side : Bool) (s : inside_at ops i ≡ side) (n : operation_at ops i ≡ turn side → ⊥) where
    pub stays : inside_at ops (i + 1) ≡ side
    unfolding inside_at
    stays =
        let k = neither side s n in
        rw (add-one, ne_eqb (operation_at ops i) op_begin k.0, ne_eqb (operation_at ops i) op_end k.1) s

    pub puts_on : puts_before ops (i + 1) ≡ if◌then◌otherwise◌ (eqb (operation_at ops i) op_put) (puts_before ops i + 1) (puts_before ops i)
    unfolding puts_before
    puts_on =
        let k = neither side s n in
        rw (add-one i, ne_eqb (operation_at ops i) op_begin k.0, ne_eqb (operation_at ops i) op_end k.1, add-one (puts_before ops i)) refl

  -- inside a block, before its END
  module _ (s : inside_at ops i ≡ true) (n : operation_at ops i ≡ op_end → ⊥) where
    pub stays_inside : inside_at ops (i + 1) ≡ true
    stays_inside = stays true s n

    pub puts_next : puts_before ops (i + 1) ≡ if◌then◌otherwise◌ (eqb (operation_at ops i) op_put) (puts_before ops i + 1) (puts_before ops i)
    puts_next = puts_on true s n

  -- a block has no more than 16 PUTs
  pub puts_few : (puts : ℕ) → puts_before ops i ≡ puts → puts ≤ 16 →
      if◌then◌otherwise◌ (eqb (operation_at ops i) op_put) (puts + 1) puts ≤ 16
  puts_few puts p h = go (eqb (operation_at ops i) op_put) refl
    where
      go : (t : Bool) → eqb (operation_at ops i) op_put ≡ t → if◌then◌otherwise◌ t (puts + 1) puts ≤ 16
      go true q = omega (arith, p, counted_put ops i (eqb-true (operation_at ops i) op_put q) (yes_7 workflow ops ws i e))
      go false q = h

-- behind what turns a side
pub turns : (ops : List ℕ) (i : ℕ) (side : Bool) → operation_at ops i ≡ turn side →
    (inside_at ops (i + 1) ≡ not side) × (puts_before ops (i + 1) ≡ 0)
unfolding inside_at puts_before
turns ops i true e = (rw (add-one, e) refl, rw (add-one, e) refl)
turns ops i false e = (rw (add-one, e) refl, rw (add-one, e) refl)

pub begins : (ops : List ℕ) (i : ℕ) → operation_at ops i ≡ op_begin → inside_at ops (i + 1) ≡ true
begins ops i e = (turns ops i false e).0
