-- An instruction of a workflow that is right and stands inside a block: what the questions say of it.
use mathlib.Core.Bool.{Bool, true, false}
use mathlib.Core.List.{List}
use mathlib.Core.Path.{◌≡◌, refl, sym, ap, ◌∙◌, subst}
use Prim.Native.Nat.{ℕ, zero, suc, ◌+◌, ◌-◌, ◌≤◌, ◌<◌}
use native.Mathlib.Nat.{add-zero}
use native.Mathlib.Numerals.{add-one}
use native.Mathlib.Omega.{arith}
use borrow.Author.Tests.{eqb-false, not-true}
use lib.Dec.{eqb}
use lib.ListN.{length, get_or}
use Rattle.questions.specs.Basics.{if◌then◌otherwise◌}
use Rattle.questions.proofs.Each.{each_at}
use Rattle.operation.specs.declared.Operand.TheVariants.{Jump}
use Rattle.operation.specs.Parts.{target_of}
use Rattle.operation.specs.Operations.{op_end, op_put, operand_of}
use Rattle.code.specs.Layout.{operation_at, word_at}
use Rattle.code.specs.Questions.{inside_at, puts_before, is_no_end}
use Rattle.code.specs.Questions as Questions
use Rattle.code.proofs.Judged.{yes_7, lands_right, counted_put}
use Rattle.code.proofs.Steps.{stays_inside, puts_next}
use Rattle.code.proofs.Right.{yes_at, known_at, yes_6_at, no_begin, no_return}
use Rattle.instruction.specs.Step.{puts_of, Fits}
use Rattle.instruction.proofs.Sourced.{sourced_at}
use Rattle.code.specs.Right.{Right}
use Rattle.block.specs.Run.{Inside}
use Rattle.instruction.specs.declared.Running.{Running}

module _ (ops ws : List ℕ) (right : Right ops ws) where
  module _ (i : ℕ) (h : i < length ops) (s : inside_at ops i ≡ true) where
    put_room : operation_at ops i ≡ op_put → puts_before ops i < 16
    put_room e = counted_put ops i e (yes_7 right.workflow ops ws i (yes_at ops ws right i h))

    module _ (n : operation_at ops i ≡ op_end → ⊥) where
      pub inside_next : inside_at ops (suc i) ≡ true
      inside_next = subst (λ (j : ℕ). inside_at ops j ≡ true) (add-one i)
          (stays_inside right.workflow ops ws i (yes_at ops ws right i h) s n)

      pub puts_behind : puts_before ops (suc i) ≡ puts_before ops i + puts_of (operation_at ops i)
      puts_behind =
          ap (puts_before ops) (sym (add-one i))
          ∙ puts_next right.workflow ops ws i (yes_at ops ws right i h) s n
          ∙ go (eqb (operation_at ops i) op_put)
        where
          go : (t : Bool) → if◌then◌otherwise◌ t (puts_before ops i + 1) (puts_before ops i) ≡ puts_before ops i + if◌then◌otherwise◌ t 1 0
          go true = refl
          go false = sym (add-zero (puts_before ops i))

  -- a stretch with no END stays inside, and has no fewer PUTs behind it
  pub stretch : (n j : ℕ) → j + n ≤ length ops → inside_at ops j ≡ true → ((k : ℕ) → j ≤ k → k < j + n → is_no_end ops k ≡ true) →
      (inside_at ops (j + n) ≡ true) × (puts_before ops j ≤ puts_before ops (j + n))
  unfolding Questions.is_no_end
  stretch zero j h s e = rw (add-zero j) (s, omega arith)
  stretch (suc n) j h s e =
      let m = eqb-false (operation_at ops j) op_end (not-true (eqb (operation_at ops j) op_end) (e j (omega arith) (omega arith))) in
      let r = stretch n (suc j) (omega arith) (inside_next j (omega arith) s m) (λ k l l'. e k (omega arith) (omega arith)) in
      let q : suc j + n ≡ j + suc n = omega arith in (
        subst (λ (k : ℕ). inside_at ops k ≡ true) q r.0,
        subst (λ (k : ℕ). puts_before ops j ≤ puts_before ops k) q (omega (arith, r.1, puts_behind j (omega arith) s m)),
      )

  -- a jump from inside a block passes no END
  pub jump_no_end : (i : ℕ) → i < length ops → inside_at ops i ≡ true → operand_of (operation_at ops i) ≡ Jump →
      (k : ℕ) → suc i ≤ k → k < target_of (word_at ws i) → is_no_end ops k ≡ true
  unfolding Questions.lands Questions.lands_from
  jump_no_end i h s j k l l' =
      let q = rw (j, s) at (lands_right ops ws i (yes_6_at ops ws right i h)) in
      each_at (is_no_end ops) (target_of (word_at ws i) - (i + 1)) (i + 1) q k (omega arith) (omega arith)

  -- what the code's step asks for
  pub fits_here : (x : Running) (w : ℕ) → x.place.position < length ops → Inside ops x →
      (operation_at ops x.place.position ≡ op_end → ⊥) → w ≡ word_at ws x.place.position → Fits (get_or ops x.place.position 0) w x
  fits_here x w h on n e =
      record {
        known = omega (arith, known_at ops ws right x.place.position h, no_return ops ws right x.place.position h on.inside);
        no_begin = no_begin ops ws right x.place.position h on.inside;
        no_end = n;
        sourced = rw e (sourced_at ops ws right x.place.position h);
        room = λ q. omega (arith, on.few, put_room x.place.position h on.inside q);
      }
