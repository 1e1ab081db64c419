-- From a workflow's no to a pack's and to an opening's.
use mathlib.Core.Path.{◌≡◌, refl, ◌∙◌}
use mathlib.Core.Bool.{Bool}
use mathlib.Core.List.{List, []}
use mathlib.Core.Option.{Option, none, some}
use Prim.Native.Nat.{ℕ, ◌+◌, ◌*◌, ◌<◌}
use native.Mathlib.Omega.{arith}
use borrow.Author.Tests.{ltb-true}
use lib.ListN.{take, drop}
use Rattle.std.specs.Prelude.{Ok, Err}
use Rattle.questions.specs.declared.Refusal.{Refusal}
use Rattle.questions.specs.Questions.{No, number, ask, first_no}
use Rattle.questions.specs.Verdicts.{Verdict, verdict_of}
use Rattle.questions.proofs.Questions.{ask_none, or_else_none}
use Rattle.questions.proofs.Chains.{or_yes, accepted, refused_first}
use Rattle.code.specs.Refusal.{code_no}
use Rattle.pack.specs.Layout.{count, size_of, first_of, total, operations_of, operands_of}
use Rattle.pack.specs.Laid.{Laid}
use Rattle.pack.specs.Questions.{question17}
use Rattle.pack.specs.Refusal.{workflow_no, layout_no, pack_refusal, open_refusal, opened}
use Rattle.pack.proofs.Sizes.{laid}

-- the parts in hand are the workflow's, `first` being the number of instructions before it
module _ (p : List ℕ) (w first size : ℕ) (e : first ≡ first_of p w) (s : size ≡ size_of p w) where
  pub operations_are : (a : ℕ) (xs : List ℕ) → a ≡ 1 + 2 * count p → xs ≡ take size (drop (a + first) p) → xs ≡ operations_of p w
  unfolding operations_of
  operations_are a xs f g = rw (f, e, s) at g

  pub operands_are : (a : ℕ) (xs : List ℕ) → a ≡ 1 + 2 * count p + total p → xs ≡ take (4 * size) (drop (a + 4 * first) p) →
      xs ≡ operands_of p w
  unfolding operands_of
  operands_are a xs f g = rw (f, e, s) at g

pub parts_of_lem : (p : List ℕ) (w : ℕ) (ops ws : List ℕ) → ops ≡ operations_of p w → ws ≡ operands_of p w → code_no w ops ws ≡ workflow_no p w
parts_of_lem p w ops ws e f = rw (e, f)

module _ (p : List ℕ) where
  pub pack_laid : pack_refusal p ≡ none → Laid p
  unfolding pack_refusal
  pack_laid e = laid p (or_else_none _ _ e).0

  pub layout_refused : (v : Verdict) (n : Refusal) → v ≡ verdict_of (layout_no p) → v ≡ Err n → v ≡ verdict_of (pack_refusal p)
  unfolding pack_refusal
  layout_refused v n e r = refused_first v _ _ n e r

  pub layout_fine : (v : Verdict) → v ≡ verdict_of (layout_no p) → v ≡ Ok tt → pack_refusal p ≡ first_no (workflow_no p) (count p) 0
  unfolding pack_refusal
  layout_fine v e a = or_yes _ _ (accepted v _ e a)

  module _ (w : ℕ) where
    pub pack_refused : (v : Verdict) (n : Refusal) → v ≡ verdict_of (pack_refusal p) → v ≡ Err n → v ≡ verdict_of (open_refusal p w)
    unfolding open_refusal
    pack_refused v n e r = refused_first v _ _ n e r

    pub pack_fine : (v : Verdict) (t : Bool) → v ≡ verdict_of (pack_refusal p) → v ≡ Ok tt → question17 p w ≡ t →
        open_refusal p w ≡ ask (number 17) t none
    unfolding open_refusal
    pack_fine v t e a f = or_yes _ _ (accepted v _ e a) ∙ rw f

    module _ (e : open_refusal p w ≡ none) where
      open_accepted : pack_refusal p ≡ none
      unfolding open_refusal
      open_accepted = (or_else_none _ _ e).0

      pub open_laid : Laid p
      open_laid = pack_laid open_accepted

      pub open_below : w < count p
      unfolding open_refusal
      open_below = ltb-true w (count p) (ask_none (number 17) (question17 p w) none (or_else_none (pack_refusal p) _ e).1).0

-- what an opening hands out
pub opened_part : (o : Option No) (part : List ℕ) → o ≡ none → opened o part ≡ part
unfolding opened
opened_part o part e = rw e

pub opened_none : (o : Option No) (part : List ℕ) (v : Verdict) (m : Refusal) → v ≡ verdict_of o → v ≡ Err m → opened o part ≡ []
unfolding opened
opened_none none part v m p r = let z : ◌≡◌ {A = ℕ} 0 1 = cc in absurd (omega arith)
opened_none (some n) part v m p r = refl
