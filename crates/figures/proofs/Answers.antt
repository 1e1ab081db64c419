-- From the figures of a workflow's bytes to the answer of the call.
use mathlib.Core.List.{List, []}
use mathlib.Core.Option.{none}
use mathlib.Core.Path.{◌≡◌, refl, sym, ap, ◌∙◌, subst}
use Prim.Native.Nat.{ℕ, ◌<◌}
use native.Mathlib.Omega.{arith}
use lib.ListN.{length, get_or}
use Rattle.std.specs.Prelude.{Ok, Err}
use Rattle.questions.specs.declared.Refusal.{Refusal}
use Rattle.questions.specs.Verdicts.{Verdict, verdict_of}
use Rattle.questions.proofs.Questions.{or_else_none}
use Rattle.questions.proofs.Updates.{none_some}
use Rattle.rules.specs.Instructions.{Code}
use Rattle.rules.specs.Routes.{by_turns, by_rows, MostOf, Figures}
use Rattle.code.specs.Meaning.{code_of}
use Rattle.pack.specs.Layout.{operations_of, operands_of}
use Rattle.pack.specs.Meaning.{pack_of}
use Rattle.pack.specs.Refusal.{pack_refusal, open_refusal}
use Rattle.pack.proofs.Laws.{accepted_laid, accepted_right, workflow_at}
use Rattle.pack.proofs.Sizes.{length_operations}
use Rattle.pack.proofs.Workflows.{open_below}
use Rattle.figures.specs.declared.Figured.{Figured}
use Rattle.figures.specs.Counted.{Sized}
use Rattle.figures.specs.Answered.{Answered}

module _ (pack : List ℕ) (w : ℕ) (e : open_refusal pack w ≡ none) where
  accepted : pack_refusal pack ≡ none
  unfolding open_refusal
  accepted = (or_else_none _ _ e).0

  -- the opened workflow's bytes
  pub opened_sized : (ops ws : List ℕ) → ops ≡ operations_of pack w → ws ≡ operands_of pack w → Sized ops ws
  opened_sized ops ws o p =
      let b = open_below pack w e in
      let z = (accepted_laid pack accepted).sizes w b in
      let l = length_operations pack (accepted_laid pack accepted) w b in
      subst (λ x. Sized x ws) (sym o)
      (subst (Sized (operations_of pack w)) (sym p)
      (record {
        right = accepted_right pack accepted w b;
        some_instruction = omega (arith, l, z.0);
        few = omega (arith, l, z.1);
      }))

  pub answered : (ops ws : List ℕ) → ops ≡ operations_of pack w → ws ≡ operands_of pack w → (r : Figured) → length r.rows ≡ 8 → MostOf by_turns (code_of ops ws) r.turns →
      ((p : ℕ) → p < 8 → MostOf (by_rows p) (code_of ops ws) (get_or r.rows p 0)) →
      Answered pack w (Ok r)
  answered ops ws o p r eight turns rows =
      record {
        verdict = ap verdict_of (sym e);
        eight = eight;
        figures =
            λ _.
            subst (λ (c : Code). Figures c r.turns (λ q. get_or r.rows q 0)) (sym is)
            (record { of_turns = turns; of_rows = rows });
        none_given = λ n f. none_some n e f;
      }
    where
      is : get_or (pack_of pack) w [] ≡ code_of ops ws
      is = workflow_at pack w (open_below pack w e) ∙ (λ i. code_of (sym o i) (sym p i))

-- a refusal: the first no, and no figures
pub refused : (pack : List ℕ) (w : ℕ) (v : Verdict) (m : Refusal) → v ≡ verdict_of (open_refusal pack w) → v ≡ Err m → Answered pack w (Err m)
refused pack w v m e r =
    record { verdict = sym r ∙ e; eight = refl; figures = λ f. absurd (clash f); none_given = λ n f. (refl, refl) }
  where
    clash : open_refusal pack w ≡ none → ⊥
    clash f = let g : verdict_of none ≡ Err m = sym (ap verdict_of f) ∙ sym e ∙ r in let z : ◌≡◌ {A = ℕ} 0 1 = cc in omega arith
