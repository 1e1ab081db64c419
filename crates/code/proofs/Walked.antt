-- From an instruction's no to a workflow's.
use Rattle.std.proofs.Common.{◌≡◌, ◌∙◌, Bool, List, ℕ, ◌-◌, length, Ok, Err}
use Rattle.std.proofs.Math.Option.{none}
use Rattle.questions.specs.declared.Refusal.{Refusal}
use Rattle.questions.specs.Questions.{no, ask, first_no}
use Rattle.questions.specs.Verdicts.{Verdict, verdict_of}
use Rattle.questions.proofs.Chains.{or_yes, accepted, refused_first}
use Rattle.code.specs.Questions.{question8}
use Rattle.code.specs.Refusal.{instruction_no, code_no}

-- the walk from the start, then 8
module _ (workflow : ℕ) (ops ws : List ℕ) (v : Verdict) (p : v ≡ verdict_of (first_no (instruction_no workflow ops ws) (length ops) 0)) where
  pub code_refused : (m : Refusal) → v ≡ Err m → v ≡ verdict_of (code_no workflow ops ws)
  unfolding code_no
  code_refused m r = refused_first v _ _ m p r

  pub code_walked : (t : Bool) → v ≡ Ok tt → question8 ops ≡ t →
      code_no workflow ops ws ≡ ask (no 8 workflow (length ops - 1)) t none
  unfolding code_no
  code_walked t a e = or_yes _ _ (accepted v _ p a) ∙ rw e
