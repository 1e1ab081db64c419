-- W-202: what the call `figures` answers.
use Rattle.std.specs.Prelude.{List, [], ◌≡◌, ℕ, length, get_or, replicate, Result, Ok, Err}
use Rattle.std.proofs.Math.Option.{none, some}
use Rattle.questions.specs.declared.Refusal.{Refusal}
use Rattle.questions.specs.Questions.{No}
use Rattle.questions.specs.Verdicts.{Verdict, verdict_of}
use Rattle.rules.specs.Routes.{Figures}
use Rattle.pack.specs.Meaning.{pack_of}
use Rattle.pack.specs.Refusal.{open_refusal}
use Rattle.figures.specs.declared.Figured.{Figured}

-- the verdict of an answer, and the figures to be shown: on a refusal none, zeros
abbrev pub verdict_in : Result Figured Refusal → Verdict
verdict_in (Ok f) = Ok tt
verdict_in (Err refusal) = Err refusal

abbrev pub shown : Result Figured Refusal → Figured
shown (Ok f) = f
shown (Err refusal) = record { turns = 0; rows = replicate 8 0 }

-- The call puts 1 to 8 and 17. All yes: the figures of that workflow, its turns and its rows in partition 0 to 7. Otherwise the first no,
-- and no figures: zeros are shown.
pub record Answered (pack : List ℕ) (workflow : ℕ) (r : Result Figured Refusal) : Type 0 where
  pub verdict : verdict_in r ≡ verdict_of (open_refusal pack workflow)
  pub eight : length (shown r).rows ≡ 8
  pub figures : open_refusal pack workflow ≡ none →
      Figures (get_or (pack_of pack) workflow []) (shown r).turns (λ partition. get_or (shown r).rows partition 0)
  pub none_given : (n : No) → open_refusal pack workflow ≡ some n → ((shown r).turns ≡ 0) × ((shown r).rows ≡ replicate 8 0)
