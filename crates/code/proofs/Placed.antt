-- Every no that questions 4 to 8 come to names the workflow that they were put to, and an instruction of it.
use mathlib.Core.List.{List}
use mathlib.Core.Path.{◌≡◌, refl}
use Prim.Native.Nat.{ℕ, ◌-◌, ◌≤◌, ◌<◌}
use native.Mathlib.Omega.{arith}
use lib.ListN.{length}
use Rattle.questions.specs.Questions.{No, no}
use Rattle.questions.proofs.Every.{Every, every_none, every_ask, every_or, every_first}
use Rattle.code.specs.Questions.{question4, question5, question6, question7, question8}
use Rattle.code.specs.Refusal.{instruction_no, code_no}

-- its number is a byte's, and it names workflow w and an instruction below size
abbrev pub PlacedIn : (w size : ℕ) → No → Type 0
PlacedIn w size n = (n.question < 256) × (n.workflow ≡ w) × (n.instruction < size)

module _ (w : ℕ) (ops ws : List ℕ) where
  instruction_placed : (i : ℕ) → i < length ops → Every (PlacedIn w (length ops)) (instruction_no w ops ws i)
  unfolding instruction_no
  instruction_placed i h =
      let ask = every_ask (PlacedIn w (length ops)) in
      ask (no 4 w i) (question4 ops i) _ (omega arith, refl, h)
      (ask (no 5 w i) (question5 ops ws i) _ (omega arith, refl, h)
      (ask (no 6 w i) (question6 ops ws i) _ (omega arith, refl, h)
      (ask (no 7 w i) (question7 ops i) _ (omega arith, refl, h) (every_none (PlacedIn w (length ops))))))

  pub code_placed : 1 ≤ length ops → Every (PlacedIn w (length ops)) (code_no w ops ws)
  unfolding code_no
  code_placed h =
      every_or (PlacedIn w (length ops)) _ _
      (every_first (PlacedIn w (length ops)) (instruction_no w ops ws) (length ops) 0 (λ k l m. instruction_placed k (omega arith)))
      (λ e. every_ask (PlacedIn w (length ops)) (no 8 w (length ops - 1)) (question8 ops) _ (omega arith, refl, omega arith)
      (every_none (PlacedIn w (length ops))))
