-- What answers to questions 9 to 12 say.
use mathlib.Core.Bool.{Bool, true, false}
use mathlib.Core.List.{List}
use mathlib.Core.Option.{Option, none, some}
use mathlib.Core.Path.{◌≡◌, ◌∙◌}
use Prim.Native.Nat.{ℕ, ◌≤◌}
use native.Mathlib.Omega.{arith}
use borrow.Author.Tests.{leb-true}
use lib.ListN.{length}
use Rattle.std.specs.Prelude.{Ok}
use Rattle.questions.specs.Questions.{No, number, ask}
use Rattle.questions.specs.Verdicts.{Verdict, verdict_of}
use Rattle.questions.proofs.Chains.{accepted}
use Rattle.questions.proofs.Questions.{ask_none, ask_yes, ask_no}
use Rattle.questions.proofs.Tests.{and_left, and_right}
use Rattle.store.specs.Layout.{parts_of, cap_of}
use Rattle.store.specs.Questions.{numbers_right, question9, question10, question12}
use Rattle.store.specs.Sound.{Dimensions}
use Rattle.store.proofs.Sound.{numbers_mean, shape_ok}

-- behind a yes to 9 there are three bytes, and P and C are in their ranges
pub numbers_low : (xs : List ℕ) → question9 xs ≡ true → (3 ≤ length xs) × (parts_of xs ≤ 8) × (cap_of xs ≤ 256)
unfolding question9
numbers_low xs q =
    let m = numbers_mean _ _ (and_right _ (numbers_right (parts_of xs) (cap_of xs)) q) in
    (leb-true 3 (length xs) (and_left _ (numbers_right (parts_of xs) (cap_of xs)) q), omega (arith, m), omega (arith, m))

-- v is the verdict on a question, or on 9 and 10
pub yes_said : (n : No) (b : Bool) (v : Verdict) → v ≡ verdict_of (ask n b none) → v ≡ Ok tt → b ≡ true
yes_said n b v e a = (ask_none n b none (accepted v _ e a)).0

pub shape_said : (xs : List ℕ) (v : Verdict) → v ≡ verdict_of (ask (number 9) (question9 xs) (ask (number 10) (question10 xs) none)) →
    v ≡ Ok tt → Dimensions xs
shape_said xs v e a =
    let n = ask_none (number 9) (question9 xs) _ (accepted v _ e a) in
    shape_ok xs n.0 (ask_none (number 10) (question10 xs) none n.1).0

-- the first no of 9 to 12, by the answer to 11
abbrev store_no : (xs : List ℕ) (rows : Bool) → Option No
store_no xs rows =
    ask (number 9) (question9 xs)
    (ask (number 10) (question10 xs)
    (ask (number 11) rows
    (ask (number 12) (question12 xs)
    none)))

-- v is the verdict on 9 and 10, a yes, and `rows` the answer to 11
module _ (xs : List ℕ) (rows : Bool) (v : Verdict) (e : v ≡ verdict_of (ask (number 9) (question9 xs) (ask (number 10) (question10 xs) none)))
    (a : v ≡ Ok tt) where
  passed : store_no xs rows ≡ ask (number 11) rows (ask (number 12) (question12 xs) none)
  passed =
      let n = ask_none (number 9) (question9 xs) _ (accepted v _ e a) in
      ask_yes (number 9) (question9 xs) _ n.0 ∙ ask_yes (number 10) (question10 xs) _ (ask_none (number 10) (question10 xs) none n.1).0

  pub no_12 : rows ≡ true → question12 xs ≡ false → store_no xs rows ≡ some (number 12)
  no_12 t f = passed ∙ ask_yes (number 11) rows _ t ∙ ask_no (number 12) (question12 xs) none f

  pub all_yes : rows ≡ true → question12 xs ≡ true → store_no xs rows ≡ none
  all_yes t u = passed ∙ ask_yes (number 11) rows _ t ∙ ask_yes (number 12) (question12 xs) none u
