-- Laws of questions in order.
use mathlib.Core.Bool.{Bool, true, false}
use mathlib.Core.Path.{◌≡◌, refl}
use mathlib.Core.Option.{Option, none, some}
use Rattle.questions.specs.Questions.{No, ask, or_else}
use Rattle.questions.proofs.Updates.{none_some}

-- after a yes the rest is asked
pub ask_yes : (n : No) (b : Bool) (rest : Option No) → b ≡ true → ask n b rest ≡ rest
unfolding ask
ask_yes n b rest e = rw e refl

-- a no is the first
pub ask_no : (n : No) (b : Bool) (rest : Option No) → b ≡ false → ask n b rest ≡ some n
unfolding ask
ask_no n b rest e = rw e refl

-- where there is no no, the question and the rest were answered yes
pub ask_none : (n : No) (b : Bool) (rest : Option No) → ask n b rest ≡ none → (b ≡ true) × (rest ≡ none)
unfolding ask
ask_none n true rest e = (refl, e)
ask_none n false rest e = none_some n e refl

-- where there is no no, both rows of questions were answered yes
pub or_else_none : (o rest : Option No) → or_else o rest ≡ none → (o ≡ none) × (rest ≡ none)
unfolding or_else
or_else_none none rest e = (refl, e)
or_else_none (some n) rest e = none_some n e refl
