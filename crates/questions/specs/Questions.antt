-- Questions are put in order, and the first no wins.
use Rattle.std.specs.Prelude.{Bool, true, false, ℕ, zero, suc, ◌<◌}
use Rattle.std.proofs.Math.Option.{Option, none, some}

-- a no: the question's number, and with 4 to 8 the workflow and the instruction counted within it, otherwise 0 and 0
pub record No : Type 0 where
  pub question : ℕ
  pub workflow : ℕ
  pub instruction : ℕ

abbrev pub no : (question workflow instruction : ℕ) → No
no q w i = record { question = q; workflow = w; instruction = i }

-- a question that goes with no place
abbrev pub number : (question : ℕ) → No
number q = no q 0 0

-- A no's question has a number below 256, and the place that it names is one of a pack: a workflow below 16, an instruction below 256.
abbrev pub Placed : No → Type 0
Placed n = (n.question < 256) × (n.workflow < 16) × (n.instruction < 256)

-- A question: after a yes the rest is asked.
unfoldable pub ask : No → Bool → Option No → Option No
ask n true rest = rest
ask n false rest = some n

-- one row of questions and then another
unfoldable pub or_else : Option No → Option No → Option No
or_else none rest = rest
or_else (some n) rest = some n

-- the first no among those of f at i, i + 1, …: n numbers
unfoldable pub first_no : (ℕ → Option No) → (n i : ℕ) → Option No
first_no f zero i = none
first_no f (suc n) i = or_else (f i) (first_no f n (suc i))
