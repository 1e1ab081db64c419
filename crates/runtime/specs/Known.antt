-- What the reading of a reply answers.
use Rattle.std.specs.Prelude.{Result, Ok, Err, Some, None, List, ℕ}
use Rattle.std.specs.declared.option.Option.{Option as CodeOption}
use Rattle.std.proofs.Math.Option.{Option, none, some}
use Rattle.questions.specs.Questions.{No}
use Rattle.questions.specs.Verdicts.{refusal_of}
use Rattle.questions.specs.declared.Refusal.{Refusal}
use Rattle.rules.specs.Blocks as Rules
use Rattle.rules.specs.Blocks.{yields}
use Rattle.meaning.specs.State.{worked_out}
use Rattle.meaning.specs.Questions.{reply_refusal}

-- what the code says: the reply, none where it can't be worked out from the log yet, or a no
abbrev pub Known : Type 0
Known = Result (CodeOption ℕ) Refusal

-- the reply, or that it can't be worked out from the log yet
abbrev pub known_by : (worked : Option Rules.Result) → Known
known_by none = Ok None
known_by (some (yields value)) = Ok (Some value)

-- the first no, or what the log leads to
abbrev pub known : Option No → (worked : Option Rules.Result) → Known
known (some n) worked = Err (refusal_of n)
known none worked = known_by worked

-- what is known of an id from pack and store: the first no of 1 to 13 and 20, or the reply that can be worked out from the log
abbrev pub known_in : (pack store : List ℕ) (id : ℕ) → Known
known_in pack store id = known (reply_refusal pack store id) (worked_out pack store id)
