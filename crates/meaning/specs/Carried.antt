-- What a call promises, one relation for all calls.
use Rattle.std.specs.Prelude.{List, ◌⊎◌, ◌≡◌, ℕ}
use Rattle.std.proofs.Math.Option.{none, some}
use Rattle.contents.specs.Wrote.{Wrote}
use Rattle.questions.specs.Questions.{No}
use Rattle.rules.specs.Calls.{Call, Outcome, State, rule}
use Rattle.rules.specs.Calls as Calls
use Rattle.rules.specs.Store as Rules
use Rattle.pack.specs.Meaning.{pack_of}
use Rattle.agents.specs.Answers.{Answer}
use Rattle.agents.specs.Slots.{slots_of, records_of}
use Rattle.agents.specs.Answers.{answer_of}
use Rattle.worklist.specs.Worklist.{Kept}
use Rattle.meaning.specs.State.{state_of, Lent}
use Rattle.meaning.specs.Questions.{refusal_for}

-- What is left is state s of the rules: its store, exactly its agents, and exactly its worklist. The records are written from the agents,
-- or are those that were lent, unchanged (a call that does not get them, or only reads them).
pub record Left (before after : Lent) (s : State) : Type 0 where
  pub written : Wrote before.store after.store s.store
  pub slots : slots_of after.records ≡ s.slots
  pub whole : (after.records ≡ records_of s.slots) ⊎ (after.records ≡ before.records)
  pub list : Kept before.list after.list s.work

-- what the rule for a call does, on what is lent
abbrev pub ruled : (pack : List ℕ) → Lent → Call → Outcome
ruled pack lent c = rule (pack_of pack) (state_of lent) c

-- A call on a pack and what was lent gave an answer and left what is lent after it.
pub record Carried (pack : List ℕ) (before : Lent) (c : Call) (answer : Answer) (after : Lent) : Type 0 where
  -- the first no of all questions put to the call is the answer, and nothing lent is changed, byte for byte
  pub refused : (n : No) → refusal_for pack before c ≡ some n → (answer_of answer ≡ Calls.refused n) × (after ≡ before)
  -- otherwise answer, store, slots and worklist are those of the rule
  pub carried : refusal_for pack before c ≡ none →
      (answer_of answer ≡ (ruled pack before c).answer) × Left before after (ruled pack before c).state
