-- W-203, rows by rising key, of lists of calls on bytes.
use Rattle.std.specs.Prelude.{true, List, ◌≡◌, ℕ}
use Rattle.meaning.specs.State.{Lent}
use Rattle.contents.specs.Contents.{contents_of}
use Rattle.rules.specs.Calls.{order}
use Rattle.rules.specs.Plain.{Event, accepted}
use Rattle.store.specs.Layout.{AllBytes}
use Rattle.store.specs.Rows.{store_of}
use Rattle.agents.specs.Answers.{Answer}
use Rattle.agents.specs.Answers.{answer_of}
use Rattle.meaning.specs.Carried.{Carried}
use Rattle.chain.specs.Chain.{Chain}

-- After any list of calls from a fresh store.
pub record KeptInOrder (pack : List ℕ) (P C : ℕ) : Type 0 where
  -- order is accepted and changes no byte: the rows are in order
  pub idle : (events : List Event) (lent : Lent) → Chain pack P C events lent →
      (answer : Answer) (lent' : Lent) → Carried pack lent order answer lent' →
      (accepted (answer_of answer) ≡ true) × (lent'.store ≡ lent.store)
  -- two lists of calls, of any two packs, that come to the same contents leave the same bytes
  pub same : (events : List Event) (lent : Lent) → Chain pack P C events lent →
      (pack'' : List ℕ) (events'' : List Event) (lent'' : Lent) → Chain pack'' P C events'' lent'' →
      AllBytes lent.store → AllBytes lent''.store → contents_of (store_of lent.store) ≡ contents_of (store_of lent''.store) →
      lent.store ≡ lent''.store
