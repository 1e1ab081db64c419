-- Lists of calls on bytes, each given what the last left.
use Rattle.std.specs.Prelude.{List, [], ◌∷◌, ℕ, replicate}
use Rattle.meaning.specs.State.{Lent}
use Rattle.rules.specs.Calls.{Call}
use Rattle.rules.specs.Plain.{Event}
use Rattle.std.specs.Prelude.{Ok}
use Rattle.store.specs.Created.{Created}
use Rattle.agents.specs.Answers.{Answer}
use Rattle.agents.specs.Slots.{no_agent}
use Rattle.agents.specs.Answers.{answer_of}
use Rattle.worklist.specs.Worklist.{no_worklist}
use Rattle.meaning.specs.Carried.{Carried}

-- The list of calls made so far, the latest first, each with its answer in the rules' words, and what is lent after them. It starts from
-- the store that an accepted create leaves, all slots empty, nothing on the worklist; each call gets what the one before left; all get
-- the same pack.
pub data Chain (pack : List ℕ) (P C : ℕ) : List Event → Lent → Type 0 where
  begins : (buffer store : List ℕ) → Created buffer store P C (Ok tt) →
      Chain pack P C [] (record { store = store; records = replicate 8 no_agent; list = no_worklist })
  goes_on : (events : List Event) (lent : Lent) (c : Call) (answer : Answer) (lent' : Lent) →
      Chain pack P C events lent → Carried pack lent c answer lent' →
      Chain pack P C (record { made = c; answer = answer_of answer } ∷ events) lent'

-- Calls from what is lent at first, whatever it is: the list of them, the latest first, and what is lent after them. Each call gets what
-- the one before left; all get the same pack.
pub data ChainFrom (pack : List ℕ) (first : Lent) : List Event → Lent → Type 0 where
  from_here : ChainFrom pack first [] first
  on_from : (events : List Event) (lent : Lent) (c : Call) (answer : Answer) (lent' : Lent) →
      ChainFrom pack first events lent → Carried pack lent c answer lent' →
      ChainFrom pack first (record { made = c; answer = answer_of answer } ∷ events) lent'
