-- W-202 of calls on bytes: a request that finds its figures of rows free never meets question 21; an agent replies within the figure of
-- turns.
use Rattle.std.specs.Prelude.{true, List, [], ◌∷◌, ◌≡◌, ℕ, ◌≤◌, ◌<◌}
use Rattle.std.proofs.Math.Option.{none, some}
use Rattle.questions.specs.Questions.{number}
use Rattle.rules.specs.Blocks.{Result}
use Rattle.rules.specs.Routes.{by_turns, MostOf}
use Rattle.rules.specs.Room.{FindsRoom, NoOther}
use Rattle.rules.specs.Calls.{Call, arrival, turn, request_code}
use Rattle.rules.specs.Calls as Calls
use Rattle.rules.specs.Plain.{Event, accepted}
use Rattle.pack.specs.Layout.{size_of}
use Rattle.pack.specs.Meaning.{pack_of}
use Rattle.store.specs.Layout.{parts_of}
use Rattle.agents.specs.Answers.{Answer}
use Rattle.agents.specs.Slots.{slots_of}
use Rattle.agents.specs.Answers.{answer_of}
use Rattle.meaning.specs.State.{state_of, Lent}
use Rattle.meaning.specs.Questions.{lent_refusal}
use Rattle.meaning.specs.Carried.{Carried}
use Rattle.chain.specs.Demands.{InTime}
use Rattle.chain.specs.RequestZero.{ChainOn}

-- Calls from what is lent at first: the list of them, the latest first, and what is lent after them. Each gets that pack and what the last
-- one left, and in none does a block of another request run.
pub data Undisturbed (pack : List ℕ) (id : ℕ) (first : Lent) : List Event → Lent → Type 0 where
  from_first : Undisturbed pack id first [] first
  one_more : (events : List Event) (lent : Lent) (c : Call) (answer : Answer) (lent' : Lent) →
      Undisturbed pack id first events lent → Carried pack lent c answer lent' →
      (accepted (answer_of answer) ≡ true → NoOther (pack_of pack) id (state_of lent) c) →
      Undisturbed pack id first (record { made = c; answer = answer_of answer } ∷ events) lent'

-- an agent of this id stands in the slot
abbrev pub HasAgent : Lent → (slot id : ℕ) → Type 0
HasAgent lent slot id = (a : Calls.Agent) × (slots_of lent.records slot ≡ some a) × (a.id ≡ id)

-- Behind an accepted arrival that books the id: an agent of it stands in the slot; and after any further calls no turn of an agent of it
-- is answered 21, and so every such turn to which 1 to 14 say yes is accepted.
pub record NeverFull (pack : List ℕ) (id slot : ℕ) (arrived : Lent) : Type 0 where
  pub starts : HasAgent arrived slot id
  pub no_21 : (events : List Event) (lent : Lent) → Undisturbed pack id arrived events lent →
      (k : ℕ) → HasAgent lent k id → (answer : Answer) (lent' : Lent) → Carried pack lent (turn k) answer lent' →
      answer_of answer ≡ Calls.refused (number 21) → ⊥
  pub goes_on : (events : List Event) (lent : Lent) → Undisturbed pack id arrived events lent →
      (k : ℕ) → HasAgent lent k id → k < 8 → lent_refusal pack lent ≡ none →
      (answer : Answer) (lent' : Lent) → Carried pack lent (turn k) answer lent' → accepted (answer_of answer) ≡ true

-- That is so of any store and slots, wherever the arrival is accepted and finds room for its request.
abbrev pub RoomIsEnough : Type 0
RoomIsEnough =
    (pack : List ℕ) (lent : Lent) (slot id w : ℕ) (args : List ℕ) (answer : Answer) (arrived : Lent) →
    FindsRoom (pack_of pack) (parts_of lent.store) (state_of lent).store id (record { workflow = w; arguments = args }) →
    Carried pack lent (arrival slot id w args) answer arrived → accepted (answer_of answer) ≡ true →
    NeverFull pack id slot arrived

-- An accepted turn that is in time is so by the figure too: its agent's workflow has a figure of turns, at most its size; the agent's turns
-- are at most that figure, and if they come to it, this one replies.
pub record InFigure (pack : List ℕ) (before : List Event) (lent : Lent) (slot : ℕ) (answer : Answer) : Type 0 where
  pub in_time : InTime pack before lent slot answer
  pub most : ℕ
  pub figure : MostOf by_turns (request_code (pack_of pack) in_time.request) most
  pub within_size : most ≤ size_of pack in_time.request.workflow
  pub at_most : in_time.turns ≤ most
  pub last : in_time.turns ≡ most → (value : Result) × (answer_of answer ≡ Calls.reply in_time.agent.id value)

-- That is so of each accepted turn in any list of calls, on any store, a fresh one too, from empty slots on.
abbrev pub RepliesWithin : Type 0
RepliesWithin =
    (pack older : List ℕ) (before : List Event) (lent : Lent) → ChainOn pack older before lent →
    (slot : ℕ) (answer : Answer) (lent' : Lent) → Carried pack lent (turn slot) answer lent' →
    accepted (answer_of answer) ≡ true → InFigure pack before lent slot answer
