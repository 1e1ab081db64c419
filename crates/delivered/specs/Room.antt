-- W-202 of the library as a host calls it: a request for which the rows that the host was told are free never meets question 21.
use Rattle.std.specs.Prelude.{true, List, ◌≡◌, ℕ, ◌+◌, ◌*◌, ◌≤◌, ◌<◌}
use Rattle.std.proofs.Math.Option.{Option, none, some}
use Rattle.words.specs.Words.{le}
use Rattle.questions.specs.Questions.{number}
use Rattle.rules.specs.Store.{found}
use Rattle.rules.specs.Calls.{Call, Answer, arrival, turn, refused}
use Rattle.rules.specs.Plain.{accepted}
use Rattle.rules.specs.Room.{NoOther}
use Rattle.contents.specs.Contents.{contents_of}
use Rattle.pack.specs.Meaning.{pack_of}
use Rattle.store.specs.Layout.{parts_of, cap_of}
use Rattle.store.specs.Rows.{store_of}
use Rattle.meaning.specs.State.{state_of}
use Rattle.meaning.specs.Questions.{lent_refusal}
use Rattle.chain.specs.Room.{HasAgent}
use Rattle.answers.specs.Answers.{heard}
use Rattle.host.specs.Told.{FiguresTold}
use Rattle.host.specs.Exports.{lent_in, buffers_wrong, Exported}
use Rattle.delivered.specs.Delivered.{HostCall}

-- The rows of a workflow that a host was told: a call of figures was accepted, and this is what stands in its answer buffer.
pub record ToldRows (pack : List ℕ) (workflow : ℕ) (rows : (partition : ℕ) → ℕ) : Type 0 where
  pub answer : List ℕ
  pub given : ℕ
  pub answer' : List ℕ
  pub asked : FiguresTold pack answer workflow given answer'
  pub accepts : given ≡ 0
  pub read : (p : ℕ) → p < 8 → rows p ≡ le 4 answer' (16 + 4 * p)

-- The id is new to the store; none of its P partitions has a log row of it; in each so many rows are free.
pub record RoomFor (store : List ℕ) (id : ℕ) (rows : (partition : ℕ) → ℕ) : Type 0 where
  pub new : (contents_of (store_of store)).book id ≡ none
  pub no_log : (p t : ℕ) → p < parts_of store → found (contents_of (store_of store)).log p id t ≡ none
  pub free : (p : ℕ) → p < parts_of store → (contents_of (store_of store)).used p + rows p ≤ cap_of store

-- Exported calls from the bytes at first, and the bytes after them: each gets that pack and what the last one left, and in none that the
-- host reads to be accepted does a block of another request run. A buffer may be wrong.
pub data Undisturbed (pack : List ℕ) (id : ℕ) (store₀ slots₀ list₀ : List ℕ) : (store slots list : List ℕ) → Type 0 where
  from_first : Undisturbed pack id store₀ slots₀ list₀ store₀ slots₀ list₀
  one_more : (store slots list : List ℕ) (c : Call) (heard : Option Answer) (store' slots' list' : List ℕ) →
      Undisturbed pack id store₀ slots₀ list₀ store slots list → HostCall pack store slots list c heard store' slots' list' →
      ((said : Answer) → heard ≡ some said → accepted said ≡ true → NoOther (pack_of pack) id (state_of (lent_in store slots list)) c) →
      Undisturbed pack id store₀ slots₀ list₀ store' slots' list'

-- From any bytes: behind an accepted arrival that books the id where the rows told are free, an agent of it stands in the slot, and
-- whatever calls follow, no turn of an agent of it is answered 21: with right buffers each to which 1 to 14 say yes is accepted.
pub record NeverTold21 (pack : List ℕ) (id slot : ℕ) (store slots list : List ℕ) : Type 0 where
  pub starts : HasAgent (lent_in store slots list) slot id
  pub no_21 : (store₁ slots₁ list₁ : List ℕ) → Undisturbed pack id store slots list store₁ slots₁ list₁ →
      (k : ℕ) → HasAgent (lent_in store₁ slots₁ list₁) k id →
      (answer : List ℕ) (given : ℕ) (store₂ slots₂ answer₂ : List ℕ) →
      Exported pack store₁ slots₁ answer (turn k) given store₂ slots₂ answer₂ → heard given answer₂ ≡ some (refused (number 21)) → ⊥
  pub goes_on : (store₁ slots₁ list₁ : List ℕ) → Undisturbed pack id store slots list store₁ slots₁ list₁ →
      (k : ℕ) → HasAgent (lent_in store₁ slots₁ list₁) k id → k < 8 → lent_refusal pack (lent_in store₁ slots₁ list₁) ≡ none →
      (answer : List ℕ) (given : ℕ) (store₂ slots₂ answer₂ : List ℕ) →
      Exported pack store₁ slots₁ answer (turn k) given store₂ slots₂ answer₂ → buffers_wrong answer slots₁ ≡ none →
      (said : Answer) × (heard given answer₂ ≡ some said) × (accepted said ≡ true)

-- whatever worklist the host has beside them
abbrev pub ToldRoomIsEnough : Type 0
ToldRoomIsEnough =
    (pack store slots answer : List ℕ) (slot id w : ℕ) (args : List ℕ) (given : ℕ) (store₁ slots₁ answer₁ : List ℕ) (rows : ℕ → ℕ) →
    ToldRows pack w rows → RoomFor store id rows →
    Exported pack store slots answer (arrival slot id w args) given store₁ slots₁ answer₁ → given ≡ 0 →
    (list : List ℕ) → NeverTold21 pack id slot store₁ slots₁ list
