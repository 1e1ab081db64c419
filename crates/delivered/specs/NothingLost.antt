-- W-207 of the library as a host calls it: nothing is lost on the way.
use Rattle.std.specs.Prelude.{List, [], ◌∷◌, ◌≡◌, ℕ}
use Rattle.rules.specs.Move.{MOVE}
use Rattle.rules.specs.Plain.{Event}
use Rattle.pack.specs.Meaning.{pack_of}
use Rattle.chain.specs.NothingLost.{AllWords, AddsUp}
use Rattle.delivered.specs.Delivered.{Delivered}

-- For a pack whose only workflow is MOVE, what an accepted create leaves, slots and worklist of zero bytes, and exported calls in any
-- sequence: after each of them the rows that stand in the store's bytes add up, also where a buffer was wrong.
abbrev pub HostLosesNothing : Type 0
HostLosesNothing =
    (pack : List ℕ) (P C : ℕ) → pack_of pack ≡ MOVE ∷ [] →
    (events : List Event) (store slots list : List ℕ) → Delivered pack P C events store slots list → AllWords events → AddsUp store
