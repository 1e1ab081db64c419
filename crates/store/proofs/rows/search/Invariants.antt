-- The search among all the keys comes to what it comes to among those still to be read, as many places further on as keys are passed.
use Rattle.std.proofs.Common.{◌≡◌, ◌+◌, ◌*◌, ◌-◌}
use Rattle.words.specs.Words.{fields}
use Rattle.store.proofs.Found.{shift, sought}
use Rattle.store.proofs.rows.search.Given as goal

abbrev pub invariant-loop-place : goal.invariant-loop-place
invariant-loop-place l =
    sought l.key (fields 8 l.store l.keys_at l.count)
    ≡ shift l.place (sought l.key (fields 8 l.store (l.keys_at + 8 * l.place) (l.count - l.place)))
