-- The keys still to be read are good and answer for all.
use Rattle.std.proofs.Common.{true, ◌≡◌, ◌+◌, ◌*◌, ◌-◌}
use Rattle.words.specs.Words.{fields}
use Rattle.store.specs.Questions.{keys_ok, book_ok}
use Rattle.store_check.specs.Places.{keys_of}
use Rattle.store_check.proofs.five_each.Given as goal

abbrev pub invariant-loop-five : goal.invariant-loop-five
invariant-loop-five l =
    (keys_ok true (fields 8 l.rows.store.now (l.rows.keys_at + 40 * l.five) (l.rows.used - 5 * l.five)) ≡ true)
    × (book_ok (fields 8 l.rows.store.now (l.rows.keys_at + 40 * l.five) (l.rows.used - 5 * l.five)) ≡ book_ok (keys_of l.rows))
