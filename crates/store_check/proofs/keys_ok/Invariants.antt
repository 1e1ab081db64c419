-- The keys still to be read, from `low` on, answer for all.
use Rattle.std.proofs.Common.{◌≡◌, ◌+◌, ◌*◌, ◌-◌}
use Rattle.words.specs.Words.{fields}
use Rattle.store.specs.Questions.{keys_ok}
use Rattle.store_check.specs.Places.{keys_of}
use Rattle.store_check.proofs.Rising.{rises}
use Rattle.store_check.proofs.keys_ok.Given as goal

abbrev pub invariant-loop-row : goal.invariant-loop-row
invariant-loop-row l =
    rises l.book l.low (fields 8 l.rows.store.now (l.rows.keys_at + 8 * l.row) (l.rows.used - l.row)) ≡ keys_ok l.book (keys_of l.rows)
