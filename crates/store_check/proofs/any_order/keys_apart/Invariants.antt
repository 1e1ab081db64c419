-- The keys that were passed are good and marked.
use Rattle.std.proofs.Common.{true, ◌≡◌, ◌+◌, ◌*◌, ◌-◌}
use Rattle.words.specs.Words.{fields}
use Rattle.store.specs.Questions.{keys_apart, all_in}
use Rattle.store_check.proofs.Marks.{marked}
use Rattle.store_check.proofs.any_order.keys_apart.Given as goal

abbrev pub invariant-loop-row : goal.invariant-loop-row
invariant-loop-row l =
    (keys_apart l.book (fields 8 l.rows.store.now (l.rows.keys_at + 8 * l.row) (l.rows.used - l.row)) ≡ true)
    × (all_in (marked l.marks l.mark) (fields 8 l.rows.store.now (l.rows.keys_at + 8 * l.row) (l.rows.used - l.row)) ≡ true)
