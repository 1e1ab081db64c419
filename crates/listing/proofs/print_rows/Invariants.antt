-- What is printed and the lines that are left come to the whole.
use Rattle.std.proofs.Common.{◌+◌, ◌-◌, ◌*◌, ◌≤◌, take, drop}
use Rattle.store.specs.Rows.{rows_of}
use Rattle.listing.specs.Store.{lines_of}
use Rattle.listing.proofs.Printing.{Printing}
use Rattle.listing.proofs.Steps.{lines_from}
use Rattle.listing.proofs.print_rows.Given as goal

abbrev pub invariant-loop-row : goal.invariant-loop-row
invariant-loop-row l =
    Printing l.fn.out l.fn.written l.out l.written (lines_from l.partition (rows_of l.store l.partition) l.end l.row)
    (lines_of l.partition (take (l.end - l.first) (drop l.first (rows_of l.store l.partition))))
    × (l.written + 88 * (l.end - l.row) ≤ l.fn.written + 88 * (l.end - l.first))
