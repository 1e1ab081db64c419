-- What is printed and the partitions that are left come to the whole.
use Rattle.std.proofs.Common.{◌+◌, ◌-◌, ◌*◌, ◌≤◌}
use Rattle.listing.specs.Store.{partitions_text, store_text}
use Rattle.listing.proofs.Printing.{Printing}
use Rattle.listing.proofs.print_store.Given as goal

abbrev pub invariant-loop-partition : goal.invariant-loop-partition
invariant-loop-partition l =
    (l.written ≤ l.fn.written + 45056 * l.partition)
    × Printing l.fn.out l.fn.written l.out l.written (partitions_text l.store (l.partition-end - l.partition) l.partition) (store_text l.store)
