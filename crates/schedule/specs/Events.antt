-- The calls that a schedule lists.
use Rattle.std.specs.Prelude.{List, [], ◌∷◌, ℕ, zero, suc, eqb}
use Rattle.questions.specs.Basics.{if◌then◌otherwise◌}
use Rattle.rules.specs.Calls.{Call, arrival, retry, turn, crash, restart}
use Rattle.schedule_check.specs.Layout.{request_id, request_workflow, request_arguments, kind_at, slot_at, index_at}

-- The call of an event: 0 arrival, 1 turn, 2 crash, 3 retry, 4 restart. The slot is not read for a restart.
unfoldable pub call_of : (schedule : List ℕ) → (kind slot request : ℕ) → Call
call_of s kind slot r =
    if eqb kind 0 then arrival slot (request_id s r) (request_workflow s r) (request_arguments s r)
    otherwise if eqb kind 1 then turn slot
    otherwise if eqb kind 2 then crash slot
    otherwise if eqb kind 3 then retry slot (request_id s r)
    otherwise restart

abbrev pub call_at : (schedule : List ℕ) → (event : ℕ) → Call
call_at s event = call_of s (kind_at s event) (slot_at s event) (index_at s event)

-- the calls of so many first events, the latest first
unfoldable pub calls_of : (schedule : List ℕ) → (count : ℕ) → List Call
calls_of s zero = []
calls_of s (suc count) = call_at s count ∷ calls_of s count
