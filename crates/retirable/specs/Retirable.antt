-- What question 28 asks at a row of the book.
use Rattle.std.specs.Prelude.{Bool, true, List, ℕ}
use Rattle.questions.specs.Basics.{if◌then◌otherwise◌}
use Rattle.keys.specs.Keys.{is_workflow_key, booked_id}
use Rattle.rules.specs.Calls.{can_retire}
use Rattle.pack.specs.Meaning.{pack_of}
use Rattle.meaning.specs.State.{state_of, Lent}

-- can the request be retired whose workflow number this row has? Any other row is passed over
unfoldable pub row_can : (pack : List ℕ) → Lent → (stored : ℕ) → Bool
row_can pack lent stored =
    if is_workflow_key stored then
    can_retire (pack_of pack) (state_of lent) (booked_id stored) ((state_of lent).store.book (booked_id stored))
    otherwise true
