-- Questions 22 and 23, and the first no of a schedule with its pack.
use Rattle.std.specs.Prelude.{Bool, true, ◌&&◌, ◌||◌, List, ◌≡◌, ℕ, ◌≤◌, ltb, leb, eqb, length}
use Rattle.std.proofs.Math.Option.{Option, none}
use Rattle.questions.specs.Basics.{if◌then◌otherwise◌, each}
use Rattle.questions.specs.Questions.{No, number, ask, or_else}
use Rattle.pack.specs.Refusal.{pack_refusal}
use Rattle.store.specs.Layout.{parts_of, cap_of}
use Rattle.store.specs.Questions.{numbers_right, question9}
use Rattle.schedule_check.specs.Layout.{request_count, event_count, length_for, kind_at, index_at}

-- 22. Is the length 6 + 24g + 2e, within limits: g at most 64, e at most 1,024? (No file of fewer than six bytes has that length.)
unfoldable pub question22 : (schedule : List ℕ) → Bool
question22 s =
    leb (request_count s) 64
    && (leb (event_count s) 1024
    && eqb (length s) (length_for (request_count s) (event_count s)))

-- what a yes to 22 says
pub record ScheduleLaid (schedule : List ℕ) : Type 0 where
  pub few_requests : request_count schedule ≤ 64
  pub few_events : event_count schedule ≤ 1024
  pub whole : length schedule ≡ length_for (request_count schedule) (event_count schedule)

-- an arrival and a retry name a request
abbrev pub names_request : (kind : ℕ) → Bool
names_request kind = eqb kind 0 || eqb kind 3

-- of one event, by how many requests there are
unfoldable pub event_right : (requests kind index : ℕ) → Bool
event_right requests kind index = leb kind 4 && (if names_request kind then ltb index requests otherwise eqb index 0)

unfoldable pub right_at : (schedule : List ℕ) → (event : ℕ) → Bool
right_at s event = event_right (request_count s) (kind_at s event) (index_at s event)

-- 23. Is each kind at most 4, each index below g for kinds 0 and 3 and 0 otherwise?
unfoldable pub question23 : (schedule : List ℕ) → Bool
question23 s = each (event_count s) (right_at s)

-- 22, 23, then 9 to the schedule's P and C: the first no
unfoldable pub bytes_refusal : (schedule : List ℕ) → Option No
bytes_refusal s =
    ask (number 22) (question22 s)
    (ask (number 23) (question23 s)
    (ask (number 9) (question9 s)
    none))

-- what a yes to all three says
pub record Allowed (schedule : List ℕ) : Type 0 where
  pub laid : ScheduleLaid schedule
  pub events : question23 schedule ≡ true
  pub numbers : numbers_right (parts_of schedule) (cap_of schedule) ≡ true

-- 1 to 8 are put to the pack first.
unfoldable pub schedule_refusal : (pack schedule : List ℕ) → Option No
schedule_refusal p s = or_else (pack_refusal p) (bytes_refusal s)
