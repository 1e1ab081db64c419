-- W-208 and W-209 on the rules, by computation: MOVE for request 1, through the worklist, then retired; a late repeat is refused.
use mathlib.Core.Path.{◌≡◌, refl}
use mathlib.Core.List.{[], ◌∷◌}
use mathlib.Core.Option.{none, some}
use Rattle.questions.specs.Basics.{each_from, sum_below}
use Rattle.questions.specs.Questions.{number, ask}
use Rattle.rules.specs.Instructions.{act, act_at}
use Rattle.rules.specs.Move.{MOVE}
use Rattle.rules.specs.Blocks.{yields, within, run_from, run_block, after_block}
use Rattle.rules.specs.Courses.{passed, next_by, next_of}
use Rattle.rules.specs.Store.{Store, with_row, booked_below, logged_below}
use Rattle.rules.specs.Logged.{behind, reply_from, reply_logged}
use Rattle.rules.specs.Worklist.{list_right, can_list, added, restarted}
use Rattle.rules.specs.Calls.{arrival, retry, turn, crash, restart, list_add, list_take, list_done, retire, History}
use Rattle.rules.specs.Calls.{done, moved, reply, given, refused, in_no_slot, can_retire, can_done, refusal, can_turn, can_do, can_write}
use Rattle.rules.specs.Calls.{unless, rule, arrive, again, through_block, turn_on, turn_in, takes, call, state_after}
use Rattle.rules.proofs.WholeCase.{arguments, answers}

-- the calls, the latest first
abbrev pub calls : History
calls =
    retire 3
    ∷ retire 2
    ∷ arrival 0 2 0 arguments
    ∷ retry 0 1
    ∷ arrival 0 0 0 arguments
    ∷ arrival 0 1 0 arguments
    ∷ retire 2
    ∷ crash 0
    ∷ retire 2
    ∷ retry 0 1
    ∷ list_done 1
    ∷ retire 2
    ∷ list_take
    ∷ list_done 1
    ∷ restart
    ∷ turn 0
    ∷ turn 0
    ∷ turn 0
    ∷ list_done 1
    ∷ list_take
    ∷ list_take
    ∷ list_add 1
    ∷ turn 0
    ∷ list_add 1
    ∷ retry 0 1
    ∷ retire 2
    ∷ crash 0
    ∷ arrival 0 1 0 arguments
    ∷ retire 2
    ∷ []

abbrev after : Store
after = (state_after (MOVE ∷ []) 6 calls).store

pub record RetireCase : Type 0 where
  pub all_answers : answers (MOVE ∷ []) 6 calls ≡
      refused (number 28)
      ∷ refused (number 29)
      ∷ done
      ∷ refused (number 20)
      ∷ refused (number 24)
      ∷ refused (number 30)
      -- retired
      ∷ done
      ∷ done
      -- in a slot
      ∷ refused (number 28)
      ∷ done
      ∷ done
      -- on the worklist
      ∷ refused (number 28)
      ∷ given 1
      ∷ refused (number 27)
      ∷ done
      ∷ reply 1 (yields 30)
      ∷ moved
      ∷ moved
      ∷ refused (number 27)
      ∷ refused (number 27)
      ∷ given 1
      ∷ done
      ∷ moved
      ∷ done
      ∷ done
      -- not logged through
      ∷ refused (number 28)
      ∷ done
      ∷ done
      ∷ refused (number 29)
      ∷ []
  -- the data rows stay
  pub row_0 : after.rows 0 100 ≡ some 4294967266
  pub row_1 : after.rows 1 200 ≡ some 30
  -- the log rows are removed, and what they took is free
  pub log_0 : after.log.usual 0 1 0 ≡ none
  pub log_1 : after.log.usual 1 1 1 ≡ none
  pub used_0 : after.used 0 ≡ 1
  pub floor : after.floor ≡ some 2
  -- five rows of request 2 and the floor row
  pub book_used_lem : after.book_used ≡ 6

pub retire_case : RetireCase
unfolding state_after call unless refusal ask can_turn can_do can_write rule arrive again turn_in turn_on through_block act_at act within run_from
    run_block after_block passed next_by next_of with_row each_from sum_below booked_below logged_below behind reply_from reply_logged list_right
    can_list added restarted in_no_slot can_retire can_done takes
retire_case =
    record {
      all_answers = refl;
      row_0 = refl;
      row_1 = refl;
      log_0 = refl;
      log_1 = refl;
      used_0 = refl;
      floor = refl;
      book_used_lem = refl;
    }
