-- The whole case of document 01 on the rules, by computation: MOVE, ten calls, their answers, the rows and the log.
use mathlib.Core.Path.{◌≡◌, refl}
use mathlib.Core.List.{List, [], ◌∷◌}
use mathlib.Core.Option.{Option, none, some}
use Prim.Native.Nat.{ℕ}
use Rattle.questions.specs.Questions.{number, ask}
use Rattle.rules.specs.Instructions.{Pack, act, act_at}
use Rattle.rules.specs.Move.{MOVE}
use Rattle.rules.specs.Blocks.{Result, yields, within, run_from, run_block, after_block}
use Rattle.rules.specs.Courses.{passed, next_by, next_of}
use Rattle.rules.specs.Store.{Store, with_row}
use Rattle.rules.specs.Logged.{behind, reply_from, reply_logged}
use Rattle.rules.specs.Calls.{arrival, retry, turn, crash, Answer, done, moved, reply, refused, History, refusal, can_turn, can_do}
use Rattle.rules.specs.Calls.{can_write, unless, rule, arrive, again, through_block, turn_on, turn_in, call, state_after, answer_to}
use Rattle.rules.specs.Plain.{one_more, tallied, fed_arrival, fed_run, fed_turn, fed, move_on, move, tallies_of, machine_of}
use Rattle.rules.specs.Plain.{events_after, machine_after}

-- from key 100 to key 200, 30 pieces
abbrev pub arguments : List ℕ
arguments = 100 ∷ 200 ∷ 30 ∷ 0 ∷ []

-- the calls up to the block that is cut off behind, the latest first
abbrev pub three : History
three = turn 0 ∷ turn 0 ∷ arrival 0 7 0 arguments ∷ []

-- up to the second block, after the retry
abbrev pub eight : History
eight = turn 1 ∷ turn 1 ∷ turn 1 ∷ retry 1 7 ∷ crash 0 ∷ three

-- all ten
abbrev pub ten : History
ten = arrival 1 8 0 arguments ∷ turn 1 ∷ eight

-- the answers, the latest first
abbrev pub answers : Pack → (room : ℕ) → History → List Answer
answers pack room [] = []
answers pack room (c ∷ before) = answer_to pack room before c ∷ answers pack room before

abbrev after : Store
after = (state_after (MOVE ∷ []) 5 ten).store

-- the reply to request 7 that can be worked out from the log
abbrev logged_by : History → Option Result
logged_by calls =
    let s = (state_after (MOVE ∷ []) 5 calls).store in
    reply_logged (MOVE ∷ []) s.log 7 (s.book 7)

-- what the program prints for it, with the machine's reply beside
pub record WholeCase : Type 0 where
  pub all_answers : answers (MOVE ∷ []) 5 ten ≡ refused (number 19) ∷ reply 7 (yields 30)
      ∷ moved ∷ moved ∷ moved ∷ done ∷ done ∷ moved ∷ moved ∷ done ∷ []
  pub row_0 : after.rows 0 100 ≡ some 4294967266
  pub log_0 : after.log.usual 0 7 0 ≡ some 4294967266
  pub row_1 : after.rows 1 200 ≡ some 30
  pub log_1 : after.log.usual 1 7 1 ≡ some 30
  -- two used rows in each partition: there are no others
  pub used_0 : after.used 0 ≡ 2
  pub used_1 : after.used 1 ≡ 2
  -- behind the first block the log leads no further than to the second; behind that, to the reply, which no turn has given yet
  pub half_way : logged_by three ≡ none
  pub through : logged_by eight ≡ some (yields 30)
  pub plain_replies : (machine_after (MOVE ∷ []) 5 ten).replies ≡ record { id = 7; value = yields 30 } ∷ []

pub whole_case : WholeCase
unfolding reply_logged reply_from behind state_after call unless refusal ask can_turn can_do can_write rule arrive again turn_in turn_on
    through_block act_at act within run_from run_block after_block passed next_by next_of with_row events_after tallies_of tallied one_more machine_of
    fed fed_arrival fed_turn fed_run move move_on
whole_case =
    record {
      all_answers = refl;
      row_0 = refl;
      log_0 = refl;
      row_1 = refl;
      log_1 = refl;
      used_0 = refl;
      used_1 = refl;
      half_way = refl;
      through = refl;
      plain_replies = refl;
    }
