-- Retire behind question 25, with the answers in hand.
use mathlib.Core.Bool.{Bool, true, false}
use mathlib.Core.List.{List}
use mathlib.Core.Option.{none, some}
use mathlib.Core.Path.{◌≡◌, refl, sym, ◌∙◌, subst}
use Prim.Native.Nat.{ℕ}
use lib.Dec.{ltb}
use Rattle.questions.specs.Basics.{each}
use Rattle.questions.specs.Questions.{number, no}
use Rattle.questions.specs.Questions as Questions
use Rattle.rules.specs.Store.{booked_below, retired}
use Rattle.rules.specs.Calls.{Call, retire, can_retire}
use Rattle.rules.specs.Calls as Calls
use Rattle.pack.specs.Meaning.{pack_of}
use Rattle.contents.specs.Wrote.{Wrote}
use Rattle.agents.specs.Answers.{Answer}
use Rattle.std.specs.Prelude.{Ok, Err}
use Rattle.agents.specs.declared.Accepted.TheVariants.{Done}
use Rattle.agents.specs.Answers as Answers
use Rattle.meaning.specs.State.{state_of, Lent}
use Rattle.meaning.specs.Questions.{list_refusal, refusal_for}
use Rattle.meaning.specs.Carried.{Carried}
use Rattle.meaning.proofs.Begun.{retire_left}
use Rattle.meaning.proofs.Carry.{is_stored}

module _ (pack : List ℕ) (lent : Lent) (e : list_refusal pack lent ≡ none) (floor : ℕ) where
  -- what 28 and 29 ask
  abbrev all_can : Bool
  all_can = each floor (λ id. can_retire (pack_of pack) (state_of lent) id ((state_of lent).store.book id))

  abbrev some_booked : Bool
  some_booked = ltb 0 (booked_below (state_of lent).store floor)

  pub retire_28 : all_can ≡ false → refusal_for pack lent (retire floor) ≡ some (number 28)
  unfolding Questions.ask
  retire_28 f = retire_left pack lent e floor ∙ rw f refl

  module _ (f : all_can ≡ true) where
    pub retire_29 : some_booked ≡ false → refusal_for pack lent (retire floor) ≡ some (number 29)
    unfolding Questions.ask
    retire_29 g = retire_left pack lent e floor ∙ rw (f, g) refl

    pub retires : some_booked ≡ true → (store' : List ℕ) → Wrote lent.store store' (retired (state_of lent).store floor) →
        Carried pack lent (retire floor) (Ok Done) (record { store = store'; records = lent.records; list = lent.list })
    unfolding Questions.ask Calls.rule Answers.answer_of
    retires g store' w =
        is_stored pack lent (retire floor) (Ok Done) store' (retired (state_of lent).store floor) Calls.done
        (retire_left pack lent e floor ∙ rw (f, g) refl) refl refl w
