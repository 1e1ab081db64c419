-- Demands 1 and 2: what the promise of a call comes to.
use mathlib.Core.Bool.{true}
use mathlib.Core.List.{List}
use mathlib.Core.Option.{Option, none, some}
use mathlib.Core.Path.{◌≡◌, refl, sym, ◌∙◌, ap}
use Prim.Native.Nat.{ℕ}
use Rattle.questions.specs.Questions.{No}
use Rattle.rules.specs.Calls.{Call}
use Rattle.rules.specs.Calls as Calls
use Rattle.rules.specs.Plain.{accepted}
use Rattle.rules.proofs.Calls.{rule_accepted}
use Rattle.rules.proofs.States.{same_state}
use Rattle.questions.proofs.Updates.{false_true}
use Rattle.pack.specs.Meaning.{pack_of}
use Rattle.agents.specs.Answers.{Answer}
use Rattle.agents.specs.Answers.{answer_of}
use Rattle.meaning.specs.State.{state_of, Lent}
use Rattle.meaning.specs.Questions.{refusal_for}
use Rattle.meaning.specs.Carried.{Carried, ruled}
use Rattle.chain.specs.Demands.{Demand1, Demand2}

same_no : (n m : No) → Calls.refused n ≡ Calls.refused m → n ≡ m
same_no n m e = cc

module _ (pack : List ℕ) (lent : Lent) (c : Call) (answer : Answer) (lent' : Lent)
    (h : Carried pack lent c answer lent') where
  -- where no question says no, the call is accepted
  pub answers_yes : refusal_for pack lent c ≡ none → accepted (answer_of answer) ≡ true
  answers_yes e = ap accepted (h.carried e).0 ∙ rule_accepted (pack_of pack) (state_of lent) c

  -- and an accepted call met no no
  pub met_none : accepted (answer_of answer) ≡ true → refusal_for pack lent c ≡ none
  met_none t = go (refusal_for pack lent c) refl
    where
      go : (o : Option No) → refusal_for pack lent c ≡ o → refusal_for pack lent c ≡ none
      go none e = e
      go (some n) e = false_true (ap accepted (h.refused n e).0) t

  -- what such a call leaves is what the rule leaves
  pub left_state : refusal_for pack lent c ≡ none → state_of lent' ≡ (ruled pack lent c).state
  unfolding state_of
  left_state e = let l = (h.carried e).1 in same_state l.written.holds l.slots l.list.means

  pub demand1 : Demand1 pack lent c answer lent'
  demand1 = record { says_no = h.refused; says_why = λ n e. go n e (refusal_for pack lent c) refl }
    where
      go : (n : No) → answer_of answer ≡ Calls.refused n → (o : Option No) → refusal_for pack lent c ≡ o → refusal_for pack lent c ≡ some n
      go n e none q = false_true (ap accepted e) (answers_yes q)
      go n e (some m) q = q ∙ ap some (same_no m n (sym (h.refused m q).0 ∙ e))

  pub demand2 : Demand2 pack lent c answer lent'
  demand2 = record { accepts = answers_yes; rules = λ t. h.carried (met_none t) }
