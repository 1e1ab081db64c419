-- W-201 of calls on bytes: no call books a new 0, and no list of calls from a fresh store has a run of it.
use mathlib.Core.Bool.{true, false}
use mathlib.Core.List.{List, Memᴰ}
use mathlib.Core.Option.{Option, none, some}
use mathlib.Core.Path.{◌≡◌, refl, ◌∙◌, ap, subst}
use Prim.Native.Nat.{ℕ, ◌<◌}
use Rattle.contents.specs.Contents.{contents_of}
use Rattle.questions.specs.Questions.{No, or_else}
use Rattle.questions.specs.Questions as Questions
use Rattle.rules.specs.Store.{Request, found}
use Rattle.rules.specs.Store as Rules
use Rattle.rules.specs.Calls.{Call, State, arrival, retry, refusal}
use Rattle.rules.specs.Calls as Calls
use Rattle.rules.specs.Plain.{Machine, Reply, Event, accepted}
use Rattle.rules.specs.RequestZero.{zero_no}
use Rattle.questions.proofs.Questions.{or_else_none}
use Rattle.rules.proofs.RequestZero.{request_zero, rule_books_no_new, no_zero}
use Rattle.pack.specs.Meaning.{pack_of}
use Rattle.store.specs.Rows.{store_of}
use Rattle.agents.specs.Answers.{Answer}
use Rattle.agents.specs.Slots.{slots_of}
use Rattle.agents.specs.Answers.{answer_of}
use Rattle.meaning.specs.State.{state_of, Lent}
use Rattle.meaning.specs.Questions.{lent_refusal, lent_for, refusal_for}
use Rattle.meaning.specs.Carried.{Carried}
use Rattle.chain.specs.Chain.{Chain}
use Rattle.chain.specs.RequestZero.{RequestZero, NoZero}
use Rattle.chain.proofs.Each.{answers_yes}
use Rattle.chain.proofs.Mirror.{mirror, machine_as, replies_as}

-- ── each call ──

module _ (pack : List ℕ) (lent : Lent) (answer : Answer) (lent' : Lent) where
  -- where 1 to 14 say yes, the first no is that of the questions from 15 on
  from_15 : (c : Call) → lent_for c pack lent ≡ none →
      refusal_for pack lent c ≡ refusal (pack_of pack) (state_of lent) c
  unfolding refusal_for Questions.or_else
  from_15 c e = rw e refl

  none_accepted : (slot w : ℕ) (args : List ℕ) → Carried pack lent (arrival slot 0 w args) answer lent' →
      accepted (answer_of answer) ≡ false
  unfolding refusal_for
  none_accepted slot w args h = go (refusal_for pack lent (arrival slot 0 w args)) refl
    where
      go : (o : Option No) → refusal_for pack lent (arrival slot 0 w args) ≡ o → accepted (answer_of answer) ≡ false
      go none e = absurd ((request_zero (pack_of pack) (state_of lent)).none_accepted slot w args (or_else_none _ _ e).1)
      go (some n) e = ap accepted (h.refused n e).0

  turned_down : (slot w : ℕ) (args : List ℕ) → Carried pack lent (arrival slot 0 w args) answer lent' →
      (n : No) → or_else (lent_refusal pack lent) (zero_no (state_of lent) slot) ≡ some n →
      (answer_of answer ≡ Calls.refused n) × (lent' ≡ lent)
  unfolding refusal_for lent_for
  turned_down slot w args h n e =
      h.refused n
      (ap (or_else (lent_refusal pack lent)) ((request_zero (pack_of pack) (state_of lent)).turned_down slot w args) ∙ e)

  retried : (slot : ℕ) (q : Request) → Carried pack lent (retry slot 0) answer lent' →
      lent_refusal pack lent ≡ none → slot < 8 → slots_of lent.records slot ≡ none → (contents_of (store_of lent.store)).book 0 ≡ some q →
      accepted (answer_of answer) ≡ true
  unfolding lent_for state_of
  retried slot q h yes_all below free booked =
      answers_yes pack lent (retry slot 0) answer lent' h
      (from_15 (retry slot 0) yes_all ∙ (request_zero (pack_of pack) (state_of lent)).retried slot q below free booked)

  books_no_new : (c : Call) → Carried pack lent c answer lent' →
      (contents_of (store_of lent.store)).book 0 ≡ none → (contents_of (store_of lent'.store)).book 0 ≡ none
  unfolding refusal_for state_of
  books_no_new c h free = go (refusal_for pack lent c) refl
    where
      go : (o : Option No) → refusal_for pack lent c ≡ o → (contents_of (store_of lent'.store)).book 0 ≡ none
      go none e =
          ap (λ (s : Rules.Store). s.book 0) (h.carried e).1.written.holds
          ∙ rule_books_no_new (pack_of pack) (state_of lent) c (or_else_none _ _ e).1 free
      go (some n) e = ap (λ (x : Lent). (contents_of (store_of x.store)).book 0) (h.refused n e).1 ∙ free

  -- What W-201 asks of each call.
  pub request_zero_on : RequestZero pack lent answer lent'
  request_zero_on = record { none_accepted = none_accepted; turned_down = turned_down; retried = retried; books_no_new = books_no_new }

-- ── lists of calls ──

-- The plain run books no new 0.
pub no_zero_on : (pack : List ℕ) (P C : ℕ) (events : List Event) (lent : Lent) →
    Chain pack P C events lent → NoZero pack events lent.store
unfolding state_of
no_zero_on pack P C events lent chain =
    let m = mirror pack P C events lent chain in
    let z = no_zero (pack_of pack) C m.calls in
    record {
      run = ap (λ (x : Machine). x.runs 0) (machine_as m) ∙ z.run;
      book = ap (λ (s : State). s.store.book 0) m.state ∙ z.book;
      log = λ p t. ap (λ (s : State). found s.store.log p 0 t) m.state ∙ z.log p t;
      replies = λ r h. z.replies r (subst (λ (l : List Reply). Memᴰ r l) (replies_as m) h);
    }
