-- Add, take and done behind question 25, and the reading of a reply, with the answers in hand.
use mathlib.Core.Bool.{Bool, true, false, ◌&&◌}
use mathlib.Core.List.{List}
use mathlib.Core.Option.{Option, none, some}
use mathlib.Core.Path.{◌≡◌, refl, sym, ◌∙◌, ap, ap₂, subst}
use Prim.Native.Nat.{ℕ}
use native.Mathlib.Omega.{arith}
use Rattle.questions.specs.Basics.{is_some}
use Rattle.questions.specs.Questions.{number, no}
use Rattle.questions.specs.Questions as Questions
use Rattle.rules.specs.Blocks.{Result, yields}
use Rattle.rules.specs.Store.{Request}
use Rattle.rules.specs.Logged.{reply_logged}
use Rattle.rules.specs.Logged as Rules
use Rattle.rules.specs.Worklist.{can_list, first_waiting, taken_on, added, took_first, without}
use Rattle.rules.specs.Worklist as Work
use Rattle.rules.specs.Calls.{Call, Outcome, list_add, list_take, list_done, can_done, takes}
use Rattle.rules.specs.Calls as Calls
use Rattle.pack.specs.Meaning.{pack_of}
use Rattle.store.specs.Rows.{store_of}
use Rattle.contents.specs.Contents.{contents_of}
use Rattle.std.specs.Prelude.{Ok, Err}
use Rattle.agents.specs.declared.Accepted.TheVariants.{Done, Given}
use Rattle.agents.specs.Answers as Answers
use Rattle.worklist.specs.declared.Worklist.{Worklist}
use Rattle.worklist.specs.Worklist.{worklist_of, Kept}
use Rattle.logged.specs.declared.Logged.{Logged}
use Rattle.logged.specs.declared.Logged.TheVariants.{Unbooked, NotYet, Through}
use Rattle.logged.specs.Logged.{logged_by}
use Rattle.meaning.specs.State.{state_of, Lent, worked_out}
use Rattle.meaning.specs.Questions.{first_thirteen, list_refusal, refusal_for, reply_refusal}
use Rattle.meaning.specs.Carried.{Carried}
use Rattle.meaning.proofs.Begun.{add_left, take_left, done_left}
use Rattle.meaning.proofs.Carry.{is_listed}
use Rattle.std.specs.Prelude.{Some, None}
use Rattle.std.specs.Prelude as code
use Rattle.store.specs.Answers.{Got}
use Rattle.questions.proofs.Tests.{yes_no}
use Rattle.questions.specs.Verdicts.{refusal_of}
use Rattle.questions.specs.declared.Refusal.{Refusal}
use Rattle.runtime.specs.Known.{known, known_in}

module _ (pack : List ℕ) (lent : Lent) (e : list_refusal pack lent ≡ none) where
  abbrev work : Work.Worklist
  work = worklist_of lent.list

  -- ── add ──

  module _ (id : ℕ) where
    pub add_26 : can_list id work ≡ false → refusal_for pack lent (list_add id) ≡ some (number 26)
    unfolding Questions.ask
    add_26 f = add_left pack lent e id ∙ rw f refl

    module _ (f : can_list id work ≡ true) where
      pub add_20 : (contents_of (store_of lent.store)).book id ≡ none → refusal_for pack lent (list_add id) ≡ some (number 20)
      unfolding Questions.ask
      add_20 b = add_left pack lent e id ∙ rw (f, b) refl

      pub adds : (q : Request) → (contents_of (store_of lent.store)).book id ≡ some q → (list' : Worklist) →
          Kept lent.list list' (added id work) →
          Carried pack lent (list_add id) (Ok Done) (record { store = lent.store; records = lent.records; list = list' })
      unfolding Questions.ask Calls.rule state_of Answers.answer_of
      adds q b list' k =
          is_listed pack lent (list_add id) (Ok Done) list' (added id work) Calls.done (add_left pack lent e id ∙ rw (f, b) refl) refl refl k

  -- ── take ──

  pub take_27 : first_waiting work ≡ none → refusal_for pack lent list_take ≡ some (number 27)
  unfolding Questions.ask
  take_27 f = take_left pack lent e ∙ rw f refl

  pub takes_one : (id : ℕ) → first_waiting work ≡ some id → (list' : Worklist) → Kept lent.list list' (took_first work) →
      Carried pack lent list_take (Ok (Given id)) (record { store = lent.store; records = lent.records; list = list' })
  unfolding Questions.ask Calls.rule Calls.takes state_of Answers.answer_of
  takes_one id f list' k =
      is_listed pack lent list_take (Ok (Given id)) list' (took_first work) (Calls.given id) (take_left pack lent e ∙ rw f refl)
      (ap (takes (state_of lent)) f) refl k

  -- ── done ──

  module _ (id : ℕ) where
    done_no : can_done (pack_of pack) (state_of lent) id ≡ false → refusal_for pack lent (list_done id) ≡ some (number 27)
    unfolding Questions.ask
    done_no f = done_left pack lent e id ∙ rw f refl

    pub done_not_taken : taken_on id work ≡ false → refusal_for pack lent (list_done id) ≡ some (number 27)
    unfolding Calls.can_done state_of
    done_not_taken f = done_no (ap (λ (b : Bool). b && is_some (worked_out pack lent.store id)) f)

    module _ (t : taken_on id work ≡ true) where
      by_log : (b : Bool) → is_some (worked_out pack lent.store id) ≡ b → can_done (pack_of pack) (state_of lent) id ≡ b
      unfolding Calls.can_done state_of
      by_log b f = rw t f

      pub done_not_through : is_some (worked_out pack lent.store id) ≡ false → refusal_for pack lent (list_done id) ≡ some (number 27)
      done_not_through f = done_no (by_log false f)

      pub dones : is_some (worked_out pack lent.store id) ≡ true → (list' : Worklist) → Kept lent.list list' (without id work) →
          Carried pack lent (list_done id) (Ok Done) (record { store = lent.store; records = lent.records; list = list' })
      unfolding Questions.ask Calls.rule state_of Answers.answer_of
      dones f list' k =
          is_listed pack lent (list_done id) (Ok Done) list' (without id work) Calls.done
          (done_left pack lent e id ∙ ap (λ (b : Bool). Questions.ask (number 27) b none) (by_log true f)) refl refl k

-- ── what is known from book and log ──

module _ (pack store : List ℕ) (id : ℕ) (l : Logged)
    (e : l ≡ logged_by ((contents_of (store_of store)).book id) (worked_out pack store id)) where
  abbrev booked : Option Request
  booked = (contents_of (store_of store)).book id

  pub through_is : (v : ℕ) → l ≡ Through v → (worked_out pack store id ≡ some (yields v)) × (is_some booked ≡ true)
  through_is v f = go booked (worked_out pack store id) (sym f ∙ e)
    where
      go : (o : Option Request) (p : Option Result) → Through v ≡ logged_by o p → (p ≡ some (yields v)) × (is_some o ≡ true)
      go none p g = absurd (let z : ◌≡◌ {A = ℕ} 0 1 = cc in omega arith)
      go (some q) none g = absurd (let z : ◌≡◌ {A = ℕ} 0 1 = cc in omega arith)
      go (some q) (some (yields w)) g = let h : w ≡ v = cc in (ap (λ x. some (yields x)) h, refl)

  pub not_yet_is : l ≡ NotYet → (worked_out pack store id ≡ none) × (is_some booked ≡ true)
  not_yet_is f = go booked (worked_out pack store id) (sym f ∙ e)
    where
      go : (o : Option Request) (p : Option Result) → NotYet ≡ logged_by o p → (p ≡ none) × (is_some o ≡ true)
      go none p g = absurd (let z : ◌≡◌ {A = ℕ} 0 1 = cc in omega arith)
      go (some q) none g = (refl, refl)
      go (some q) (some (yields w)) g = absurd (let z : ◌≡◌ {A = ℕ} 0 1 = cc in omega arith)

  pub unbooked_is : l ≡ Unbooked → booked ≡ none
  unbooked_is f = go booked (worked_out pack store id) (sym f ∙ e)
    where
      go : (o : Option Request) (p : Option Result) → Unbooked ≡ logged_by o p → o ≡ none
      go none p g = refl
      go (some q) none g = absurd (let z : ◌≡◌ {A = ℕ} 0 1 = cc in omega arith)
      go (some q) (some (yields w)) g = absurd (let z : ◌≡◌ {A = ℕ} 0 1 = cc in omega arith)

-- what isn't booked isn't logged through
pub unbooked_not_through : (pack store : List ℕ) (id : ℕ) → (contents_of (store_of store)).book id ≡ none →
    is_some (worked_out pack store id) ≡ false
unfolding Rules.reply_logged
unbooked_not_through pack store id b =
    ap (λ (o : Option Request). is_some (reply_logged (pack_of pack) (contents_of (store_of store)).log id o)) b

-- what the log doesn't lead through can't be worked out
pub not_through_is : (pack store : List ℕ) (id : ℕ) (l : Logged) →
    l ≡ logged_by ((contents_of (store_of store)).book id) (worked_out pack store id) → ((v : ℕ) → l ≡ Through v → ⊥) →
    is_some (worked_out pack store id) ≡ false
not_through_is pack store id (Through v) e n = absurd (n v refl)
not_through_is pack store id NotYet e n = ap (λ (o : Option Result). is_some o) (not_yet_is pack store id NotYet e refl).0
not_through_is pack store id Unbooked e n = unbooked_not_through pack store id (unbooked_is pack store id Unbooked e refl)

-- what the code found, by the test of it
pub nothing_there : (g : Got) → code.is_some g ≡ false → g ≡ None
nothing_there None e = refl
nothing_there (Some w) e = yes_no e

pub something_there : (g : Got) → code.is_some g ≡ true → (w : ℕ) × (g ≡ Some w)
something_there None e = yes_no (sym e)
something_there (Some w) e = (w, refl)

-- ── the reading of a reply ──

module _ (pack store : List ℕ) (id : ℕ) where
  pub read_refused : (n : Refusal) → first_thirteen pack store ≡ some (no n.question n.workflow n.instruction) → Err n ≡ known_in pack store id
  unfolding reply_refusal Questions.or_else
  read_refused n e = rw e refl

  module _ (e : first_thirteen pack store ≡ none) where
    pub read_20 : (contents_of (store_of store)).book id ≡ none → Err (refusal_of (number 20)) ≡ known_in pack store id
    unfolding reply_refusal Questions.or_else Questions.ask
    read_20 b = rw (e, b) refl

    read_yes : is_some ((contents_of (store_of store)).book id) ≡ true → reply_refusal pack store id ≡ none
    unfolding reply_refusal Questions.or_else Questions.ask
    read_yes b = rw (e, b) refl

    pub read_not_yet : (worked_out pack store id ≡ none) × (is_some ((contents_of (store_of store)).book id) ≡ true) →
        Ok None ≡ known_in pack store id
    read_not_yet h = sym (ap₂ known (read_yes h.1) h.0)

    pub read_reply : (v : ℕ) → (worked_out pack store id ≡ some (yields v)) × (is_some ((contents_of (store_of store)).book id) ≡ true) →
        Ok (Some v) ≡ known_in pack store id
    read_reply v h = sym (ap₂ known (read_yes h.1) h.0)
