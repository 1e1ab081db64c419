-- Behind question 17: what booking comes to is what the rules say of the arrival.
use mathlib.Core.Bool.{true}
use mathlib.Core.List.{List}
use mathlib.Core.Option.{Option, none, some}
use mathlib.Core.Path.{◌≡◌, refl, sym, ◌∙◌, ap, subst}
use Prim.Native.Nat.{ℕ}
use Rattle.meaning.specs.State.{Lent}
use Rattle.contents.specs.Contents.{contents_of}
use Rattle.questions.specs.Questions as Questions
use Rattle.questions.specs.Verdicts.{Verdict}
use Rattle.std.specs.Prelude.{Err}
use Rattle.rules.specs.Store.{Request, Store}
use Rattle.rules.specs.Calls.{gives, with_slot, start, with_store}
use Rattle.rules.specs.Calls as Calls
use Rattle.questions.proofs.Questions.{ask_none}
use Rattle.store.specs.Rows.{store_of}
use Rattle.store.specs.Sound as Sounds
use Rattle.store.specs.Questions as StoreQuestions
use Rattle.questions.specs.declared.Refusal.{Refusal}
use Rattle.agents.proofs.Answers.{refused_some}
use Rattle.meaning.specs.Questions.{refusal_for}
use Rattle.meaning.specs.Carried.{Carried}
use Rattle.meaning.proofs.Carry.{is_refused}
use Rattle.booking.specs.Booking.{book_refusal, ensured, Booked}
use Rattle.booking.proofs.Booking.{same_asked}

-- The agent that an arrival starts has the arguments given, new or known.
pub arrives : (s : Calls.State) (slot id : ℕ) (q : Request) (o : Option Request) → Calls.as_booked q o ≡ true →
    Calls.arrive s slot id q o ≡ gives Calls.done (with_slot (with_store s (ensured s.store id q o)) slot
    (some (record { id = id; course = start q; step = 0 })))
unfolding Calls.arrive ensured
arrives s slot id q none e = refl
arrives s slot id q (some known) e =
    ap (λ (x : Request). gives Calls.done (with_slot s slot (some (record { id = id; course = start x; step = 0 }))))
    (sym (same_asked q known e))

-- behind questions 18 and 19
pub as_booked_lem : (s : Store) (id : ℕ) (q : Request) → book_refusal s id q ≡ none → Calls.as_booked q (s.book id) ≡ true
unfolding book_refusal
as_booked_lem s id q e = (ask_none _ _ _ e).0

-- refused by 18 or 19
pub is_unbooked : (pack : List ℕ) (lent : Lent) (store' : List ℕ) (c : Calls.Call) (id : ℕ) (q : Request) (v : Verdict) →
    Booked lent.store store' id q v → refusal_for pack lent c ≡ book_refusal (contents_of (store_of lent.store)) id q →
    (n : Refusal) → v ≡ Err n → Carried pack lent c (Err n) (record { store = store'; records = lent.records; list = lent.list })
is_unbooked pack lent store' c id q v b p n u =
    let f = refused_some v _ n b.answer u in
    subst (λ (x : List ℕ). Carried pack lent c (Err n) (record { store = x; records = lent.records; list = lent.list }))
    (sym (b.kept (Questions.no n.question n.workflow n.instruction) f))
    (is_refused pack lent c n (p ∙ f))
