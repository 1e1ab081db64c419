-- How a call's promise is met: refused by one of the questions, or carried out.
use mathlib.Core.Bool.{Bool, true, false}
use mathlib.Core.List.{List}
use mathlib.Core.Logic.{inl, inr}
use mathlib.Core.Option.{Option, none, some, some-injective}
use mathlib.Core.Path.{◌≡◌, refl, sym, ◌∙◌, ap, subst}
use Prim.Native.Nat.{ℕ, ◌<◌}
use native.Mathlib.Omega.{arith}
use borrow.Author.Tests.{eqb-true}
use lib.Dec.{eqb}
use lib.ListN.{length, get_or, set, replicate, get_or-replicate}
use lib.Seq.{ext_get_or}
use mir.Val.{Val}
use denote.Laws.{Is}
use denote.Array.{Array}
use Rattle.meaning.proofs.Tests.{slot_free}
use Rattle.contents.specs.Wrote.{Wrote}
use Rattle.contents.specs.Contents.{contents_of}
use Rattle.questions.specs.Basics.{update, each}
use Rattle.questions.specs.Questions.{No, no, number, ask}
use Rattle.questions.specs.Verdicts.{verdict_of}
use Rattle.questions.proofs.Chains.{passed_on}
use Rattle.questions.specs.Questions as Questions
use Rattle.rules.specs.Calls.{Call, Outcome, gives, with_slot, refusal, with_store, with_work}
use Rattle.rules.specs.Worklist.{restarted}
use Rattle.rules.specs.Worklist as Work
use Rattle.rules.specs.Calls as Calls
use Rattle.rules.specs.Store as Rules
use Rattle.questions.proofs.Updates.{none_some, update_other}
use Rattle.questions.proofs.Tests.{and_left, and_right}
use Rattle.questions.proofs.Each.{each_at}
use Rattle.pack.specs.Meaning.{pack_of}
use Rattle.questions.specs.Verdicts.{Verdict}
use Rattle.questions.specs.declared.Refusal.{Refusal}
use Rattle.store.specs.Rows.{store_of}
use Rattle.store.specs.Questions.{order_refusal}
use Rattle.store.specs.Ordered.{Ordered}
use Rattle.agents.proofs.Answers.{accepted_none, refused_some, said_no}
use Rattle.contents.proofs.Equal.{only_bytes, ordered_contents, wrote_nothing}
use Rattle.agents.specs.declared.Agent.{Agent}
use Rattle.agents.specs.Answers.{Answer}
use Rattle.std.specs.Prelude.{Ok, Err, IsErrAnd}
use Rattle.agents.specs.declared.Accepted.TheVariants.{Done}
use Rattle.agents.specs.Slots.{no_agent, agent_at, slots_of, record_of, records_of, Whole, Tidy, is_blank}
use Rattle.agents.specs.Answers.{answer_of}
use Rattle.agents.proofs.Slots.{records_back, records_with, slots_back, slots_past, slots_none, records_none}
use Rattle.agents.proofs.Typed.{eight_records, eight_registers}
use Rattle.agents.specs.contracts.Agent as T
use Rattle.worklist.specs.declared.Worklist.{Worklist}
use Rattle.worklist.specs.Worklist.{worklist_of, Kept}
use Rattle.worklist.proofs.Kept.{kept_same}
use Rattle.meaning.specs.State.{state_of, Lent}
use Rattle.meaning.specs.Questions.{slot_right, question14, lent_for, refusal_for}
use Rattle.meaning.specs.Carried.{Left, Carried, ruled}

module _ (pack : List ℕ) (lent : Lent) (c : Call) where
  -- a no, with everything as it was
  pub carried_refused : (n : No) (answer : Answer) → refusal_for pack lent c ≡ some n → answer_of answer ≡ Calls.refused n →
      Carried pack lent c answer lent
  carried_refused n answer e a =
      record {
        refused =
            λ n' e'. (a ∙ ap Calls.refused (some-injective n n' (sym e ∙ e')), refl);
        carried = λ e'. none_some n e' e;
      }

  -- carried out
  pub carried_out : (answer : Answer) (lent' : Lent) → refusal_for pack lent c ≡ none →
      answer_of answer ≡ (ruled pack lent c).answer → Left lent lent' (ruled pack lent c).state →
      Carried pack lent c answer lent'
  carried_out answer lent' e a l = record { refused = λ n e'. none_some n e e'; carried = λ e'. (a, l) }

  -- the first no of all, by that of 1 to 14 and that of the later ones
  pub stopped_by : (n : No) → lent_for c pack lent ≡ some n → refusal_for pack lent c ≡ some n
  unfolding refusal_for Questions.or_else
  stopped_by n e = rw e refl

  pub refused_by : (o : Option No) → lent_for c pack lent ≡ none → refusal (pack_of pack) (state_of lent) c ≡ o →
      refusal_for pack lent c ≡ o
  unfolding refusal_for Questions.or_else
  refused_by o e p = rw (e, p) refl

-- ── tidy records ──

-- Question 14 leaves tidy records. That there are eight, with eight registers each, is in their type.
zero_registers : (l : List ℕ) → length l ≡ 8 → each 8 (λ i. eqb (get_or l i 0) 0) ≡ true → l ≡ replicate 8 0
zero_registers l e z =
    ext_get_or 0 l (replicate 8 0) e
    (λ i h. eqb-true (get_or l i 0) 0 (each_at (λ i. eqb (get_or l i 0) 0) 8 0 z i (omega arith) (omega arith))
    ∙ sym (get_or-replicate {A = ℕ} 8 i 0 0 (omega arith)))

blank_none : (a : Agent) → length a.registers ≡ 8 → a.in_use ≡ false → is_blank a ≡ true → a ≡ no_agent
unfolding is_blank
blank_none a n u e =
    let e₁ = and_right (eqb a.id 0) _ e in
    let e₂ = and_right (eqb a.position 0) _ e₁ in
    let i = eqb-true a.id 0 (and_left (eqb a.id 0) _ e) in
    let p = eqb-true a.position 0 (and_left (eqb a.position 0) _ e₁) in
    let s = eqb-true a.step 0 (and_left (eqb a.step 0) _ e₂) in
    let r = zero_registers a.registers n (and_right (eqb a.step 0) _ e₂) in
    λ j. record { in_use = u j; id = i j; position = p j; step = s j; registers = r j }

pub tidy : (pack store : List ℕ) (records : List Agent) → length records ≡ 8 →
    ((slot : ℕ) → slot < 8 → length (agent_at records slot).registers ≡ 8) →
    question14 pack store records ≡ true → Tidy records
unfolding question14
tidy pack store records n w e = record { eight = n; whole = λ slot h. go slot h (agent_at records slot).in_use refl }
  where
    go : (slot : ℕ) → slot < 8 → (b : Bool) → (agent_at records slot).in_use ≡ b → Whole (agent_at records slot)
    go slot h true u = inl u
    go slot h false u =
        inr (blank_none (agent_at records slot) (w slot h) u
        (sym (slot_free pack store (agent_at records slot) u)
        ∙ each_at (λ i. slot_right pack store (agent_at records i)) 8 0 e slot (omega arith) (omega arith)))

-- ── another thing in one slot ──

module _ (records : List Agent) (t : Tidy records) (slot : ℕ) (h : slot < 8) (o : Option Calls.Agent) where
  pub set_records : set records slot (record_of o) ≡ records_of (update (slots_of records) slot o)
  set_records = ap (λ (l : List Agent). set l slot (record_of o)) (sym (records_back records t))
      ∙ sym (records_with (slots_of records) slot o h)

  pub set_slots : slots_of (set records slot (record_of o)) ≡ update (slots_of records) slot o
  set_slots =
      ap slots_of set_records
      ∙ slots_back (update (slots_of records) slot o)
      (λ i l. update_other (slots_of records) slot o i (λ q. omega arith) ∙ slots_past records i (omega (arith, t.eight)))

-- records as a call is lent them
pub tidy_typed : (pack : List ℕ) (lent : Lent) (vs : List Val) → Is (Array T.the_row 8) lent.records vs →
    question14 pack lent.store lent.records ≡ true → Tidy lent.records
tidy_typed pack lent vs is e =
    tidy pack lent.store lent.records (eight_records lent.records vs is) (eight_registers lent.records vs is) e

-- ── an outcome in hand ──

-- refused by the first no, with everything as it was
pub is_refused : (pack : List ℕ) (lent : Lent) (c : Call) (r : Refusal) →
    refusal_for pack lent c ≡ some (no r.question r.workflow r.instruction) → Carried pack lent c (Err r) lent
unfolding answer_of
is_refused pack lent c r e = carried_refused pack lent c (no r.question r.workflow r.instruction) (Err r) e refl

-- the same where `?` hands the refusal on
pub stops : (pack : List ℕ) (lent : Lent) (c : Call) (r : Answer) (n : Refusal) → IsErrAnd r (λ e. e ≡ n) →
    refusal_for pack lent c ≡ some (no n.question n.workflow n.instruction) → Carried pack lent c r lent
stops pack lent c r n h e =
    subst (λ (x : Answer). Carried pack lent c x lent) (sym (passed_on r n h)) (is_refused pack lent c n e)

-- and where one question is asked
pub stops_at : (pack : List ℕ) (lent : Lent) (c : Call) (q : ℕ) (b : Bool) (v : Verdict) (r : Answer) (n : Refusal) →
    v ≡ verdict_of (ask (number q) b none) → v ≡ Err n → IsErrAnd r (λ e. e ≡ n) →
    (b ≡ false → refusal_for pack lent c ≡ some (number q)) → Carried pack lent c r lent
stops_at pack lent c q b v r n e f h k =
    let s = said_no q b _ (refused_some v (ask (number q) b none) n e f) in stops pack lent c r n h (k s.0 ∙ ap some s.1)

-- carried out, with another thing in one slot
module _ (pack : List ℕ) (lent : Lent) (store' : List ℕ) (records' : List Agent) (c : Call) (answer : Answer) (slot : ℕ)
    (o : Option Calls.Agent) (st : Rules.Store) (a : Calls.Answer) where
  abbrev lent' : Lent
  lent' = record { store = store'; records = records'; list = lent.list }

  pub is_done : Tidy lent.records → slot < 8 → refusal_for pack lent c ≡ none →
      ruled pack lent c ≡ gives a (with_slot (with_store (state_of lent) st) slot o) → Wrote lent.store store' st →
      answer_of answer ≡ a → records' ≡ set lent.records slot (record_of o) → Carried pack lent c answer lent'
  unfolding state_of
  is_done t h e q w u v =
      carried_out pack lent c answer lent' e (u ∙ ap (λ (x : Outcome). x.answer) (sym q))
      (subst (Left lent lent') (ap (λ (x : Outcome). x.state) (sym q))
      (record {
        written = w;
        slots = ap slots_of v ∙ set_slots lent.records t slot h o;
        whole = inl (v ∙ set_records lent.records t slot h o);
        list = kept_same lent.list;
      }))

-- restart
pub is_restart : (pack : List ℕ) (lent : Lent) (list' : Worklist) → Kept lent.list list' (restarted (worklist_of lent.list)) →
    Carried pack lent Calls.restart (Ok Done) (record { store = lent.store; records = replicate 8 no_agent; list = list' })
unfolding answer_of lent_for Calls.refusal Calls.rule state_of
is_restart pack lent list' k =
    carried_out pack lent Calls.restart (Ok Done) (record { store = lent.store; records = replicate 8 no_agent; list = list' })
    (refused_by pack lent Calls.restart none refl refl) refl
    (record { written = wrote_nothing lent.store; slots = slots_none; whole = inl (sym records_none); list = k })

-- add, take, done: the worklist alone is another
module _ (pack : List ℕ) (lent : Lent) (c : Call) (answer : Answer) (list' : Worklist) (work : Work.Worklist) (a : Calls.Answer) where
  pub is_listed : refusal_for pack lent c ≡ none → ruled pack lent c ≡ gives a (with_work (state_of lent) work) → answer_of answer ≡ a →
      Kept lent.list list' work → Carried pack lent c answer (record { store = lent.store; records = lent.records; list = list' })
  unfolding state_of
  is_listed e q u k =
      carried_out pack lent c answer (record { store = lent.store; records = lent.records; list = list' }) e
      (u ∙ ap (λ (x : Outcome). x.answer) (sym q))
      (subst (Left lent (record { store = lent.store; records = lent.records; list = list' })) (ap (λ (x : Outcome). x.state) (sym q))
      (record { written = wrote_nothing lent.store; slots = refl; whole = inr refl; list = k }))

-- retire: the store alone is another
module _ (pack : List ℕ) (lent : Lent) (c : Call) (answer : Answer) (store' : List ℕ) (st : Rules.Store) (a : Calls.Answer) where
  pub is_stored : refusal_for pack lent c ≡ none → ruled pack lent c ≡ gives a (with_store (state_of lent) st) → answer_of answer ≡ a →
      Wrote lent.store store' st → Carried pack lent c answer (record { store = store'; records = lent.records; list = lent.list })
  unfolding state_of
  is_stored e q u w =
      carried_out pack lent c answer (record { store = store'; records = lent.records; list = lent.list }) e
      (u ∙ ap (λ (x : Outcome). x.answer) (sym q))
      (subst (Left lent (record { store = store'; records = lent.records; list = lent.list })) (ap (λ (x : Outcome). x.state) (sym q))
      (record { written = w; slots = refl; whole = inr refl; list = kept_same lent.list }))

-- order
module _ (pack : List ℕ) (lent : Lent) (store' : List ℕ) (r : Verdict) (o : Ordered lent.store store' r) where
  abbrev left : Lent
  left = record { store = store'; records = lent.records; list = lent.list }

  pub order_refused : (n : Refusal) → r ≡ Err n → Carried pack lent Calls.order (Err n) left
  unfolding lent_for
  order_refused n e =
      subst (λ (x : List ℕ). Carried pack lent Calls.order (Err n)
      (record { store = x; records = lent.records; list = lent.list }))
      (sym (o.kept (λ a. never a)))
      (is_refused pack lent Calls.order n
      (stopped_by pack lent Calls.order (no n.question n.workflow n.instruction)
      (refused_some r (order_refusal lent.store) n o.answer e)))
    where
      never : r ≡ Ok tt → ⊥
      never a = let z : ◌≡◌ {A = ℕ} 0 1 = cc in omega arith

  pub order_done : r ≡ Ok tt → Carried pack lent Calls.order (Ok Done) left
  unfolding answer_of lent_for Calls.refusal Calls.rule state_of
  order_done e =
      let m = o.made e in
      carried_out pack lent Calls.order (Ok Done) left
      (refused_by pack lent Calls.order none (accepted_none r (order_refusal lent.store) o.answer e) refl) refl
      (record {
        written =
            record {
              parts = m.parts;
              cap = m.cap;
              sound = λ s. m.passes;
              holds = ordered_contents lent.store store' m;
              only =
                  only_bytes lent.store store' (contents_of (store_of lent.store)) m.parts (ordered_contents lent.store store' m);
              bytes = λ s h. o.unchanged s;
            };
        slots = refl;
        whole = inr refl;
        list = kept_same lent.list;
      })
