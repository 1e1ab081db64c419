-- In a list of calls questions 9 to 12 and 14 never say no, nor does 13 of the book.
use mathlib.Core.Bool.{Bool, true, false}
use mathlib.Core.List.{List, [], ◌∷◌}
use mathlib.Core.Logic.{◌⊎◌, inl, inr, ⊎_elim}
use mathlib.Core.Option.{Option, none, some}
use mathlib.Core.Path.{◌≡◌, refl, sym, ◌∙◌, ap}
use Prim.Native.Nat.{ℕ, zero, suc, ◌<◌, ◌^◌}
use native.Mathlib.Omega.{arith}
use borrow.Author.Tests.{eq-eqb, eqb-true, lt-ltb}
use lib.Dec.{eqb}
use lib.ListN.{length, get_or}
use Rattle.contents.specs.Contents.{contents_of, value_in, arguments_of, request_of, book_of, book_rows}
use Rattle.contents.proofs.Book.{book_row_lem}
use Rattle.keys.specs.Keys.{book_key, is_book_key, booked_id, book_row, is_workflow_key}
use Rattle.keys.proofs.Keys.{book_again}
use Rattle.questions.specs.Basics.{each_from}
use Rattle.questions.specs.Questions.{No, number}
use Rattle.questions.specs.Questions as Questions
use Rattle.rules.specs.Store.{Request}
use Rattle.rules.specs.Calls as Rules
use Rattle.rules.specs.Plain.{Event}
use Rattle.rules.proofs.Theorem.{sound_agents, booked_below_lem}
use Rattle.questions.proofs.Tests.{and_left, and_right}
use Rattle.questions.proofs.Updates.{none_some}
use Rattle.pack.specs.Layout.{count}
use Rattle.pack.specs.Refusal.{pack_refusal}
use Rattle.pack.specs.Meaning.{pack_of}
use Rattle.pack.proofs.Laws.{length_pack, accepted_checked}
use Rattle.store.specs.Layout.{parts_of}
use Rattle.store.specs.Rows.{Row, lookup, keys_in}
use Rattle.store.specs.Questions.{rising}
use Rattle.store.proofs.Sound.{store_ok, rows_rise}
use Rattle.agents.specs.declared.Agent.{Agent}
use Rattle.agents.specs.Slots.{agent_at, agent_of, record_of, records_of, slots_of, is_blank}
use Rattle.agents.proofs.Slots.{record_at, record_back, records_none}
use Rattle.meaning.specs.State.{state_of, Lent}
use Rattle.meaning.specs.Questions.{books_below, booked_right, is_sound, slot_right, question13, question14, lent_refusal, refusal_for}
use Rattle.meaning.specs.Carried.{Carried, ruled}
use Rattle.questions.proofs.Each.{each_all}
use Rattle.meaning.proofs.Sense.{sound_passes}
use Rattle.chain.specs.Chain.{Chain, begins, goes_on}
use Rattle.chain.specs.Demands.{NeverNo}
use Rattle.chain.proofs.Sums.{tail_rises, head_alone}
use Rattle.chain.proofs.Mirror.{Mirror, mirror}
use Rattle.chain.proofs.Theorem.{sized}

-- the records of a chain are those of some slots
pub record Shaped (records : List Agent) : Type 0 where
  pub slots : ℕ → Option Rules.Agent
  pub are : records ≡ records_of slots

module _ (pack : List ℕ) (P C : ℕ) where
  shaped_next : (lent : Lent) (c : Rules.Call) (answer : _) (lent' : Lent) →
      Carried pack lent c answer lent' → Shaped lent.records → Shaped lent'.records
  shaped_next lent c answer lent' h s = go (refusal_for pack lent c) refl
    where
      kept : lent' ≡ lent → Shaped lent'.records
      kept k = record { slots = s.slots; are = ap (λ (x : Lent). x.records) k ∙ s.are }

      go : (o : Option No) → refusal_for pack lent c ≡ o → Shaped lent'.records
      go none e =
          ⊎_elim (λ w. record { slots = (ruled pack lent c).state.slots; are = w }) (λ w. record { slots = s.slots; are = w ∙ s.are })
          (h.carried e).1.whole
      go (some n) e = kept (h.refused n e).1

  pub shaped : (events : List Event) (lent : Lent) → Chain pack P C events lent → Shaped lent.records
  shaped events lent (begins buffer store₀ h) = record { slots = λ slot. none; are = sym records_none }
  shaped events lent (goes_on events₀ lent₀ c answer lent' chain h) =
      shaped_next lent₀ c answer lent' h (shaped events₀ lent₀ chain)

  module _ (events : List Event) (lent : Lent) (chain : Chain pack P C events lent) (e : pack_refusal pack ≡ none) where
    abbrev m : Mirror pack C events lent
    m = mirror pack P C events lent chain

    abbrev f : ℕ → Option Rules.Agent
    f = (shaped events lent chain).slots

    at_slot : (i : ℕ) → i < 8 → agent_at lent.records i ≡ record_of (f i)
    at_slot i h = ap (λ (l : List Agent). agent_at l i) (shaped events lent chain).are ∙ record_at f i h

    slot_passes : (i : ℕ) → i < 8 → (o : Option Rules.Agent) → f i ≡ o → slot_right pack lent.store (record_of o) ≡ true
    unfolding slot_right is_blank record_of each_from slots_of state_of contents_of
    slot_passes i h none p = refl
    slot_passes i h (some a) p =
        let held_is : slots_of lent.records i ≡ some a = ap agent_of (at_slot i h ∙ ap record_of p) ∙ record_back (some a) in
        let there : (Rules.state_after (pack_of pack) C m.calls).slots i ≡ some a =
        ap (λ (s : Rules.State). s.slots i) (sym m.state) ∙ held_is in
        let sound = sound_agents (pack_of pack) (accepted_checked pack e) C m.calls i a there in
        let q = sound.request in
        let w : q.workflow < count pack =
        omega (arith, booked_below_lem (pack_of pack) C m.calls a.id q sound.booked, length_pack pack) in
        let b : book_of (value_in (book_rows lent.store)) a.id ≡ some q =
        ap (λ (s : Rules.State). s.store.book a.id) m.state ∙ sound.booked in
        ap (is_sound pack (record_of (some a))) b
        ∙ sound_passes pack e q.workflow w (record_of (some a)) q refl sound.below sound.side sound.steps

    pub passes_14 : question14 pack lent.store lent.records ≡ true
    unfolding question14
    passes_14 =
        each_all (λ i. slot_right pack lent.store (agent_at lent.records i)) 8 0
        (λ i l h. let h' : i < 8 = omega arith in ap (slot_right pack lent.store) (at_slot i h') ∙ slot_passes i h' (f i) refl)

-- ── The book, of which 13 asks too ──

-- of rows by rising key each is found by its key
row_found : (rows : List Row) → rising (keys_in rows) ≡ true → (i : ℕ) → i < length rows →
    lookup (get_or rows i (0, 0)).0 rows ≡ some (get_or rows i (0, 0)).1
unfolding lookup
row_found [] u i h = absurd (omega arith)
row_found (r ∷ rows) u zero h = rw (eq-eqb r.0 r.0 refl) refl
row_found (r ∷ rows) u (suc i) h = go (eqb r.0 key) refl (row_found rows (tail_rises r rows u) i (omega arith))
  where
    key : ℕ
    key = (get_or rows i (0, 0)).0

    go : (b : Bool) → eqb r.0 key ≡ b → lookup key rows ≡ some (get_or rows i (0, 0)).1 →
        lookup key (r ∷ rows) ≡ some (get_or rows i (0, 0)).1
    go true q rec =
        none_some (get_or rows i (0, 0)).1 (ap (λ k. lookup k rows) (sym (eqb-true r.0 key q)) ∙ head_alone r rows u) rec
    go false q rec = rw q rec

module _ (pack : List ℕ) (P C : ℕ) (events : List Event) (lent : Lent) (chain : Chain pack P C events lent) where
  abbrev rows : List Row
  rows = book_rows lent.store

  rows_rising : rising (keys_in rows) ≡ true
  rows_rising =
      rows_rise lent.store (store_ok lent.store (sized pack P C events lent chain).passes).0 (parts_of lent.store) (omega arith)

  -- a row 0 of a request has a workflow below m
  workflow_passes : (id w : ℕ) → id < 2 ^ 32 → lookup (book_key id 0) rows ≡ some w → w < count pack
  unfolding state_of contents_of request_of
  workflow_passes id w h e =
      let t = mirror pack P C events lent chain in
      let q : Request = record { workflow = w; arguments = arguments_of (value_in rows) id } in
      let b : book_of (value_in rows) id ≡ some q = book_row_lem rows id h ∙ ap (λ o. request_of o (arguments_of (value_in rows) id)) e in
      omega (
        arith,
        booked_below_lem (pack_of pack) C t.calls id q (ap (λ (s : Rules.State). s.store.book id) (sym t.state) ∙ b),
        length_pack pack,
      )

  row_passes : (i : ℕ) → i < length rows → books_below (count pack) (get_or rows i (0, 0)) ≡ true
  unfolding books_below is_workflow_key
  row_passes i h = go (is_workflow_key key) refl
    where
      key : ℕ
      key = (get_or rows i (0, 0)).0

      go : (b : Bool) → is_workflow_key key ≡ b → books_below (count pack) (get_or rows i (0, 0)) ≡ true
      go false q = rw q refl
      go true q =
          let again = book_again key (and_left (is_book_key key) _ q) in
          let zeroth = eqb-true (book_row key) 0 (and_right (is_book_key key) _ q) in
          let is : book_key (booked_id key) 0 ≡ key = ap (book_key (booked_id key)) (sym zeroth) ∙ again.2 in
          let w = workflow_passes (booked_id key) (get_or rows i (0, 0)).1 again.0
          (ap (λ k. lookup k rows) is ∙ row_found rows rows_rising i h) in
          rw q (lt-ltb (get_or rows i (0, 0)).1 (count pack) w)

  -- so 13 says no only of a BEGIN's partition
  pub book_passes : booked_right pack lent.store ≡ true
  unfolding booked_right
  book_passes =
      each_all (λ i. books_below (count pack) (get_or rows i (0, 0))) (length rows) 0 (λ i l h. row_passes i (omega arith))

-- The first no of 1 to 14, if there is one, is the pack's or question 13.
pub never_no : (pack : List ℕ) (P C : ℕ) → NeverNo pack P C
unfolding lent_refusal Questions.or_else Questions.ask
never_no pack P C events lent chain n e = go (pack_refusal pack) refl (question13 pack lent.store) refl
  where
    go : (o : Option No) → pack_refusal pack ≡ o → (b : Bool) → question13 pack lent.store ≡ b →
        (pack_refusal pack ≡ some n) ⊎ (n ≡ number 13)
    go (some n') p b q = inl (let z : some n' ≡ some n = rw p at e in p ∙ z)
    go none p false q = inr (let z : some (number 13) ≡ some n = rw (p, (sized pack P C events lent chain).passes, q) at e in cc)
    go none p true q =
        none_some n refl (let z : none
        ≡ some n = rw (p, (sized pack P C events lent chain).passes, q, passes_14 pack P C events lent chain p) at e in z)
