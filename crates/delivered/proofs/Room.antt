-- W-202 of exported calls: where the rows that a host was told are free, no turn of the request is answered 21.
use mathlib.Core.Bool.{true}
use mathlib.Core.List.{List, [], ◌∷◌, ◌++◌}
use mathlib.Core.Option.{Option, none, some}
use mathlib.Core.Path.{◌≡◌, refl, sym, ◌∙◌, ap, subst}
use Prim.Native.Nat.{ℕ, suc, ◌+◌, ◌*◌, ◌≤◌, ◌<◌}
use native.Mathlib.Omega.{arith}
use lib.ListN.{get_or}
use Rattle.words.proofs.Laws.{get_or_fields}
use Rattle.questions.specs.Questions.{number}
use Rattle.questions.proofs.Updates.{none_some}
use Rattle.questions.proofs.Questions.{or_else_none}
use Rattle.rules.specs.Routes.{by_rows, MostOf}
use Rattle.rules.specs.Room.{FindsRoom, NoOther}
use Rattle.rules.specs.Calls.{Call, Answer, arrival, turn, done, refused}
use Rattle.rules.specs.Plain.{Event, accepted}
use Rattle.contents.specs.Contents.{contents_of}
use Rattle.pack.specs.Meaning.{pack_of}
use Rattle.pack.specs.Refusal.{open_refusal}
use Rattle.store.specs.Layout.{parts_of, cap_of}
use Rattle.store.specs.Rows.{store_of}
use Rattle.store.proofs.Sound.{store_ok}
use Rattle.agents.specs.Answers.{answer_of}
use Rattle.meaning.specs.State.{state_of}
use Rattle.meaning.specs.Questions.{refusal_for}
use Rattle.meaning.specs.Questions as Meaning
use Rattle.meaning.proofs.Asked.{lent_store}
use Rattle.chain.specs.Room.{NeverFull}
use Rattle.chain.specs.Room as Chains
use Rattle.chain.proofs.Each.{met_none}
use Rattle.chain.proofs.Room.{room_is_enough}
use Rattle.worklist.specs.Bytes.{list_in}
use Rattle.answers.specs.Answers.{heard, judged, values_of}
use Rattle.answers.specs.Answers as Answers
use Rattle.host.specs.Told.{FiguresGiven}
use Rattle.host.specs.Exports.{lent_in, buffers_wrong, Served, Exported}
use Rattle.delivered.specs.Room.{ToldRows, RoomFor, Undisturbed, from_first, one_more, NeverTold21, ToldRoomIsEnough}
use Rattle.delivered.proofs.Lists.{wrong_unheard, zero_long, zero_yes, CameTo, unread, answered, came_to}
use Rattle.delivered.proofs.Demands.{same_heard}

-- ── A call to which the host heard an answer ──

module _ (pack store slots answer : List ℕ) (c : Call) (given : ℕ) (store' slots' answer' : List ℕ)
    (x : Exported pack store slots answer c given store' slots' answer') (a : Answer) (h : heard given answer' ≡ some a) where
  buffers_right : buffers_wrong answer slots ≡ none
  buffers_right = go (buffers_wrong answer slots) refl
    where
      go : (o : Option ℕ) → buffers_wrong answer slots ≡ o → buffers_wrong answer slots ≡ none
      go none q = q
      go (some n) q = none_some a (ap (λ m. heard m answer') (x.wrong n q).0 ∙ wrong_unheard answer slots n answer' q) h

  -- it was served, with that answer
  as_served : (s : Served pack store slots answer c given store' slots' answer') × (answer_of s.said ≡ a)
  as_served = let s = x.served buffers_right in (s, same_heard (answer_of s.said) a (sym s.read ∙ h))

-- ── The rows told are the figures ──

module _ (pack : List ℕ) (w : ℕ) (rows : ℕ → ℕ) (told : ToldRows pack w rows) where
  figures_given : FiguresGiven pack told.answer w told.given told.answer'
  figures_given =
      told.asked.told (zero_long 48 told.answer told.given (λ n e. (told.asked.short n e).0) told.accepts)

  opens : open_refusal pack w ≡ none
  opens = zero_yes (open_refusal pack w) (sym figures_given.given ∙ told.accepts)

  -- behind the three words of the answer and the turns
  behind_four : (p : ℕ) →
      get_or (values_of (judged (open_refusal pack w)) ++ figures_given.turns ∷ figures_given.rows) (suc (suc (suc (suc p)))) 0
      ≡ get_or figures_given.rows p 0
  unfolding judged values_of
  behind_four p = rw opens refl

  row_read : (p : ℕ) → p < 8 → rows p ≡ get_or figures_given.rows p 0
  row_read p l =
      told.read p l
      ∙ sym (get_or_fields 4 told.answer' 0 12 (suc (suc (suc (suc p)))) (16 + 4 * p) (omega arith) (omega arith))
      ∙ ap (λ (words : List ℕ). get_or words (suc (suc (suc (suc p)))) 0) figures_given.read
      ∙ behind_four p

  rows_most : (p : ℕ) → p < 8 → MostOf (by_rows p) (get_or (pack_of pack) w []) (rows p)
  rows_most p l =
      subst (MostOf (by_rows p) (get_or (pack_of pack) w [])) (sym (row_read p l)) ((figures_given.figures opens).of_rows p l)

-- ── Exported calls as calls on what the bytes mean ──

module _ (pack : List ℕ) (id : ℕ) (store₀ slots₀ list₀ : List ℕ) where
  abbrev Linked : (store slots list : List ℕ) → Type 0
  Linked store slots list =
      (events : List Event) × Chains.Undisturbed pack id (lent_in store₀ slots₀ list₀) events (lent_in store slots list)

  call_linked : (store slots list : List ℕ) (c : Call) (heard : Option Answer) (store' slots' list' : List ℕ) → Linked store slots list →
      CameTo pack store slots list c heard store' slots' list' →
      ((said : Answer) → heard ≡ some said → accepted said ≡ true → NoOther (pack_of pack) id (state_of (lent_in store slots list)) c) →
      Linked store' slots' list'
  call_linked store slots list c heard store' slots' list' h (unread e p q r) alone = rw (p, q, r) h
  call_linked store slots list c heard store' slots' list' h (answered a e x p q) alone = (
    record { made = c; answer = answer_of a } ∷ h.0,
    Chains.one_more h.0 (lent_in store slots list) c a (lent_in store' slots' list') h.1 x (alone (answer_of a) e),
  )

  as_linked : (store slots list : List ℕ) → Undisturbed pack id store₀ slots₀ list₀ store slots list → Linked store slots list
  as_linked _ _ _ from_first = ([], Chains.from_first)
  as_linked _ _ _ (one_more store slots list c heard store' slots' list' u x alone) =
      call_linked store slots list c heard store' slots' list' (as_linked store slots list u)
      (came_to pack store slots list c heard store' slots' list' x) alone

-- ── The arrival ──

module _ (pack store slots answer : List ℕ) (slot id w : ℕ) (args : List ℕ) (given : ℕ) (store₁ slots₁ answer₁ : List ℕ) (rows : ℕ → ℕ)
    (told : ToldRows pack w rows) (room : RoomFor store id rows)
    (x : Exported pack store slots answer (arrival slot id w args) given store₁ slots₁ answer₁) (zero : given ≡ 0)
    (list : List ℕ) where
  heard_done : heard given answer₁ ≡ some done
  heard_done = rw zero (unfold Answers.heard in refl)

  served : (s : Served pack store slots answer (arrival slot id w args) given store₁ slots₁ answer₁) × (answer_of s.said ≡ done)
  served = as_served pack store slots answer (arrival slot id w args) given store₁ slots₁ answer₁ x done heard_done

  accepts : accepted (answer_of served.0.said) ≡ true
  accepts = ap accepted served.1

  -- by 9
  parts_high : parts_of store ≤ 8
  unfolding refusal_for Meaning.lent_for
  parts_high =
      let yes =
      met_none pack (lent_in store slots list) (arrival slot id w args) served.0.said (lent_in store₁ slots₁ list)
      (served.0.carried (list_in list)) accepts in
      (store_ok store (lent_store pack (lent_in store slots list) (or_else_none _ _ yes).0)).0.formed.shape.parts_high

  -- the rows that a partition can have are C
  room_is : (contents_of (store_of store)).room ≡ cap_of store
  unfolding contents_of
  room_is = refl

  finds : FindsRoom (pack_of pack) (parts_of store) (state_of (lent_in store slots list)).store id (record { workflow = w; arguments = args })
  unfolding state_of
  finds =
      record {
        new = room.new;
        no_log = room.no_log;
        free = λ p l. (rows p, rows_most pack w rows told p (omega (arith, l, parts_high)), omega (arith, room.free p l, room_is));
      }

  never_full : NeverFull pack id slot (lent_in store₁ slots₁ list)
  never_full =
      room_is_enough pack (lent_in store slots list) slot id w args served.0.said (lent_in store₁ slots₁ list) finds
      (served.0.carried (list_in list)) accepts

  never_told_21 : NeverTold21 pack id slot store₁ slots₁ list
  never_told_21 =
      record {
        starts = never_full.starts;
        no_21 =
            λ store₂ slots₂ list₂ u k its answer₂ given₂ store₃ slots₃ answer₃ y h.
            let links = as_linked pack id store₁ slots₁ list store₂ slots₂ list₂ u in
            let s = as_served pack store₂ slots₂ answer₂ (turn k) given₂ store₃ slots₃ answer₃ y (refused (number 21)) h in
            never_full.no_21 links.0 (lent_in store₂ slots₂ list₂) links.1 k its s.0.said (lent_in store₃ slots₃ list₂)
            (s.0.carried (list_in list₂)) s.1;
        goes_on =
            λ store₂ slots₂ list₂ u k its below yes answer₂ given₂ store₃ slots₃ answer₃ y right.
            let links = as_linked pack id store₁ slots₁ list store₂ slots₂ list₂ u in
            let s = y.served right in (
              answer_of s.said,
              s.read,
              never_full.goes_on links.0 (lent_in store₂ slots₂ list₂) links.1 k its below yes s.said (lent_in store₃ slots₃ list₂)
                  (s.carried (list_in list₂)),
            );
      }

-- Where the rows told are free, no turn of an agent of the request is answered 21.
pub told_room_is_enough : ToldRoomIsEnough
told_room_is_enough = never_told_21
