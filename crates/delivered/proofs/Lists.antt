-- A list of exported calls on bytes is a list of calls on what the bytes mean.
use mathlib.Core.Bool.{Bool, true, false}
use mathlib.Core.List.{List, [], ◌++◌}
use mathlib.Core.Logic.{inl, inr}
use mathlib.Core.Option.{Option, none, some, get_or}
use mathlib.Core.Path.{◌≡◌, refl, sym, ◌∙◌, ap, subst}
use Prim.Native.Nat.{ℕ, ◌+◌, ◌≤◌}
use native.Mathlib.Omega.{arith}
use lib.Dec.{eqb, leb}
use lib.ListN.{length, replicate, length-append}
use Rattle.words.specs.Words.{le}
use borrow.Author.Tests.{ne_eqb, eqb-true, lt-leb}
use Rattle.questions.specs.Basics.{if◌then◌otherwise◌}
use Rattle.questions.specs.Questions.{No}
use Rattle.questions.proofs.Updates.{none_some}
use Rattle.questions.specs.Verdicts.{verdict_of}
use Rattle.std.specs.Prelude.{Ok}
use Rattle.rules.specs.Calls.{Call, Answer, restart, order}
use Rattle.rules.specs.Calls as Calls
use Rattle.rules.specs.Plain.{Event}
use Rattle.agents.specs.Answers.{Answer as Said}
use Rattle.std.specs.Prelude.{Ok}
use Rattle.agents.specs.declared.Accepted.TheVariants.{Done}
use Rattle.agents.specs.Answers.{answer_of}
use Rattle.agents.specs.Answers as Agents
use Rattle.store.specs.Questions.{create_refusal}
use Rattle.store.specs.Created.{Created}
use Rattle.meaning.specs.Carried.{Carried}
use Rattle.chain.specs.Chain.{Chain, begins, goes_on, ChainFrom, from_here, on_from}
use Rattle.slots.specs.Records.{slots_in}
use Rattle.slots.proofs.Records.{all_empty, length_records}
use Rattle.worklist.specs.Worklist.{no_worklist}
use Rattle.worklist.specs.Bytes.{list_in}
use Rattle.worklist.specs.Bytes as Bytes
use Rattle.worklist.proofs.Bytes.{length_list}
use Rattle.answers.specs.Answers.{heard, judged, number_of, slots_after, list_after}
use Rattle.answers.specs.Answers as Answers
use Rattle.host.specs.Told.{answer_short, Made}
use Rattle.host.specs.Exports.{lent_in, buffers_wrong, list_wrong, Served, Exported, ListServed, ListExported, StoreExported}
use Rattle.host.specs.Exports.{Restarted, PutInOrder}
use Rattle.delivered.specs.Delivered.{and_then, OtherLent, HostCall, Delivered, DeliveredFrom}
use Rattle.delivered.specs.Delivered as Lists

-- ---- a wrong buffer

-- a number that is no answer
unheard_by : (m n : ℕ) (words : List ℕ) → some m ≡ some n → heard m words ≡ none → heard n words ≡ none
unheard_by m n words e h = ap (λ o. heard (get_or o 0) words) (sym e) ∙ h

-- by whether the answer buffer is long enough, the slots' buffer of the right length, and the list's long enough
abbrev wrong_by : Bool → Bool → Option ℕ
wrong_by long right = if◌then◌otherwise◌ long (if◌then◌otherwise◌ right none (some 101)) (some 100)

abbrev list_wrong_by : Bool → Bool → Bool → Option ℕ
list_wrong_by long right listed =
    if◌then◌otherwise◌ long (if◌then◌otherwise◌ right (if◌then◌otherwise◌ listed none (some 102)) (some 101)) (some 100)

-- its number is the library's own, 100 or 101, which is no answer
pub wrong_unheard : (answer slots : List ℕ) (n : ℕ) (words : List ℕ) → buffers_wrong answer slots ≡ some n → heard n words ≡ none
wrong_unheard answer slots n words e = go (leb 12 (length answer)) (eqb (length slots) 384) (unfold buffers_wrong in e)
  where
    go : (a b : Bool) → wrong_by a b ≡ some n → heard n words ≡ none
    go false b q = unheard_by 100 n words q (unfold Answers.heard in refl)
    go true false q = unheard_by 101 n words q (unfold Answers.heard in refl)
    go true true q = none_some n refl q

-- or 102
pub list_unheard : (answer slots list : List ℕ) (n : ℕ) (words : List ℕ) → list_wrong answer slots list ≡ some n → heard n words ≡ none
list_unheard answer slots list n words e =
    go (leb 12 (length answer)) (eqb (length slots) 384) (leb 132 (length list)) (unfold list_wrong in e)
  where
    go : (a b c : Bool) → list_wrong_by a b c ≡ some n → heard n words ≡ none
    go false b c q = unheard_by 100 n words q (unfold Answers.heard in refl)
    go true false c q = unheard_by 101 n words q (unfold Answers.heard in refl)
    go true true false q = unheard_by 102 n words q (unfold Answers.heard in refl)
    go true true true q = none_some n refl q

-- a buffer of another length is a wrong one
other_wrong : (answer other : List ℕ) → (length other ≡ 384 → ⊥) → (n : ℕ) × (buffers_wrong answer other ≡ some n)
other_wrong answer other d = go (leb 12 (length answer)) refl
  where
    go : (a : Bool) → leb 12 (length answer) ≡ a → (n : ℕ) × (buffers_wrong answer other ≡ some n)
    go false p = (100, unfold buffers_wrong in rw p refl)
    go true p = (101, unfold buffers_wrong in rw (p, ne_eqb (length other) 384 d) refl)

-- so it is beside a worklist, and so is a worklist that is too short
other_list_wrong : (answer slots list : List ℕ) → OtherLent slots list → (n : ℕ) × (list_wrong answer slots list ≡ some n)
other_list_wrong answer slots list d = go (leb 12 (length answer)) (eqb (length slots) 384) refl refl d
  where
    go : (a b : Bool) → leb 12 (length answer) ≡ a → eqb (length slots) 384 ≡ b → OtherLent slots list →
        (n : ℕ) × (list_wrong answer slots list ≡ some n)
    go false b p q o = (100, unfold list_wrong in rw p refl)
    go true false p q o = (101, unfold list_wrong in rw (p, q) refl)
    go true true p q (inl o) = absurd (o (eqb-true (length slots) 384 q))
    go true true p q (inr o) = (102, unfold list_wrong in rw (p, q, lt-leb 132 (length list) o) refl)

-- ---- what a served call is

-- the slots' bytes keep their number
served_long : (pack store slots answer : List ℕ) (c : Call) (number : ℕ) (store' slots' answer' : List ℕ) →
    Served pack store slots answer c number store' slots' answer' → length slots' ≡ length slots
served_long pack store slots answer c number store' slots' answer' s = ap length s.bytes ∙ go (answer_of s.said)
  where
    go : (a : Answer) → length (slots_after a slots (slots_in slots')) ≡ length slots
    go Calls.done = unfold Answers.slots_after in length_records slots (slots_in slots') 8
    go Calls.moved = unfold Answers.slots_after in length_records slots (slots_in slots') 8
    go (Calls.reply id value) = unfold Answers.slots_after in length_records slots (slots_in slots') 8
    go (Calls.given id) = unfold Answers.slots_after in length_records slots (slots_in slots') 8
    go (Calls.refused n) = unfold Answers.slots_after in refl

-- so do the list's
list_served_long : (pack store slots list answer : List ℕ) (c : Call) (number : ℕ) (list' answer' : List ℕ) →
    ListServed pack store slots list answer c number list' answer' → length list' ≡ length list
list_served_long pack store slots list answer c number list' answer' s = ap length s.bytes ∙ go (answer_of s.said)
  where
    go : (a : Answer) → length (list_after a list (list_in list')) ≡ length list
    go Calls.done = unfold Answers.list_after in length_list list (list_in list')
    go Calls.moved = unfold Answers.list_after in length_list list (list_in list')
    go (Calls.reply id value) = unfold Answers.list_after in length_list list (list_in list')
    go (Calls.given id) = unfold Answers.list_after in length_list list (list_in list')
    go (Calls.refused n) = unfold Answers.list_after in refl

-- ---- the number 0

-- a short answer buffer gives 100, so this one was long enough
pub zero_long : (need : ℕ) (answer : List ℕ) (number : ℕ) → ((n : ℕ) → answer_short need answer ≡ some n → number ≡ n) → number ≡ 0 →
    answer_short need answer ≡ none
zero_long need answer number short zero = go (leb need (length answer)) refl
  where
    go : (a : Bool) → leb need (length answer) ≡ a → answer_short need answer ≡ none
    go true p = unfold answer_short in rw p refl
    go false p =
        let e : answer_short need answer ≡ some 100 = unfold answer_short in rw p refl in
        let z : ◌≡◌ {A = ℕ} 100 0 = sym (short 100 e) ∙ zero in absurd (omega (arith, z))

-- a no gives 3, so no question said no
pub zero_yes : (o : Option No) → number_of (judged o) ≡ 0 → o ≡ none
unfolding judged Answers.number_of
zero_yes none e = refl
zero_yes (some n) e = let z : ◌≡◌ {A = ℕ} 3 0 = e in absurd (omega (arith, z))

-- ---- a fresh store

-- create that returned 0 was accepted
module _ (buffer answer : List ℕ) (P C number : ℕ) (store answer' : List ℕ) (made : Made buffer answer P C number store answer')
    (zero : number ≡ 0) where
  was_long : answer_short 12 answer ≡ none
  was_long = zero_long 12 answer number (λ n e. (made.told.short n e).0) zero

  no_question : create_refusal P C (length buffer) ≡ none
  no_question = zero_yes (create_refusal P C (length buffer)) (sym (made.told.told was_long).0 ∙ zero)

  accepted_create : Created buffer store P C (Ok tt)
  accepted_create =
      subst (Created buffer store P C) (ap verdict_of no_question) (made.created was_long)

-- ---- one call more

-- What a call comes to that a host makes: it read no answer, and nothing changed; or the call was carried out on what the bytes mean, and
-- it read its answer. Slots and list keep their lengths.
pub data CameTo (pack store slots list : List ℕ) (c : Call) (said : Option Answer) (store' slots' list' : List ℕ) : Type 0 where
  unread : said ≡ none → store' ≡ store → slots' ≡ slots → list' ≡ list → CameTo pack store slots list c said store' slots' list'
  answered : (a : Said) → said ≡ some (answer_of a) → Carried pack (lent_in store slots list) c a (lent_in store' slots' list') →
      length slots' ≡ length slots → length list' ≡ length list → CameTo pack store slots list c said store' slots' list'

module _ (pack store slots list : List ℕ) where
  called : (answer : List ℕ) (c : Call) (number : ℕ) (store' slots' answer' : List ℕ) →
      Exported pack store slots answer c number store' slots' answer' →
      CameTo pack store slots list c (heard number answer') store' slots' list
  called answer c number store' slots' answer' x = go (buffers_wrong answer slots) refl
    where
      go : (o : Option ℕ) → buffers_wrong answer slots ≡ o → CameTo pack store slots list c (heard number answer') store' slots' list
      go (some n) e =
          let w = x.wrong n e in
          unread (ap (λ m. heard m answer') w.0 ∙ wrong_unheard answer slots n answer' e) w.1 w.2 refl
      go none e =
          let s = x.served e in
          answered s.said s.read (s.carried (list_in list))
          (served_long pack store slots answer c number store' slots' answer' s) refl

  mislent : (other answer : List ℕ) (c : Call) (number : ℕ) (store' other' answer' : List ℕ) → (length other ≡ 384 → ⊥) →
      Exported pack store other answer c number store' other' answer' →
      CameTo pack store slots list c (heard number answer') store' slots list
  mislent other answer c number store' other' answer' d x =
      let b = other_wrong answer other d in
      let w = x.wrong b.0 b.1 in
      unread (ap (λ m. heard m answer') w.0 ∙ wrong_unheard answer other b.0 answer' b.1) w.1 refl refl

  list_called : (answer : List ℕ) (c : Call) (number : ℕ) (list' answer' : List ℕ) →
      ListExported pack store slots list answer c number list' answer' →
      CameTo pack store slots list c (heard number answer') store slots list'
  list_called answer c number list' answer' x = go (list_wrong answer slots list) refl
    where
      go : (o : Option ℕ) → list_wrong answer slots list ≡ o → CameTo pack store slots list c (heard number answer') store slots list'
      go (some n) e =
          let w = x.wrong n e in
          unread (ap (λ m. heard m answer') w.0 ∙ list_unheard answer slots list n answer' e) refl refl w.1
      go none e =
          let s = x.served e in
          answered s.said s.read s.carried refl (list_served_long pack store slots list answer c number list' answer' s)

  list_mislent : (slots₁ list₁ answer : List ℕ) (c : Call) (number : ℕ) (list₂ answer' : List ℕ) → OtherLent slots₁ list₁ →
      ListExported pack store slots₁ list₁ answer c number list₂ answer' →
      CameTo pack store slots list c (heard number answer') store slots list
  list_mislent slots₁ list₁ answer c number list₂ answer' d x =
      let b = other_list_wrong answer slots₁ list₁ d in
      let w = x.wrong b.0 b.1 in
      unread (ap (λ m. heard m answer') w.0 ∙ list_unheard answer slots₁ list₁ b.0 answer' b.1) refl refl refl

  store_called : (answer : List ℕ) (c : Call) (number : ℕ) (store' answer' : List ℕ) →
      StoreExported pack store slots list answer c number store' answer' →
      CameTo pack store slots list c (heard number answer') store' slots list
  store_called answer c number store' answer' x = go (list_wrong answer slots list) refl
    where
      go : (o : Option ℕ) → list_wrong answer slots list ≡ o → CameTo pack store slots list c (heard number answer') store' slots list
      go (some n) e =
          let w = x.wrong n e in
          unread (ap (λ m. heard m answer') w.0 ∙ list_unheard answer slots list n answer' e) w.1 refl refl
      go none e = let s = x.served e in answered s.said s.read s.carried refl refl

  store_mislent : (slots₁ list₁ answer : List ℕ) (c : Call) (number : ℕ) (store' answer' : List ℕ) → OtherLent slots₁ list₁ →
      StoreExported pack store slots₁ list₁ answer c number store' answer' →
      CameTo pack store slots list c (heard number answer') store' slots list
  store_mislent slots₁ list₁ answer c number store' answer' d x =
      let b = other_list_wrong answer slots₁ list₁ d in
      let w = x.wrong b.0 b.1 in
      unread (ap (λ m. heard m answer') w.0 ∙ list_unheard answer slots₁ list₁ b.0 answer' b.1) w.1 refl refl

  restart_called : (answer : List ℕ) (number : ℕ) (slots' list' answer' : List ℕ) →
      Restarted slots list answer number slots' list' answer' →
      CameTo pack store slots list restart (heard number answer') store slots' list'
  restart_called answer number slots' list' answer' x = go (list_wrong answer slots list) refl
    where
      go : (o : Option ℕ) → list_wrong answer slots list ≡ o →
          CameTo pack store slots list restart (heard number answer') store slots' list'
      go (some n) e =
          let w = x.wrong n e in
          unread (ap (λ m. heard m answer') w.0 ∙ list_unheard answer slots list n answer' e) refl w.1 w.2
      go none e =
          let s = x.served e in
          answered (Ok Done) (ap (λ m. heard m answer') s.3 ∙ unfold Answers.heard in unfold Agents.answer_of in refl) (s.0 pack store)
          (ap length s.1 ∙ length_records slots (slots_in slots') 8) (ap length s.2 ∙ length_list list (list_in list'))

  restart_mislent : (slots₁ list₁ answer : List ℕ) (number : ℕ) (slots₂ list₂ answer' : List ℕ) → OtherLent slots₁ list₁ →
      Restarted slots₁ list₁ answer number slots₂ list₂ answer' →
      CameTo pack store slots list restart (heard number answer') store slots list
  restart_mislent slots₁ list₁ answer number slots₂ list₂ answer' d x =
      let b = other_list_wrong answer slots₁ list₁ d in
      let w = x.wrong b.0 b.1 in
      unread (ap (λ m. heard m answer') w.0 ∙ list_unheard answer slots₁ list₁ b.0 answer' b.1) refl refl refl

  order_called : (answer : List ℕ) (number : ℕ) (store' answer' : List ℕ) → PutInOrder store answer number store' answer' →
      CameTo pack store slots list order (heard number answer') store' slots list
  order_called answer number store' answer' x = go (leb 12 (length answer)) refl
    where
      go : (a : Bool) → leb 12 (length answer) ≡ a → CameTo pack store slots list order (heard number answer') store' slots list
      go false p =
          let e : answer_short 12 answer ≡ some 100 = unfold answer_short in rw p refl in
          let w = x.short 100 e in
          unread (ap (λ m. heard m answer') w.0 ∙ unfold Answers.heard in refl) w.1 refl refl
      go true p =
          let e : answer_short 12 answer ≡ none = unfold answer_short in rw p refl in
          let s = x.served e in
          answered s.0 s.5 (s.1 pack (slots_in slots) (list_in list)) refl refl

-- each call that a host makes comes to that
pub came_to : (pack store slots list : List ℕ) (c : Call) (said : Option Answer) (store' slots' list' : List ℕ) →
    HostCall pack store slots list c said store' slots' list' → CameTo pack store slots list c said store' slots' list'
came_to pack _ _ _ _ _ _ _ _ (Lists.calls store slots list answer c number store' slots' answer' x) =
    called pack store slots list answer c number store' slots' answer' x
came_to pack _ _ _ _ _ _ _ _ (Lists.lists store slots list answer c number list' answer' x) =
    list_called pack store slots list answer c number list' answer' x
came_to pack _ _ _ _ _ _ _ _ (Lists.stores store slots list answer c number store' answer' x) =
    store_called pack store slots list answer c number store' answer' x
came_to pack _ _ _ _ _ _ _ _ (Lists.restarts store slots list answer number slots' list' answer' x) =
    restart_called pack store slots list answer number slots' list' answer' x
came_to pack _ _ _ _ _ _ _ _ (Lists.orders store slots list answer number store' answer' x) =
    order_called pack store slots list answer number store' answer' x
came_to pack _ _ _ _ _ _ _ _ (Lists.mislends store slots list other answer c number store' other' answer' d x) =
    mislent pack store slots list other answer c number store' other' answer' d x
came_to pack _ _ _ _ _ _ _ _ (Lists.mislists store slots list slots₁ list₁ answer c number list₂ answer' d x) =
    list_mislent pack store slots list slots₁ list₁ answer c number list₂ answer' d x
came_to pack _ _ _ _ _ _ _ _ (Lists.misstores store slots list slots₁ list₁ answer c number store' answer' d x) =
    store_mislent pack store slots list slots₁ list₁ answer c number store' answer' d x
came_to pack _ _ _ _ _ _ _ _ (Lists.misrestarts store slots list slots₁ list₁ answer number slots₂ list₂ answer' d x) =
    restart_mislent pack store slots list slots₁ list₁ answer number slots₂ list₂ answer' d x

-- ---- the list

-- 132 zero bytes are an empty list, whatever stands behind them
empty_at_first : (behind : List ℕ) → list_in (replicate 132 0 ++ behind) ≡ no_worklist
unfolding Bytes.entries_in le
empty_at_first behind = refl

long_at_first : (behind : List ℕ) → 132 ≤ length (replicate 132 0 ++ behind)
long_at_first behind =
    let e : length (replicate 132 0 ++ behind) ≡ 132 + length behind = length-append (replicate 132 0) behind in omega (arith, e)

abbrev Stands : (pack : List ℕ) (P C : ℕ) (events : List Event) (store slots list : List ℕ) → Type 0
Stands pack P C events store slots list = Chain pack P C events (lent_in store slots list) × (length slots ≡ 384) × (132 ≤ length list)

stands_on : (pack : List ℕ) (P C : ℕ) (events : List Event) (store slots list : List ℕ) (c : Call) (said : Option Answer)
    (store' slots' list' : List ℕ) → Stands pack P C events store slots list → CameTo pack store slots list c said store' slots' list' →
    Stands pack P C (and_then c said events) store' slots' list'
stands_on pack P C events store slots list c said store' slots' list' h (unread e p q r) = rw (e, p, q, r) h
stands_on pack P C events store slots list c said store' slots' list' h (answered a e x p q) = (
  rw e (goes_on events (lent_in store slots list) c a (lent_in store' slots' list') h.0 x),
  p ∙ h.1,
  omega (arith, h.2, q),
)

-- Each list of exported calls is a list of calls on what the bytes mean, with the answers that the host read; the slots keep their 384
-- bytes, and the list's are never fewer than 132.
pub as_chain : (pack : List ℕ) (P C : ℕ) (events : List Event) (store slots list : List ℕ) → Delivered pack P C events store slots list →
    Stands pack P C events store slots list
as_chain pack P C _ _ _ _ (Lists.begins buffer answer number store answer' behind made zero) = (
  subst (Chain pack P C []) (λ i. record { store = store; records = sym all_empty i; list = sym (empty_at_first behind) i })
      (begins buffer store (accepted_create buffer answer P C number store answer' made zero)),
  refl,
  long_at_first behind,
)
as_chain pack P C _ _ _ _ (Lists.goes_on events store slots list c said store' slots' list' d x) =
    stands_on pack P C events store slots list c said store' slots' list' (as_chain pack P C events store slots list d)
    (came_to pack store slots list c said store' slots' list' x)

-- so it is from any bytes on
pub as_chain_from : (pack store₀ slots₀ list₀ : List ℕ) (events : List Event) (store slots list : List ℕ) →
    DeliveredFrom pack store₀ slots₀ list₀ events store slots list →
    ChainFrom pack (lent_in store₀ slots₀ list₀) events (lent_in store slots list)
as_chain_from pack store₀ slots₀ list₀ _ _ _ _ Lists.from_here = from_here
as_chain_from pack store₀ slots₀ list₀ _ _ _ _ (Lists.on_from events store slots list c said store' slots' list' d x) =
    go (came_to pack store slots list c said store' slots' list' x) (as_chain_from pack store₀ slots₀ list₀ events store slots list d)
  where
    go : CameTo pack store slots list c said store' slots' list' →
        ChainFrom pack (lent_in store₀ slots₀ list₀) events (lent_in store slots list) →
        ChainFrom pack (lent_in store₀ slots₀ list₀) (and_then c said events) (lent_in store' slots' list')
    go (unread e p q r) g = rw (e, p, q, r) g
    go (answered a e y p q) g = rw e (on_from events (lent_in store slots list) c a (lent_in store' slots' list') g y)

-- and slots and list keep their lengths
pub same_lengths : (pack store₀ slots₀ list₀ : List ℕ) (events : List Event) (store slots list : List ℕ) →
    DeliveredFrom pack store₀ slots₀ list₀ events store slots list → (length slots ≡ length slots₀) × (length list ≡ length list₀)
same_lengths pack store₀ slots₀ list₀ _ _ _ _ Lists.from_here = (refl, refl)
same_lengths pack store₀ slots₀ list₀ _ _ _ _ (Lists.on_from events store slots list c said store' slots' list' d x) =
    go (came_to pack store slots list c said store' slots' list' x) (same_lengths pack store₀ slots₀ list₀ events store slots list d)
  where
    go : CameTo pack store slots list c said store' slots' list' → (length slots ≡ length slots₀) × (length list ≡ length list₀) →
        (length slots' ≡ length slots₀) × (length list' ≡ length list₀)
    go (unread e p q r) h = (ap length q ∙ h.0, ap length r ∙ h.1)
    go (answered a e y p q) h = (p ∙ h.0, q ∙ h.1)
