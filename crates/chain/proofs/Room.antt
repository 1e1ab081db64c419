-- W-202 of calls on bytes: a request that finds its figures of rows free never meets question 21, and an agent replies within the figure
-- of turns.
use mathlib.Core.Bool.{Bool, true, false, not}
use mathlib.Core.List.{List}
use mathlib.Core.Logic.{◌⊎◌, inl, inr}
use mathlib.Core.Option.{Option, none, some, some-injective}
use mathlib.Core.Path.{◌≡◌, refl, sym, ◌∙◌, ap, subst}
use Prim.Native.Nat.{ℕ, suc, ◌≤◌, ◌<◌}
use native.Mathlib.Omega.{arith}
use native.Mathlib.Decide.{dec_lt}
use borrow.Author.Tests.{lt-ltb, ltb-true}
use lib.ListN.{length, get_or-eq_default}
use Rattle.contents.specs.Contents.{contents_of, value_in, book_of, book_rows}
use Rattle.questions.specs.Basics.{if◌then◌otherwise◌, is_some}
use Rattle.questions.specs.Questions.{No, number}
use Rattle.questions.proofs.Updates.{none_some, false_true, update_same, update_other}
use Rattle.questions.proofs.Questions.{ask_none, ask_yes, or_else_none}
use Rattle.questions.proofs.Every.{Every, every_none, every_ask, every_or}
use Rattle.questions.proofs.Chains.{or_yes}
use Rattle.questions.proofs.Each.{each_at}
use Rattle.rules.specs.Instructions.{Code, RETURN}
use Rattle.rules.specs.Blocks.{Result}
use Rattle.rules.specs.Courses.{Next, says, next_of}
use Rattle.rules.specs.Store.{Request}
use Rattle.rules.specs.Logged.{at, follow}
use Rattle.rules.specs.Routes.{by_turns, MostOf}
use Rattle.rules.specs.Calls.{Call, arrival, turn, Outcome, request_code, can_turn, turn_on, turn_in}
use Rattle.rules.specs.Calls as Calls
use Rattle.rules.specs.Checked.{Checked}
use Rattle.rules.specs.Plain.{Event, accepted, Tally, Tallies, Feed, tallied, tallies_of}
use Rattle.rules.specs.Room.{FindsRoom, NoOther}
use Rattle.rules.proofs.Calls.{feed_accepted}
use Rattle.rules.proofs.Stands.{StandsByLog, turn_is, turn_counted}
use Rattle.rules.proofs.Routes.{turns_rise, turns_small, most_exists, most_within}
use Rattle.rules.proofs.Taken.{next_within, last_says}
use Rattle.rules.proofs.Room.{OpensBelow, HasRoom, rule_keeps, has_room, arrives}
use Rattle.pack.specs.Layout.{count, size_of}
use Rattle.pack.specs.Meaning.{pack_of}
use Rattle.pack.specs.Refusal.{pack_refusal}
use Rattle.pack.proofs.Laws.{length_pack, length_workflow, accepted_checked}
use Rattle.store.specs.Layout.{parts_of}
use Rattle.store.specs.Questions.{store_refusal}
use Rattle.agents.specs.declared.Agent.{Agent}
use Rattle.agents.specs.Answers.{Answer}
use Rattle.agents.specs.Slots.{agent_at, held, slots_of, records_of, records_from, agent_of}
use Rattle.agents.specs.Answers.{answer_of}
use Rattle.agents.proofs.Slots.{slots_past}
use Rattle.meaning.specs.State.{state_of, Lent}
use Rattle.meaning.specs.Questions.{is_sound, slot_right, question14, lent_refusal, lent_for, refusal_for}
use Rattle.meaning.specs.Carried.{Carried, ruled}
use Rattle.meaning.proofs.Asked.{lent_pack, lent_13, lent_14}
use Rattle.meaning.proofs.Sense.{begin_below}
use Rattle.meaning.proofs.Tests.{slot_used}
use Rattle.chain.specs.Room.{Undisturbed, from_first, one_more, HasAgent, NeverFull, RoomIsEnough, InFigure, RepliesWithin}
use Rattle.chain.specs.Demands.{InTime}
use Rattle.chain.specs.RequestZero.{ChainOn}
use Rattle.chain.proofs.AsBefore.{by_log_on, as_before_on}
use Rattle.chain.proofs.Each.{answers_yes, met_none, left_state, demand1}
use Rattle.chain.proofs.Floor.{above_for}

-- ── 21 is none of 1 to 16 ──

abbrev Not21 : No → Type 0
Not21 n = n.question ≡ 21 → ⊥

not_of_lent : (pack : List ℕ) (lent : Lent) → pack_refusal pack ≡ none → Every Not21 (lent_refusal pack lent)
unfolding lent_refusal store_refusal
not_of_lent pack lent e =
    every_or Not21 (pack_refusal pack) _ (λ n f. none_some n e f)
    (λ _. every_or Not21 _ _
    (every_ask Not21 (number 9) _ _ (λ x. omega arith)
    (every_ask Not21 (number 10) _ _ (λ x. omega arith)
    (every_ask Not21 (number 11) _ _ (λ x. omega arith)
    (every_ask Not21 (number 12) _ _ (λ x. omega arith) (every_none Not21)))))
    (λ _. every_ask Not21 (number 13) _ _ (λ x. omega arith) (every_ask Not21 (number 14) _ _ (λ x. omega arith) (every_none Not21))))

module _ (pack : List ℕ) (lent : Lent) (k : ℕ) (can : can_turn (pack_of pack) (state_of lent).store ((state_of lent).slots k) ≡ true) where
  -- where 21 says yes, a turn isn't refused by it
  not_21 : pack_refusal pack ≡ none → Every Not21 (refusal_for pack lent (turn k))
  unfolding refusal_for lent_for Calls.refusal
  not_21 e =
      every_or Not21 (lent_refusal pack lent) _ (not_of_lent pack lent e)
      (λ _. every_ask Not21 (number 15) _ _ (λ x. omega arith)
      (every_ask Not21 (number 16) _ _ (λ x. omega arith)
      (subst (Every Not21) (sym (ask_yes (number 21) _ none can)) (every_none Not21))))

  -- and where 1 to 14 say yes too, it is accepted
  no_no : lent_refusal pack lent ≡ none → k < 8 → is_some ((state_of lent).slots k) ≡ true → refusal_for pack lent (turn k) ≡ none
  unfolding refusal_for lent_for Calls.refusal
  no_no e l u =
      or_yes _ _ e
      ∙ ask_yes (number 15) _ _ (lt-ltb k 8 l) ∙ ask_yes (number 16) _ _ u ∙ ask_yes (number 21) _ none can

-- ── The arrival ──

is_empty : (o : Option Calls.Agent) → not (is_some o) ≡ true → o ≡ none
is_empty none e = refl
is_empty (some a) e = false_true refl e

module _ (pack : List ℕ) (lent : Lent) (slot id w : ℕ) (args : List ℕ) (answer : Answer) (arrived : Lent)
    (finds : FindsRoom (pack_of pack) (parts_of lent.store) (state_of lent).store id (record { workflow = w; arguments = args }))
    (h : Carried pack lent (arrival slot id w args) answer arrived) (allow : accepted (answer_of answer) ≡ true) where
  abbrev request : Request
  request = record { workflow = w; arguments = args }

  abbrev code : Code
  code = request_code (pack_of pack) request

  met : refusal_for pack lent (arrival slot id w args) ≡ none
  met = met_none pack lent (arrival slot id w args) answer arrived h allow

  lent_yes : lent_refusal pack lent ≡ none
  unfolding refusal_for lent_for
  lent_yes = (or_else_none _ _ met).0

  -- by 15, 16 and 17
  asked : (slot < 8) × ((state_of lent).slots slot ≡ none) × (w < count pack)
  unfolding refusal_for Calls.refusal
  asked =
      let a = ask_none (number 15) _ _ (or_else_none _ _ met).1 in
      let b = ask_none (number 16) _ _ a.1 in
      let d = ask_none (number 17) _ _ (ask_none (number 30) _ _ (ask_none (number 24) _ _ b.1).1).1 in (
        ltb-true slot 8 a.0,
        is_empty ((state_of lent).slots slot) b.0,
        omega (arith, ltb-true w (length (pack_of pack)) d.0, length_pack pack),
      )

  checked : Checked code
  checked = accepted_checked pack (lent_pack pack lent lent_yes) w (omega (arith, asked.2, length_pack pack))

  -- by 13
  below : OpensBelow code (parts_of lent.store)
  below i p e = go (dec_lt i (size_of pack w))
    where
      ok : pack_refusal pack ≡ none
      ok = lent_pack pack lent lent_yes

      go : Dec (i < size_of pack w) → p < parts_of lent.store
      go (yes l) = begin_below pack ok w asked.2 lent.store (lent_13 pack lent lent_yes) i p l e
      go (no l) =
          let past = get_or-eq_default code (RETURN 0) {n = i} (omega (arith, l, length_workflow pack ok w asked.2)) in
          absurd (let z : ◌≡◌ {A = ℕ} 0 1 = cc in omega arith)

  -- by 14 there is no agent of an id that isn't booked
  nobody_below : (j : ℕ) (a : Calls.Agent) → j < 8 → slots_of lent.records j ≡ some a → a.id ≡ id → ⊥
  unfolding question14 state_of contents_of is_sound slots_of agent_of
  nobody_below j a l p i = go (agent_at lent.records j).in_use refl p
    where
      go : (b : Bool) → (agent_at lent.records j).in_use ≡ b →
          if◌then◌otherwise◌ b (some (held (agent_at lent.records j))) none ≡ some a → ⊥
      go false u e = none_some a refl e
      go true u e =
          let t = each_at (λ k. slot_right pack lent.store (agent_at lent.records k)) 8 0 (lent_14 pack lent lent_yes) j (omega arith)
          (omega arith) in
          let k : (agent_at lent.records j).id ≡ id =
          ap (λ (x : Calls.Agent). x.id) (some-injective (held (agent_at lent.records j)) a e) ∙ i in
          let n : book_of (value_in (book_rows lent.store)) (agent_at lent.records j).id ≡ none =
          ap (book_of (value_in (book_rows lent.store))) k ∙ finds.new in
          false_true refl
          (ap (is_sound pack (agent_at lent.records j)) (sym n) ∙ sym (slot_used pack lent.store (agent_at lent.records j) u) ∙ t)

  -- the slots that the arrival leaves
  slots_left : slots_of arrived.records ≡ (Calls.started (state_of lent) slot id request).slots
  unfolding Calls.rule Calls.arrive
  slots_left = (h.carried met).1.slots ∙ ap (λ o. (Calls.arrive (state_of lent) slot id request o).state.slots) finds.new

  has_agent : HasAgent arrived slot id
  has_agent = (
    record { id = id; course = Calls.start request; step = 0 },
    ap (λ (f : ℕ → Option Calls.Agent). f slot) slots_left ∙ update_same (state_of lent).slots slot _,
    refl,
  )

  -- The arrival left none past the eight slots, so there was none. (Records that it left as they were would have no agent in its slot.)
  nobody_past : (j : ℕ) → 8 ≤ j → (state_of lent).slots j ≡ none
  unfolding state_of records_from
  nobody_past j l = go (h.carried met).1.whole
    where
      before : (state_of lent).slots j ≡ slots_of arrived.records j
      before =
          sym (ap (λ (f : ℕ → Option Calls.Agent). f j) slots_left
          ∙ update_other (state_of lent).slots slot _ j (λ e. omega (arith, asked.0, l, e)))

      go : ◌⊎◌ (arrived.records ≡ records_of (ruled pack lent (arrival slot id w args)).state.slots) (arrived.records ≡ lent.records) →
          (state_of lent).slots j ≡ none
      go (inl e) = before ∙ slots_past arrived.records j (omega (arith, l, ap (λ (r : List Agent). length r) e))
      go (inr e) = none_some _ asked.1 (ap (λ (r : List Agent). slots_of r slot) (sym e) ∙ has_agent.1)

  nobody : (j : ℕ) (a : Calls.Agent) → (state_of lent).slots j ≡ some a → a.id ≡ id → ⊥
  unfolding state_of
  nobody j a p i = go (dec_lt j 8)
    where
      go : Dec (j < 8) → ⊥
      go (yes l) = nobody_below j a l p i
      go (no l) = none_some a (nobody_past j (omega arith)) p

  -- the request has room in what is lent
  abbrev RoomIn : Lent → Type 0
  RoomIn l = HasRoom (pack_of pack) (parts_of lent.store) id request checked below (state_of l)

  room_at_first : RoomIn arrived
  unfolding Calls.rule
  room_at_first =
      subst (HasRoom (pack_of pack) (parts_of lent.store) id request checked below)
      (sym (left_state pack lent (arrival slot id w args) answer arrived h met))
      (arrives (pack_of pack) (parts_of lent.store) id request checked below (state_of lent) slot asked.0 finds nobody)

  -- ── The calls behind it ──

  room_next : (l : Lent) (c : Call) (told : Answer) (l' : Lent) → Carried pack l c told l' →
      (accepted (answer_of told) ≡ true → NoOther (pack_of pack) id (state_of l) c) → RoomIn l → RoomIn l'
  unfolding refusal_for
  room_next l c told l' g alone r = go (refusal_for pack l c) refl
    where
      go : (o : Option No) → refusal_for pack l c ≡ o → RoomIn l'
      go none e =
          subst (HasRoom (pack_of pack) (parts_of lent.store) id request checked below) (sym (left_state pack l c told l' g e))
          (rule_keeps (pack_of pack) (parts_of lent.store) id request checked below (state_of l) r c
          (or_else_none _ _ e).1 (above_for pack l c e) (alone (answers_yes pack l c told l' g e)))
      go (some n) e = subst RoomIn (sym (g.refused n e).1) r

  room_after : (events : List Event) (l : Lent) → Undisturbed pack id arrived events l → RoomIn l
  room_after events l from_first = room_at_first
  room_after events l (one_more events₀ l₀ c told l' calls g alone) = room_next l₀ c told l' g alone (room_after events₀ l₀ calls)

  module _ (events : List Event) (l : Lent) (calls : Undisturbed pack id arrived events l) (k : ℕ) (its : HasAgent l k id) where
    can : can_turn (pack_of pack) (state_of l).store ((state_of l).slots k) ≡ true
    unfolding state_of
    can =
        has_room (pack_of pack) (parts_of lent.store) id request checked below (state_of l) (room_after events l calls) k
        its.0 its.1 its.2

    never_21 : (told : Answer) (l' : Lent) → Carried pack l (turn k) told l' → answer_of told ≡ Calls.refused (number 21) → ⊥
    never_21 told l' g e =
        not_21 pack l k can (lent_pack pack lent lent_yes) (number 21) ((demand1 pack l (turn k) told l' g).says_why (number 21) e) refl

    accepts : k < 8 → lent_refusal pack l ≡ none → (told : Answer) (l' : Lent) → Carried pack l (turn k) told l' →
        accepted (answer_of told) ≡ true
    unfolding state_of
    accepts b e told l' g = answers_yes pack l (turn k) told l' g (no_no pack l k can e b (ap is_some its.1))

  never_full : NeverFull pack id slot arrived
  never_full = record { starts = has_agent; no_21 = never_21; goes_on = accepts }

-- A request that finds its figures of rows free never meets question 21.
pub room_is_enough : RoomIsEnough
room_is_enough = never_full

-- ── The figure of turns ──

module _ (pack older : List ℕ) (before : List Event) (lent : Lent) (chain : ChainOn pack older before lent)
    (slot : ℕ) (answer : Answer) (lent' : Lent) (h : Carried pack lent (turn slot) answer lent')
    (allow : accepted (answer_of answer) ≡ true) where
  timely : InTime pack before lent slot answer
  timely = (as_before_on pack older before lent chain).in_time slot answer lent' h allow

  abbrev its_code : Code
  its_code = request_code (pack_of pack) timely.request

  stands : StandsByLog (pack_of pack) (state_of lent).store (tallies_of before slot) timely.agent
  unfolding state_of
  stands = (by_log_on pack older before lent chain).slots slot timely.agent timely.in_slot

  same_request_lem : stands.request ≡ timely.request
  unfolding state_of
  same_request_lem = some-injective stands.request timely.request (sym stands.book_is ∙ timely.booked)

  -- this is the turn behind as many as the log has moves
  turns_are : timely.turns ≡ suc stands.moves
  unfolding tallies_of
  turns_are =
      ap turns_in
      (sym timely.counted
      ∙ ap (λ (f : Feed). tallied (tallies_of before) f slot) (feed_accepted (turn slot) (answer_of answer) allow)
      ∙ ap (λ (f : Tallies). f slot)
      (turn_counted (pack_of pack) (state_of lent) (tallies_of before) slot timely.agent stands)
      ∙ update_same (tallies_of before) slot _)
    where
      turns_in : Option Tally → ℕ
      turns_in none = 0
      turns_in (some t) = t.turns

  -- the agent stands where the log leads its request
  there : follow (state_of lent).store.log timely.agent.id its_code timely.request stands.moves
      ≡ some (at timely.agent.course timely.agent.step)
  there =
      subst (λ (q : Request). follow (state_of lent).store.log timely.agent.id (request_code (pack_of pack) q) q stands.moves
      ≡ some (at timely.agent.course timely.agent.step)) same_request_lem stands.there

  all_yes : refusal_for pack lent (turn slot) ≡ none
  all_yes = met_none pack lent (turn slot) answer lent' h allow

  pack_yes : pack_refusal pack ≡ none
  unfolding refusal_for lent_for
  pack_yes = lent_pack pack lent (or_else_none _ _ all_yes).0

  its_checked : Checked its_code
  its_checked = accepted_checked pack pack_yes timely.request.workflow (omega (arith, timely.workflow, length_pack pack))

  -- what says its reply replies
  replies_with : (v : Result) → next_of its_code timely.agent.course ≡ says v → answer_of answer ≡ Calls.reply timely.agent.id v
  unfolding state_of Calls.rule Calls.turn_on
  replies_with v e =
      (h.carried all_yes).0
      ∙ ap (λ (o : Option Calls.Agent). (turn_in (pack_of pack) (state_of lent) slot o).answer) timely.in_slot
      ∙ ap (λ (o : Outcome). o.answer) (turn_is (pack_of pack) (state_of lent) (tallies_of before) slot timely.agent stands)
      ∙ ap (λ (q : Request). (turn_on (state_of lent) slot timely.agent (request_code (pack_of pack) q)
      (next_of (request_code (pack_of pack) q) timely.agent.course)).answer) same_request_lem
      ∙ ap (λ (y : Next). (turn_on (state_of lent) slot timely.agent its_code y).answer) e

  in_figure : InFigure pack before lent slot answer
  in_figure =
      record {
        in_time = timely;
        most = m;
        figure = figure.1;
        within_size =
            omega (
              arith,
              most_within its_code its_checked by_turns turns_small m figure.1,
              length_workflow pack pack_yes timely.request.workflow timely.workflow,
            );
        at_most =
            omega (
              arith,
              turns_are,
              next_within its_code its_checked (state_of lent).store.log timely.agent.id timely.request stands.moves
                  timely.agent.course timely.agent.step there m figure.1,
            );
        last =
            λ e.
            let l = last_says its_code its_checked (state_of lent).store.log timely.agent.id timely.request stands.moves
            timely.agent.course timely.agent.step there m figure.1 (sym turns_are ∙ e) in
            (l.0, replies_with l.0 l.1);
      }
    where
      figure : (n : ℕ) × MostOf by_turns its_code n
      figure = most_exists its_code its_checked by_turns turns_rise

      m : ℕ
      m = figure.0

-- An agent replies within its workflow's figure of turns.
pub replies_within : RepliesWithin
replies_within = in_figure
