-- The promise of the exports for calls, from what the code has in hand.
use mathlib.Core.Bool.{Bool, true, false}
use mathlib.Core.List.{List, [], ◌∷◌}
use mathlib.Core.Option.{Option, none, some}
use mathlib.Core.Path.{◌≡◌, refl, sym, ◌∙◌, ap, subst}
use Prim.Native.Nat.{ℕ, ◌≤◌, ◌<◌}
use borrow.Author.Tests.{le-leb, lt-leb, eq-eqb, ne_eqb}
use lib.ListN.{length}
use Rattle.questions.specs.Questions.{No}
use Rattle.rules.specs.Calls.{Call, order}
use Rattle.rules.specs.Calls as Rules
use Rattle.rules.specs.Plain.{accepted}
use Rattle.rules.proofs.Calls.{rule_accepted}
use Rattle.questions.proofs.Tests.{yes_no, no_yes}
use Rattle.pack.specs.Meaning.{pack_of}
use Rattle.agents.specs.declared.Agent.{Agent}
use Rattle.agents.specs.Answers.{answer_of}
use Rattle.meaning.specs.State.{state_of, Lent}
use Rattle.meaning.specs.Questions.{refusal_for}
use Rattle.meaning.specs.Carried.{Carried}
use Rattle.meaning.proofs.Placed.{FromHost, refusal_placed}
use Rattle.slots.specs.Records.{slots_in, with_slots}
use Rattle.std.specs.Prelude.{Ok}
use Rattle.agents.specs.declared.Accepted.TheVariants.{Done}
use Rattle.worklist.specs.declared.Worklist.{Worklist}
use Rattle.worklist.specs.Worklist.{no_worklist}
use Rattle.worklist.specs.Bytes.{list_in, with_list}
use Rattle.answers.specs.Answers.{number_of, values_of, with_words, heard, PlaceFits, slots_after, list_after}
use Rattle.answers.specs.Answers as Answers
use Rattle.agents.specs.Answers.{Answer}
use Rattle.store.specs.Ordered.{InOrder}
use Rattle.host.specs.Told.{answer_short}
use Rattle.host.specs.Exports.{buffers_wrong, list_wrong, lent_with, lent_in}
use Rattle.host.specs.Exports.{Exported, ListExported, StoreExported, Restarted, PutInOrder}
use Rattle.host.proofs.Told.{same, missing}

-- every no that a call can be refused with names a place, so that its words have it whole
pub answer_placed : (pack : List ℕ) (before : Lent) (c : Call) (a : Answer) (after : Lent) → FromHost c → Carried pack before c a after →
    PlaceFits (answer_of a)
answer_placed pack before c a after m p = go (refusal_for pack before c) refl
  where
    by_rule : (x : Rules.Answer) → accepted x ≡ true → PlaceFits x
    by_rule Rules.done e = tt
    by_rule Rules.moved e = tt
    by_rule (Rules.reply id value) e = tt
    by_rule (Rules.given id) e = tt
    by_rule (Rules.refused n) e = no_yes e

    go : (r : Option No) → refusal_for pack before c ≡ r → PlaceFits (answer_of a)
    go none q =
        subst PlaceFits (sym (p.carried q).0)
        (by_rule (Rules.rule (pack_of pack) (state_of before) c).answer (rule_accepted (pack_of pack) (state_of before) c))
    go (some n) q = subst PlaceFits (sym (p.refused n q).0) (refusal_placed pack before c m n q)

-- a refused call leaves all that it was given
left_alone : (pack : List ℕ) (before : Lent) (c : Call) (a : Answer) (after : Lent) → Carried pack before c a after →
    accepted (answer_of a) ≡ false → after ≡ before
left_alone pack before c a after p e = go (refusal_for pack before c) refl
  where
    go : (r : Option No) → refusal_for pack before c ≡ r → after ≡ before
    go none q = yes_no (sym (ap accepted (p.carried q).0 ∙ rule_accepted (pack_of pack) (state_of before) c) ∙ e)
    go (some n) q = (p.refused n q).1

module _ (pack store slots answer : List ℕ) (c : Call) where
  pub exported_short : length answer < 12 → Exported pack store slots answer c 100 store slots answer
  unfolding buffers_wrong
  exported_short h =
      let e : buffers_wrong answer slots ≡ some 100 = rw (lt-leb 12 (length answer) h) refl in
      record { wrong = λ n q. (same (sym e ∙ q), refl, refl, refl); served = λ q. absurd (missing (sym q ∙ e)) }

  pub exported_slots : 12 ≤ length answer → (length slots ≡ 384 → ⊥) → Exported pack store slots answer c 101 store slots answer
  unfolding buffers_wrong
  exported_slots h d =
      let e : buffers_wrong answer slots ≡ some 101 = rw (le-leb 12 (length answer) h, ne_eqb (length slots) 384 d) refl in
      record { wrong = λ n q. (same (sym e ∙ q), refl, refl, refl); served = λ q. absurd (missing (sym q ∙ e)) }

  module _ (records : List Agent) (said : Answer) (agents' : List Agent) (store' slots' answer' : List ℕ) (number : ℕ) where
    -- a refused call leaves the records that it was given
    kept : (l : Worklist) → Carried pack (record { store = store; records = records; list = l }) c said
        (record { store = store'; records = agents'; list = l }) → accepted (answer_of said) ≡ false → agents' ≡ records
    kept l p e = ap (λ (x : Lent). x.records) (left_alone pack (record { store = store; records = records; list = l }) c said _ p e)

    -- and no byte of them is written
    untouched : (a : Rules.Answer) → accepted a ≡ false → slots_after a slots agents' ≡ slots
    unfolding Answers.slots_after
    untouched Rules.done e = yes_no e
    untouched Rules.moved e = yes_no e
    untouched (Rules.reply id value) e = yes_no e
    untouched (Rules.given id) e = yes_no e
    untouched (Rules.refused n) e = refl

    pub exported : 12 ≤ length answer → length slots ≡ 384 → records ≡ slots_in slots
        → ((l : Worklist) → Carried pack (record { store = store; records = records; list = l }) c said
        (record { store = store'; records = agents'; list = l }))
        → FromHost c → (number ≡ number_of (answer_of said)) × (answer' ≡ with_words answer (values_of (answer_of said)))
        → (PlaceFits (answer_of said) → heard number answer' ≡ some (answer_of said))
        → slots' ≡ slots_after (answer_of said) slots agents'
        → (accepted (answer_of said) ≡ true → slots_in slots' ≡ agents')
        → Exported pack store slots answer c number store' slots' answer'
    unfolding buffers_wrong
    exported h l r p m t u w b =
        let e : buffers_wrong answer slots ≡ none = rw (le-leb 12 (length answer) h, eq-eqb (length slots) 384 l) refl in
        record {
          wrong = λ n q. absurd (missing (sym e ∙ q));
          served = λ q. record {
            said = said;
            carried = carried;
            bytes = w ∙ ap (slots_after (answer_of said) slots) (sym back);
            given = t.0;
            words = t.1;
            read = u (answer_placed pack _ c said _ m (p no_worklist));
          };
        }
      where
        left : (t : Bool) → accepted (answer_of said) ≡ t → slots_in slots' ≡ agents'
        left true e = b e
        left false e = ap slots_in (w ∙ untouched (answer_of said) e) ∙ sym r ∙ sym (kept no_worklist (p no_worklist) e)

        back : slots_in slots' ≡ agents'
        back = left (accepted (answer_of said)) refl

        carried : (l : Worklist) → Carried pack (lent_with store slots l) c said (lent_with store' slots' l)
        carried l =
            subst (λ (rs : List Agent). Carried pack (lent_with store slots l) c said
            (record { store = store'; records = rs; list = l })) (sym back)
            (subst (λ (rs : List Agent). Carried pack (record { store = store; records = rs; list = l }) c said
            (record { store = store'; records = agents'; list = l })) r (p l))

-- ---- add, take and done

-- the three wrong buffers
module _ (answer slots list : List ℕ) where
  pub short_answer : length answer < 12 → list_wrong answer slots list ≡ some 100
  unfolding list_wrong
  short_answer h = rw (lt-leb 12 (length answer) h) refl

  pub wrong_slots : 12 ≤ length answer → (length slots ≡ 384 → ⊥) → list_wrong answer slots list ≡ some 101
  unfolding list_wrong
  wrong_slots h d = rw (le-leb 12 (length answer) h, ne_eqb (length slots) 384 d) refl

  pub short_list : 12 ≤ length answer → length slots ≡ 384 → length list < 132 → list_wrong answer slots list ≡ some 102
  unfolding list_wrong
  short_list h l s = rw (le-leb 12 (length answer) h, eq-eqb (length slots) 384 l, lt-leb 132 (length list) s) refl

  pub right_buffers : 12 ≤ length answer → length slots ≡ 384 → 132 ≤ length list → list_wrong answer slots list ≡ none
  unfolding list_wrong
  right_buffers h l s = rw (le-leb 12 (length answer) h, eq-eqb (length slots) 384 l, le-leb 132 (length list) s) refl

module _ (pack store slots list answer : List ℕ) (c : Call) where
  pub list_wrong_lem : (n : ℕ) → list_wrong answer slots list ≡ some n → ListExported pack store slots list answer c n list answer
  list_wrong_lem n e =
      record { wrong = λ m q. (same (sym e ∙ q), refl, refl); served = λ q. absurd (missing (sym q ∙ e)) }

  module _ (records : List Agent) (l left : Worklist) (said : Answer) (list' answer' : List ℕ) (number : ℕ) where
    -- no byte of a refused call's list is written
    list_untouched : (a : Rules.Answer) → accepted a ≡ false → list_after a list left ≡ list
    unfolding Answers.list_after
    list_untouched Rules.done e = yes_no e
    list_untouched Rules.moved e = yes_no e
    list_untouched (Rules.reply id value) e = yes_no e
    list_untouched (Rules.given id) e = yes_no e
    list_untouched (Rules.refused n) e = refl

    pub list_exported : list_wrong answer slots list ≡ none → records ≡ slots_in slots → l ≡ list_in list
        → Carried pack (record { store = store; records = records; list = l }) c said
        (record { store = store; records = records; list = left })
        → FromHost c → (number ≡ number_of (answer_of said)) × (answer' ≡ with_words answer (values_of (answer_of said)))
        → (PlaceFits (answer_of said) → heard number answer' ≡ some (answer_of said))
        → list' ≡ list_after (answer_of said) list left
        → (accepted (answer_of said) ≡ true → list_in list' ≡ left)
        → ListExported pack store slots list answer c number list' answer'
    list_exported e r i p m t u w b =
        record {
          wrong = λ n q. absurd (missing (sym e ∙ q));
          served = λ q. record {
            said = said;
            carried = carried;
            bytes = w ∙ ap (list_after (answer_of said) list) (sym back);
            given = t.0;
            words = t.1;
            read = u (answer_placed pack _ c said _ m p);
          };
        }
      where
        leaves : (t : Bool) → accepted (answer_of said) ≡ t → list_in list' ≡ left
        leaves true y = b y
        leaves false y =
            ap list_in (w ∙ list_untouched (answer_of said) y) ∙ sym i
            ∙ sym (ap (λ (x : Lent). x.list) (left_alone pack (record { store = store; records = records; list = l }) c said _ p y))

        back : list_in list' ≡ left
        back = leaves (accepted (answer_of said)) refl

        carried : Carried pack (lent_in store slots list) c said (lent_in store slots list')
        carried =
            subst (λ (x : Worklist). Carried pack (lent_in store slots list) c said (lent_with store slots x)) (sym back)
            (subst (λ (x : Worklist). Carried pack (lent_with store slots x) c said (lent_with store slots left)) i
            (subst (λ (rs : List Agent). Carried pack (record { store = store; records = rs; list = l }) c said
            (record { store = store; records = rs; list = left })) r p))

-- ---- retire

module _ (pack store slots list answer : List ℕ) (c : Call) where
  pub store_wrong : (n : ℕ) → list_wrong answer slots list ≡ some n → StoreExported pack store slots list answer c n store answer
  store_wrong n e =
      record { wrong = λ m q. (same (sym e ∙ q), refl, refl); served = λ q. absurd (missing (sym q ∙ e)) }

  pub store_exported : (records : List Agent) (l : Worklist) (said : Answer) (store' answer' : List ℕ) (number : ℕ) →
      list_wrong answer slots list ≡ none → records ≡ slots_in slots → l ≡ list_in list →
      Carried pack (record { store = store; records = records; list = l }) c said
      (record { store = store'; records = records; list = l }) →
      FromHost c →
      ((number ≡ number_of (answer_of said)) × (answer' ≡ with_words answer (values_of (answer_of said))))
      × (PlaceFits (answer_of said) → heard number answer' ≡ some (answer_of said)) →
      StoreExported pack store slots list answer c number store' answer'
  store_exported records l said store' answer' number e r i p m w =
      record {
        wrong = λ n q. absurd (missing (sym e ∙ q));
        served = λ q. record {
          said = said;
          carried =
              subst (λ (x : Worklist). Carried pack (lent_with store slots x) c said (lent_with store' slots x)) i
              (subst (λ (rs : List Agent). Carried pack (record { store = store; records = rs; list = l }) c said
              (record { store = store'; records = rs; list = l })) r p);
          given = w.0.0;
          words = w.0.1;
          read = w.1 (answer_placed pack _ c said _ m p);
        };
      }

-- ---- restart

module _ (slots list answer : List ℕ) where
  pub restart_wrong : (n : ℕ) → list_wrong answer slots list ≡ some n → Restarted slots list answer n slots list answer
  restart_wrong n e =
      record { wrong = λ m q. (same (sym e ∙ q), refl, refl, refl); served = λ q. absurd (missing (sym q ∙ e)) }

  pub restarted_all : (l left : Worklist) (records' : List Agent) (slots' list' answer' : List ℕ) (number : ℕ) →
      list_wrong answer slots list ≡ none → l ≡ list_in list →
      ((pack store : List ℕ) (records : List Agent) → Carried pack
      (record { store = store; records = records; list = l }) Rules.restart (Ok Done)
      (record { store = store; records = records'; list = left })) →
      (slots' ≡ with_slots slots records') × (slots_in slots' ≡ records') → (list' ≡ with_list list left) × (list_in list' ≡ left) →
      (number ≡ 0) × (answer' ≡ with_words answer (0 ∷ 0 ∷ 0 ∷ [])) → Restarted slots list answer number slots' list' answer'
  restarted_all l left records' slots' list' answer' number e i p s w t =
      record {
        wrong = λ n q. absurd (missing (sym e ∙ q));
        served = λ q. (
          carried,
          s.0 ∙ ap (with_slots slots) (sym s.1),
          w.0 ∙ ap (with_list list) (sym w.1),
          t.0,
          t.1,
        );
      }
    where
      carried : (pack store : List ℕ) → Carried pack (lent_in store slots list) Rules.restart (Ok Done) (lent_in store slots' list')
      carried pack store =
          subst (λ (x : Worklist). Carried pack (lent_in store slots list) Rules.restart (Ok Done) (lent_with store slots' x)) (sym w.1)
          (subst (λ (x : Worklist). Carried pack (lent_with store slots x) Rules.restart (Ok Done) (lent_with store slots' left)) i
          (subst (λ (rs : List Agent). Carried pack (record { store = store; records = slots_in slots; list = l }) Rules.restart (Ok Done)
          (record { store = store; records = rs; list = left })) (sym s.1) (p pack store (slots_in slots))))

-- ---- order

pub in_order_short : (store answer : List ℕ) → length answer < 12 → PutInOrder store answer 100 store answer
unfolding answer_short
in_order_short store answer h =
    let e : answer_short 12 answer ≡ some 100 = rw (lt-leb 12 (length answer) h) refl in
    record { short = λ n q. (same (sym e ∙ q), refl, refl); served = λ q. absurd (missing (sym q ∙ e)) }

pub in_order : (store answer : List ℕ) (number : ℕ) (store' answer' : List ℕ) (said : Answer) → 12 ≤ length answer →
    ((pack : List ℕ) (records : List Agent) (l : Worklist) →
    Carried pack (record { store = store; records = records; list = l }) order said
    (record { store = store'; records = records; list = l }))
    × (accepted (answer_of said) ≡ true → InOrder store store') →
    ((number ≡ number_of (answer_of said)) × (answer' ≡ with_words answer (values_of (answer_of said))))
    × (PlaceFits (answer_of said) → heard number answer' ≡ some (answer_of said)) →
    PutInOrder store answer number store' answer'
unfolding answer_short
in_order store answer number store' answer' said h c w =
    let e : answer_short 12 answer ≡ none = rw (le-leb 12 (length answer) h) refl in
    record { short = λ n s. absurd (missing (sym e ∙ s)); served = λ q. (said, c.0, c.1, w.0.0, w.0.1, w.1 placed) }
  where
    -- of any pack, any records and any worklist
    placed : PlaceFits (answer_of said)
    placed = answer_placed [] _ order said _ tt (c.0 [] [] no_worklist)
