-- Demands 1, 2 and 3 of exported calls: what their promises come to.
use mathlib.Core.Bool.{true}
use mathlib.Core.List.{List}
use mathlib.Core.Option.{Option, none, some}
use mathlib.Core.Path.{◌≡◌, refl, sym, ◌∙◌, ap}
use Prim.Native.Nat.{ℕ}
use Rattle.questions.specs.Questions.{No}
use Rattle.questions.specs.Questions as Questions
use Rattle.questions.proofs.Tests.{no_yes}
use Rattle.questions.proofs.Updates.{none_some}
use Rattle.rules.specs.Calls.{Call, Answer, turn, restart, refused}
use Rattle.rules.specs.Calls as Calls
use Rattle.rules.specs.Plain.{Event, accepted}
use Rattle.rules.proofs.Calls.{rule_accepted}
use Rattle.pack.specs.Meaning.{pack_of}
use Rattle.agents.specs.Answers.{Answer as Said}
use Rattle.agents.specs.Answers.{answer_of}
use Rattle.meaning.specs.State.{state_of, Lent}
use Rattle.meaning.specs.Questions.{refusal_for}
use Rattle.meaning.specs.Questions as Meaning
use Rattle.meaning.specs.Carried.{Carried}
use Rattle.chain.specs.Demands.{InTime}
use Rattle.chain.proofs.Each.{demand1}
use Rattle.chain.proofs.Theorem as Chains
use Rattle.chain.proofs.Never as Never
use Rattle.chain.proofs.Listed as Listed
use Rattle.slots.specs.Records.{slots_in, with_slots}
use Rattle.worklist.specs.declared.Worklist.{Worklist}
use Rattle.worklist.specs.Bytes.{list_in, with_list}
use Rattle.answers.specs.Answers.{heard, slots_after, list_after}
use Rattle.answers.specs.Answers as Answers
use Rattle.host.specs.Exports.{lent_with, lent_in, buffers_wrong, list_wrong, Exported, ListExported, StoreExported, Restarted}
use Rattle.delivered.specs.Delivered.{Delivered}
use Rattle.delivered.specs.Demands.{RefusedFirst, AsRuled, ListRefusedFirst, ListAsRuled, StoreRefusedFirst, StoreAsRuled}
use Rattle.delivered.specs.Demands.{RestartAsRuled, ByTheList}
use Rattle.delivered.proofs.Lists.{wrong_unheard, list_unheard, as_chain, same_lengths}

-- an answer that was heard
pub same_heard : (a b : Answer) → some a ≡ some b → a ≡ b
same_heard a b e i = taken (e i)
  where
    taken : Option Answer → Answer
    taken none = a
    taken (some x) = x

-- a promise speaks of an answer by what it says
answered : (pack : List ℕ) (before : Lent) (c : Call) (a b : Said) (after : Lent) → answer_of a ≡ answer_of b →
    Carried pack before c a after → Carried pack before c b after
answered pack before c a b after e p =
    record {
      refused = λ n q. (sym e ∙ (p.refused n q).0, (p.refused n q).1);
      carried = λ q. (sym e ∙ (p.carried q).0, (p.carried q).1);
    }

module _ (pack store slots answer : List ℕ) (c : Call) (number : ℕ) (store' slots' answer' : List ℕ)
    (x : Exported pack store slots answer c number store' slots' answer') where
  -- a refused call leaves the slots' bytes
  slots_stay : (a : Answer) (n : No) → a ≡ refused n → slots_after a slots (slots_in slots') ≡ slots
  slots_stay a n e = ap (λ b. slots_after b slots (slots_in slots')) e ∙ unfold Answers.slots_after in refl

  -- an accepted one writes those of the records that it left
  slots_written : (a : Answer) → accepted a ≡ true → slots_after a slots (slots_in slots') ≡ with_slots slots (slots_in slots')
  slots_written Calls.done e = unfold Answers.slots_after in refl
  slots_written Calls.moved e = unfold Answers.slots_after in refl
  slots_written (Calls.reply id value) e = unfold Answers.slots_after in refl
  slots_written (Calls.given id) e = unfold Answers.slots_after in refl
  slots_written (refused n) e = no_yes e

  pub refused_first : RefusedFirst pack store slots answer c number store' slots' answer'
  refused_first =
      record {
        wrong = λ n e. let w = x.wrong n e in
            (w.0, ap (λ m. heard m answer') w.0 ∙ wrong_unheard answer slots n answer' e, w.1, w.2, w.3);
        says_no = λ b l n e. let s = x.served b in
            let r = (s.carried l).refused n e in
            (s.read ∙ ap some r.0, ap (λ (l : Lent). l.store) r.1, s.bytes ∙ slots_stay (answer_of s.said) n r.0);
        says_why = λ l n e. why l n e (buffers_wrong answer slots) refl;
      }
    where
      why : (l : Worklist) (n : No) → heard number answer' ≡ some (refused n) → (o : Option ℕ) → buffers_wrong answer slots ≡ o →
          refusal_for pack (lent_with store slots l) c ≡ some n
      why l n e (some m) q =
          none_some (refused n) (ap (λ k. heard k answer') (x.wrong m q).0 ∙ wrong_unheard answer slots m answer' q) e
      why l n e none q =
          let s = x.served q in
          (demand1 pack (lent_with store slots l) c s.said (lent_with store' slots' l) (s.carried l)).says_why n
          (same_heard (answer_of s.said) (refused n) (sym s.read ∙ e))

  pub as_ruled : AsRuled pack store slots answer c number store' slots' answer'
  as_ruled =
      record {
        accepts = λ b l e. let s = x.served b in
            let r = (s.carried l).carried e in (
              s.read ∙ ap some r.0,
              r.1,
              s.bytes
                  ∙ slots_written (answer_of s.said)
                  (ap accepted r.0 ∙ rule_accepted (pack_of pack) (state_of (lent_with store slots l)) c),
            );
      }

module _ (pack store slots list answer : List ℕ) (c : Call) (number : ℕ) (list' answer' : List ℕ)
    (x : ListExported pack store slots list answer c number list' answer') where
  -- a refused call leaves the list's bytes
  list_stays : (a : Answer) (n : No) → a ≡ refused n → list_after a list (list_in list') ≡ list
  list_stays a n e = ap (λ b. list_after b list (list_in list')) e ∙ unfold Answers.list_after in refl

  -- an accepted one writes those of the list that it left
  list_written : (a : Answer) → accepted a ≡ true → list_after a list (list_in list') ≡ with_list list (list_in list')
  list_written Calls.done e = unfold Answers.list_after in refl
  list_written Calls.moved e = unfold Answers.list_after in refl
  list_written (Calls.reply id value) e = unfold Answers.list_after in refl
  list_written (Calls.given id) e = unfold Answers.list_after in refl
  list_written (refused n) e = no_yes e

  pub list_refused_first : ListRefusedFirst pack store slots list answer c number list' answer'
  list_refused_first =
      record {
        wrong = λ n e. let w = x.wrong n e in
            (w.0, ap (λ m. heard m answer') w.0 ∙ list_unheard answer slots list n answer' e, w.1, w.2);
        says_no = λ b n e. let s = x.served b in
            let r = s.carried.refused n e in
            (s.read ∙ ap some r.0, s.bytes ∙ list_stays (answer_of s.said) n r.0);
        says_why = λ n e. why n e (list_wrong answer slots list) refl;
      }
    where
      why : (n : No) → heard number answer' ≡ some (refused n) → (o : Option ℕ) → list_wrong answer slots list ≡ o →
          refusal_for pack (lent_in store slots list) c ≡ some n
      why n e (some m) q =
          none_some (refused n) (ap (λ k. heard k answer') (x.wrong m q).0 ∙ list_unheard answer slots list m answer' q) e
      why n e none q =
          let s = x.served q in
          (demand1 pack (lent_in store slots list) c s.said (lent_in store slots list') s.carried).says_why n
          (same_heard (answer_of s.said) (refused n) (sym s.read ∙ e))

  pub list_as_ruled : ListAsRuled pack store slots list answer c number list' answer'
  list_as_ruled =
      record {
        accepts = λ b e. let s = x.served b in
            let r = s.carried.carried e in (
              s.read ∙ ap some r.0,
              r.1,
              s.bytes
                  ∙ list_written (answer_of s.said)
                  (ap accepted r.0 ∙ rule_accepted (pack_of pack) (state_of (lent_in store slots list)) c),
            );
      }

module _ (pack store slots list answer : List ℕ) (c : Call) (number : ℕ) (store' answer' : List ℕ)
    (x : StoreExported pack store slots list answer c number store' answer') where
  pub store_refused_first : StoreRefusedFirst pack store slots list answer c number store' answer'
  store_refused_first =
      record {
        wrong = λ n e. let w = x.wrong n e in
            (w.0, ap (λ m. heard m answer') w.0 ∙ list_unheard answer slots list n answer' e, w.1, w.2);
        says_no = λ b n e. let s = x.served b in
            let r = s.carried.refused n e in
            (s.read ∙ ap some r.0, ap (λ (l : Lent). l.store) r.1);
        says_why = λ n e. why n e (list_wrong answer slots list) refl;
      }
    where
      why : (n : No) → heard number answer' ≡ some (refused n) → (o : Option ℕ) → list_wrong answer slots list ≡ o →
          refusal_for pack (lent_in store slots list) c ≡ some n
      why n e (some m) q =
          none_some (refused n) (ap (λ k. heard k answer') (x.wrong m q).0 ∙ list_unheard answer slots list m answer' q) e
      why n e none q =
          let s = x.served q in
          (demand1 pack (lent_in store slots list) c s.said (lent_in store' slots list) s.carried).says_why n
          (same_heard (answer_of s.said) (refused n) (sym s.read ∙ e))

  pub store_as_ruled : StoreAsRuled pack store slots list answer c number store' answer'
  store_as_ruled =
      record {
        accepts = λ b e. let s = x.served b in
            let r = s.carried.carried e in (s.read ∙ ap some r.0, r.1);
      }

-- restart puts no question
no_question : (pack : List ℕ) (lent : Lent) → refusal_for pack lent restart ≡ none
unfolding refusal_for Meaning.lent_for Calls.refusal Questions.or_else
no_question pack lent = refl

pub restart_as_ruled : (slots list answer : List ℕ) (number : ℕ) (slots' list' answer' : List ℕ) →
    Restarted slots list answer number slots' list' answer' → RestartAsRuled slots list answer number slots' list' answer'
restart_as_ruled slots list answer number slots' list' answer' x =
    record {
      wrong = λ n e. let w = x.wrong n e in
          (w.0, ap (λ m. heard m answer') w.0 ∙ list_unheard answer slots list n answer' e, w.1, w.2, w.3);
      accepts = λ b. let s = x.served b in (
        ap (λ m. heard m answer') s.3 ∙ unfold Answers.heard in refl,
        λ pack store. ((s.0 pack store).carried (no_question pack (lent_in store slots list))).1,
        s.1,
        s.2,
      );
    }

pub by_the_list : (pack : List ℕ) (P C : ℕ) → ByTheList pack P C
by_the_list pack P C =
    record {
      plain_run = λ events store slots list d.
          (Chains.demand3 pack P C).plain_run events (lent_in store slots list) (as_chain pack P C events store slots list d).0;
      in_time = λ before store slots list d slot answer number store' slots' answer' x said e t.
          turned store slots list before d slot answer number store' slots' answer' x said e t (buffers_wrong answer slots) refl;
      never_no = λ events store slots list d.
          Never.never_no pack P C events (lent_in store slots list) (as_chain pack P C events store slots list d).0;
      never_25 = λ events store slots list d.
          ((Listed.none_vanishes pack P C).listing events (lent_in store slots list) (as_chain pack P C events store slots list d).0).right;
      long = λ events store slots list d. let h = as_chain pack P C events store slots list d in (h.1, h.2);
      same_lengths = same_lengths pack;
    }
  where
    turned : (store slots list : List ℕ) (before : List Event) → Delivered pack P C before store slots list →
        (slot : ℕ) (answer : List ℕ) (number : ℕ) (store' slots' answer' : List ℕ) →
        Exported pack store slots answer (turn slot) number store' slots' answer' →
        (said : Said) → heard number answer' ≡ some (answer_of said) → accepted (answer_of said) ≡ true →
        (o : Option ℕ) → buffers_wrong answer slots ≡ o → InTime pack before (lent_in store slots list) slot said
    turned store slots list before d slot answer number store' slots' answer' x said e t (some m) q =
        none_some (answer_of said) (ap (λ k. heard k answer') (x.wrong m q).0 ∙ wrong_unheard answer slots m answer' q) e
    turned store slots list before d slot answer number store' slots' answer' x said e t none q =
        let s = x.served q in
        let same = same_heard (answer_of s.said) (answer_of said) (sym s.read ∙ e) in
        (Chains.demand3 pack P C).in_time before (lent_in store slots list) (as_chain pack P C before store slots list d).0 slot said
        (lent_in store' slots' list)
        (answered pack (lent_in store slots list) (turn slot) s.said said (lent_in store' slots' list) same (s.carried (list_in list))) t
