-- A slot whose bytes are no record makes 14 say no.
use mathlib.Core.Bool.{Bool, true, false}
use mathlib.Core.List.{List}
use mathlib.Core.Option.{Option, none, some}
use mathlib.Core.Path.{◌≡◌, refl, sym, ◌∙◌, ap}
use Prim.Native.Nat.{ℕ, ◌*◌, ◌<◌}
use native.Mathlib.Omega.{arith}
use Rattle.words.specs.Words.{fields}
use Rattle.questions.specs.Questions.{No, number, ask, or_else}
use Rattle.questions.proofs.Tests.{yes_no}
use Rattle.questions.proofs.Each.{each_at}
use Rattle.pack.specs.Refusal.{pack_refusal}
use Rattle.store.specs.Questions.{store_refusal}
use Rattle.agents.specs.Slots.{agent_at}
use Rattle.meaning.specs.Questions.{slot_right, question13, question14, lent_refusal}
use Rattle.meaning.specs.Questions as Meaning
use Rattle.slots.specs.Records.{no_record, record_in, slots_in}
use Rattle.slots.proofs.Records.{no_record_is, malformed, at_in}
use Rattle.worklist.specs.declared.Worklist.{Worklist}
use Rattle.host.specs.Exports.{lent_with}
use Rattle.delivered.specs.Malformed.{NoRecordIn, or_else14, Malformed, MalformedRefused}

module _ (pack store slots : List ℕ) (l : Worklist) (i : ℕ) (h : i < 8) (is_no_record : NoRecordIn slots i) where
  stands_for : agent_at (slots_in slots) i ≡ no_record
  stands_for = at_in slots 8 0 i h ∙ ap (record_in slots) (omega arith) ∙ malformed (fields 4 slots (48 * i) 12) is_no_record

  wrong : slot_right pack store (agent_at (slots_in slots) i) ≡ false
  wrong = ap (slot_right pack store) stands_for ∙ neither
    where
      neither : slot_right pack store no_record ≡ false
      neither = unfold slot_right in no_record_is.1

  says_no : question14 pack store (slots_in slots) ≡ false
  says_no = go (question14 pack store (slots_in slots)) refl
    where
      go : (b : Bool) → question14 pack store (slots_in slots) ≡ b → question14 pack store (slots_in slots) ≡ false
      go false e = e
      go true e =
          yes_no (sym (each_at (λ k. slot_right pack store (agent_at (slots_in slots) k)) 8 0 (unfold question14 in e) i (omega arith)
          (omega arith)) ∙ wrong)

  asked : lent_refusal pack (lent_with store slots l) ≡ or_else14 pack store
  asked =
      unfold lent_refusal in
      ap (λ b. or_else (pack_refusal pack) (or_else (store_refusal store) (ask (number 13) (question13 pack store) (ask (number 14) b none))))
      says_no
      ∙ unfold ask in refl

  -- whatever is asked behind it
  first : (rest : Option No) → or_else (lent_refusal pack (lent_with store slots l)) rest ≡ or_else14 pack store
  first rest = ap (λ o. or_else o rest) asked ∙ go (pack_refusal pack) (store_refusal store) (question13 pack store)
    where
      go : (a b : Option No) (q : Bool) →
          or_else (or_else a (or_else b (ask (number 13) q (some (number 14))))) rest
          ≡ or_else a (or_else b (ask (number 13) q (some (number 14))))
      go (some n) b q = unfold or_else in refl
      go none (some n) q = unfold or_else in refl
      go none none true = unfold or_else in unfold ask in refl
      go none none false = unfold or_else in unfold ask in refl

  refused_by_14 : Malformed pack store slots l
  refused_by_14 =
      record {
        no_14 = says_no;
        arrivals = λ slot id workflow arguments. unfold Meaning.refusal_for in unfold Meaning.lent_for in first _;
        retries = λ slot id. unfold Meaning.refusal_for in unfold Meaning.lent_for in first _;
        turns = λ slot. unfold Meaning.refusal_for in unfold Meaning.lent_for in first _;
        crashes = λ slot. unfold Meaning.refusal_for in unfold Meaning.lent_for in first _;
        adds = λ id. unfold Meaning.refusal_for in unfold Meaning.lent_for in first _;
        takes = unfold Meaning.refusal_for in unfold Meaning.lent_for in first _;
        dones = λ id. unfold Meaning.refusal_for in unfold Meaning.lent_for in first _;
        retires = λ floor. unfold Meaning.refusal_for in unfold Meaning.lent_for in first _;
      }

pub malformed_refused : MalformedRefused
malformed_refused = refused_by_14
