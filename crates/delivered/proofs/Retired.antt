-- W-209 of lists of exported calls: they are lists of calls on what the bytes mean, in which a retired request doesn't act again.
use mathlib.Core.Bool.{false}
use mathlib.Core.List.{List}
use mathlib.Core.Option.{Option, none, some}
use mathlib.Core.Path.{◌≡◌, refl, sym, ◌∙◌, ap}
use Prim.Native.Nat.{ℕ, ◌<◌}
use Rattle.questions.proofs.Tests.{yes_no}
use Rattle.questions.proofs.Updates.{none_some}
use Rattle.rules.specs.Calls.{Call, Answer, arrival, retry}
use Rattle.rules.specs.Calls as Calls
use Rattle.rules.specs.Plain.{Event, accepted}
use Rattle.agents.specs.declared.Agent.{Agent as Held}
use Rattle.agents.specs.Answers.{Answer as Said}
use Rattle.agents.specs.Answers.{answer_of}
use Rattle.slots.specs.Records.{slots_in}
use Rattle.worklist.specs.Bytes.{list_in}
use Rattle.meaning.specs.State.{Lent}
use Rattle.meaning.specs.Carried.{Carried}
use Rattle.chain.specs.Retired.{floor_in}
use Rattle.chain.specs.Retired as Meant
use Rattle.chain.proofs.Retired.{retiring}
use Rattle.answers.specs.Answers.{heard, slots_after}
use Rattle.answers.specs.Answers as Answers
use Rattle.host.specs.Exports.{lent_in, buffers_wrong, Exported}
use Rattle.delivered.specs.Delivered.{Delivered}
use Rattle.delivered.specs.Retired.{NeverAgain, HostRetires}
use Rattle.delivered.proofs.Lists.{wrong_unheard, as_chain, as_chain_from}
use Rattle.delivered.proofs.Demands.{same_heard}

-- a call that isn't accepted leaves the slots' bytes
slots_kept : (a : Answer) (slots : List ℕ) (records : List Held) → accepted a ≡ false → slots_after a slots records ≡ slots
slots_kept Calls.done slots records e = yes_no e
slots_kept Calls.moved slots records e = yes_no e
slots_kept (Calls.reply id value) slots records e = yes_no e
slots_kept (Calls.given id) slots records e = yes_no e
slots_kept (Calls.refused n) slots records e = unfold Answers.slots_after in refl

-- A call that is never accepted on what the bytes mean: the host never reads it as accepted, and nothing is changed, also where a buffer
-- is wrong.
module _ (pack store slots list : List ℕ) (c : Call)
    (never : (a : Said) (lent' : Lent) → Carried pack (lent_in store slots list) c a lent' →
    (accepted (answer_of a) ≡ false) × (lent' ≡ lent_in store slots list))
    (answer : List ℕ) (number : ℕ) (store' slots' answer' : List ℕ)
    (x : Exported pack store slots answer c number store' slots' answer') where
  turned_down : ((said : Answer) → heard number answer' ≡ some said → accepted said ≡ false) × (store' ≡ store) × (slots' ≡ slots)
  turned_down = go (buffers_wrong answer slots) refl
    where
      go : (o : Option ℕ) → buffers_wrong answer slots ≡ o →
          ((said : Answer) → heard number answer' ≡ some said → accepted said ≡ false) × (store' ≡ store) × (slots' ≡ slots)
      go (some n) e =
          let w = x.wrong n e in
          (λ said h. none_some said (ap (λ m. heard m answer') w.0 ∙ wrong_unheard answer slots n answer' e) h, w.1, w.2)
      go none e =
          let s = x.served e in
          let k = never s.said (lent_in store' slots' list) (s.carried (list_in list)) in (
            λ said h. ap accepted (same_heard said (answer_of s.said) (sym h ∙ s.read)) ∙ k.0,
            ap (λ (l : Lent). l.store) k.1,
            s.bytes ∙ slots_kept (answer_of s.said) slots (slots_in slots') k.0,
          )

module _ (pack : List ℕ) (P C : ℕ) (events : List Event) (store slots list : List ℕ) (d : Delivered pack P C events store slots list)
    (id : ℕ) (below : id < floor_in store) where
  -- what is said of calls on what the bytes mean
  abbrev meant : Meant.NeverAgain pack events (lent_in store slots list) id
  meant = (retiring pack P C).never_again events (lent_in store slots list) (as_chain pack P C events store slots list d).0 id below

  never_again_on : NeverAgain pack events store slots list id
  never_again_on =
      record {
        unbooked = meant.unbooked;
        no_log = meant.no_log;
        in_no_slot = meant.in_no_slot;
        not_listed = meant.not_listed;
        arrives_never =
            λ slot w args. turned_down pack store slots list (arrival slot id w args) (meant.arrives_never slot w args);
        retried_never = λ slot. turned_down pack store slots list (retry slot id) (meant.retried_never slot);
        counted_still = λ later store' slots' list' g.
            meant.counted_still later (lent_in store' slots' list') (as_chain_from pack store slots list later store' slots' list' g);
        no_reply = λ later store' slots' list' g.
            meant.no_reply later (lent_in store' slots' list') (as_chain_from pack store slots list later store' slots' list' g);
      }

-- The theorem.
pub host_retires : (pack : List ℕ) (P C : ℕ) → HostRetires pack P C
host_retires pack P C =
    record {
      rises = λ events store slots list d later store' slots' list' g.
          (retiring pack P C).rises events (lent_in store slots list) (as_chain pack P C events store slots list d).0 later
          (lent_in store' slots' list') (as_chain_from pack store slots list later store' slots' list' g);
      never_again = never_again_on pack P C;
    }
