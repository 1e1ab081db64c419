-- In a list of calls rows stay in order, and so contents settle the bytes.
use mathlib.Core.List.{List}
use mathlib.Core.Option.{Option, none}
use mathlib.Core.Path.{◌≡◌, refl, sym, ap, ◌∙◌}
use Prim.Native.Nat.{ℕ}
use Rattle.questions.specs.Questions.{No, or_else}
use Rattle.rules.specs.Plain.{accepted}
use Rattle.store.specs.Questions.{order_refusal}
use Rattle.store.proofs.Order.{order_passes}
use Rattle.rules.specs.Calls as Calls
use Rattle.meaning.specs.State as States
use Rattle.meaning.specs.Questions as Questions
use Rattle.contents.proofs.Equal.{equal_contents}
use Rattle.chain.specs.InOrder.{KeptInOrder}
use Rattle.chain.proofs.Theorem.{sized}

pub in_order : (pack : List ℕ) (P C : ℕ) → KeptInOrder pack P C
unfolding States.state_of Calls.rule Calls.refusal Questions.lent_for Questions.refusal_for
in_order pack P C =
    record {
      idle =
          λ events lent chain answer lent' h.
          let passes = (sized pack P C events lent chain).passes in
          let c = h.carried (or_else_both (order_refusal lent.store) none (order_passes lent.store passes) refl) in
          (ap accepted c.0, c.1.written.bytes passes refl);
      same =
          λ events lent chain pack'' events'' lent'' chain'' b b'' e.
          let s = sized pack P C events lent chain in
          let s'' = sized pack'' P C events'' lent'' chain'' in
          equal_contents lent.store lent''.store b b'' s.passes s''.passes (s.parts ∙ sym s''.parts) e;
    }
  where
    or_else_both : (o o' : Option No) → o ≡ none → o' ≡ none → or_else o o' ≡ none
    or_else_both o o' e f = unfold or_else in rw (e, f) refl
