-- The questions behind 16, one by one, with the tests in hand.
use mathlib.Core.Bool.{true, false, not}
use mathlib.Core.Option.{Option, none, some}
use mathlib.Core.Path.{◌≡◌, refl, sym, ◌∙◌, ap}
use Prim.Native.Nat.{ℕ, ◌≤◌, ◌<◌}
use borrow.Author.Tests.{lt-ltb, le-ltb, lt-leb, le-leb, eq-eqb, ne_eqb, eqb-true, not-false}
use Rattle.questions.proofs.Tests.{no_yes}
use lib.Dec.{eqb, ltb, leb}
use Rattle.questions.specs.Basics.{is_some}
use Rattle.questions.specs.Questions.{No, number, ask}
use Rattle.questions.specs.Questions as Questions
use Rattle.rules.specs.Instructions.{Pack}
use Rattle.rules.specs.Store.{Request}
use Rattle.rules.specs.Calls.{State, gives, done, with_slot, start, again, rule, retry}
use Rattle.rules.specs.Calls as Calls

-- ── retry: 20 ──

pub known_yes : (o : Option Request) (q : Request) → o ≡ some q → ask (number 20) (is_some o) none ≡ none
unfolding Questions.ask
known_yes o q e = rw e refl

pub known_no : (o : Option Request) → o ≡ none → ask (number 20) (is_some o) none ≡ some (number 20)
unfolding Questions.ask
known_no o e = rw e refl

pub again_known : (pack : Pack) (s : State) (slot id : ℕ) (q : Request) → s.store.book id ≡ some q →
    rule pack s (retry slot id) ≡ gives done (with_slot s slot (some (record { id = id; course = start q; step = 0 })))
unfolding Calls.rule Calls.again
again_known pack s slot id q b = ap (again s slot id) b

-- ── arrival: 24, 30 and 17, and then those of the booking ──

-- the test that an id is another than 0
pub zero : (id : ℕ) → not (eqb id 0) ≡ false → id ≡ 0
zero id e = eqb-true id 0 (not-false _ e)

pub not_zero : (id : ℕ) → not (eqb id 0) ≡ true → id ≡ 0 → ⊥
not_zero id e z = no_yes (sym (ap not (eq-eqb id 0 z)) ∙ e)

module _ (id floor w m : ℕ) (rest : Option No) where
  abbrev behind_16 : Option No
  behind_16 = ask (number 24) (not (eqb id 0)) (ask (number 30) (leb floor id) (ask (number 17) (ltb w m) rest))

  pub zero_no_lem : id ≡ 0 → behind_16 ≡ some (number 24)
  unfolding Questions.ask
  zero_no_lem z = rw (eq-eqb id 0 z) refl

  pub floor_no : (id ≡ 0 → ⊥) → id < floor → behind_16 ≡ some (number 30)
  unfolding Questions.ask
  floor_no n l = rw (ne_eqb id 0 n, lt-leb floor id l) refl

  pub workflow_no_lem : (id ≡ 0 → ⊥) → floor ≤ id → m ≤ w → behind_16 ≡ some (number 17)
  unfolding Questions.ask
  workflow_no_lem n l h = rw (ne_eqb id 0 n, le-leb floor id l, le-ltb w m h) refl

  pub booking_left : (id ≡ 0 → ⊥) → floor ≤ id → w < m → behind_16 ≡ rest
  unfolding Questions.ask
  booking_left n l h = rw (ne_eqb id 0 n, le-leb floor id l, lt-ltb w m h) refl
