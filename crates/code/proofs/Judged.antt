-- Questions 4 to 7 to one instruction, from what the code has in hand; and what a yes to each says.
use mathlib.Core.Path.{◌≡◌, refl, sym, ◌∙◌}
use mathlib.Core.Bool.{Bool, true, false, ◌&&◌}
use mathlib.Core.List.{List}
use mathlib.Core.Option.{none}
use Prim.Native.Nat.{ℕ, ◌<◌}
use borrow.Author.Tests.{ltb-true, eq-eqb, ne_eqb}
use lib.Dec.{ltb}
use lib.ListN.{length}
use Rattle.std.specs.Prelude.{Err}
use Rattle.questions.specs.declared.Refusal.{Refusal}
use Rattle.questions.specs.Questions.{no, ask}
use Rattle.questions.specs.Verdicts.{Verdict, verdict_of}
use Rattle.code.proofs.Asked.{asked_no}
use Rattle.questions.proofs.Questions.{ask_none}
use Rattle.questions.proofs.Tests.{no_yes, and_left, and_right}
use Rattle.operation.specs.declared.Operand.{Operand}
use Rattle.operation.specs.declared.Operand.TheVariants.{Jump}
use Rattle.operation.specs.declared.Entry.{Entry}
use Rattle.operation.specs.Parts.{source_of, target_of}
use Rattle.operation.specs.Operations.{op_put, side_of, operand_of, entry_of}
use Rattle.code.specs.Layout.{operation_at, register_at, word_at}
use Rattle.code.specs.Questions.{in_range, register_right, stands, lands, counted, inside_at, puts_before, question4}
use Rattle.code.specs.Questions.{question5, question6, question7}
use Rattle.code.specs.Refusal.{instruction_no}

-- a jump's target, where its operand is in range
module _ (o : Operand) (size i w : ℕ) (e : o ≡ Jump) (h : in_range o size i w ≡ true) where
  in_jump : (ltb (source_of w) 8 && ltb i (target_of w) && ltb (target_of w) size) ≡ true
  unfolding in_range
  in_jump = rw e at h

  pub target_ahead : i < target_of w
  target_ahead = ltb-true i (target_of w) (and_right (ltb (source_of w) 8) _ (and_left (ltb (source_of w) 8 && ltb i (target_of w)) _ in_jump))

  pub target_below : target_of w < size
  target_below = ltb-true (target_of w) size (and_right (ltb (source_of w) 8 && ltb i (target_of w)) _ in_jump)

-- the four questions, by their answers
pub judged : (workflow : ℕ) (ops ws : List ℕ) (i : ℕ) (a b c d : Bool) → question4 ops i ≡ a → question5 ops ws i ≡ b →
    question6 ops ws i ≡ c → question7 ops i ≡ d →
    instruction_no workflow ops ws i
    ≡ ask (no 4 workflow i) a (ask (no 5 workflow i) b (ask (no 6 workflow i) c (ask (no 7 workflow i) d none)))
unfolding instruction_no
judged workflow ops ws i a b c d p q r s = rw (p, q, r, s)

-- the verdict on a question is that on the row, where those before it were answered yes
module _ (workflow : ℕ) (ops ws : List ℕ) (i : ℕ) (v : Verdict) where
  abbrev Judges : Type 0
  Judges = v ≡ verdict_of (instruction_no workflow ops ws i)

  pub stops_4 : (t : Bool) (m : Refusal) → question4 ops i ≡ t → v ≡ verdict_of (ask (no 4 workflow i) t none) → v ≡ Err m → Judges
  unfolding instruction_no
  stops_4 t m p e r = rw p (asked_no v _ t _ m e r)

  module _ (p4 : question4 ops i ≡ true) where
    pub stops_5 : (t : Bool) (m : Refusal) → question5 ops ws i ≡ t → v ≡ verdict_of (ask (no 5 workflow i) t none) → v ≡ Err m → Judges
    unfolding instruction_no ask
    stops_5 t m p e r = rw (p4, p) (asked_no v _ t _ m e r)

    module _ (p5 : question5 ops ws i ≡ true) where
      pub stops_6 : (t : Bool) (m : Refusal) → question6 ops ws i ≡ t → v ≡ verdict_of (ask (no 6 workflow i) t none) → v ≡ Err m → Judges
      unfolding instruction_no ask
      stops_6 t m p e r = rw (p4, p5, p) (asked_no v _ t _ m e r)

      pub comes_to_7 : (t : Bool) → question6 ops ws i ≡ true → question7 ops i ≡ t → v ≡ verdict_of (ask (no 7 workflow i) t none) → Judges
      unfolding instruction_no ask
      comes_to_7 t p6 p e = rw (p4, p5, p6, p) e

-- 5 and 6 by an entry of the table
module _ (ops ws : List ℕ) (i w : ℕ) (entry : Entry) (e : w ≡ word_at ws i) (f : entry ≡ entry_of (operation_at ops i)) where
  pub asked_5 : (t : Bool) → t ≡ (in_range entry.operand (length ops) i w && register_right entry.fixed (register_at ops i)) →
      question5 ops ws i ≡ t
  unfolding question5
  asked_5 t g = sym (rw (f, e) at g)

  pub asked_6 : (inside t : Bool) → inside_at ops i ≡ inside →
      t ≡ (stands entry.side inside && lands entry.operand inside ops i (target_of w)) → question6 ops ws i ≡ t
  unfolding question6
  asked_6 inside t s g = rw s (sym (rw (f, e) at g))

-- the operand is in range, where 5 says yes
pub ranged_operand : (o : Operand) (fixed : Bool) (size i w d : ℕ) (t : Bool) → t ≡ (in_range o size i w && register_right fixed d) →
    t ≡ true → in_range o size i w ≡ true
ranged_operand o fixed size i w d t e h = and_left (in_range o size i w) (register_right fixed d) (sym e ∙ h)

-- the four questions, each yes
module _ (workflow : ℕ) (ops ws : List ℕ) (i : ℕ) (e : instruction_no workflow ops ws i ≡ none) where
  pub yes_4 : question4 ops i ≡ true
  unfolding instruction_no
  yes_4 = (ask_none _ (question4 ops i) _ e).0

  after_4 : ask (no 5 workflow i) (question5 ops ws i)
      (ask (no 6 workflow i) (question6 ops ws i) (ask (no 7 workflow i) (question7 ops i) none)) ≡ none
  unfolding instruction_no
  after_4 = (ask_none _ (question4 ops i) _ e).1

  pub yes_5 : question5 ops ws i ≡ true
  yes_5 = (ask_none _ (question5 ops ws i) _ after_4).0

  after_5 : ask (no 6 workflow i) (question6 ops ws i) (ask (no 7 workflow i) (question7 ops i) none) ≡ none
  after_5 = (ask_none _ (question5 ops ws i) _ after_4).1

  pub yes_6 : question6 ops ws i ≡ true
  yes_6 = (ask_none _ (question6 ops ws i) _ after_5).0

  pub yes_7 : question7 ops i ≡ true
  yes_7 = (ask_none _ (question7 ops i) _ (ask_none _ (question6 ops ws i) _ after_5).1).0

-- what 5 and 6 say
module _ (ops ws : List ℕ) (i : ℕ) where
  pub operand_ranged : question5 ops ws i ≡ true → in_range (operand_of (operation_at ops i)) (length ops) i (word_at ws i) ≡ true
  unfolding question5
  operand_ranged h = and_left (in_range (operand_of (operation_at ops i)) (length ops) i (word_at ws i)) _ h

  pub stands_right : question6 ops ws i ≡ true → stands (side_of (operation_at ops i)) (inside_at ops i) ≡ true
  unfolding question6
  stands_right h = and_left (stands (side_of (operation_at ops i)) (inside_at ops i)) _ h

  pub lands_right : question6 ops ws i ≡ true → lands (operand_of (operation_at ops i)) (inside_at ops i) ops i (target_of (word_at ws i)) ≡ true
  unfolding question6
  lands_right h = and_right (stands (side_of (operation_at ops i)) (inside_at ops i)) _ h

  -- it stands, its operation and its side being known
  pub stood : (op : ℕ) (inside : Bool) → operation_at ops i ≡ op → inside_at ops i ≡ inside → question6 ops ws i ≡ true →
      stands (side_of op) inside ≡ true
  stood op inside e s h = rw (← e, ← s) (stands_right h)

-- outside a block no PUT stands
pub no_put : (ops ws : List ℕ) (i : ℕ) (inside : Bool) → inside_at ops i ≡ inside → question6 ops ws i ≡ true →
    inside ≡ false → operation_at ops i ≡ op_put → ⊥
unfolding side_of stands
no_put ops ws i inside s h f e = no_yes (stood ops ws i op_put false e (s ∙ f) h)

-- 7 goes by the block's PUTs in hand; outside a block there is no PUT to count
pub asked_7 : (ops : List ℕ) (i puts : ℕ) (inside t : Bool) → (inside ≡ true → puts_before ops i ≡ puts) →
    (inside ≡ false → operation_at ops i ≡ op_put → ⊥) → t ≡ counted (operation_at ops i) puts → question7 ops i ≡ t
unfolding question7 counted
asked_7 ops i puts true t e n f = rw (e refl) (sym f)
asked_7 ops i puts false t e n f = rw (ne_eqb (operation_at ops i) op_put (n refl)) (sym (rw (ne_eqb (operation_at ops i) op_put (n refl)) at f))

-- a PUT is behind fewer than 16
pub counted_put : (ops : List ℕ) (i : ℕ) → operation_at ops i ≡ op_put → question7 ops i ≡ true → puts_before ops i < 16
unfolding question7 counted
counted_put ops i e h = ltb-true (puts_before ops i) 16 (rw (eq-eqb (operation_at ops i) op_put e) at h)
