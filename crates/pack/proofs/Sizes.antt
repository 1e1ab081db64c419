-- Laws of a pack's layout, and questions 1 to 3 from their tests.
use mathlib.Core.Path.{◌≡◌, refl}
use mathlib.Core.Bool.{Bool, true, false, ◌&&◌}
use mathlib.Core.List.{List}
use mathlib.Core.Option.{none}
use Prim.Native.Nat.{ℕ, zero, suc, ◌+◌, ◌-◌, ◌*◌, ◌≤◌, ◌<◌}
use native.Mathlib.Omega.{arith}
use native.Mathlib.Numerals.{add-one}
use borrow.Author.Tests.{leb-true, eqb-true}
use lib.Dec.{leb, eqb}
use lib.ListN.{length, length-drop}
use lib.Seq.{length-take-le}
use Rattle.std.specs.List.{list_all, range_with_len}
use Rattle.questions.specs.Basics.{if◌then◌otherwise◌, each_from, each}
use Rattle.std.specs.Prelude.{Err}
use Rattle.questions.specs.declared.Refusal.{Refusal}
use Rattle.questions.specs.Questions.{number, ask}
use Rattle.questions.specs.Verdicts.{Verdict, verdict_of}
use Rattle.questions.proofs.Questions.{ask_none}
use Rattle.questions.proofs.Tests.{and_left, and_right}
use Rattle.questions.proofs.Each.{each_at}
use Rattle.code.proofs.Asked.{asked_no, asked_false}
use Rattle.pack.specs.Layout.{count, size_of, first_of, total, operations_at, operands_at, operations_of, operands_of}
use Rattle.pack.specs.Laid.{Laid}
use Rattle.pack.specs.Questions.{between, size_right, question1, question2, question3}
use Rattle.pack.specs.Refusal.{layout_no}

-- a test of the numbers from i on
pub all_below : (f : ℕ → Bool) (n i : ℕ) → list_all f (range_with_len i n) ≡ each_from f n i
unfolding each_from
all_below f zero i = refl
all_below f (suc n) i = joined (f i) _ _ (all_below f n (i + 1))
  where
    joined : (a b c : Bool) → b ≡ c → (a && b) ≡ if◌then◌otherwise◌ a c false
    joined true b c e = e
    joined false b c e = refl

module _ (p : List ℕ) where
  pub first_next : (w : ℕ) → first_of p (w + 1) ≡ first_of p w + size_of p w
  unfolding first_of
  first_next w = rw add-one

  first_rises : (v n : ℕ) → first_of p v ≤ first_of p (v + n)
  unfolding first_of
  first_rises v zero = let e : v + 0 ≡ v = omega arith in rw e (omega arith)
  first_rises v (suc n) =
      let e : v + suc n ≡ suc (v + n) = omega arith in
      let h = first_rises v n in
      rw e (omega arith)

  -- the instructions of workflow w are among all
  pub within : (w m : ℕ) → w < m → first_of p w + size_of p w ≤ first_of p m
  within w m h =
      let e : w + 1 + (m - (w + 1)) ≡ m = omega arith in
      let r = rw e at (first_rises (w + 1) (m - (w + 1))) in
      omega (arith, first_next w)

  -- where there is a count
  pub counted : question1 p ≡ true → (1 ≤ length p) × (count p ≤ 16)
  unfolding question1
  counted h =
      let b = and_right (leb 1 (length p)) (between 1 16 (count p)) h in (
        leb-true 1 (length p) (and_left (leb 1 (length p)) (between 1 16 (count p)) h),
        leb-true (count p) 16 (and_right (leb 1 (count p)) (leb (count p) 16) b),
      )

  pub sizes_asked : (a b c : Bool) (t : ℕ) → t ≡ total p →
      leb (1 + 2 * count p) (length p) ≡ a → each (count p) (size_right p) ≡ b → leb t 2048 ≡ c → question2 p ≡ (a && b && c)
  unfolding question2
  sizes_asked a b c t e f g h = rw (f, g, ← e, h)

  pub length_asked : (a : Bool) (t : ℕ) → t ≡ total p → eqb (length p) (1 + 2 * count p + 5 * t) ≡ a → question3 p ≡ a
  unfolding question3
  length_asked a t e h = rw (← e) h

  -- the three questions, by their answers
  pub layout_asked : (a b c : Bool) → question1 p ≡ a → question2 p ≡ b → question3 p ≡ c →
      layout_no p ≡ ask (number 1) a (ask (number 2) b (ask (number 3) c none))
  unfolding layout_no
  layout_asked a b c e f g = rw (e, f, g)

  -- the verdict on a question is that on the layout, where those before it were answered yes
  module _ (v : Verdict) where
    pub stops_1 : (t : Bool) (m : Refusal) → question1 p ≡ t → v ≡ verdict_of (ask (number 1) t none) → v ≡ Err m →
        v ≡ verdict_of (layout_no p)
    unfolding layout_no
    stops_1 t m q e r = rw q (asked_no v _ t _ m e r)

    module _ (p1 : question1 p ≡ true) where
      -- in parts
      pub stops_2 : (t : Bool) (m : Refusal) → (t ≡ false → question2 p ≡ false) → v ≡ verdict_of (ask (number 2) t none) → v ≡ Err m →
          v ≡ verdict_of (layout_no p)
      unfolding layout_no ask
      stops_2 t m q e r = let f = asked_false v _ t m e r in rw (p1, q f) (rw f at e)

      pub comes_to_3 : (t : Bool) → question2 p ≡ true → question3 p ≡ t → v ≡ verdict_of (ask (number 3) t none) →
          v ≡ verdict_of (layout_no p)
      unfolding layout_no ask
      comes_to_3 t p2 q e = rw (p1, p2, q) e

  -- questions 1 to 3, each yes
  pub laid : layout_no p ≡ none → Laid p
  unfolding layout_no question1 question2 question3 size_right
  laid e =
      let e1 = ask_none _ (question1 p) _ e in
      let e2 = ask_none _ (question2 p) _ e1.1 in
      let q1 = e1.0 in
      let q2 = e2.0 in
      let q3 = (ask_none _ (question3 p) _ e2.1).0 in
      let counted = and_right (leb 1 (length p)) (between 1 16 (count p)) q1 in
      let there = leb (1 + 2 * count p) (length p) in
      let sized = and_right there (each (count p) (size_right p))
      (and_left (there && each (count p) (size_right p)) (leb (total p) 2048) q2) in
      record {
        some_workflow = leb-true 1 (count p) (and_left (leb 1 (count p)) (leb (count p) 16) counted);
        few = leb-true (count p) 16 (and_right (leb 1 (count p)) (leb (count p) 16) counted);
        sizes =
            λ w l.
            let h = each_at (size_right p) (count p) 0 sized w (omega arith) (omega arith) in (
              leb-true 1 (size_of p w) (and_left (leb 1 (size_of p w)) (leb (size_of p w) 256) h),
              leb-true (size_of p w) 256 (and_right (leb 1 (size_of p w)) (leb (size_of p w) 256) h),
            );
        short = leb-true (total p) 2048 (and_right (there && each (count p) (size_right p)) (leb (total p) 2048) q2);
        whole = eqb-true (length p) (1 + 2 * count p + 5 * total p) q3;
      }

  module _ (l : Laid p) (w : ℕ) (h : w < count p) where
    pub few_instructions : first_of p w + size_of p w ≤ 2048
    few_instructions = omega (arith, within w (count p) h, l.short)

    pub operations_within : operations_at p w + size_of p w ≤ length p
    operations_within = omega (arith, within w (count p) h, l.whole)

    pub operands_within : operands_at p w + 4 * size_of p w ≤ length p
    operands_within = omega (arith, within w (count p) h, l.whole)

    pub length_operations : length (operations_of p w) ≡ size_of p w
    unfolding operations_of
    length_operations = length-take-le (size_of p w) _ (rw length-drop (omega (arith, operations_within)))

    pub length_operands : length (operands_of p w) ≡ 4 * size_of p w
    unfolding operands_of
    length_operands = length-take-le (4 * size_of p w) _ (rw length-drop (omega (arith, operands_within)))
