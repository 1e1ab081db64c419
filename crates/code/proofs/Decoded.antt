-- A workflow to which each question says yes is `Checked` in the sense of the rules.
use mathlib.Core.Path.{◌≡◌, refl, sym, ◌∙◌, ap, subst}
use mathlib.Core.Bool.{Bool, true, false, ◌&&◌}
use mathlib.Core.List.{List, ◌∷◌}
use mathlib.Core.Option
use mathlib.Core.Option.{Option, none, some}
use Prim.Native.Nat.{ℕ, zero, suc, ◌+◌, ◌-◌, ◌≤◌, ◌<◌}
use native.Mathlib.Nat.{add-zero, zero-add, add-suc, suc-add, le_of_suc-le-suc, not-suc-le-zero}
use native.Mathlib.Omega.{arith}
use native.Mathlib.Decide.{dec_lt}
use native.Mathlib.Numerals.{add-one}
use borrow.Author.Tests.{ltb-true, leb-true, not-true, eqb-true, ne_eqb}
use lib.Dec.{eqb, ltb, leb}
use lib.ListN.{length, get_or, drop, get_or-eq_default}
use lib.Seq.{drop-cons}
use Rattle.questions.specs.Basics.{if◌then◌otherwise◌}
use Rattle.rules.specs.Shapes.{Side, outside, inside, shape}
use Rattle.rules.specs.Checked.{side_behind, side_at, Lands, Jumps, StandsOn, GoesTo, Stands, Checked}
use Rattle.rules.specs.Instructions.{Code, Instruction, BEGIN, RETURN, instruction_at}
use Rattle.rules.specs.Blocks.{closing, is_end, through_end}
use Rattle.rules.proofs.Positions.{side_next}
use Rattle.questions.proofs.Questions.{ask_none, or_else_none}
use Rattle.questions.proofs.Each.{each_at}
use Rattle.questions.proofs.Tests.{and_left}
use Rattle.questions.proofs.Chains.{each_yes}
use Rattle.operation.specs.declared.Side as Declared
use Rattle.operation.specs.declared.Side.TheVariants.{Anywhere, Inside, Outside}
use Rattle.operation.specs.declared.Operand.{Operand}
use Rattle.operation.specs.declared.Operand.TheVariants.{Any, Below8, Jump, Zero}
use Rattle.operation.specs.Parts.{target_of, source_of}
use Rattle.operation.specs.Operations.{op_begin, op_end, op_return, side_of, operand_of}
use Rattle.code.specs.Layout.{operation_at, register_at, word_at}
use Rattle.code.specs.Questions.{legal, in_range, inside_behind, inside_at, stands, is_no_end, lands_from, lands, question4, question8}
use Rattle.code.specs.Refusal.{instruction_no, code_no}
use Rattle.code.specs.Meaning.{decode, instruction_of, list_of, code_of, Bounded}
use Rattle.code.proofs.Judged.{target_ahead, target_below, operand_ranged, stands_right, lands_right, yes_4, yes_5, yes_6}

-- lists made of a function
module _ {A : Type 0} (f : ℕ → A) where
  pub length_list_of : (n i : ℕ) → length (list_of f n i) ≡ n
  unfolding list_of
  length_list_of zero i = refl
  length_list_of (suc n) i = ap suc (length_list_of n (suc i))

  listed : (n i k : ℕ) (d : A) → k < n → get_or (list_of f n i) k d ≡ f (i + k)
  unfolding list_of
  listed zero i k d h = absurd (not-suc-le-zero h)
  listed (suc n) i zero d h = rw add-zero
  listed (suc n) i (suc k) d h = rw (add-suc, ← suc-add) (listed n (suc i) k d (le_of_suc-le-suc h))

  pub get_or_list_of : (n k : ℕ) (d : A) → k < n → get_or (list_of f n 0) k d ≡ f k
  get_or_list_of n k d h = listed n 0 k d h ∙ ap f (zero-add k)

-- something holds of each of the n numbers from i on
abbrev pub All : (P : ℕ → Type 0) → (n i : ℕ) → Type 0
All P zero i = Unit {0}
All P (suc n) i = P i × All P n (suc i)

infixr 3 ◌also◌
abbrev pub ◌also◌ : {A B : Type 0} → A → B → A × B
x also y = (x, y)

all_at : (P : ℕ → Type 0) (n i : ℕ) → All P n i → (k : ℕ) → k < n → P (i + k)
all_at P zero i a k h = absurd (not-suc-le-zero h)
all_at P (suc n) i a zero h = subst P (sym (add-zero i)) a.0
all_at P (suc n) i a (suc k) h = subst P (suc-add i k ∙ sym (add-suc i k)) (all_at P n (suc i) a.1 k (le_of_suc-le-suc h))

-- to show something of each of the twelve operations: a line for each
pub by_operation : (P : ℕ → Type 0) → All P 12 0 → (op : ℕ) → op < 12 → P op
by_operation P a op h = subst P (zero-add op) (all_at P 12 0 a op h)

abbrev pub side_for : Bool → Side
side_for true = inside
side_for false = outside

-- the shape of an operation: where it stands, what begins behind it, where it may jump
abbrev pub own_side : Declared.Side → Option Side
own_side Anywhere = none
own_side Inside = some inside
own_side Outside = some outside

abbrev pub behind_of : (operation : ℕ) → Option Side
behind_of op = if◌then◌otherwise◌ (eqb op op_begin) (some inside) (if◌then◌otherwise◌ (eqb op op_end) (some outside) none)

abbrev pub target_by : Operand → (w : ℕ) → Option ℕ
target_by Any w = none
target_by Below8 w = none
target_by Jump w = some (target_of w)
target_by Zero w = none

-- is that of the instruction which its byte and operand stand for
module _ (d w : ℕ) where
  abbrev Decoded : (operation : ℕ) → Type 0
  Decoded op =
      ((shape (decode op d w)).stands ≡ own_side (side_of op)) × ((shape (decode op d w)).behind ≡ behind_of op)
      × ((shape (decode op d w)).target ≡ target_by (operand_of op) w)

  pub decoded_shape : (op : ℕ) → op < 12 → Decoded op
  unfolding decode side_of operand_of
  decoded_shape =
      by_operation Decoded
      ((refl, refl, refl)
      also (refl, refl, refl)
      also (refl, refl, refl)
      also (refl, refl, refl)
      also (refl, refl, refl)
      also (refl, refl, refl)
      also (refl, refl, refl)
      also (refl, refl, refl)
      also (refl, refl, refl)
      also (refl, refl, refl)
      also (refl, refl, refl)
      also (refl, refl, refl)
      also tt)

  -- of any number: past B it reads as RETURN
  decoded_behind : (op : ℕ) → (shape (decode op d w)).behind ≡ behind_of op
  unfolding decode
  decoded_behind op = go (dec_lt op 12)
    where
      go : Dec (op < 12) → (shape (decode op d w)).behind ≡ behind_of op
      go (yes h) = (decoded_shape op h).1
      go (no n) =
          let g : 12 ≤ op = omega arith in
          rw (get_or-eq_default, ne_eqb op op_begin (λ e. n (omega arith)), ne_eqb op op_end (λ e. n (omega arith))) refl

  decoded_side : (inside : Bool) (op : ℕ) → side_behind (side_for inside) (decode op d w) ≡ side_for (inside_behind op inside)
  decoded_side b op = ap (λ o. Option.get_or o (side_for b)) (decoded_behind op) ∙ go (eqb op op_begin) (eqb op op_end)
    where
      go : (x y : Bool) →
          Option.get_or (if◌then◌otherwise◌ x (some inside) (if◌then◌otherwise◌ y (some outside) none)) (side_for b)
          ≡ side_for (if◌then◌otherwise◌ x true (if◌then◌otherwise◌ y false b))
      go true y = refl
      go false true = refl
      go false false = refl

  pub decoded_end : (op : ℕ) → is_end (decode op d w) ≡ eqb op op_end
  decoded_end op = ap closing (decoded_behind op) ∙ go (eqb op op_end) refl
    where
      go : (y : Bool) → eqb op op_end ≡ y → closing (if◌then◌otherwise◌ (eqb op op_begin) (some inside) (if◌then◌otherwise◌ y (some outside) none)) ≡ y
      go true e = let n : op ≡ op_end = eqb-true op op_end e in rw n refl
      go false e = either (eqb op op_begin)
        where
          either : (x : Bool) → closing (if◌then◌otherwise◌ x (some inside) none) ≡ false
          either true = refl
          either false = refl

  -- only BEGIN opens a block
  decoded_opens : (op : ℕ) → (shape (decode op d w)).behind ≡ some inside → op ≡ op_begin
  decoded_opens op e = go (eqb op op_begin) (eqb op op_end) refl (sym (decoded_behind op) ∙ e)
    where
      go : (x y : Bool) → eqb op op_begin ≡ x → if◌then◌otherwise◌ x (some inside) (if◌then◌otherwise◌ y (some outside) none) ≡ some inside →
          op ≡ op_begin
      go true y q f = eqb-true op op_begin q
      go false true q f = absurd (let z : ◌≡◌ {A = ℕ} 0 1 = cc in omega arith)
      go false false q f = absurd (let z : ◌≡◌ {A = ℕ} 0 1 = cc in omega arith)

  pub decoded_begin : (op p : ℕ) → decode op d w ≡ BEGIN p → (op ≡ op_begin) × (w ≡ p)
  decoded_begin op p e =
      let o = decoded_opens op (ap (λ x. (shape x).behind) e) in
      (o, same (sym (ap (λ n. decode n d w) o) ∙ e))
    where
      same : decode op_begin d w ≡ BEGIN p → w ≡ p
      same f = unfold decode in let g : BEGIN w ≡ BEGIN p = f in cc

some_through : (x : Instruction) (rest : Code) → 0 < through_end (x ∷ rest)
some_through x rest = go (is_end x)
  where
    go : (b : Bool) → 0 < (if◌then◌otherwise◌ b 1 (suc (through_end rest)))
    go true = omega arith
    go false = omega arith

through_next : (x : Instruction) (rest : Code) → is_end x ≡ false → through_end (x ∷ rest) ≡ suc (through_end rest)
through_next x rest e = rw e

module _ (ops ws : List ℕ) where
  pub length_code : length (code_of ops ws) ≡ length ops
  unfolding code_of
  length_code = length_list_of (λ i. instruction_of (get_or ops i 0) (word_at ws i)) (length ops) 0

  -- how an instruction is read from operation byte and operand word
  pub instruction_at_lem : (i : ℕ) → i < length ops → instruction_at (code_of ops ws) i ≡ instruction_of (get_or ops i 0) (word_at ws i)
  unfolding code_of
  instruction_at_lem i h = get_or_list_of (λ i. instruction_of (get_or ops i 0) (word_at ws i)) (length ops) i (RETURN 0) h

  in_code : (i : ℕ) → i < length ops → i < length (code_of ops ws)
  in_code i h = omega (arith, length_code)

  module _ (known : (i : ℕ) → i < length ops → operation_at ops i < 12) where
    -- the two definitions of a side agree
    pub side_known : (i : ℕ) → i ≤ length ops → side_at (code_of ops ws) i ≡ side_for (inside_at ops i)
    unfolding inside_at
    side_known zero h = refl
    side_known (suc i) h =
        side_next outside (code_of ops ws) i (in_code i h)
        ∙ ap (λ s. side_behind s (instruction_at (code_of ops ws) i)) (side_known i (omega arith))
        ∙ ap (side_behind (side_for (inside_at ops i))) (instruction_at_lem i h)
        ∙ decoded_side (register_at ops i) (word_at ws i) (inside_at ops i) (operation_at ops i)

    not_end : (j : ℕ) → j < length ops → eqb (operation_at ops j) op_end ≡ false → is_end (instruction_at (code_of ops ws) j) ≡ false
    not_end j h e = ap is_end (instruction_at_lem j h) ∙ decoded_end (register_at ops j) (word_at ws j) (operation_at ops j) ∙ e

    no_end_through : (n j : ℕ) → j + n < length ops → ((k : ℕ) → j ≤ k → k < j + n → is_no_end ops k ≡ true) →
        n < through_end (drop j (code_of ops ws))
    unfolding is_no_end
    no_end_through zero j h f =
        rw (drop-cons (code_of ops ws) j (RETURN 0) (in_code j (omega arith)))
        (some_through (instruction_at (code_of ops ws) j) (drop (suc j) (code_of ops ws)))
    no_end_through (suc n) j h f =
        let q = not-true (eqb (operation_at ops j) op_end) (f j (omega arith) (omega arith)) in
        let r = no_end_through n (suc j) (omega arith) (λ k l m. f k (omega arith) (omega arith)) in
        rw (drop-cons (code_of ops ws) j (RETURN 0) (in_code j (omega arith)))
        (rw (through_next (instruction_at (code_of ops ws) j) (drop (suc j) (code_of ops ws)) (not_end j (omega arith) q)) (omega arith))

    jump_lands : (i target : ℕ) (b : Bool) → i < target → target < length ops → lands_from b ops i target ≡ true →
        Lands (side_for b) (code_of ops ws) i target
    unfolding lands_from
    jump_lands i t false h l e = side_known t (omega arith) ∙ ap side_for (not-true (inside_at ops t) e)
    jump_lands i t true h l e =
        let n = rw add-one at (no_end_through (t - (i + 1)) (i + 1) (omega arith) (each_at (is_no_end ops) (t - (i + 1)) (i + 1) e)) in
        omega arith

    jumps_right : (i w : ℕ) → i < length ops → in_range Jump (length ops) i w ≡ true →
        lands_from (inside_at ops i) ops i (target_of w) ≡ true → Jumps (code_of ops ws) i (target_of w)
    jumps_right i w h r l =
        let a = target_ahead Jump (length ops) i w refl r in
        let b = target_below Jump (length ops) i w refl r in (
          a,
          in_code (target_of w) b,
          subst (λ s. Lands s (code_of ops ws) i (target_of w)) (sym (side_known i (omega arith)))
              (jump_lands i (target_of w) (inside_at ops i) a b l),
        )

    module _ (i : ℕ) (h : i < length ops) (d w : ℕ) where
      stands_on : (side : Declared.Side) → stands side (inside_at ops i) ≡ true → StandsOn (side_at (code_of ops ws) i) (own_side side)
      unfolding stands
      stands_on Anywhere s = tt
      stands_on Inside s = side_known i (omega arith) ∙ ap side_for s
      stands_on Outside s = side_known i (omega arith) ∙ ap side_for (not-true (inside_at ops i) s)

      goes_to : (o : Operand) → in_range o (length ops) i w ≡ true → lands o (inside_at ops i) ops i (target_of w) ≡ true →
          GoesTo (code_of ops ws) i (target_by o w)
      unfolding lands
      goes_to Any r l = tt
      goes_to Below8 r l = tt
      goes_to Jump r l = jumps_right i w h r l
      goes_to Zero r l = tt

      stands_all : (op : ℕ) → op < 12 → in_range (operand_of op) (length ops) i w ≡ true → stands (side_of op) (inside_at ops i) ≡ true →
          lands (operand_of op) (inside_at ops i) ops i (target_of w) ≡ true → Stands (code_of ops ws) i (decode op d w)
      stands_all op k r s l =
          let e = decoded_shape d w op k in (
            subst (StandsOn (side_at (code_of ops ws) i)) (sym e.0) (stands_on (side_of op) s),
            subst (GoesTo (code_of ops ws) i) (sym e.2) (goes_to (operand_of op) r l),
          )

module _ (workflow : ℕ) (ops ws : List ℕ) (e : code_no workflow ops ws ≡ none) where
  -- each instruction is right
  pub right_at_lem : (i : ℕ) → i < length ops → instruction_no workflow ops ws i ≡ none
  unfolding code_no
  right_at_lem i h = rw zero-add at (each_yes (instruction_no workflow ops ws) (length ops) 0 i (or_else_none _ _ e).0 h)

  pub operation_known : (i : ℕ) → i < length ops → operation_at ops i < 12
  unfolding question4 legal
  operation_known i h =
      let l = leb-true (operation_at ops i) 11 (and_left (leb (operation_at ops i) 11) _ (yes_4 workflow ops ws i (right_at_lem i h))) in
      omega arith

  stands_at : (i : ℕ) → i < length ops → Stands (code_of ops ws) i (instruction_at (code_of ops ws) i)
  stands_at i h =
      subst (λ x. Stands (code_of ops ws) i x) (sym (instruction_at_lem ops ws i h))
      (stands_all ops ws operation_known i h (register_at ops i) (word_at ws i) (operation_at ops i) (operation_known i h)
      (operand_ranged ops ws i (yes_5 workflow ops ws i (right_at_lem i h)))
      (stands_right ops ws i (yes_6 workflow ops ws i (right_at_lem i h)))
      (lands_right ops ws i (yes_6 workflow ops ws i (right_at_lem i h))))

  returns_at_last : operation_at ops (length ops - 1) ≡ op_return
  unfolding code_no question8
  returns_at_last = eqb-true (operation_at ops (length ops - 1)) op_return (ask_none _ (question8 ops) _ (or_else_none _ _ e).1).0

  pub checked_code : 0 < length ops → Checked (code_of ops ws)
  unfolding decode
  checked_code h =
      record {
        some_instruction = in_code ops ws 0 h;
        stands = λ i l. stands_at i (omega (arith, length_code ops ws));
        last_returns =
            λ i l.
            let k = length_code ops ws in
            let q : i ≡ length ops - 1 = omega arith in
            let o : operation_at ops i ≡ op_return = ap (operation_at ops) q ∙ returns_at_last in
            (register_at ops i, instruction_at_lem ops ws i (omega arith) ∙ ap (λ n. decode n (register_at ops i) (word_at ws i)) o);
      }

-- an operand in range names registers and partitions from 0 to 7
module _ (d size i w : ℕ) (h : d < 8) where
  abbrev InBounds : ℕ → Type 0
  InBounds op = in_range (operand_of op) size i w ≡ true → Bounded (decode op d w)

  jump_bounded : in_range Jump size i w ≡ true → (d < 8) × (source_of w < 8)
  unfolding in_range
  jump_bounded r = (
    h,
    ltb-true (source_of w) 8 (and_left (ltb (source_of w) 8) (ltb i (target_of w))
        (and_left (ltb (source_of w) 8 && ltb i (target_of w)) _ r)),
  )

  pub bounded_all : (op : ℕ) → op < 12 → InBounds op
  unfolding decode operand_of in_range
  bounded_all =
      by_operation InBounds
      ((λ r. h)
      also (λ r. (h, ltb-true w 8 r))
      also (λ r. (h, ltb-true w 8 r))
      also (λ r. (h, ltb-true w 8 r))
      also jump_bounded
      also jump_bounded
      also (λ r. ltb-true w 8 r)
      also (λ r. h)
      also (λ r. (h, ltb-true w 8 r))
      also (λ r. (h, ltb-true w 8 r))
      also (λ r. (h, ltb-true w 8 r))
      also (λ r. h)
      also tt)

module _ (workflow : ℕ) (ops ws : List ℕ) (e : code_no workflow ops ws ≡ none) where
  pub bounded_at : (i : ℕ) → i < length ops → Bounded (instruction_at (code_of ops ws) i)
  bounded_at i h =
      subst Bounded (sym (instruction_at_lem ops ws i h))
      (bounded_all (register_at ops i) (length ops) i (word_at ws i) (omega arith) (operation_at ops i) (operation_known workflow ops ws e i h)
      (operand_ranged ops ws i (yes_5 workflow ops ws i (right_at_lem workflow ops ws e i h))))
