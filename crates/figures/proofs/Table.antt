-- The loop over a workflow from its last instruction to its first: the side, the index behind the next END, and the table.
use mathlib.Core.Bool.{Bool, true, false}
use mathlib.Core.List.{List}
use mathlib.Core.Path.{◌≡◌, refl, sym, ap, ◌∙◌, subst}
use Prim.Native.Nat.{ℕ, suc, ◌+◌, ◌-◌, ◌≤◌, ◌<◌}
use native.Mathlib.Omega.{arith}
use native.Mathlib.Decide.{ℕ_discrete}
use borrow.Author.Tests.{eqb-true}
use lib.Dec.{eqb}
use lib.ListN.{length, get_or, set, drop, length-set, drop_of_length-le}
use lib.Seq.{drop-cons, get_or-set_same, get_or-set_other}
use Rattle.questions.specs.Basics.{if◌then◌otherwise◌}
use Rattle.rules.specs.Instructions.{Code, RETURN, instruction_at}
use Rattle.rules.specs.Shapes.{outside, inside, shape}
use Rattle.rules.specs.Blocks.{is_end, through_end}
use Rattle.rules.specs.Checked.{side_behind, side_at, Checked}
use Rattle.rules.specs.Routes.{by_rows, MostOf}
use Rattle.rules.proofs.Positions.{own_side_lem, side_next, two_sides}
use Rattle.operation.specs.Operations.{op_begin, op_end}
use Rattle.code.specs.Layout.{operation_at, register_at, word_at}
use Rattle.code.specs.Meaning.{decode, code_of}
use Rattle.code.specs.Questions.{inside_at}
use Rattle.code.proofs.Decoded.{side_for, decoded_end, length_code, instruction_at_lem, side_known}
use Rattle.code.proofs.Right.{known_at, right_checked}
use Rattle.figures.specs.declared.Counted.{Counted}
use Rattle.figures.specs.Counted.{MostAt, Filled, Sized}

-- the flag of a side
flag_outside : (b : Bool) → side_for b ≡ outside → b ≡ false
flag_outside false e = refl
flag_outside true e = two_sides refl e

flag_inside : (b : Bool) → side_for b ≡ inside → b ≡ true
flag_inside true e = refl
flag_inside false e = two_sides e refl

module _ (ops ws : List ℕ) (sized : Sized ops ws) where
  abbrev code : Code
  code = code_of ops ws

  checked : Checked code
  checked = right_checked ops ws sized.right sized.some_instruction

  side_is : (i : ℕ) → i ≤ length ops → side_at code i ≡ side_for (inside_at ops i)
  side_is i h = side_known ops ws (known_at ops ws sized.right) i h

  -- ── behind the last instruction ──

  pub outside_last : false ≡ inside_at ops (length ops)
  outside_last =
      let n : suc (length ops - 1) ≡ length ops = let s = sized.some_instruction in omega arith in
      let l : length ops - 1 < length code = omega (arith, length_code ops ws, n) in
      let r = checked.last_returns (length ops - 1) (omega (arith, length_code ops ws, n)) in
      let s = own_side_lem code checked (length ops - 1) l outside (ap (λ y. (shape y).stands) r.1) in
      sym
      (flag_outside (inside_at ops (length ops))
      (sym (side_is (length ops) (omega arith)) ∙ ap (side_at code) (sym n) ∙ side_next outside code (length ops - 1) l
      ∙ ap (side_behind (side_at code (length ops - 1))) r.1 ∙ s))

  pub no_end_last : length ops ≡ length ops + through_end (drop (length ops) code)
  no_end_last =
      let q : through_end (drop (length ops) code) ≡ 0 =
      rw (drop_of_length-le code {i = length ops} (omega (arith, length_code ops ws))) refl in
      omega arith

  -- ── one instruction further towards the first ──

  module _ (k : ℕ) (h : k < length ops) where
    abbrev op : ℕ
    op = operation_at ops k

    read : instruction_at code k ≡ decode op (register_at ops k) (word_at ws k)
    read = instruction_at_lem ops ws k h

    end_inside : op ≡ op_end → inside_at ops k ≡ true
    unfolding decode
    end_inside e =
        flag_inside (inside_at ops k)
        (sym (side_is k (omega arith))
        ∙ own_side_lem code checked k (omega (arith, length_code ops ws)) inside
        (ap (λ y. (shape y).stands) (read ∙ ap (λ n. decode n (register_at ops k) (word_at ws k)) e)))

    begin_outside : op ≡ op_begin → inside_at ops k ≡ false
    unfolding decode
    begin_outside e =
        flag_outside (inside_at ops k)
        (sym (side_is k (omega arith))
        ∙ own_side_lem code checked k (omega (arith, length_code ops ws)) outside
        (ap (λ y. (shape y).stands) (read ∙ ap (λ n. decode n (register_at ops k) (word_at ws k)) e)))

    pub side_before : (after : Bool) → after ≡ inside_at ops (suc k) →
        if◌then◌otherwise◌ (eqb op op_end) true (if◌then◌otherwise◌ (eqb op op_begin) false after) ≡ inside_at ops k
    unfolding inside_at
    side_before after e = go (eqb op op_end) (eqb op op_begin) refl refl (e ∙ refl)
      where
        go : (x y : Bool) → eqb op op_end ≡ x → eqb op op_begin ≡ y →
            after ≡ if◌then◌otherwise◌ y true (if◌then◌otherwise◌ x false (inside_at ops k)) →
            if◌then◌otherwise◌ x true (if◌then◌otherwise◌ y false after) ≡ inside_at ops k
        go true y p q f = sym (end_inside (eqb-true op op_end p))
        go false true p q f = sym (begin_outside (eqb-true op op_begin q))
        go false false p q f = f

    pub end_before : (behind : ℕ) → behind ≡ suc k + through_end (drop (suc k) code) →
        if◌then◌otherwise◌ (eqb op op_end) (k + 1) behind ≡ k + through_end (drop k code)
    end_before behind e = go (eqb op op_end) here
      where
        here : through_end (drop k code) ≡ if◌then◌otherwise◌ (eqb op op_end) 1 (suc (through_end (drop (suc k) code)))
        here =
            ap through_end (drop-cons code k (RETURN 0) (omega (arith, length_code ops ws)))
            ∙ ap (λ b. if◌then◌otherwise◌ b 1 (suc (through_end (drop (suc k) code))))
            (ap is_end read ∙ decoded_end (register_at ops k) (word_at ws k) op)

        go : (x : Bool) → through_end (drop k code) ≡ if◌then◌otherwise◌ x 1 (suc (through_end (drop (suc k) code))) →
            if◌then◌otherwise◌ x (k + 1) behind ≡ k + through_end (drop k code)
        go true q = omega arith
        go false q = omega arith

-- ── the table ──

pub nothing_filled : (by : Counted) (ops ws most : List ℕ) → length ops ≤ length most → Filled by ops ws (length ops) most
nothing_filled by ops ws most l = record { long = l; each = λ i a b. absurd (omega arith) }

pub one_filled : (by : Counted) (ops ws most : List ℕ) (k n : ℕ) → k < length ops → Filled by ops ws (k + 1) most → MostAt by ops ws k n →
    Filled by ops ws k (set most k n)
one_filled by ops ws most k n h f m =
    record { long = omega (arith, length-set most k n, f.long); each = each }
  where
    each : (i : ℕ) → k ≤ i → i < length ops → MostAt by ops ws i (get_or (set most k n) i 0)
    each i a b = go (ℕ_discrete i k)
      where
        go : Dec (i ≡ k) → MostAt by ops ws i (get_or (set most k n) i 0)
        go (yes e) =
            subst (λ j. MostAt by ops ws j (get_or (set most k n) j 0)) (sym e)
            (subst (MostAt by ops ws k) (sym (get_or-set_same most k n 0 (omega (arith, f.long)))) m)
        go (no d) = subst (MostAt by ops ws i) (sym (get_or-set_other most k i n 0 d)) (f.each i (omega arith) b)

-- ── the rows of each partition ──

-- the first partitions have their most rows
abbrev pub RowsUpTo : (ops ws : List ℕ) (partition : ℕ) (rows : List ℕ) → Type 0
RowsUpTo ops ws n rows = (p : ℕ) → p < n → MostOf (by_rows p) (code_of ops ws) (get_or rows p 0)

pub one_more : (ops ws : List ℕ) (n : ℕ) (rows : List ℕ) (most : ℕ) → n < length rows → RowsUpTo ops ws n rows →
    MostOf (by_rows n) (code_of ops ws) most → RowsUpTo ops ws (n + 1) (set rows n most)
one_more ops ws n rows most h f m p l = go (ℕ_discrete p n)
  where
    go : Dec (p ≡ n) → MostOf (by_rows p) (code_of ops ws) (get_or (set rows n most) p 0)
    go (yes e) =
        subst (λ j. MostOf (by_rows j) (code_of ops ws) (get_or (set rows n most) j 0)) (sym e)
        (subst (MostOf (by_rows n) (code_of ops ws)) (sym (get_or-set_same rows n most 0 h)) m)
    go (no d) = subst (MostOf (by_rows p) (code_of ops ws)) (sym (get_or-set_other rows n p most 0 d)) (f p (omega arith))
