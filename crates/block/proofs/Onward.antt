-- A run inside a block of a workflow that is right: it goes forward, stays inside, has room for its PUTs, and the rules' run goes on as it
-- does.
use mathlib.Core.Bool.{true}
use mathlib.Core.List.{List}
use mathlib.Core.Logic.{◌⊎◌, inl, inr}
use mathlib.Core.Option.{some}
use mathlib.Core.Path.{◌≡◌, refl, sym, ap, ◌∙◌, subst}
use Prim.Native.Nat.{ℕ, suc, ◌+◌, ◌-◌, ◌≤◌, ◌<◌}
use native.Mathlib.Numerals.{add-one}
use native.Mathlib.Omega.{arith}
use borrow.Author.Tests.{eqb-true}
use lib.ListN.{length, get_or}
use Rattle.contents.specs.Contents.{value_in}
use Rattle.rules.specs.Instructions.{Instruction, Act, moves, opens, closes, reads, puts, returns, act}
use Rattle.rules.specs.Shapes.{outside, shape}
use Rattle.rules.specs.Blocks.{yields, closing, Work, Block, close, within, run_from, run_block}
use Rattle.rules.specs.Instructions as Instructions
use Rattle.rules.specs.Blocks as Blocks
use Rattle.keys.specs.Keys.{table_of}
use Rattle.questions.proofs.Updates.{none_some}
use Rattle.rules.proofs.Shapes.{Agrees, agrees}
use Rattle.rules.proofs.Blocks.{past, enough}
use Rattle.store.specs.Rows.{Row, count_new, keys_in}
use Rattle.store.specs.Rows as Rows
use Rattle.operation.specs.declared.Operand.{Operand}
use Rattle.operation.specs.declared.Operand.TheVariants.{Any, Below8, Jump, Zero}
use Rattle.operation.specs.Parts.{target_of}
use Rattle.operation.specs.Operations.{op_begin, op_end, operand_of}
use Rattle.code.specs.Layout.{operation_at, word_at, register_at}
use Rattle.code.specs.Questions.{inside_at, puts_before}
use Rattle.code.specs.Meaning.{decode, instruction_of, code_of}
use Rattle.code.specs.Meaning as Meaning
use Rattle.code.proofs.Judged.{target_ahead, target_below}
use Rattle.code.proofs.Steps.{begins}
use Rattle.code.proofs.Decoded.{target_by, decoded_shape, decoded_end, length_code, instruction_at_lem}
use Rattle.code.proofs.Right.{known_at, ranged_at, right_checked, not_outside}
use Rattle.instruction.specs.Pending.{nothing_pending, over, seen, rows_in, new_in}
use Rattle.instruction.specs.Step.{place_of, work_of, Stepped, puts_of}
use Rattle.instruction.proofs.Rows.{no_rows, nothing_kept}
use Rattle.code.specs.Right.{Right}
use Rattle.block.specs.Run.{block_of, run_of, Inside}
use Rattle.instruction.specs.declared.pending.Pending.{Pending}
use Rattle.instruction.specs.declared.Running.{Running}
use Rattle.block.specs.declared.run.Ran.{Ran}
use Rattle.block.proofs.Inside.{inside_next, puts_behind, stretch, jump_no_end}

-- ---- where a step leads

module _ (d w : ℕ) (rs : List Row) (x : Running) where
  probe : Work → Block
  probe v = record { table = v.table; new_keys = v.place.position; result = yields 0 }

  abbrev Lands : ℕ → ℕ → Type 0
  Lands op n = (n ≡ suc x.place.position) ⊎ ((operand_of op ≡ Jump) × (n ≡ target_of w))

  -- only a jump has a target
  jumps : (o : Operand) (n : ℕ) → target_by o w ≡ some n → (o ≡ Jump) × (n ≡ target_of w)
  jumps Any n e = none_some n refl e
  jumps Below8 n e = none_some n refl e
  jumps Jump n e = (refl, cc)
  jumps Zero n e = none_some n refl e

  leads : (op : ℕ) → op < 12 → ((shape (decode op d w)).stands ≡ some outside → ⊥) → (op ≡ op_end → ⊥) →
      (n : ℕ) → (within (act (decode op d w) (place_of x.place)) (work_of rs x) probe).new_keys ≡ n → Lands op n
  unfolding probe Blocks.within
  leads op k out e n f = go (act (decode op d w) (place_of x.place)) (agrees (decode op d w) (place_of x.place)) f
    where
      go : (y : Act) → Agrees (decode op d w) (place_of x.place) y → (within y (work_of rs x) probe).new_keys ≡ n → Lands op n
      go (moves to) (on, inl p) q = inl (sym q ∙ p)
      go (moves to) (on, inr p) q = inr (jumps (operand_of op) n (sym (decoded_shape d w op k).2 ∙ p ∙ ap some q))
      go (reads j to) (s, on, p) q = inl (sym q ∙ p _)
      go (puts j v) a q = inl (sym q)
      go (opens p) a q = absurd (out (ap (λ (y : Instruction). (shape y).stands) a))
      go (closes v) a q = absurd (e (eqb-true op op_end (sym (decoded_end d w op) ∙ ap closing a.1)))
      go (returns v) a q = absurd (out a)

-- ---- one step of the loop

module _ (ops ws : List ℕ) (right : Right ops ws) where
  module _ (rs : List Row) (x y : Running) (h : x.place.position < length ops) (on : Inside ops x)
      (n : operation_at ops x.place.position ≡ op_end → ⊥)
      (t : Stepped (act (instruction_of (get_or ops x.place.position 0) (word_at ws x.place.position)) (place_of x.place)) rs x y
      (puts_of (operation_at ops x.place.position))) where
    lands_at : Lands (register_at ops x.place.position) (word_at ws x.place.position) rs x (operation_at ops x.place.position)
        y.place.position
    unfolding probe
    lands_at =
        leads (register_at ops x.place.position) (word_at ws x.place.position) rs x (operation_at ops x.place.position)
        (known_at ops ws right x.place.position h)
        (not_outside ops ws right x.place.position h on.inside (register_at ops x.place.position)
        (word_at ws x.place.position)) n y.place.position
        (ap (λ (b : Block). b.new_keys) (t.goes (probe (register_at ops x.place.position) (word_at ws x.place.position) rs x)))

    pub record Further : Type 0 where
      pub further : x.place.position < y.place.position
      pub inside : Inside ops y

    pub goes_further : Further
    goes_further = go lands_at
      where
        next_inside : inside_at ops (suc x.place.position) ≡ true
        next_inside = inside_next ops ws right x.place.position h on.inside n

        next_few : y.pending.count ≤ puts_before ops (suc x.place.position)
        next_few = omega (arith, t.few, on.few, puts_behind ops ws right x.place.position h on.inside n)

        go : Lands (register_at ops x.place.position) (word_at ws x.place.position) rs x (operation_at ops x.place.position)
            y.place.position → Further
        go (inl e) =
            record {
              further = omega arith;
              inside = record { inside = rw e next_inside; kept = t.kept; few = rw e next_few };
            }
        go (inr (j, e)) =
            let a = target_ahead (operand_of (operation_at ops x.place.position)) (length ops) x.place.position
            (word_at ws x.place.position) j (ranged_at ops ws right x.place.position h) in
            let b = target_below (operand_of (operation_at ops x.place.position)) (length ops) x.place.position
            (word_at ws x.place.position) j (ranged_at ops ws right x.place.position h) in
            let r = stretch ops ws right (target_of (word_at ws x.place.position) - suc x.place.position) (suc x.place.position)
            (omega arith) next_inside (λ k l l'. jump_no_end ops ws right x.place.position h on.inside j k l (omega arith)) in
            let q : suc x.place.position + (target_of (word_at ws x.place.position) - suc x.place.position)
            ≡ y.place.position = omega arith in
            record {
              further = omega arith;
              inside =
                  record {
                    inside = subst (λ (k : ℕ). inside_at ops k ≡ true) q r.0;
                    kept = t.kept;
                    few = subst (λ (k : ℕ). y.pending.count ≤ puts_before ops k) q (omega (arith, r.1, next_few));
                  };
            }

    pub runs_on : run_of ops ws rs x ≡ run_of ops ws rs y
    unfolding Blocks.run_from Instructions.act_at
    runs_on =
        let m = length ops - suc x.place.position in
        let e : length ops - x.place.position ≡ suc m = omega arith in
        let k = length_code ops ws in
        let q : length ops - y.place.position + (m - (length ops - y.place.position)) ≡ m = omega (arith, goes_further.further) in
        ap (λ (a : ℕ). run_from (code_of ops ws) a (work_of rs x)) e
        ∙ ap (λ (i : Instruction). within (act i (place_of x.place)) (work_of rs x) (run_from (code_of ops ws) m))
        (instruction_at_lem ops ws x.place.position h)
        ∙ t.goes (run_from (code_of ops ws) m)
        ∙ ap (λ (a : ℕ). run_from (code_of ops ws) a (work_of rs y)) (sym q)
        ∙ sym (enough (code_of ops ws) (right_checked ops ws right (omega arith)) (length ops - y.place.position)
        (m - (length ops - y.place.position)) (work_of rs y) (omega arith))

  -- ---- where the loop ends

  module _ (rs : List Row) (x : Running) (r : Ran) (pending : r.pending ≡ x.pending) where
    closed : (v : ℕ) → r.result ≡ v → block_of rs r ≡ close (work_of rs x) (yields v)
    closed v e = λ i. record { table = table_of (seen (rows_in (pending i)) rs); new_keys = new_in (pending i) rs; result = yields (e i) }

    -- at END
    pub run_ends : x.place.position < length ops → operation_at ops x.place.position ≡ op_end → (d : ℕ) →
        d ≡ register_at ops x.place.position → r.result ≡ get_or x.place.registers d 0 → block_of rs r ≡ run_of ops ws rs x
    unfolding Blocks.run_from Instructions.act_at Instructions.act Blocks.within Meaning.decode
    run_ends h o d p e =
        let q : length ops - x.place.position ≡ suc (length ops - suc x.place.position) = omega arith in
        closed (get_or x.place.registers d 0) e
        ∙ sym
        (ap (λ (a : ℕ). run_from (code_of ops ws) a (work_of rs x)) q
        ∙ ap (λ (i : Instruction). within (act i (place_of x.place)) (work_of rs x)
        (run_from (code_of ops ws) (length ops - suc x.place.position))) (instruction_at_lem ops ws x.place.position h)
        ∙ rw (o, ← p) refl)

    -- past the last instruction
    pub run_none : length ops ≤ x.place.position → r.result ≡ 0 → block_of rs r ≡ run_of ops ws rs x
    run_none h e = closed 0 e
        ∙ sym (past (code_of ops ws) (work_of rs x) (length ops - x.place.position) (omega (arith, length_code ops ws)))

-- ---- where the loop starts

module _ (ops ws : List ℕ) (rs : List Row) (first : ℕ) (registers : List ℕ) (p : Pending) (nothing : p ≡ nothing_pending) where
  abbrev pub started : Running
  started = record { place = record { position = first + 1; registers = registers }; pending = p }

  pub starts_inside : operation_at ops first ≡ op_begin → Inside ops started
  starts_inside e = record { inside = begins ops first e; kept = rw nothing nothing_kept; few = rw nothing (omega arith) }

  pub starts : run_of ops ws rs started ≡ run_block (code_of ops ws) (record { position = first; registers = registers })
      (table_of (value_in rs))
  unfolding Blocks.run_block over Rows.lookup Rows.count_new Rows.keys_in
  starts =
      ap (λ (ps : List Row). run_from (code_of ops ws) (length ops - (first + 1))
      (record { place = place_of started.place; table = table_of (seen ps rs); new_keys = count_new (keys_in ps) rs }))
      (ap rows_in nothing ∙ no_rows)
      ∙ rw (add-one first, ← length_code ops ws) refl
