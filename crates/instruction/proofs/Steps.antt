-- One instruction of a block: what the code makes of a run is what the rules' act makes of it.
use mathlib.Core.Bool.{Bool}
use mathlib.Core.List.{List}
use mathlib.Core.Option
use mathlib.Core.Option.{Option, some}
use mathlib.Core.Path.{◌≡◌, refl, sym, ap, ◌∙◌, fun_ext}
use Prim.Native.Nat.{ℕ, suc, ◌+◌, ◌-◌, ◌%◌, ◌^◌, ◌≤◌, ◌<◌}
use native.Mathlib.Numerals.{add-one}
use native.Mathlib.Omega.{arith}
use borrow.Author.Tests.{lt-ltb, ne_eqb}
use lib.Dec.{eqb, ltb}
use lib.ListN.{get_or, set}
use Rattle.questions.specs.Basics.{if◌then◌otherwise◌, update, is_some}
use Rattle.rules.specs.Instructions.{GET, PUT, HAS, Place, register, becomes, goto, next, Act, moves, reads, puts, act}
use Rattle.rules.specs.Instructions as Instructions
use Rattle.rules.specs.Blocks.{within}
use Rattle.rules.specs.Blocks as Blocks
use Rattle.keys.specs.Keys.{data_key, table_of}
use Rattle.keys.proofs.Keys.{data_put}
use Rattle.store.specs.Rows.{Row, put_row, count_new, keys_in}
use Rattle.operation.specs.Parts.{operation_of, register_of, source_of, target_of}
use Rattle.operation.specs.Operations.{op_get, op_put, op_has}
use Rattle.code.specs.Meaning.{decode, instruction_of}
use Rattle.code.specs.Meaning as Meaning
use Rattle.instruction.specs.Pending.{seen, rows_in, SameBehind, Kept}
use Rattle.instruction.specs.Step.{place_of, work_of, rows_behind, Stepped, puts_of, source_by, Sourced}
use Rattle.instruction.specs.declared.pending.Pending.{Pending}
use Rattle.instruction.specs.declared.Spot.{Spot}
use Rattle.instruction.specs.declared.Running.{Running}
use Rattle.instruction.proofs.Rows.{seen_put, count_put, count_new_lem, settled}

-- a data key of 32 bits, in the table
table_at : (f : ℕ → Option ℕ) (k : ℕ) → k < 2 ^ 32 → table_of f k ≡ f (data_key k)
table_at f k h = rw (lt-ltb k (2 ^ 32) h) refl

-- PUTs that stay as they are
as_it_was : (p : Pending) → SameBehind p p
as_it_was p = record { keys_behind = refl; values_behind = refl }

-- the run at another place, its PUTs as they are
abbrev pub at_place : Running → Spot → Running
at_place x y = record { place = y; pending = x.pending }

-- ---- on to the next instruction

pub next_at_lem : (x : Spot) → place_of (record { position = x.position + 1; registers = x.registers }) ≡ next (place_of x)
next_at_lem x = λ i. record { position = add-one x.position i; registers = x.registers }

pub becomes_at : (x : Spot) (d v : ℕ) →
    place_of (record { position = x.position + 1; registers = set x.registers d v }) ≡ becomes (place_of x) d v
becomes_at x d v = λ i. record { position = add-one x.position i; registers = set x.registers d v }

-- ---- what an instruction asks for

module _ (rs : List Row) (x : Running) (y : Spot) (kept : Kept x.pending) where
  step_moved : (a : Act) → moves (place_of y) ≡ a → Stepped a rs x (at_place x y) 0
  unfolding Blocks.within rows_behind
  step_moved a e =
      record {
        goes = λ onward. ap (λ (b : Act). within b (work_of rs x) onward) (sym e);
        rows = ap (λ (b : Act). rows_behind b (rows_in x.pending)) e;
        kept = kept;
        few = omega arith;
        behind = as_it_was x.pending;
      }

  -- by what the block sees at the key
  step-reads : (k : ℕ) → k < 2 ^ 32 → (o : Option ℕ) → seen (rows_in x.pending) rs (data_key k) ≡ o → (to : Option ℕ → Place) →
      place_of y ≡ to o → Stepped (reads k to) rs x (at_place x y) 0
  unfolding Blocks.within rows_behind
  step-reads k h o e to p =
      record {
        goes =
            λ onward.
            ap
            (λ (a : Place).
            onward
            (record {
              place = a;
              table = table_of (seen (rows_in x.pending) rs);
              new_keys = count_new (keys_in (rows_in x.pending)) rs;
            }))
            (ap to (table_at (seen (rows_in x.pending) rs) k h ∙ e) ∙ sym p);
        rows = refl;
        kept = kept;
        few = omega arith;
        behind = as_it_was x.pending;
      }

  module _ (d s : ℕ) (h : register (place_of x.place) s < 2 ^ 32) (o : Option ℕ)
      (e : seen (rows_in x.pending) rs (data_key (register (place_of x.place) s)) ≡ o) where
    pub step_get : place_of y ≡ becomes (place_of x.place) d (Option.get_or o (register (place_of x.place) d)) →
        Stepped (act (GET d s) (place_of x.place)) rs x (at_place x y) 0
    unfolding Instructions.act
    step_get = step-reads (register (place_of x.place) s) h o e
        (λ found. becomes (place_of x.place) d (Option.get_or found (register (place_of x.place) d)))

    pub step_has : place_of y ≡ becomes (place_of x.place) d (if◌then◌otherwise◌ (is_some o) 1 0) →
        Stepped (act (HAS d s) (place_of x.place)) rs x (at_place x y) 0
    unfolding Instructions.act
    step_has = step-reads (register (place_of x.place) s) h o e
        (λ found. becomes (place_of x.place) d (if◌then◌otherwise◌ (is_some found) 1 0))

module _ (rs : List Row) (x : Running) (was : Kept x.pending) (k v : ℕ) (h : k < 2 ^ 32) (q : Pending)
    (e : rows_in q ≡ put_row (data_key k) v (rows_in x.pending)) where
  table_put : update (table_of (seen (rows_in x.pending) rs)) k (some v) ≡ table_of (seen (rows_in q) rs)
  table_put =
      sym
      (ap (λ (ps : List Row). table_of (seen ps rs)) e
      ∙ ap table_of (fun_ext {f = seen (put_row (data_key k) v (rows_in x.pending)) rs}
      {g = update (seen (rows_in x.pending) rs) (data_key k) (some v)} (seen_put (data_key k) v rs (rows_in x.pending)))
      ∙ fun_ext {f = table_of (update (seen (rows_in x.pending) rs) (data_key k) (some v))}
      {g = update (table_of (seen (rows_in x.pending) rs)) k (some v)} (data_put (seen (rows_in x.pending) rs) v k h))

  keys_put : if◌then◌otherwise◌ (is_some (table_of (seen (rows_in x.pending) rs) k)) (count_new (keys_in (rows_in x.pending)) rs)
      (suc (count_new (keys_in (rows_in x.pending)) rs))
      ≡ count_new (keys_in (rows_in q)) rs
  keys_put =
      let n = count_new (keys_in (rows_in x.pending)) rs in
      ap (λ (o : Option ℕ). if◌then◌otherwise◌ (is_some o) n (suc n)) (table_at (seen (rows_in x.pending) rs) k h)
      ∙ sym (count_new_lem (data_key k) v rs (seen (rows_in x.pending) rs (data_key k)) n)
      ∙ sym (ap (λ (ps : List Row). count_new (keys_in ps) rs) e ∙ count_put (data_key k) v rs (rows_in x.pending) was.in_order)

  step_puts : (y : Spot) → place_of y ≡ next (place_of x.place) → Kept q → q.count ≤ x.pending.count + 1 →
      SameBehind x.pending q → Stepped (puts k v) rs x (record { place = y; pending = q }) 1
  unfolding Blocks.within rows_behind
  step_puts y p kept few behind =
      record {
        goes = λ onward i. onward (record { place = sym p i; table = table_put i; new_keys = keys_put i });
        rows = e;
        kept = kept;
        few = few;
        behind = behind;
      }

module _ (rs : List Row) (x : Running) (was : Kept x.pending) (d s : ℕ) (h : register (place_of x.place) d < 2 ^ 32) where
  pub step_put : (q : Pending) →
      rows_in q ≡ put_row (data_key (register (place_of x.place) d)) (register (place_of x.place) s) (rows_in x.pending) →
      (y : Spot) → place_of y ≡ next (place_of x.place) → Kept q → q.count ≤ x.pending.count + 1 →
      SameBehind x.pending q → Stepped (act (PUT d s) (place_of x.place)) rs x (record { place = y; pending = q }) 1
  unfolding Instructions.act
  step_put q e = step_puts rs x was (register (place_of x.place) d) (register (place_of x.place) s) h q e

-- a step settles all that is pending
pub step_settles : (a : Act) (rs : List Row) (x y z : Running) (more : ℕ) → Stepped a rs x y more → Stepped a rs x z more
    → y.pending ≡ z.pending
step_settles a rs x y z more s t =
    settled x.pending y.pending z.pending s.kept.sized t.kept.sized (s.rows ∙ sym t.rows) s.behind t.behind

-- ---- by the operation that the byte has

module _ (b w d s : ℕ) (p : d ≡ register_of b) (q : s ≡ w % 8) (z : Sourced (operation_of b) w) (rs : List Row) (x y : Running) where
  source : (op : ℕ) → operation_of b ≡ op → (op ≡ 0 → ⊥) → source_by op w ≡ s
  source op e n = rw e at z n ∙ sym q

  pub get_step : operation_of b ≡ op_get → Stepped (act (GET d s) (place_of x.place)) rs x y 0 →
      Stepped (act (instruction_of b w) (place_of x.place)) rs x y (puts_of (operation_of b))
  unfolding Meaning.decode
  get_step e t = let r : w ≡ s = source op_get e (λ i. omega arith) in rw (e, r, ← p) t

  pub has_step : operation_of b ≡ op_has → Stepped (act (HAS d s) (place_of x.place)) rs x y 0 →
      Stepped (act (instruction_of b w) (place_of x.place)) rs x y (puts_of (operation_of b))
  unfolding Meaning.decode
  has_step e t = let r : w ≡ s = source op_has e (λ i. omega arith) in rw (e, r, ← p) t

  pub put_step : operation_of b ≡ op_put → Stepped (act (PUT d s) (place_of x.place)) rs x y 1 →
      Stepped (act (instruction_of b w) (place_of x.place)) rs x y (puts_of (operation_of b))
  unfolding Meaning.decode
  put_step e t = let r : w ≡ s = source op_put e (λ i. omega arith) in rw (e, r, ← p) t

pub move_step : (b w d : ℕ) → d ≡ register_of b → (rs : List Row) (x : Running) (y : Spot) → (operation_of b ≡ op_put → ⊥) → Kept x.pending
    → moves (place_of y) ≡ act (decode (operation_of b) d w) (place_of x.place) →
    Stepped (act (instruction_of b w) (place_of x.place)) rs x (at_place x y) (puts_of (operation_of b))
move_step b w d p rs x y n k e =
    rw (ne_eqb (operation_of b) op_put n) (step_moved rs x y k (act (instruction_of b w) (place_of x.place)) (rw p at e))

-- ---- the operations on registers alone

module _ (x y : Spot) (op d w : ℕ) where
  abbrev pub Moved : Type 0
  Moved = moves (place_of y) ≡ act (decode op d w) (place_of x)

  set_moved : (v : ℕ) → place_of y ≡ becomes (place_of x) d v → act (decode op d w) (place_of x) ≡ moves (becomes (place_of x) d v) → Moved
  set_moved v e a = ap moves e ∙ sym a

  jump_moved : (t : Bool) (target : ℕ) → place_of y ≡ if◌then◌otherwise◌ t (goto (place_of x) target) (next (place_of x)) → target ≡ target_of w
      → act (decode op d w) (place_of x) ≡ moves (if◌then◌otherwise◌ t (goto (place_of x) (target_of w)) (next (place_of x))) → Moved
  jump_moved t target e p a = ap moves e ∙ ap (λ (n : ℕ). moves (if◌then◌otherwise◌ t (goto (place_of x) n) (next (place_of x)))) p ∙ sym a

  pub moved_set : op ≡ 0 → place_of y ≡ becomes (place_of x) d w → Moved
  unfolding Meaning.decode Instructions.act
  moved_set e q = set_moved w q (rw e refl)

  module _ (s : ℕ) (p : s ≡ w % 8) (z : Sourced op w) where
    from : (n : ℕ) → op ≡ n → (n ≡ 0 → ⊥) → source_by n w ≡ s
    from n e m = rw e at z m ∙ sym p

    pub moved_copy : op ≡ 1 → place_of y ≡ becomes (place_of x) d (get_or x.registers s 0) → Moved
    unfolding Meaning.decode Instructions.act
    moved_copy e q = let r : w ≡ s = from 1 e (λ i. omega arith) in set_moved (get_or x.registers s 0) q (rw (e, r) refl)

    pub moved_add : op ≡ 2 → (v : ℕ) → v ≡ (get_or x.registers d 0 + get_or x.registers s 0) % 2 ^ 32 →
        place_of y ≡ becomes (place_of x) d v → Moved
    unfolding Meaning.decode Instructions.act
    moved_add e v f q = let r : w ≡ s = from 2 e (λ i. omega arith) in set_moved v q (rw (e, r, f) refl)

    pub moved_sub : op ≡ 3 → (v : ℕ) → v ≡ (get_or x.registers d 0 + 2 ^ 32 - get_or x.registers s 0) % 2 ^ 32 →
        place_of y ≡ becomes (place_of x) d v → Moved
    unfolding Meaning.decode Instructions.act
    moved_sub e v f q = let r : w ≡ s = from 3 e (λ i. omega arith) in set_moved v q (rw (e, r, f) refl)

    module _ (target : ℕ) (t : target ≡ target_of w) where
      pub moved_less : op ≡ 4 →
          place_of y ≡ if◌then◌otherwise◌ (ltb (get_or x.registers d 0) (get_or x.registers s 0)) (goto (place_of x) target)
          (next (place_of x)) → Moved
      unfolding Meaning.decode Instructions.act
      moved_less e q = let r : source_of w ≡ s = from 4 e (λ i. omega arith) in
          jump_moved (ltb (get_or x.registers d 0) (get_or x.registers s 0)) target q t (rw (e, r) refl)

      pub moved_same : op ≡ 5 →
          place_of y ≡ if◌then◌otherwise◌ (eqb (get_or x.registers d 0) (get_or x.registers s 0)) (goto (place_of x) target)
          (next (place_of x)) → Moved
      unfolding Meaning.decode Instructions.act
      moved_same e q = let r : source_of w ≡ s = from 5 e (λ i. omega arith) in
          jump_moved (eqb (get_or x.registers d 0) (get_or x.registers s 0)) target q t (rw (e, r) refl)
