-- `store_write::keep_from` meets its contract: the search for the key ends at the first row that stays.
use borrow.Author.Rules.{rules}
use mathlib.Core.Path.{◌≡◌, refl, sym, ap, ◌∙◌}
use Prim.Native.Nat.{ℕ, ◌+◌, ◌-◌, ◌*◌}
use native.Mathlib.Omega.{arith}
use lib.ListN.{drop}
use Rattle.store.specs.Layout.{cap_of}
use Rattle.store.specs.Parts.{part_size}
use Rattle.store.specs.Rows.{rows_of, rows_from}
use Rattle.store.proofs.Sound.{rows_rise}
use Rattle.store_write.proofs.Keeping.{stored_as, stays, take_count, first_within, from_first, fewer}
use Rattle.store_write.proofs.keep.keep_from.Statement.{statement}
use Rattle.store_write.proofs.keep.keep_from.Tie as tie

-- the beginning, from where the search has ended; and where that is, from where the capacity is read
abbrev start : tie.After-ended_at-first → tie.Start
start c = c.before.before.before

abbrev ended : tie.After-capacity → tie.After-ended_at-first
ended c = c.before.before

-- the rows from the place where the search ended on
left : (c : tie.After-ended_at-first) →
    let a = (start c).args in
    drop c.ended_at-first.result (rows_of a.store.now a.partition) ≡ rows_from a.low (rows_of a.store.now a.partition)
left c =
    let st = start c in
    let a = st.args in
    from_first a.low (rows_of a.store.now a.partition) (rows_rise a.store.now st.requires.0 a.partition st.requires.1)
    c.find-found.result c.find-found.ensures c.ended_at-first.result c.ended_at-first.ensures

pub keep_from_spec : {M : Type 1} → statement M
keep_from_spec =
    tie.close
    (tie.spec
    (λ c κs. search rules)
    (λ c κs. search rules)
    (λ c. search rules)
    (λ c. let en = c.before in
    let st = start en in
    let a = st.args in
    let rows = rows_of a.store.now a.partition in (
      stays a.store.now a.partition (rows_from a.low) st.requires.0
          (sym (left en) ∙ ap (λ (n : ℕ). drop n rows) c.if-first-eq0.true),
      (λ same. refl),
    ))
    (λ c κs. search rules)
    (λ c. search rules)
    (λ c. search rules)
    (λ c. search rules)
    (λ c. search rules)
    (λ c. search rules)
    (λ c κs. let cp = c.before.before in
    let en = ended cp in
    let st = start en in
    let a = st.args in
    let n : 2 + 12 * cp.capacity.result - 0 ≡ part_size (cap_of a.store.now) = omega (arith, cp.capacity.ensures) in (
      st.requires.0,
      st.requires.1,
      first_within a.low (rows_of a.store.now a.partition)
          (rows_rise a.store.now st.requires.0 a.partition st.requires.1)
          en.find-found.result en.find-found.ensures en.ended_at-first.result en.ended_at-first.ensures,
      sym (take_count (2 + 12 * cp.capacity.result - 0) 3074 _ refl (omega (arith, n, st.requires.0.formed.shape.cap_high))) ∙ n,
    ))
    (λ c. search rules)
    (λ c. let kb = c in
    let cp = kb.before.before.before.before.before.before in
    let en = ended cp in
    let st = start en in
    let a = st.args in (
      stored_as a.store.now kb.keep_by.new.store a.partition (drop en.ended_at-first.result) (rows_from a.low)
          kb.keep_by.ensures (left en),
      (λ same. absurd
          (fewer a.low (rows_of a.store.now a.partition) (rows_rise a.store.now st.requires.0 a.partition st.requires.1)
          en.find-found.result en.find-found.ensures en.ended_at-first.result en.ended_at-first.ensures
          (omega (arith, cp.if-first-eq0.false)) same)),
    )))
