-- `store_write::keep_and_put` meets its contract.
use borrow.Author.Rules.{rules}
use mathlib.Core.List.{List}
use mathlib.Core.Path.{◌≡◌, refl, sym, ap, ◌∙◌}
use Prim.Native.Nat.{◌+◌, ◌-◌, ◌*◌}
use native.Mathlib.Omega.{arith}
use lib.ListN.{length, drop}
use Rattle.store.specs.Layout.{cap_of}
use Rattle.store.specs.Parts.{part_size}
use Rattle.store.specs.Rows.{Row, rows_of, rows_from, put_row}
use Rattle.store.proofs.Sound.{rows_rise}
use Rattle.store_write.proofs.Keeping.{stored_as, take_count, first_within, from_first}
use Rattle.store_write.proofs.keep.keep_and_put.Statement.{statement}
use Rattle.store_write.proofs.keep.keep_and_put.Tie as tie

-- the beginning, from where the search has ended; and where that is, from where the capacity is read
abbrev start : tie.After-ended_at-first → tie.Start
start c = c.before.before.before

abbrev ended : tie.After-capacity → tie.After-ended_at-first
ended c = c.before

-- the rows from the place where the search ended on
left : (c : tie.After-ended_at-first) →
    let a = (start c).args in
    drop c.ended_at-first.result (rows_of a.store.now a.partition) ≡ rows_from a.low (rows_of a.store.now a.partition)
left c =
    let st = start c in
    let a = st.args in
    from_first a.low (rows_of a.store.now a.partition) (rows_rise a.store.now st.requires.0.0 a.partition st.requires.0.1)
    c.find-found.result c.find-found.ensures c.ended_at-first.result c.ended_at-first.ensures

pub keep_and_put_spec : {M : Type 1} → statement M
keep_and_put_spec =
    tie.close
    (tie.spec
    (λ c κs. search rules)
    (λ c κs. search rules)
    (λ c κs. search rules)
    (λ c. search rules)
    (λ c. search rules)
    (λ c. search rules)
    (λ c. search rules)
    (λ c. search rules)
    (λ c κs. let cp = c.before.before in
    let en = ended cp in
    let st = start en in
    let a = st.args in
    let n : 2 + 12 * cp.capacity.result - 0 ≡ part_size (cap_of a.store.now) = omega (arith, cp.capacity.ensures) in (
      (
        st.requires.0.0,
        st.requires.0.1,
        first_within a.low (rows_of a.store.now a.partition)
            (rows_rise a.store.now st.requires.0.0 a.partition st.requires.0.1)
            en.find-found.result en.find-found.ensures en.ended_at-first.result en.ended_at-first.ensures,
        sym (take_count (2 + 12 * cp.capacity.result - 0) 3074 _ refl (omega (arith, n, st.requires.0.0.formed.shape.cap_high))) ∙ n,
      ),
      (omega (arith, ap length (left en), st.requires.1.0), st.requires.1.1, st.requires.1.2),
    ))
    (λ c. search rules)
    (λ c. let kb = c in
    let en = ended kb.before.before.before.before.before.before in
    let a = (start en).args in
    stored_as a.store.now kb.keep_and_put_by.new.store a.partition
    (λ (rs : List Row). put_row a.key a.value (drop en.ended_at-first.result rs))
    (λ (rs : List Row). put_row a.key a.value (rows_from a.low rs)) kb.keep_and_put_by.ensures
    (ap (put_row a.key a.value) (left en))))
