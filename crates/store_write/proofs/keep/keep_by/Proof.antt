-- `store_write::keep_by` meets its contract.
use borrow.Author.Rules.{rules}
use mathlib.Core.List.{List, []}
use mathlib.Core.Path.{ap, ◌∙◌}
use Prim.Native.Nat.{ℕ, ◌-◌}
use native.Mathlib.Omega.{arith}
use lib.Dec.{eqb}
use lib.ListN.{drop}
use Rattle.store.specs.Layout.{parts_of, cap_of}
use Rattle.store.specs.Parts.{with_part}
use Rattle.store.specs.Rows.{rows_of}
use Rattle.store.specs.Sound.{KeysGood}
use Rattle.store.proofs.Bytes.{used_le}
use Rattle.store.proofs.From.{keys_behind}
use Rattle.store_write.proofs.Keeping.{kept, cleared, copied_all}
use Rattle.store_write.proofs.keep.keep_by.Statement.{statement}
use Rattle.store_write.proofs.keep.keep_by.Tie as tie

-- the beginning, from where the used count is read; and where that is, from where the buffer is clear and from where the rows are copied
abbrev start : tie.After-used_count → tie.Start
start c = c.before.before.before

abbrev counted : tie.After-clear → tie.After-used_count
counted c = c.before.before

abbrev clear_then : tie.After-copy_rows → tie.After-clear
clear_then c = c.before.before.before.before

pub keep_by_spec : {M : Type 1} → statement M
unfolding KeysGood
keep_by_spec =
    tie.close
    (tie.spec
    (λ c κs. search rules)
    (λ c. search rules)
    (λ c κs. search rules)
    (λ c κs. let cl = c.before.before.before in
    let u = counted cl in
    let st = start u in
    let a = st.args in
    let fit = used_le a.store.now st.requires.0.formed a.partition st.requires.1 in (
      st.requires.0.formed,
      st.requires.1,
      omega (arith, u.used_count.ensures, st.requires.2),
      omega (arith, u.used_count.ensures, fit),
      cl.clear.auto.bytes ∙ st.requires.3,
    ))
    (λ c. let u = counted (clear_then c.before.before.before) in
    let st = start u in
    let a = st.args in
    omega (
      arith,
      u.used_count.ensures,
      used_le a.store.now st.requires.0.formed a.partition st.requires.1,
      st.requires.0.formed.shape.cap_high,
    ))
    (λ c κs. search rules)
    (λ c κs. search rules)
    (λ c. search rules)
    (λ c. search rules)
    (λ c. let cb = c in
    let w = cb in
    let cr = w.before.before.before.before.before.before.before.before.before.before in
    let cl = clear_then cr in
    let u = counted cl in
    let st = start u in
    let a = st.args in
    let rows = rows_of a.store.now a.partition in
    let count = u.used_count.result - a.first in
    kept a.store.now cb.copy_back.new.store a.partition (drop a.first) cr.copy_rows.new.part count st.requires.0 st.requires.1
    (copied_all (cap_of a.store.now) cr.copy_rows.new.part rows a.first count (omega (arith, u.used_count.ensures, st.requires.2))
    (cr.copy_rows.ensures [] (cleared (cap_of a.store.now) cl.clear.new.bytes a.part.now cl.clear.ensures st.requires.3)))
    (keys_behind (eqb a.partition (parts_of a.store.now)) a.first rows (st.requires.0.keys a.partition st.requires.1))
    (cb.copy_back.ensures
    ∙ ap (λ (bs : List ℕ). with_part (parts_of a.store.now) (cap_of a.store.now) a.partition bs a.store.now)
    w.write16.ensures)))
