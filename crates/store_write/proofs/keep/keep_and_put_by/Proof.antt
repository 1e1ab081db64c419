-- `store_write::keep_and_put_by` meets its contract: the search for the key ends behind the last row that is copied.
use borrow.Author.Rules.{rules}
use mathlib.Core.List.{List, []}
use mathlib.Core.Path.{sym, ap, subst, ◌∙◌}
use Prim.Native.Nat.{ℕ, ◌+◌, ◌≤◌, ◌<◌}
use native.Mathlib.Omega.{arith}
use lib.Dec.{eqb}
use lib.ListN.{length, take, drop, length-drop}
use Rattle.store.specs.Layout.{parts_of, cap_of}
use Rattle.store.specs.Parts.{part_size, with_part, Holds}
use Rattle.store.specs.Rows.{Row, rows_of, put_row}
use Rattle.store.specs.Sound.{KeysGood}
use Rattle.store.proofs.From.{keys_behind}
use Rattle.store.proofs.Sound.{rows_rise}
use Rattle.store_write.proofs.Keeping.{kept, keys_one, cleared, place_within, put_there}
use Rattle.store_write.proofs.Merging.{Adds}
use Rattle.store_write.proofs.keep.keep_and_put_by.Statement.{statement}
use Rattle.store_write.proofs.keep.keep_and_put_by.Tie as tie

-- where the capacity is read and the beginning, from where the search has ended; and the places between, from the later ones
abbrev sized : tie.After-ended_at-ahead → tie.After-capacity-cap
sized c = c.before.before

abbrev start : tie.After-ended_at-ahead → tie.Start
start c = (sized c).before.before.before

abbrev ended : tie.After-clear → tie.After-ended_at-ahead
ended c = c.before.before

abbrev clear_then : tie.After-copy_rows → tie.After-clear
clear_then c = c.before.before.before.before

abbrev copied : tie.After-add_row → tie.After-copy_rows
copied c = c.before.before.before.before

-- the rows that are copied are among those from row `first` on
within : (c : tie.After-ended_at-ahead) →
    let a = (start c).args in
    c.ended_at-ahead.result ≤ length (drop a.first (rows_of a.store.now a.partition))
within c =
    let a = (start c).args in
    place_within a.key (rows_of a.store.now a.partition) a.first c.find-found.result c.find-found.ensures
    c.ended_at-ahead.result c.ended_at-ahead.ensures

-- so there is room for one more
room : (c : tie.After-ended_at-ahead) → c.ended_at-ahead.result < cap_of (start c).args.store.now
room c = omega (arith, within c, (start c).requires.1.0)

-- what the buffer holds then
held : (c : tie.After-add_row) →
    let en = ended (clear_then (copied c)) in
    let a = (start en).args in
    Holds (cap_of a.store.now) c.add_row.new.part (en.ended_at-ahead.result + 1)
    (put_row a.key a.value (drop a.first (rows_of a.store.now a.partition)))
held c =
    let cr = copied c in
    let cl = clear_then cr in
    let en = ended cl in
    let st = start en in
    let a = st.args in
    let rows = rows_of a.store.now a.partition in
    let count = en.ended_at-ahead.result in
    subst (Holds (cap_of a.store.now) c.add_row.new.part (count + 1))
    (put_there a.key rows a.first en.find-found.result en.find-found.ensures count en.ended_at-ahead.ensures a.value
    (rows_rise a.store.now st.requires.0.0 a.partition st.requires.0.1) st.requires.1.2)
    (subst (Adds cr.copy_rows.new.part c.add_row.new.part count a.key a.value) (sized en).capacity-cap.ensures
    c.add_row.ensures (take count (drop a.first rows))
    (subst (λ (n : ℕ). Holds (cap_of a.store.now) cr.copy_rows.new.part n (take count (drop a.first rows))) (omega arith)
    (cr.copy_rows.ensures []
    (cleared (cap_of a.store.now) cl.clear.new.bytes a.part.now cl.clear.ensures st.requires.0.3))))

pub keep_and_put_by_spec : {M : Type 1} → statement M
unfolding KeysGood
keep_and_put_by_spec =
    tie.close
    (tie.spec
    (λ c κs. search rules)
    (λ c κs. search rules)
    (λ c κs. search rules)
    (λ c κs. search rules)
    (λ c κs. let cl = c.before.before.before in
    let en = ended cl in
    let st = start en in
    let a = st.args in (
      st.requires.0.0.formed,
      st.requires.0.1,
      omega (arith, within en, length-drop a.first (rows_of a.store.now a.partition), st.requires.0.2),
      omega (arith, room en),
      cl.clear.auto.bytes ∙ st.requires.0.3,
    ))
    (λ c κs. let cr = c.before.before.before in
    let cl = clear_then cr in
    let en = ended cl in
    let st = start en in (
      cr.copy_rows.auto.part ∙ cl.clear.auto.bytes ∙ st.requires.0.3 ∙ ap part_size (sym (sized en).capacity-cap.ensures),
      omega (arith, room en, (sized en).capacity-cap.ensures),
      omega (arith, (sized en).capacity-cap.ensures, st.requires.0.0.formed.shape.cap_high),
    ))
    (λ c. let en = ended (clear_then (copied c.before.before.before)) in
    omega (arith, room en, (start en).requires.0.0.formed.shape.cap_high))
    (λ c. let en = ended (clear_then (copied c.before.before.before)) in
    omega (arith, room en, (start en).requires.0.0.formed.shape.cap_high))
    (λ c κs. search rules)
    (λ c κs. let w = c in
    let ar = w.before.before.before.before.before.before.before in
    let cl = clear_then (copied ar) in
    let st = start (ended cl) in (
      st.requires.0.0.formed.shape,
      st.requires.0.1,
      w.write16.auto.s ∙ ar.add_row.auto.part ∙ (copied ar).copy_rows.auto.part ∙ cl.clear.auto.bytes ∙ st.requires.0.3,
    ))
    (λ c. search rules)
    (λ c. search rules)
    (λ c. let cb = c in
    let w = cb in
    let ar = w.before.before.before.before.before.before.before.before.before.before in
    let en = ended (clear_then (copied ar)) in
    let st = start en in
    let a = st.args in
    let rows = rows_of a.store.now a.partition in
    kept a.store.now cb.copy_back.new.store a.partition (λ (rs : List Row). put_row a.key a.value (drop a.first rs))
    ar.add_row.new.part (en.ended_at-ahead.result + 1) st.requires.0.0 st.requires.0.1 (held ar)
    (keys_one (eqb a.partition (parts_of a.store.now)) a.key a.value (drop a.first rows) st.requires.1.1
    (keys_behind (eqb a.partition (parts_of a.store.now)) a.first rows (st.requires.0.0.keys a.partition st.requires.0.1)))
    (cb.copy_back.ensures
    ∙ ap (λ (bs : List ℕ). with_part (parts_of a.store.now) (cap_of a.store.now) a.partition bs a.store.now)
    w.write16.ensures)))
