-- `store_write::part::copy_rows` meets its contract.
use borrow.Author.Rules.{rules}
use mathlib.Core.List.{List, ◌++◌}
use mathlib.Core.Path.{refl, subst, sym}
use Prim.Native.Nat.{ℕ, ◌+◌}
use lib.ListN.{take, drop}
use native.Mathlib.Omega.{arith}
use Rattle.store.specs.Layout.{cap_of}
use Rattle.store.specs.Parts.{Holds}
use Rattle.store.specs.Rows.{rows_of}
use Rattle.store.proofs.Bytes.{used_le}
use Rattle.store.proofs.Buffer.{copied_rows, rows_within}
use Rattle.store_write.proofs.part.copy_rows.Statement.{statement}
use Rattle.store_write.proofs.part.copy_rows.Tie as tie

pub copy_rows_spec : {M : Type 1} → statement M
copy_rows_spec =
    tie.close
    (tie.spec
    (λ c κs. search rules)
    (λ c κs. let st = c in (
      st.requires.0.shape,
      st.requires.1,
      omega (
        arith,
        st.requires.2,
        used_le st.args.store.now st.requires.0 st.args.partition
            st.requires.1,
      ),
    ))
    (λ c κs. let st = c in (
      st.requires.0.shape,
      st.requires.1,
      omega (
        arith,
        st.requires.2,
        used_le st.args.store.now st.requires.0 st.args.partition
            st.requires.1,
      ),
    ))
    (λ c. search rules)
    (λ c. search rules)
    (λ c. search rules)
    (λ c κs. let v = c in
    let k = v in
    let st = k in
    let a = st.args in (
      omega (arith, st.requires.3, st.requires.4),
      omega (
        arith,
        k.key_place-keys_at.ensures,
        (rows_within a.store.now st.requires.0 a.partition st.requires.1 a.row a.rows
            st.requires.2).0,
      ),
    ))
    (λ c. search rules)
    (λ c. search rules)
    (λ c. search rules)
    (λ c. search rules)
    (λ c. search rules)
    (λ c κs. let w = c in
    let v = w in
    let cp = v in
    let st = cp in
    let a = st.args in (
      omega (arith, w.copy_bytes.auto.to, cp.capacity-cap.ensures, st.requires.3, st.requires.4),
      omega (
        arith,
        v.value_place-values_at.ensures,
        (rows_within a.store.now st.requires.0 a.partition st.requires.1 a.row a.rows
            st.requires.2).1,
      ),
    ))
    (λ c. search rules)
    (λ c rs h. let w2 = c in
    let w1 = w2 in
    let v = w1 in
    let k = v in
    let cp = k in
    let st = cp in
    let a = st.args in
    let fits = rows_within a.store.now st.requires.0 a.partition st.requires.1 a.row a.rows st.requires.2 in
    subst (λ (bs : List ℕ). Holds (cap_of a.store.now) bs (a.held + a.rows)
    (rs ++ take a.rows (drop a.row (rows_of a.store.now a.partition))))
    (sym (rw (w2.copy_bytes-2.ensures, w1.copy_bytes.ensures, cp.capacity-cap.ensures, k.key_place-keys_at.ensures, v.value_place-values_at.ensures)
    refl))
    (copied_rows (cap_of a.store.now) a.part.now a.store.now a.held a.partition a.row a.rows rs h st.requires.3
    fits.0 fits.1 st.requires.2)))
