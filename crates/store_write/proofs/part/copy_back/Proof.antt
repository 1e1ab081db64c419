-- `store_write::part::copy_back` meets its contract.
use borrow.Author.Rules.{rules}
use mathlib.Core.Path.{refl}
use Prim.Native.Nat.{◌+◌, ◌*◌}
use native.Mathlib.Omega.{arith}
use Rattle.store.specs.Layout.{parts_of, cap_of}
use Rattle.store.proofs.Bytes.{keys_within}
use Rattle.store.proofs.Parts.{values_fit, part_copied}
use Rattle.store_write.proofs.part.copy_back.Statement.{statement}
use Rattle.store_write.proofs.part.copy_back.Tie as tie

pub copy_back_spec : {M : Type 1} → statement M
copy_back_spec =
    tie.close
    (tie.spec
    (λ c κs. search rules)
    (λ c κs. search rules)
    (λ c κs. search rules)
    (λ c. search rules)
    (λ c. search rules)
    (λ c κs. search rules)
    (λ c. search rules)
    (λ c κs. let w = c in
    let k = w in
    let cp = k in
    let st = cp in
    let a = st.args in (
      omega (
        arith,
        w.copy_bytes.auto.to,
        k.key_place-keys_at.ensures,
        cp.capacity-cap.ensures,
        keys_within a.store.now st.requires.0 a.partition st.requires.1 (cap_of a.store.now) (omega arith),
      ),
      omega
          (arith, cp.capacity-cap.ensures, st.requires.2),
    ))
    (λ c. search rules)
    (λ c. search rules)
    (λ c. search rules)
    (λ c κs. let w2 = c in
    let w1 = w2 in
    let v = w1 in
    let cp = v in
    let st = cp in
    let a = st.args in (
      omega (
        arith,
        w2.copy_bytes-2.auto.to,
        w1.copy_bytes.auto.to,
        v.value_place-values_at.ensures,
        cp.capacity-cap.ensures,
        st.requires.0.size,
        values_fit (parts_of a.store.now) (cap_of a.store.now) a.partition st.requires.1,
      ),
      omega (arith, cp.capacity-cap.ensures, st.requires.2),
    ))
    (λ c. search rules)
    (λ c. let w3 = c in
    let w2 = w3 in
    let w1 = w2 in
    let v = w1 in
    let k = v in
    let cp = k in
    let st = cp in
    let a = st.args in
    rw (w3.copy_bytes-3.ensures, w2.copy_bytes-2.ensures, w1.copy_bytes.ensures)
    (part_copied (parts_of a.store.now) (cap_of a.store.now) a.partition a.part.now a.store.now cp.capacity-cap.result
    (3 + 2 * a.partition) k.key_place-keys_at.result v.value_place-values_at.result (2 + 8 * cp.capacity-cap.result)
    cp.capacity-cap.ensures refl (omega (arith, k.key_place-keys_at.ensures)) (omega (arith, v.value_place-values_at.ensures)) refl)))
