-- `store::rows::find` meets its contract.
use borrow.Author.Rules.{rules}
use mathlib.Core.List.{List}
use mathlib.Core.Path.{◌≡◌, sym, ap, subst, ◌∙◌}
use Prim.Native.Nat.{ℕ, ◌+◌, ◌-◌}
use native.Mathlib.Omega.{arith}
use lib.ListN.{length, drop}
use Rattle.words.specs.Words.{fields}
use Rattle.store.specs.Layout.{parts_of, cap_of, key_at}
use Rattle.store.specs.Rows.{rows_of, keys_in}
use Rattle.store.specs.Answers.{Searched}
use Rattle.store.specs.Answers.{Found}
use Rattle.store.proofs.Lists.{before}
use Rattle.store.proofs.Bytes.{used_le, keys_from_lem}
use Rattle.store.proofs.rows.find.Statement.{statement}
use Rattle.store.proofs.rows.find.Tie as tie

-- a search of the keys from the place of row i's on is one of the keys of the rows from row i on
searched_from : (xs : List ℕ) (p i m from key : ℕ) (r : Found)
    → Searched key (fields 8 xs from m) r → i + m ≡ length (rows_of xs p) → from ≡ key_at xs p i
    → Searched key (keys_in (drop i (rows_of xs p))) r
searched_from xs p i m from key r h e place =
    subst (λ (ks : List ℕ). Searched key ks r) (ap (λ (a : ℕ). fields 8 xs a m) place ∙ sym (keys_from_lem xs p i m e)) h

pub find_spec : {M : Type 1} → statement M
find_spec =
    tie.close
    (tie.spec
    (λ c κs. search rules)
    (λ c κs. let st = c in
    let h = st.requires.0 in (
      h.shape,
      st.requires.1,
      omega (
        arith,
        st.requires.2,
        h.shape.cap_low,
        used_le st.args.store.now h st.args.partition
            st.requires.1,
      ),
    ))
    (λ c. search rules)
    (λ c κs. let used = c.used_count-used in
    let st = c in
    let xs = st.args.store.now in
    let h = st.requires.0.shape in
    let fit = used_le xs st.requires.0 st.args.partition st.requires.1 in
    let below = before (cap_of xs) {p = st.args.partition} {q = parts_of xs + 1} (omega (arith, st.requires.1)) in
    omega (arith, used.ensures, st.requires.2, fit, below, h.size, h.cap_low))
    (λ c. let used = c.used_count-used in
    let st = c in
    let a = st.args in
    searched_from a.store.now a.partition a.row (used.result - a.row) _ a.key c.search.result
    c.search.ensures (omega (arith, used.ensures, st.requires.2)) (omega arith)))
