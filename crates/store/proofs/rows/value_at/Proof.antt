-- `store::rows::value_at` meets its contract.
use mathlib.Core.Path.{sym, ap, ◌∙◌}
use native.Mathlib.Omega.{arith}
use Rattle.words.specs.Words.{le}
use Rattle.store.proofs.Bytes.{row_below, value_within, value_is}
use Rattle.store.proofs.rows.value_at.Statement.{statement}
use Rattle.store.proofs.rows.value_at.Tie as tie

pub value_at_spec : {M : Type 1} → statement M
value_at_spec =
    tie.close
    (tie.spec
    (λ c κs. let st = c in (
      st.requires.0.formed.shape,
      st.requires.1,
      omega (arith, row_below st.args.store.now st.requires.0.formed st.args.partition st.requires.1 st.args.row st.requires.2),
    ))
    (λ c κs. let st = c in
    omega (
      arith,
      value_within st.args.store.now st.requires.0.formed.shape st.args.partition st.requires.1 st.args.row
          (row_below st.args.store.now st.requires.0.formed st.args.partition st.requires.1 st.args.row st.requires.2),
    ))
    (λ c. let st = c in
    c.read32.ensures ∙ ap (le 4 st.args.store.now) c.value_place-place.ensures
    ∙ sym (value_is st.args.store.now st.args.partition st.args.row st.requires.2)))
