-- `block::write::commit` meets its contract.
use mathlib.Core.Path.{◌≡◌, sym, ap, ◌∙◌}
use Prim.Native.Nat.{ℕ}
use native.Mathlib.Omega.{arith}
use borrow.Author.Rules.{rules}
use Rattle.keys.specs.Keys.{log_key}
use Rattle.store.specs.Rows.{rows_of, keys_in, insert_at}
use Rattle.store.specs.Answers.{found_in}
use Rattle.instruction.specs.Pending.{rows_in}
use Rattle.instruction.proofs.Rows.{keys_count, values_count}
use Rattle.block.proofs.Writes.{keys_good, some_keys, first_key, keys_rise, keys_right, log_none, written, left_alone}
use Rattle.block.proofs.write.commit.Statement.{statement}
use Rattle.block.proofs.write.commit.Tie as tie

-- the log row put ahead of the PUTs, seen from the write
abbrev inserted : tie.After-put_all → tie.After-insert_row-rows
inserted pa = pa.before.before.before.before.before.before

-- the rows that are written: the log row, and behind it the PUTs
rows_with_log : (w : tie.After-insert_row-rows) →
    let a = w.args in
    rows_in w.insert_row-rows.result ≡ insert_at (rows_in a.ran.pending) 0 (log_key a.id a.step, a.ran.result)
rows_with_log w = rw w.log_key-log.ensures.0 at w.insert_row-rows.ensures.1

pub commit_spec : {M : Type 1} → statement M
commit_spec =
    tie.close
    (tie.spec
    (λ c κs. search rules)
    (λ c κs. search rules)
    (λ c. search rules)
    (λ c. let w = c in sym (keys_count w.insert_row-rows.result w.insert_row-rows.ensures.0))
    (λ c. search rules)
    (λ c. let w = c in sym (values_count w.insert_row-rows.result w.insert_row-rows.ensures.0))
    (λ c κs.
    let w = c.before.before.before.before.before in
    let lk = w in
    let st = lk in
    let a = st.args in
    let k = lk.log_key-log.ensures in
    let q = w.insert_row-rows.result in
    let z = w.insert_row-rows.ensures.0 in
    let e = rows_with_log w in
    let r = a.ran in (
      (
        st.requires.0,
        omega (arith, st.requires.1),
        some_keys r st.requires.2 a.id a.step _ k.1 k.2 q z e,
        keys_count q z ∙ sym (values_count q z),
        keys_rise r st.requires.2 a.id a.step _ k.1 k.2 q z e,
      ),
      (
        keys_right r st.requires.2 a.id a.step _ k.1 k.2 q z e _ a.partition st.requires.1,
        ap (λ (j : ℕ). found_in j (keys_in (rows_of a.store.now a.partition)))
            (first_key r st.requires.2 a.id a.step _ k.1 k.2 q z e) ∙ st.requires.3,
      ),
    ))
    (λ c. search rules)
    (λ c.
    let pa = c.before.before.before in
    let w = inserted pa in
    let lk = w in
    let st = lk in
    let a = st.args in
    let k = lk.log_key-log.ensures in
    let q = w.insert_row-rows.ensures in
    written a.store.now _ a.partition a.ran st.requires.2 a.id a.step k.1 k.2 w.insert_row-rows.result q.0
    (rows_with_log w)
    (keys_good a.store.now a.partition st.requires.0 st.requires.1) (log_none _ a.id a.step _ k.1 k.2 st.requires.3)
    (rw c.if-put_all.true at pa.put_all.ensures))
    (λ c. search rules)
    (λ c.
    let pa = c.before.before.before in
    let w = inserted pa in
    let lk = w in
    let st = lk in
    let a = st.args in
    let k = lk.log_key-log.ensures in
    let q = w.insert_row-rows.ensures in
    left_alone a.store.now _ a.partition a.ran st.requires.2 a.id a.step k.1 k.2 w.insert_row-rows.result q.0
    (rows_with_log w)
    (keys_good a.store.now a.partition st.requires.0 st.requires.1) (log_none _ a.id a.step _ k.1 k.2 st.requires.3)
    (rw c.if-put_all.false at pa.put_all.ensures)))
