use Rattle.std.proofs.Common.{◌≡◌, ◌-◌, ◌+◌, refl, sym, ◌∙◌, arith}
use Rattle.store_check.proofs.Steps.{keys_done, all_done}
use Rattle.store_check.proofs.Marks.{marked, no_form, key_twice, key_more, mark_more}
use Rattle.store_check.proofs.any_order.keys_apart.Goals as goal
use Rattle.store_check.proofs.any_order.keys_apart.Goals.{then-not-of_form-via-then-not-of_form, then-not-of_form-via-else-not-of_form+then-seen}

pub loop-row-init : goal.loop-row-init
loop-row-init c =
    let r = c.args.rows.now in
    (keys_done c.args.book r.store.now _ _ (omega arith), all_done (marked c.args.marks.now c.args.mark) r.store.now _ _ (omega arith))

pub returns-then-not-of_form : goal.returns-then-not-of_form
returns-then-not-of_form c =
    let h = c.loop-row-test.true in
    let b = c.loop-row.auto in
    let back : c.loop-row.row - 1 + 1 ≡ c.loop-row.row = omega arith in
    elim c.then-not-of_form.branch [
      | then-not-of_form-via-then-not-of_form w ↦ sym (no_form c.args.rows.now.store.now c.args.rows.now.keys_at c.args.rows.now.used c.loop-row.row
          _ _ _ (omega arith) (omega arith) refl refl c.key-key.ensures c.args.book (sym c.of_form.ensures ∙ w.if-not-of_form.true))
      | then-not-of_form-via-else-not-of_form+then-seen w ↦
          sym (key_twice c.args.rows.now.store.now c.args.rows.now.keys_at c.args.rows.now.used c.loop-row.row
          _ _ _ (omega arith) (omega arith) refl refl c.key-key.ensures c.args.book (rw back at (sym w.seen.ensures ∙ w.if-seen.true)))
    ]

pub loop-row-preserved : goal.loop-row-preserved
loop-row-preserved c =
    let h = c.loop-row-test.true in
    let b = c.loop-row.auto in
    let back : c.loop-row.row - 1 + 1 ≡ c.loop-row.row = omega arith in (
      key_more c.args.rows.now.store.now c.args.rows.now.keys_at c.args.rows.now.used c.loop-row.row _ _ _ (omega arith) (omega arith)
          refl refl c.key-key.ensures c.args.book (sym c.of_form.ensures ∙ c.if-not-of_form.false) (rw back at (sym c.seen.ensures ∙ c.if-seen.false))
          c.loop-row.invariant.0,
      mark_more c.args.rows.now.store.now c.args.rows.now.keys_at c.args.rows.now.used c.loop-row.row _ _ _ (omega arith) (omega arith)
          refl refl c.key-key.ensures c.loop-row.marks c.args.mark (omega arith) c.loop-row.invariant.1,
    )
