use Rattle.std.proofs.Common.{refl, sym, ◌∙◌, arith, eqb-true}
use borrow.Author.Tests.{ltb-true}
use Rattle.store_check.proofs.Steps.{member_at}
use Rattle.store_check.proofs.any_order.has.Goals as goal
use Rattle.store_check.proofs.any_order.has.Goals.{then-near-rows, else-near-rows}

pub returns-then-key : goal.returns-then-key
returns-then-key c =
    elim c.if-near-rows.branch [
      | then-near-rows w ↦ c.if-key.true ∙ sym (member_at c.args.key c.args.rows.now.store.now c.args.rows.now.keys_at c.args.rows.now.used c.args.near _
          w.if-near-rows.true refl (sym w.key.ensures ∙ eqb-true _ _ (sym w.value-is ∙ c.if-key.true)))
      | else-near-rows w ↦
          let h = w.if-near-rows.false in
          absurd (omega (arith, ltb-true c.args.near c.args.rows.now.used (sym w.value-is ∙ c.if-key.true)))
    ]
