use Rattle.std.proofs.Common.{◌≡◌, ◌+◌, ◌*◌, ◌-◌, sym, ap, ◌∙◌, arith, eq-eqb, ne_eqb}
use Rattle.words.specs.Words.{le}
use Rattle.store_check.proofs.Five.{book_few, book_one, book_next, book_key_lem, book_no, book_more}
use Rattle.store_check.proofs.five_each.Goals as goal

pub last_of_five-requires : goal.last_of_five-requires
last_of_five-requires c =
    let h = c.loop-five-test.true in
    book_key_lem _ _ _ (c.args.rows.now.used - 5 * (c.loop-five.five + 1)) (c.args.rows.now.keys_at + 40 * (c.loop-five.five + 1))
    (omega arith) (omega arith) c.loop-five.invariant.0 _ (c.key-in-loop-five.ensures ∙ ap (le 8 c.args.rows.now.store.now) (omega arith))

pub returns-then-key-last_of_five : goal.returns-then-key-last_of_five
returns-then-key-last_of_five c =
    let h = c.loop-five-test.true in
    sym (book_no _ _ _ (c.args.rows.now.used - 5 * (c.loop-five.five + 1)) (c.args.rows.now.keys_at + 40 * (c.loop-five.five + 1))
    (omega arith) (omega arith) c.loop-five.invariant.0 _ _ (c.key-in-loop-five.ensures ∙ ap (le 8 c.args.rows.now.store.now) (omega arith)) (c.key.ensures ∙ ap (le 8 c.args.rows.now.store.now) (omega arith))
    (λ q. c.if-key-last_of_five.true (q ∙ sym c.last_of_five.ensures)))
    ∙ c.loop-five.invariant.1

pub loop-five-preserved : goal.loop-five-preserved
loop-five-preserved c =
    let h = c.loop-five-test.true in (
      book_next _ _ _ _ _ (omega arith) (omega arith) c.loop-five.invariant.0,
      sym (book_more _ _ _ _ _ (omega arith) (omega arith) c.loop-five.invariant.0 _ _ (c.key-in-loop-five.ensures ∙ ap (le 8 c.args.rows.now.store.now) (omega arith)) (c.key.ensures ∙ ap (le 8 c.args.rows.now.store.now) (omega arith))
          (c.if-key-last_of_five.false ∙ c.last_of_five.ensures))
          ∙ c.loop-five.invariant.1,
    )

pub returns-in-0 : goal.returns-in-0
returns-in-0 c =
    let r = c.args.rows.now in
    let none : r.used - 5 * c.loop-five.five ≡ 0 = omega arith in
    sym (book_few _ _ _ c.loop-five.invariant.0 (λ e. omega arith) (omega arith) ∙ eq-eqb _ 0 none) ∙ c.loop-five.invariant.1

pub returns-in-1 : goal.returns-in-1
returns-in-1 c =
    let r = c.args.rows.now in
    let last : r.keys_at + 8 * (r.used - 1) ≡ r.keys_at + 40 * c.loop-five.five = omega arith in
    c.is_floor.ensures
    ∙ sym (book_one _ _ _ _ (omega arith) (c.key-in-1.ensures ∙ ap (le 8 r.store.now) last))
    ∙ c.loop-five.invariant.1

pub returns-in_default : goal.returns-in_default
returns-in_default c =
    sym (book_few _ _ _ c.loop-five.invariant.0 (λ e. omega arith) (omega arith) ∙ ne_eqb _ 0 (λ e. omega arith)) ∙ c.loop-five.invariant.1
