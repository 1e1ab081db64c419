use Rattle.std.proofs.Common.{◌≡◌, ◌+◌, ◌*◌, ◌-◌, sym, ap, ap₂, ◌∙◌, arith, Ok, Err}
use Rattle.words.specs.Words.{fields}
use Rattle.store.proofs.Found.{shift, sought, shift_none, shift_at, shift_belongs, shift_more, searched, next_smaller, next_equal}
use Rattle.store.proofs.Found.{next_greater, none_left}
use Rattle.store.proofs.rows.search.Goals as goal

pub loop-place-init : goal.loop-place-init
loop-place-init c =
    let from : c.args.keys_at ≡ c.args.keys_at + 0 = omega arith in
    let all : c.args.count ≡ c.args.count - 0 = omega arith in
    ap (sought c.args.key) (ap₂ (fields 8 c.args.store.now) from all) ∙ sym (shift_none _)

pub returns-then-key-next-2 : goal.returns-then-key-next-2
returns-then-key-next-2 c =
    let h = c.loop-place-test.true in
    let q = next_equal c.args.key 8 c.args.store.now (c.args.keys_at + 8 * c.loop-place.place) (c.args.count - c.loop-place.place)
    (c.args.count - (c.loop-place.place + 1)) (omega arith) (sym c.read64-next.ensures ∙ sym c.if-key-next-2.true) in
    searched c.args.key (fields 8 c.args.store.now c.args.keys_at c.args.count) (Ok c.loop-place.place)
    (sym (c.loop-place.invariant ∙ ap (shift c.loop-place.place) q ∙ shift_at c.loop-place.place))

pub returns-then-key-next : goal.returns-then-key-next
returns-then-key-next c =
    let h = c.loop-place-test.true in
    let q = next_greater c.args.key 8 c.args.store.now (c.args.keys_at + 8 * c.loop-place.place) (c.args.count - c.loop-place.place)
    (c.args.count - (c.loop-place.place + 1)) (omega arith)
    (omega (arith, c.read64-next.ensures, c.if-key-next-2.false, c.if-key-next.true)) in
    searched c.args.key (fields 8 c.args.store.now c.args.keys_at c.args.count) (Err c.loop-place.place)
    (sym (c.loop-place.invariant ∙ ap (shift c.loop-place.place) q ∙ shift_belongs c.loop-place.place))

pub loop-place-preserved : goal.loop-place-preserved
loop-place-preserved c =
    let h = c.loop-place-test.true in
    let q = next_smaller c.args.key 8 c.args.store.now (c.args.keys_at + 8 * c.loop-place.place) (c.args.count - c.loop-place.place)
    (c.args.count - (c.loop-place.place + 1)) (omega arith) (omega (arith, c.read64-next.ensures, c.if-key-next.false)) in
    let step : c.args.keys_at + 8 * c.loop-place.place + 8 ≡ c.args.keys_at + 8 * (c.loop-place.place + 1) = omega arith in
    c.loop-place.invariant ∙ ap (shift c.loop-place.place) q ∙ shift_more c.loop-place.place _
    ∙ ap (λ o. shift (c.loop-place.place + 1) (sought c.args.key (fields 8 c.args.store.now o (c.args.count - (c.loop-place.place + 1))))) step

pub returns : goal.returns
returns c =
    let h = c.loop-place-test.false in
    let e : c.loop-place.place ≡ c.args.count = omega (arith, c.loop-place.auto) in
    searched c.args.key (fields 8 c.args.store.now c.args.keys_at c.args.count) (Err c.args.count)
    (sym (c.loop-place.invariant
    ∙ ap (shift c.loop-place.place)
    (none_left c.args.key 8 c.args.store.now (c.args.keys_at + 8 * c.loop-place.place) (c.args.count - c.loop-place.place) (omega arith))
    ∙ shift_belongs c.loop-place.place ∙ ap Err e))
