use Rattle.std.proofs.Common.{◌≡◌, Some, sym, ap, ◌∙◌, refl}
use native.Mathlib.Nat.{sub-zero}
use Rattle.logged.specs.declared.Stage.TheVariants.{UnderWay, Finished}
use Rattle.store.specs.Rows.{store_of}
use Rattle.contents.specs.Contents.{contents_of}
use Rattle.logged.specs.Logged.{by_reply}
use Rattle.logged.proofs.Moves.{used_up, stands_further, still_sought, no_further, comes_to}
use Rattle.logged.proofs.follow_log.Goals as goal

pub loop-init : goal.loop-init
loop-init c = (c.requires.1, rw sub-zero refl)

pub move_by_log-requires : goal.move_by_log-requires
move_by_log-requires c = (c.requires.0, c.loop.invariant.0)

pub returns-in-Some-Finished : goal.returns-in-Some-Finished
returns-in-Some-Finished c =
    let v = c.in-Some-Finished.value in
    let led : c.move_by_log.result ≡ Some (Finished v) = c.in-Some-Finished.is ∙ ap Some c.in-Some-Finished.field-0-is in
    ap by_reply
    (sym (comes_to _ _ _ c.requires.0 c.loop.at _ c.loop.invariant.0 _ _ c.move_by_log.result c.move_by_log.ensures _ _ c.loop-test.true v led)
    ∙ c.loop.invariant.1)

pub returns-in-None : goal.returns-in-None
returns-in-None c =
    ap by_reply
    (sym (no_further _ _ _ c.requires.0 c.loop.at _ c.loop.invariant.0 _ _ c.move_by_log.result c.move_by_log.ensures _ _ c.loop-test.true
    c.in-None.is)
    ∙ c.loop.invariant.1)

pub loop-preserved : goal.loop-preserved
loop-preserved c =
    let to = c.in-Some-UnderWay.place in
    let next = c.in-Some-UnderWay.step in
    let led : c.move_by_log.result ≡ Some (UnderWay to next) = c.in-Some-UnderWay.is ∙ ap Some c.in-Some-UnderWay.field-0-is in (
      stands_further _ _ _ c.requires.0 c.loop.at _ c.loop.invariant.0 (contents_of (store_of c.args.store.now)).log c.args.id
          c.move_by_log.result c.move_by_log.ensures to next led,
      sym
          (still_sought _ _ _ c.requires.0 c.loop.at _ c.loop.invariant.0 _ _ c.move_by_log.result c.move_by_log.ensures _ _ c.loop-test.true
          to next led)
          ∙ c.loop.invariant.1,
    )

pub returns : goal.returns
returns c = ap by_reply (sym (used_up _ _ _ _ _ c.loop-test.false _ _) ∙ c.loop.invariant.1)
