-- `store::rows::get`: what the search found, by a reading of all rows.
use Rattle.std.proofs.Common.{sym, ap, ◌∙◌, Some}
use Rattle.store.specs.Answers.{got_of}
use Rattle.store.proofs.Sound.{rows_rise}
use Rattle.store.proofs.Search.{at_row, at_lookup, no_lookup}
use Rattle.store.proofs.rows.get.Goals as goal

pub value_at-requires : goal.value_at-requires
value_at-requires c = (
  c.requires.0,
  c.requires.1,
  at_row c.args.key _ c.in-Ok.row (sym (c.find.ensures.all (rows_rise _ c.requires.0 _ c.requires.1)) ∙ c.in-Ok.is),
)

pub returns-in-Ok : goal.returns-in-Ok
unfolding got_of
returns-in-Ok c =
    ap Some c.value_at.ensures
    ∙ sym (ap got_of (at_lookup c.args.key _ c.in-Ok.row (sym (c.find.ensures.all (rows_rise _ c.requires.0 _ c.requires.1)) ∙ c.in-Ok.is)))

pub returns-in-Err : goal.returns-in-Err
unfolding got_of
returns-in-Err c =
    sym (ap got_of (no_lookup c.args.key _ c.in-Err.field-0 (sym (c.find.ensures.all (rows_rise _ c.requires.0 _ c.requires.1)) ∙ c.in-Err.is)))
