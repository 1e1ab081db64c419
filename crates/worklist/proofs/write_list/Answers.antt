use Rattle.std.proofs.Common.{◌≡◌, refl, ap, ◌∙◌, arith}
use Rattle.worklist.specs.Bytes.{list_in, with_entries, with_list}
use Rattle.worklist.proofs.Bytes.{with_more, list_back}
use Rattle.worklist.proofs.Typed.{sixteen_places, count_small, entries_small}
use Rattle.worklist.proofs.write_list.Goals as goal

pub loop-place-init : goal.loop-place-init
unfolding with_entries
loop-place-init c = refl

pub loop-place-preserved : goal.loop-place-preserved
loop-place-preserved c =
    let more = with_more c.write32.new.s c.args.l.places c.loop-place.place in
    cc

-- after the last place
module _ (c : goal.After-loop-place) where
  written : c.loop-place.bytes ≡ with_list c.args.bytes.now c.args.l
  written =
      c.loop-place.invariant ∙ ap (with_entries c.write32.new.s c.args.l.places) (omega arith)
      ∙ ap (λ xs. with_entries xs c.args.l.places 16) c.write32.ensures

pub returns-clause-bytes_after : goal.returns-clause-bytes_after
returns-clause-bytes_after c = written c

pub returns-clause-read_back : goal.returns-clause-read_back
returns-clause-read_back c =
    let t = c.well_formed.1.0 in
    ap list_in (written c)
    ∙ list_back c.args.bytes.now c.args.l c.requires (sixteen_places c.args.l _ t) (count_small c.args.l _ t) (entries_small c.args.l _ t)
