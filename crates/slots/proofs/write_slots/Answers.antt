use Rattle.std.proofs.Common.{◌≡◌, refl, ap, ◌∙◌, arith}
use Rattle.agents.proofs.Typed.{eight_records}
use Rattle.slots.specs.Records.{slots_in, with_records, with_slots}
use Rattle.slots.proofs.Records.{records_more, slots_back}
use Rattle.slots.proofs.Typed.{all_fitting}
use Rattle.slots.proofs.write_slots.Goals as goal

pub loop-slot-init : goal.loop-slot-init
unfolding with_records
loop-slot-init c = refl

pub loop-slot-preserved : goal.loop-slot-preserved
loop-slot-preserved c =
    let more = records_more c.args.bytes.now c.args.slots c.loop-slot.slot in
    cc

-- behind the last slot
written : (c : goal.After-loop-slot) → c.loop-slot.bytes ≡ with_slots c.args.bytes.now c.args.slots
written c = c.loop-slot.invariant ∙ ap (with_records c.args.bytes.now c.args.slots) (omega arith)

pub returns-clause-bytes_after : goal.returns-clause-bytes_after
returns-clause-bytes_after c = written c

pub returns-clause-read_back : goal.returns-clause-read_back
returns-clause-read_back c =
    ap slots_in (written c)
    ∙ slots_back c.args.bytes.now c.args.slots c.requires (eight_records c.args.slots _ c.well_formed.1.0)
    (all_fitting c.args.slots _ c.well_formed.1.0)
