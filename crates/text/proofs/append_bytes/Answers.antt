use Rattle.std.proofs.Common.{◌≡◌, ◌+◌, ◌-◌, length, arith}
use Rattle.text.proofs.Laws.{appended_part}
use Rattle.text.proofs.append_bytes.Goals as goal

pub returns : goal.returns
returns c =
    let n : c.args.written + length c.args.source.now - c.args.written ≡ length c.args.source.now = omega arith in
    rw c.copy_from_slice.ensures.after (appended_part c.args.out.now c.args.source.now c.args.written _ c.requires n)
