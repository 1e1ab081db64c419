use Rattle.std.proofs.Common.{◌≡◌, ◌+◌, ◌-◌, arith}
use Rattle.words.proofs.Library.{put_part}
use Rattle.words.proofs.write.Goals as goal

pub returns : goal.returns
returns g c =
    let n : c.args.at + g.row.W - c.args.at ≡ g.row.W = omega arith in
    rw (c.copy_from_slice.ensures.after, c.to_le_bytes.ensures)
    (put_part g.row.W (c.args.at + g.row.W - c.args.at) c.args.s.now c.args.at c.args.x c.requires.width n c.requires.within)
