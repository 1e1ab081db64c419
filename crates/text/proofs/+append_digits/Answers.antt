use Rattle.std.proofs.Common.{◌≤◌, arith}
use Rattle.text.proofs.Laws.{number_more}
use Rattle.text.proofs.+append_digits.Goals as goal

pub returns : goal.returns
returns t c =
    let more : 10 ≤ c.args.number = omega arith in
    number_more more c.append_digits-ahead.ensures c.append_byte-2.ensures
