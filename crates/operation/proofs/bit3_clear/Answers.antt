-- The mask of bit 3 is 8 times that bit, so one is zero where the other is.
use Rattle.std.proofs.Common.{◌/◌, ◌%◌, bit_and, arith}
use lib.Bits.{and_high}
use Rattle.operation.proofs.Iff.{eqb_iff}
use Rattle.operation.proofs.bit3_clear.Goals as goal

pub returns : goal.returns
returns c =
    let h = and_high c.args.byte 1 3 in
    eqb_iff (bit_and c.args.byte 8) 0 (c.args.byte / 8 % 2) 0 (λ e. omega arith) (λ e. omega arith)
