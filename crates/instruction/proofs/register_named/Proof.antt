-- `instruction::register_named` meets its contract.
use native.Mathlib.Omega.{arith}
use lib.Bits.{and_mask}
use Rattle.instruction.proofs.register_named.Statement.{statement}
use Rattle.instruction.proofs.register_named.Tie as tie

pub register_named_spec : {M : Type 1} → statement M
register_named_spec = tie.close
    (tie.spec (λ c. omega (arith, and_mask c.args.word 3))
    (λ c. (omega (arith, and_mask c.args.word 3), omega (arith, and_mask c.args.word 3))))
