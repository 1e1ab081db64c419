use Rattle.std.proofs.Common.{arith}
use Rattle.store_write.proofs.Copied.{copied}
use Rattle.store_write.proofs.bytes.copy_bytes.Goals as goal

pub returns : goal.returns
returns c = copied _ _ _ _ _ _ _ _ c.requires.0 c.requires.1 (omega arith) (omega arith) c.copy_from_slice.ensures.after
