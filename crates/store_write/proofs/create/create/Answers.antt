use Rattle.std.proofs.Common.{rules, refl}
use Rattle.store_write.proofs.Fresh.{created_kept, create_right, created_fresh}
use Rattle.store_write.proofs.create.create.Goals as goal

pub returns-in_err-check_buffer : goal.returns-in_err-check_buffer
returns-in_err-check_buffer c = created_kept _ _ _ _ (search rules) (λ q. search rules)

pub write_fresh-requires : goal.write_fresh-requires
write_fresh-requires c = create_right _ _ _ _ c.check_buffer.ensures c.in_ok-check_buffer.was

pub returns : goal.returns
returns c = created_fresh _ _ _ _ (search rules) refl _ c.write_fresh.ensures
