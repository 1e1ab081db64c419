use Rattle.std.proofs.Common.{arith}
use Rattle.store.proofs.Sound.{store_ok}
use Rattle.retiring.proofs.Made.{book_asked, made}
use Rattle.retiring.proofs.retire_rows.Goals as goal

pub partition_count-parts-requires : goal.partition_count-parts-requires
partition_count-parts-requires c = omega (arith, (store_ok c.args.store.now c.requires.0).0.formed.shape.size)

pub keep_and_put-requires : goal.keep_and_put-requires
keep_and_put-requires c =
    let e = c.partition_count-parts.ensures in record {
      sound = ((store_ok c.args.store.now c.requires.0).0, omega arith);
      room_behind = book_asked c.args.store.now c.args.floor c.book_key-low.ensures.1 c.requires.0 c.requires.1 _ _ _ e c.book_key-low.ensures.0
          c.floor_key-key.ensures;
    }

pub retire_logs-requires : goal.retire_logs-requires
retire_logs-requires c = c.keep_and_put.ensures.sound

pub returns : goal.returns
returns c =
    made c.args.store.now c.args.floor c.book_key-low.ensures.1 c.requires.0 c.requires.1 c.keep_and_put.new.store c.retire_logs.new.store
    _ _ _ c.partition_count-parts.ensures c.book_key-low.ensures.0 c.floor_key-key.ensures c.keep_and_put.ensures c.retire_logs.ensures
