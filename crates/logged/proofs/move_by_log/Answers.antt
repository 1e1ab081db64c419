use Rattle.std.proofs.Common.{◌∙◌}
use Rattle.store.specs.Rows.{store_of}
use Rattle.contents.specs.Contents.{contents_of}
use Rattle.logged.proofs.Moves.{may_ask, goes_on, replies, may_seek, may_pass, passes}
use Rattle.logged.proofs.move_by_log.Goals as goal

pub next_of-upcoming-requires : goal.next_of-upcoming-requires
next_of-upcoming-requires c = may_ask _ _ _ c.requires.0 c.args.from _ c.requires.1

pub log_row-row-requires : goal.log_row-row-requires
log_row-row-requires c =
    may_seek _ _ _ c.requires.0 c.args.from _ c.requires.1 c.next_of-upcoming.result c.next_of-upcoming.ensures _ c.in-Does.is

pub pass_block-requires : goal.pass_block-requires
pass_block-requires c =
    may_pass _ _ _ c.requires.0 c.args.from _ c.requires.1 c.next_of-upcoming.result c.next_of-upcoming.ensures _ c.in-Does.is

pub returns-in-Goes : goal.returns-in-Goes
returns-in-Goes c =
    goes_on _ _ _ c.requires.0 c.args.from _ c.requires.1 c.next_of-upcoming.result c.next_of-upcoming.ensures
    (contents_of (store_of c.args.store.now)).log c.args.id c.in-Goes.is

pub returns-in-Does : goal.returns-in-Does
returns-in-Does c =
    c.pass_block.ensures c.args.operands.now _ c.log_row-row.ensures
    ∙ passes _ _ _ c.requires.0 c.args.from _ c.requires.1 c.next_of-upcoming.result c.next_of-upcoming.ensures _ c.in-Does.is
    (contents_of (store_of c.args.store.now)).log c.args.id

pub returns-in-Says : goal.returns-in-Says
returns-in-Says c =
    replies _ _ _ c.requires.0 c.args.from _ c.requires.1 c.next_of-upcoming.result c.next_of-upcoming.ensures
    (contents_of (store_of c.args.store.now)).log c.args.id _ c.in-Says.is
