-- What a call is lent, and what it means as the state of the rules.
use Rattle.std.specs.Prelude.{List, ℕ}
use Rattle.std.proofs.Math.Option.{Option}
use Rattle.rules.specs.Blocks.{Result}
use Rattle.rules.specs.Logged.{reply_logged}
use Rattle.rules.specs.Calls.{State}
use Rattle.pack.specs.Meaning.{pack_of}
use Rattle.store.specs.Rows.{store_of}
use Rattle.contents.specs.Contents.{contents_of}
use Rattle.agents.specs.declared.Agent.{Agent}
use Rattle.agents.specs.Slots.{slots_of}
use Rattle.worklist.specs.declared.Worklist.{Worklist}
use Rattle.worklist.specs.Worklist.{worklist_of}

-- What a call is lent beside the pack, as it was before the call or is after it: the store's bytes, the records in the slots, and the
-- worklist. A call that gets only some of it promises the same for any value of the rest, which it leaves.
pub record Lent : Type 0 where
  pub store : List ℕ
  pub records : List Agent
  pub list : Worklist

-- The state that it means.
unfoldable pub state_of : Lent → State
state_of lent =
    record {
      store = contents_of (store_of lent.store);
      slots = slots_of lent.records;
      work = worklist_of lent.list;
    }

-- the reply to an id that can be worked out from the log in the store's bytes
abbrev pub worked_out : (pack store : List ℕ) (id : ℕ) → Option Result
worked_out pack store id =
    reply_logged (pack_of pack) (contents_of (store_of store)).log id ((contents_of (store_of store)).book id)
