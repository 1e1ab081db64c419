use Rattle.std.proofs.Common.{◌≡◌, ℕ, ◌<◌, rules}
use Rattle.worklist.specs.Worklist.{no_entry, place_at}
use Rattle.worklist.specs.Bytes.{entry_in}
use Rattle.worklist.proofs.Bytes.{read_all}
use Rattle.worklist.proofs.read_list.Goals as goal

pub returns : goal.returns
returns c =
    let each : (k : ℕ) → k < 16 → place_at c.from_fn.result k ≡ entry_in c.args.bytes.now k =
    λ k h. let a = c.from_fn.ensures.items.at k no_entry h in search rules in
    let n = c.read32.ensures in
    let p = read_all _ _ c.from_fn.ensures.items.long each in
    λ t. record { count = n t; places = p t }
