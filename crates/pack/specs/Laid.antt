-- What a yes to questions 1 to 3 says, as facts.
use Rattle.std.specs.Prelude.{◌≡◌, List, ℕ, ◌+◌, ◌*◌, ◌≤◌, ◌<◌, length}
use Rattle.pack.specs.Layout.{count, size_of, total}

-- m is 1 to 16, a size 1 to 256, T at most 2,048, and the length 1 + 2m + 5T
pub record Laid (pack : List ℕ) : Type 0 where
  pub some_workflow : 1 ≤ count pack
  pub few : count pack ≤ 16
  pub sizes : (workflow : ℕ) → workflow < count pack → (1 ≤ size_of pack workflow) × (size_of pack workflow ≤ 256)
  pub short : total pack ≤ 2048
  pub whole : length pack ≡ 1 + 2 * count pack + 5 * total pack
