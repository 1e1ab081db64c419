-- A pack's bytes as the workflows of the rules.
use Rattle.std.specs.Prelude.{List, ℕ}
use Rattle.rules.specs.Instructions.{Pack}
use Rattle.code.specs.Meaning.{list_of, code_of}
use Rattle.pack.specs.Layout.{count, operations_of, operands_of}

-- all workflows of a pack
unfoldable pub pack_of : (pack : List ℕ) → Pack
pack_of pack = list_of (λ workflow. code_of (operations_of pack workflow) (operands_of pack workflow)) (count pack) 0
