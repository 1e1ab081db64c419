-- Questions 1 to 3 and 17, each a test: true is yes. (4 to 8 are put to one workflow: crate `code`.)
use Rattle.std.specs.Prelude.{Bool, ◌&&◌, List, ℕ, ◌+◌, ◌*◌, ltb, leb, eqb, length}
use Rattle.questions.specs.Basics.{each}
use Rattle.pack.specs.Layout.{count, size_of, total}

-- `between low high x`: x is low to high
abbrev pub between : (low high x : ℕ) → Bool
between low high x = leb low x && leb x high

-- 1. Is there a count, 1 to 16?
unfoldable pub question1 : (pack : List ℕ) → Bool
question1 pack = leb 1 (length pack) && between 1 16 (count pack)

-- a size is 1 to 256
unfoldable pub size_right : (pack : List ℕ) (workflow : ℕ) → Bool
size_right pack workflow = between 1 256 (size_of pack workflow)

-- 2. Are all sizes there, each 1 to 256, sum at most 2,048?
unfoldable pub question2 : (pack : List ℕ) → Bool
question2 pack = leb (1 + 2 * count pack) (length pack) && each (count pack) (size_right pack) && leb (total pack) 2048

-- 3. Is the length 1 + 2m + 5T?
unfoldable pub question3 : (pack : List ℕ) → Bool
question3 pack = eqb (length pack) (1 + 2 * count pack + 5 * total pack)

-- 17. Is the workflow below m?
abbrev pub question17 : (pack : List ℕ) (workflow : ℕ) → Bool
question17 pack workflow = ltb workflow (count pack)
