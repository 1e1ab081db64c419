-- What the code's answer to "what does the agent do next?" stands for.
use Rattle.std.specs.Prelude.{false, List, ◌≡◌, ℕ, ◌<◌, length}
use Rattle.rules.specs.Instructions.{Code, Place}
use Rattle.rules.specs.Blocks.{yields}
use Rattle.rules.specs.Courses.{going, passed, goes, does, says}
use Rattle.rules.specs.Courses as Rules
use Rattle.code.specs.Questions.{inside_at}
use Rattle.code.specs.Right.{Right}
use Rattle.instruction.specs.declared.Spot.{Spot}
use Rattle.instruction.specs.Step.{place_of}
use Rattle.course.specs.declared.Next.{Next}
use Rattle.course.specs.declared.Next.TheVariants.{Goes, Does, Says}
use Rattle.course.specs.declared.Upcoming.{Upcoming}

-- it goes to the place; it does the block that opens at the place, and then stands behind that block; or it replies
abbrev pub next_at : Code → Place → Next → Rules.Next
next_at code place Goes = goes (going place)
next_at code place (Does partition) = does place partition (passed code place)
next_at code place (Says value) = says (yields value)

abbrev pub next_in : Code → Upcoming → Rules.Next
next_in code u = next_at code (place_of u.place) u.next

-- an agent stands in a workflow that is right, and outside a block
pub record StandsOutside (ops ws : List ℕ) (from : Spot) : Type 0 where
  pub right : Right ops ws
  pub in_code : from.position < length ops
  pub outside : inside_at ops from.position ≡ false
