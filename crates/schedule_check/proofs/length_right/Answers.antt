use Rattle.std.proofs.Common.{arith}
use Rattle.schedule_check.proofs.Steps.{not_laid}
use Rattle.schedule_check.proofs.length_right.Goals as goal

pub returns-then-schedule-lt6 : goal.returns-then-schedule-lt6
returns-then-schedule-lt6 c = not_laid _ (λ l. omega arith)

pub returns-then-requests-gt-MOST_REQUESTS : goal.returns-then-requests-gt-MOST_REQUESTS
returns-then-requests-gt-MOST_REQUESTS c = not_laid _ (λ l. omega arith)
