-- `first` is where the workflow begins in both arrays, and the workflows before it were answered yes.
use Rattle.std.proofs.Common.{◌≡◌, ◌-◌}
use Rattle.questions.specs.Questions.{first_no}
use Rattle.pack.specs.Layout.{count, first_of}
use Rattle.pack.specs.Refusal.{workflow_no}
use Rattle.pack.proofs.check_workflows.Given as goal

abbrev pub invariant-loop-workflow : goal.invariant-loop-workflow
invariant-loop-workflow l =
    record {
      begins : l.first ≡ first_of l.pack l.workflow;
      ahead : first_no (workflow_no l.pack) (count l.pack) 0 ≡ first_no (workflow_no l.pack) (count l.pack - l.workflow) l.workflow;
    }
