-- The answer on the bytes of the part is that on its instructions.
use Rattle.std.proofs.Common.{rules, refl, ◌∙◌, ℕ, ◌-◌, not, take, drop, eqb, arith}
use Rattle.std.proofs.lemmas.Iterator.{YieldsList-from_slice}
use Rattle.std.proofs.lemmas.Iterator.Search.{all_from_yields_List}
use borrow.Author.Tests.{tests}
use Rattle.operation.specs.Parts.{operation_of}
use Rattle.operation.specs.Operations.{op_end}
use Rattle.code.specs.Questions.{is_no_end}
use Rattle.code.proofs.Parts.{all_each}
use Rattle.code.proofs.has_no_end.Goals as goal

pub returns : goal.returns
unfolding is_no_end
returns c =
    let no_end = λ (b : ℕ). not (eqb (operation_of b) op_end) in
    let part = take (c.args.end - c.args.first) (drop c.args.first c.args.ops.now) in
    all_from_yields_List no_end _ _ c.all.result c.all.ensures.ran (YieldsList-from_slice part cc) (λ x b q k. search (rules, tests))
    ∙ all_each no_end (is_no_end c.args.ops.now) c.args.ops.now (λ k. refl) (c.args.end - c.args.first) c.args.first (omega arith)
