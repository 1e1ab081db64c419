-- `answers::write_words` meets its contract.
use borrow.Author.Rules.{rules}
use Rattle.slots.specs.Records as Records
use Rattle.answers.proofs.write_words.Statement.{statement}
use Rattle.answers.proofs.write_words.Tie as tie

pub write_words_spec : {M : Type 1} → statement M
unfolding Records.puts
write_words_spec =
    tie.close
    (tie.spec
    (λ c κs. search rules)
    (λ c κs. search rules)
    (λ c κs. search rules)
    (λ c. search rules)
    (λ c. cc))
