-- `keys::of_form` meets its contract, by the tests that led to each return.
use mathlib.Core.Path.{refl, sym, ◌∙◌}
use Rattle.keys.specs.Keys.{is_form}
use borrow.Author.Rules.{rules}
use Rattle.keys.proofs.of_form.Statement.{statement}
use Rattle.keys.proofs.of_form.Tie as tie

pub of_form_spec : {M : Type 1} → statement M
unfolding is_form
of_form_spec =
    tie.close
    (tie.spec
    (λ c κs. search rules)
    (λ c. rw (c.if-book.true, sym c.is_book.ensures ∙ c.if-is_book.true) refl)
    (λ c κs. search rules)
    (λ c. let b = c in rw (b.if-book.true, sym b.is_book.ensures ∙ c.if-is_book.false) c.is_floor.ensures)
    (λ c κs. search rules)
    (λ c. rw (c.if-book.false, sym c.is_data.ensures ∙ c.if-is_data.true) refl)
    (λ c κs. search rules)
    (λ c. rw (c.if-book.false, sym c.is_data.ensures ∙ c.if-is_data.false) c.is_log.ensures))
