-- Questions 1 to 3 by their tests.
use Rattle.std.proofs.Common.{rules, ◌≡◌, refl, sym, ◌∙◌, true, false, arith, leb-true}
use Rattle.code.proofs.Asked.{asked_yes}
use Rattle.pack.proofs.Sizes.{counted, stops_1, stops_2, comes_to_3, sizes_asked, length_asked}
use Rattle.pack.proofs.check_layout.Goals as goal

pub returns-in_err-ask : goal.returns-in_err-ask
returns-in_err-ask c =
    let r : c.from_residual.result ≡ c.ask.result = search rules in
    r ∙ stops_1 _ _ _ _ (sym c.has_count.ensures) c.ask.ensures c.in_err-ask.was

pub bounds-pack-0 : goal.bounds-pack-0
bounds-pack-0 c =
    omega (arith, counted c.args.pack.now (sym c.has_count.ensures ∙ asked_yes _ _ _ c.ask.ensures c.in_ok-ask.was))

pub returns-in_err-ask-2 : goal.returns-in_err-ask-2
returns-in_err-ask-2 c =
    let r : c.from_residual-in_err-ask-2.result ≡ c.ask-2.result = search rules in
    let y1 = sym c.has_count.ensures ∙ asked_yes _ _ _ c.ask.ensures c.in_ok-ask.was in
    r ∙ stops_2 _ _ y1 _ _ (λ f. sizes_asked _ false _ _ _ refl f refl refl) c.ask-2.ensures c.in_err-ask-2.was

pub sizes_in_range-requires : goal.sizes_in_range-requires
sizes_in_range-requires c = leb-true _ _ (asked_yes _ _ _ c.ask-2.ensures c.in_ok-ask-2.was)

pub returns-in_err-ask-3 : goal.returns-in_err-ask-3
returns-in_err-ask-3 c =
    let r : c.from_residual-in_err-ask-3.result ≡ c.ask-3.result = search rules in
    let y1 = sym c.has_count.ensures ∙ asked_yes _ _ _ c.ask.ensures c.in_ok-ask.was in
    let a = asked_yes _ _ _ c.ask-2.ensures c.in_ok-ask-2.was in
    r ∙ stops_2 _ _ y1 _ _ (λ f. sizes_asked _ true false _ _ refl a (sym c.sizes_in_range.ensures ∙ f) refl)
    c.ask-3.ensures c.in_err-ask-3.was

pub first_of-t-requires : goal.first_of-t-requires
first_of-t-requires c =
    let y1 = sym c.has_count.ensures ∙ asked_yes _ _ _ c.ask.ensures c.in_ok-ask.was in
    let a = asked_yes _ _ _ c.ask-2.ensures c.in_ok-ask-2.was in
    ((counted c.args.pack.now y1).1, leb-true _ _ a)

pub returns-in_err-ask-4 : goal.returns-in_err-ask-4
returns-in_err-ask-4 c =
    let r : c.from_residual-in_err-ask-4.result ≡ c.ask-4.result = search rules in
    let y1 = sym c.has_count.ensures ∙ asked_yes _ _ _ c.ask.ensures c.in_ok-ask.was in
    let a = asked_yes _ _ _ c.ask-2.ensures c.in_ok-ask-2.was in
    let b = sym c.sizes_in_range.ensures ∙ asked_yes _ _ _ c.ask-3.ensures c.in_ok-ask-3.was in
    r ∙ stops_2 _ _ y1 _ _ (λ f. sizes_asked _ true true false _ c.first_of-t.ensures a b f) c.ask-4.ensures c.in_err-ask-4.was

pub overflow_mul-t : goal.overflow_mul-t
overflow_mul-t c = omega (arith, leb-true _ _ (asked_yes _ _ _ c.ask-4.ensures c.in_ok-ask-4.was))

pub overflow_add-m-3 : goal.overflow_add-m-3
overflow_add-m-3 c = omega (arith, leb-true _ _ (asked_yes _ _ _ c.ask-4.ensures c.in_ok-ask-4.was))

pub returns : goal.returns
returns c =
    let y1 = sym c.has_count.ensures ∙ asked_yes _ _ _ c.ask.ensures c.in_ok-ask.was in
    let a = asked_yes _ _ _ c.ask-2.ensures c.in_ok-ask-2.was in
    let b = sym c.sizes_in_range.ensures ∙ asked_yes _ _ _ c.ask-3.ensures c.in_ok-ask-3.was in
    let d = asked_yes _ _ _ c.ask-4.ensures c.in_ok-ask-4.was in
    comes_to_3 _ _ y1 _ (sizes_asked _ true true true _ c.first_of-t.ensures a b d) (length_asked _ _ _ c.first_of-t.ensures refl)
    c.ask-5.ensures
