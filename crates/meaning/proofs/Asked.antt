-- The first no of 1 to 14, by the answers in hand; and what it says that there is none.
use mathlib.Core.Bool.{Bool, true, false}
use mathlib.Core.List.{List}
use mathlib.Core.Option.{Option, none, some}
use mathlib.Core.Path.{◌≡◌, refl}
use Prim.Native.Nat.{ℕ}
use Rattle.meaning.specs.State.{Lent}
use Rattle.questions.specs.Questions.{No, number, ask}
use Rattle.questions.specs.Questions as Questions
use Rattle.questions.proofs.Questions.{ask_none, or_else_none}
use Rattle.pack.specs.Refusal.{pack_refusal}
use Rattle.store.specs.Questions.{store_refusal}
use Rattle.questions.proofs.Updates.{none_some}
use Rattle.meaning.specs.Questions.{question13, question14, first_thirteen, lent_refusal}

-- ── 1 to 13 ──

module _ (pack store : List ℕ) where
  pub thirteen_of_pack : (n : No) → pack_refusal pack ≡ some n → first_thirteen pack store ≡ some n
  unfolding first_thirteen Questions.or_else
  thirteen_of_pack n e = rw e refl

  module _ (e : pack_refusal pack ≡ none) where
    pub thirteen_of_store : (n : No) → store_refusal store ≡ some n → first_thirteen pack store ≡ some n
    unfolding first_thirteen Questions.or_else
    thirteen_of_store n p = rw (e, p) refl

    pub thirteen_of_13 : store_refusal store ≡ none → question13 pack store ≡ false → first_thirteen pack store ≡ some (number 13)
    unfolding first_thirteen Questions.or_else Questions.ask
    thirteen_of_13 p q = rw (e, p, q) refl

    pub all_thirteen : store_refusal store ≡ none → question13 pack store ≡ true → first_thirteen pack store ≡ none
    unfolding first_thirteen Questions.or_else Questions.ask
    all_thirteen p q = rw (e, p, q) refl

  -- a yes to all
  module _ (e : first_thirteen pack store ≡ none) where
    pub to_13_pack : pack_refusal pack ≡ none
    unfolding first_thirteen
    to_13_pack = (or_else_none _ _ e).0

    pub to_13_store : store_refusal store ≡ none
    unfolding first_thirteen
    to_13_store = (or_else_none _ _ (or_else_none _ _ e).1).0

    pub to_13_right : question13 pack store ≡ true
    unfolding first_thirteen
    to_13_right = (ask_none _ _ _ (or_else_none _ _ (or_else_none _ _ e).1).1).0

-- ── 1 to 14 ──

module _ (pack : List ℕ) (lent : Lent) where
  -- by the first no of 1 to 13, and 14
  pub no_to_13 : (n : No) → first_thirteen pack lent.store ≡ some n → lent_refusal pack lent ≡ some n
  unfolding first_thirteen lent_refusal Questions.or_else Questions.ask
  no_to_13 n e = go (pack_refusal pack) (store_refusal lent.store) (question13 pack lent.store) e
    where
      go : (o p : Option No) (b : Bool) → Questions.or_else o (Questions.or_else p (ask (number 13) b none)) ≡ some n →
          Questions.or_else o (Questions.or_else p (ask (number 13) b
          (ask (number 14) (question14 pack lent.store lent.records) none))) ≡ some n
      go (some m) p b e = e
      go none (some m) b e = e
      go none none false e = e
      go none none true e = none_some n refl e

  -- the last two
  abbrev behind_store : Option No
  behind_store = ask (number 13) (question13 pack lent.store) (ask (number 14) (question14 pack lent.store lent.records) none)

  -- ── the first no ──

  module _ (e : first_thirteen pack lent.store ≡ none) where
    pub no_of_14 : question14 pack lent.store lent.records ≡ false → lent_refusal pack lent ≡ some (number 14)
    unfolding lent_refusal Questions.or_else Questions.ask
    no_of_14 r = rw (to_13_pack pack lent.store e, to_13_store pack lent.store e, to_13_right pack lent.store e, r) refl

    pub all_yes : question14 pack lent.store lent.records ≡ true → lent_refusal pack lent ≡ none
    unfolding lent_refusal Questions.or_else Questions.ask
    all_yes r = rw (to_13_pack pack lent.store e, to_13_store pack lent.store e, to_13_right pack lent.store e, r) refl

  -- ── a yes to all ──

  module _ (e : lent_refusal pack lent ≡ none) where
    pub lent_pack : pack_refusal pack ≡ none
    unfolding lent_refusal
    lent_pack = (or_else_none _ _ e).0

    pub lent_store : store_refusal lent.store ≡ none
    unfolding lent_refusal
    lent_store = (or_else_none _ _ (or_else_none _ _ e).1).0

    last_two : behind_store ≡ none
    unfolding lent_refusal
    last_two = (or_else_none _ _ (or_else_none _ _ e).1).1

    pub lent_13 : question13 pack lent.store ≡ true
    lent_13 = (ask_none _ _ _ last_two).0

    pub lent_14 : question14 pack lent.store lent.records ≡ true
    lent_14 = (ask_none _ _ _ (ask_none _ _ _ last_two).1).0
