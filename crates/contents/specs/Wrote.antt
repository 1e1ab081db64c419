-- What a change of a store's bytes promises.
use Rattle.std.specs.Prelude.{List, ◌≡◌, ℕ}
use Rattle.std.proofs.Math.Option.{none}
use Rattle.rules.specs.Store as Rules
use Rattle.store.specs.Layout.{AllBytes, parts_of, cap_of}
use Rattle.store.specs.Rows.{store_of}
use Rattle.store.specs.Questions.{store_refusal}
use Rattle.contents.specs.Contents.{contents_of}

-- What was written: the bytes hold the store s of the rules. Nothing of them is left free.
pub record Wrote (store : List ℕ) (store' : List ℕ) (s : Rules.Store) : Type 0 where
  -- P and C are as they were
  pub parts : parts_of store' ≡ parts_of store
  pub cap : cap_of store' ≡ cap_of store
  -- questions 9 to 12 say yes, if they did before
  pub sound : store_refusal store ≡ none → store_refusal store' ≡ none
  -- the rows are exactly those of s, by key
  pub holds : contents_of (store_of store') ≡ s
  -- and so each byte is known: no other bytes with this P pass 9 to 12 and hold s
  pub only : AllBytes store' → store_refusal store' ≡ none → (other : List ℕ) → AllBytes other → store_refusal other ≡ none →
      parts_of other ≡ parts_of store → contents_of (store_of other) ≡ s → other ≡ store'
  -- where no row of a store that passes 9 to 12 changes, no byte is changed
  pub bytes : store_refusal store ≡ none → contents_of (store_of store) ≡ s → store' ≡ store
