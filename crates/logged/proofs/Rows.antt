-- A block passed by its log row.
use mathlib.Core.List.{List}
use mathlib.Core.Option.{Option, none, some}
use mathlib.Core.Path.{◌≡◌, refl, sym, ◌∙◌, ap}
use Prim.Native.Nat.{ℕ, ◌+◌, ◌^◌, ◌<◌}
use borrow.Author.Tests.{lt-ltb}
use native.Mathlib.Numerals.{add-one}
use Rattle.keys.specs.Keys.{log_key}
use Rattle.rules.specs.Blocks.{Result, yields}
use Rattle.rules.specs.Courses.{Course}
use Rattle.rules.specs.Store.{sought}
use Rattle.rules.specs.Logged.{at, behind}
use Rattle.rules.specs.Logged as Logged
use Rattle.store.specs.Layout.{parts_of}
use Rattle.store.specs.Rows.{lookup, rows_of, store_of}
use Rattle.store.specs.Answers.{Got, got_of}
use Rattle.std.specs.Prelude.{Some, None}
use Rattle.contents.specs.Contents.{contents_of}
use Rattle.contents.proofs.Book.{got_some, got_none}

-- what the log has of a step in a partition below P is the value at its row's key
pub usual_row : (store : List ℕ) (p id t : ℕ) → p < parts_of store → id < 2 ^ 32 → t < 65536 →
    lookup (log_key id t) (rows_of store p) ≡ (contents_of (store_of store)).log.usual p id t
unfolding contents_of
usual_row store p id t below i s = rw (lt-ltb p (parts_of store) below, lt-ltb id (2 ^ 32) i, lt-ltb t 65536 s) refl

-- what was got of a step's row
module _ (onto : Result → Course) (t : ℕ) (logged : Option ℕ) (g : Got) (e : g ≡ got_of logged) where
  -- a block that is logged
  pub row_passes : (v : ℕ) → g ≡ Some v → (c : Course) → c ≡ onto (yields v) → some (at c (t + 1)) ≡ behind onto t (sought logged)
  unfolding Logged.behind
  row_passes v q c f =
      (λ i. some (at (f i) (add-one t i))) ∙ ap (λ (o : Option ℕ). behind onto t (sought o)) (sym (got_some logged g e v q))

  -- one that isn't
  pub no_row : g ≡ None → none ≡ behind onto t (sought logged)
  unfolding Logged.behind
  no_row q = ap (λ (o : Option ℕ). behind onto t (sought o)) (sym (got_none logged g e q))
