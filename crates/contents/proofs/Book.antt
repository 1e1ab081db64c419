-- What a search of the book tells.
use mathlib.Core.List.{List}
use mathlib.Core.Option.{Option, none, some, get_or}
use mathlib.Core.Path.{◌≡◌, refl, sym, ◌∙◌, ap}
use Prim.Native.Nat.{ℕ, ◌^◌, ◌<◌}
use native.Mathlib.Omega.{arith}
use borrow.Author.Tests.{lt-ltb}
use Rattle.contents.specs.Contents.{value_in, arguments_of, request_of, book_of}
use Rattle.keys.specs.Keys.{book_key}
use Rattle.store.specs.Rows.{Row, lookup}
use Rattle.store.specs.Answers.{Got, got_of}
use Rattle.std.specs.Prelude.{Some, None, unwrap_or}

module _ (o : Option ℕ) (g : Got) (p : g ≡ got_of o) where
  pub got_some : (w : ℕ) → g ≡ Some w → o ≡ some w
  unfolding got_of
  got_some w q = go o p
    where
      go : (o : Option ℕ) → g ≡ got_of o → o ≡ some w
      go none e = absurd (let z : ◌≡◌ {A = ℕ} 0 1 = cc in omega arith)
      go (some v) e = let r : v ≡ w = cc in ap some r

  pub got_none : g ≡ None → o ≡ none
  unfolding got_of
  got_none q = go o p
    where
      go : (o : Option ℕ) → g ≡ got_of o → o ≡ none
      go none e = refl
      go (some v) e = absurd (let z : ◌≡◌ {A = ℕ} 0 1 = cc in omega arith)

  pub got_value : (w : ℕ) → g ≡ Some w → w ≡ get_or o 0
  got_value w q = ap (λ (x : Option ℕ). get_or x 0) (sym (got_some w q))

  pub got_zero : g ≡ None → 0 ≡ get_or o 0
  got_zero q = ap (λ (x : Option ℕ). get_or x 0) (sym (got_none q))

-- the value, or another where there is none
pub got_or : (o : Option ℕ) (d : ℕ) → unwrap_or (got_of o) d ≡ get_or o d
unfolding got_of
got_or none d = refl
got_or (some v) d = refl

-- what the book has of an id, by its row 0
pub book_row_lem : (rows : List Row) (id : ℕ) → id < 2 ^ 32 →
    book_of (value_in rows) id ≡ request_of (lookup (book_key id 0) rows) (arguments_of (value_in rows) id)
unfolding book_of
book_row_lem rows id h = rw (lt-ltb id (2 ^ 32) h) refl

module _ (rows : List Row) (id : ℕ) (h : id < 2 ^ 32) (g : Got) (p : g ≡ got_of (lookup (book_key id 0) rows)) where
  pub booked_some : (w : ℕ) → g ≡ Some w →
      book_of (value_in rows) id ≡ some (record { workflow = w; arguments = arguments_of (value_in rows) id })
  unfolding request_of
  booked_some w q = book_row_lem rows id h
      ∙ ap (λ o. request_of o (arguments_of (value_in rows) id)) (got_some (lookup (book_key id 0) rows) g p w q)

  pub booked_none : g ≡ None → book_of (value_in rows) id ≡ none
  unfolding request_of
  booked_none q = book_row_lem rows id h ∙ ap (λ o. request_of o (arguments_of (value_in rows) id)) (got_none (lookup (book_key id 0) rows) g p q)
