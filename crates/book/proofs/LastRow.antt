-- The floor is read from the last row of the book.
use mathlib.Core.Bool.{Bool, true, false}
use mathlib.Core.List.{List, [], ◌∷◌}
use mathlib.Core.Option
use mathlib.Core.Option.{Option, none, some}
use mathlib.Core.Path.{◌≡◌, sym, ◌∙◌, ap}
use Prim.Native.Nat.{ℕ, suc}
use native.Mathlib.Omega.{arith}
use borrow.Author.Tests.{eq-eqb}
use lib.ListN.{length, get_or}
use Rattle.questions.specs.Basics.{if◌then◌otherwise◌}
use Rattle.keys.specs.Keys.{is_floor_key, floor_at}
use Rattle.store.specs.Layout.{parts_of}
use Rattle.store.specs.Rows.{Row, keys_in}
use Rattle.store.specs.Questions.{keys_ok}
use Rattle.store.specs.Sound.{Sound}
use Rattle.store.specs.Sound as Sounds
use Rattle.store.proofs.Floor.{floor_last, floor_none}
use Rattle.store.proofs.Sound.{keys_apart_lem, keys_rising, apart_forms}
use Rattle.contents.specs.Contents.{value_in, book_rows}

-- a book with no row has floor 0
pub floor_empty : (rows : List Row) → length rows ≡ 0 → 0 ≡ floor_at (value_in rows)
floor_empty [] e = ap (λ (o : Option ℕ). Option.get_or o 0) (sym floor_none)
floor_empty (r ∷ rows) e = absurd (omega (arith, e))

module _ (store : List ℕ) (s : Sound store) (n : ℕ) (e : length (book_rows store) ≡ suc n) where
  abbrev last : Row
  last = get_or (book_rows store) n (0, 0)

  good : keys_ok true (keys_in (book_rows store)) ≡ true
  unfolding Sounds.KeysGood
  good =
      ap (λ (b : Bool). keys_ok b (keys_in (book_rows store))) (sym (eq-eqb (parts_of store) (parts_of store) (λ i. parts_of store)))
      ∙ s.keys (parts_of store) (omega arith)

  by_last : floor_at (value_in (book_rows store)) ≡ Option.get_or (if◌then◌otherwise◌ (is_floor_key last.0) (some last.1) none) 0
  by_last =
      ap (λ (o : Option ℕ). Option.get_or o 0)
      (floor_last (book_rows store) n e (apart_forms true _ (keys_apart_lem true _ good)) (keys_rising true _ good))

  pub floor_there : is_floor_key last.0 ≡ true → last.1 ≡ floor_at (value_in (book_rows store))
  floor_there f = sym (by_last ∙ rw f (λ i. last.1))

  pub floor_missing : is_floor_key last.0 ≡ false → 0 ≡ floor_at (value_in (book_rows store))
  floor_missing f = sym (by_last ∙ rw f (λ i. 0))
