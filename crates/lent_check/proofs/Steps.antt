-- Questions 13 and 14, test by test.
use mathlib.Core.Bool.{Bool, true, false, not, ◌&&◌}
use mathlib.Core.List.{List, []}
use mathlib.Core.Path.{◌≡◌, refl, sym, ◌∙◌, ap, ap₂}
use Prim.Native.Nat.{ℕ, ◌+◌, ◌-◌, ◌*◌, ◌^◌, ◌≤◌, ◌<◌}
use native.Mathlib.Nat.{sub-zero}
use native.Mathlib.Omega.{arith}
use borrow.Author.Tests.{lt-ltb, le-ltb}
use lib.Dec.{ltb, leb}
use lib.ListN.{length, get_or}
use Rattle.questions.proofs.Tests.{and_yes, and_no}
use Rattle.contents.specs.Contents.{value_in, book_of, book_rows}
use Rattle.questions.specs.Basics.{each_from}
use Rattle.keys.specs.Keys.{book_key}
use Rattle.words.specs.Words.{le}
use Rattle.code.specs.Questions.{inside_at}
use Rattle.pack.specs.Layout.{count, size_of, total, operations_of}
use Rattle.pack.specs.Laid.{Laid}
use Rattle.pack.proofs.Sizes.{length_operations}
use Rattle.store.specs.Rows.{Row, lookup, rows_of}
use Rattle.store.specs.Layout.{parts_of, key_at, value_at}
use Rattle.store.specs.Sound.{Formed}
use Rattle.store.proofs.Bytes.{row_within, key_read, value_read}
use Rattle.store.specs.Answers.{got_of}
use Rattle.store.specs.Answers.{Got}
use Rattle.std.specs.Prelude.{Some, None}
use Rattle.agents.specs.declared.Agent.{Agent}
use Rattle.agents.specs.Slots.{agent_at}
use Rattle.meaning.specs.Questions.{books_below, opens_below, byte_of, word_of, booked_right, opens_right, is_sound, slot_right, question14}
use Rattle.contents.proofs.Book.{booked_some, booked_none}
use Rattle.questions.proofs.Each.{each_none, each_more, each_fails}

-- ── a record in use ──

module _ (pack : List ℕ) (rows : List Row) (a : Agent) (h : a.id < 2 ^ 32) where
  pub sound_none : (g : Got) → g ≡ got_of (lookup (book_key a.id 0) rows) → g ≡ None →
      is_sound pack a (book_of (value_in rows) a.id) ≡ false
  unfolding is_sound
  sound_none g p q = ap (is_sound pack a) (booked_none rows a.id h g p q)

  module _ (g : Got) (w : ℕ) (p : g ≡ got_of (lookup (book_key a.id 0) rows)) (q : g ≡ Some w) where
    pub sound_some : is_sound pack a (book_of (value_in rows) a.id) ≡
        (ltb a.position (size_of pack w) && (not (inside_at (operations_of pack w) a.position) && leb a.step a.position))
    unfolding is_sound
    sound_some = ap (is_sound pack a) (booked_some rows a.id h g p w q)

-- ── a row of the book, from the places where its keys and its values begin ──

module _ (store : List ℕ) (f : Formed store) (p row rows keys_at values_at : ℕ) (e : p ≡ parts_of store) (r : rows ≡ length (rows_of store p))
    (h : row < rows) (k : keys_at ≡ key_at store p 0) (v : values_at ≡ value_at store p 0) where
  there : (key_at store p row + 8 ≤ length store) × (value_at store p row + 4 ≤ length store)
  there = row_within store f p (omega arith) row (omega arith)

  pub row_bytes : (keys_at + 8 * row + 8 ≤ length store) × (values_at + 4 * row + 4 ≤ length store)
  row_bytes = (omega (arith, there.0), omega (arith, there.1))

  pub row_key : (key : ℕ) → key ≡ le 8 store (keys_at + 8 * row) → key ≡ (get_or (rows_of store p) row (0, 0)).0
  row_key key = key_read store p row (omega arith) (keys_at + 8 * row) key (omega arith)

  pub row_value : (value : ℕ) → value ≡ le 4 store (values_at + 4 * row) → value ≡ (get_or (rows_of store p) row (0, 0)).1
  row_value value = value_read store p row (omega arith) (values_at + 4 * row) value (omega arith)

-- ── question 13, row by row and instruction by instruction ──

module _ (pack store : List ℕ) where
  -- of n rows of the book, those from i on
  unfoldable pub booked_from : (n i : ℕ) → Bool
  booked_from n i = each_from (λ k. books_below (count pack) (get_or (book_rows store) k (0, 0))) (n - i) i

  pub booked_start : (n : ℕ) → n ≡ length (book_rows store) → booked_from n 0 ≡ booked_right pack store
  unfolding booked_from booked_right
  booked_start n e = rw (e, sub-zero)

  module _ (n i m p key w : ℕ) (r : Bool) (h : i < n) (e : m ≡ count pack) (ep : p ≡ parts_of store)
      (ek : key ≡ (get_or (rows_of store p) i (0, 0)).0) (ew : w ≡ (get_or (rows_of store p) i (0, 0)).1) (er : r ≡ books_below m (key, w)) where
    row_test : r ≡ books_below (count pack) (get_or (book_rows store) i (0, 0))
    row_test =
        er ∙ ap (λ x. books_below x (key, w)) e
        ∙ ap₂ (λ (x y : ℕ). books_below (count pack) (x, y)) (ek ∙ ap (λ q. (get_or (rows_of store q) i (0, 0)).0) ep)
        (ew ∙ ap (λ q. (get_or (rows_of store q) i (0, 0)).1) ep)

    pub booked_no : r ≡ false → booked_from n i ≡ false
    unfolding booked_from
    booked_no t = each_fails _ n i h (sym row_test ∙ t)

    pub booked_on : r ≡ true → booked_from n i ≡ booked_from n (i + 1)
    unfolding booked_from
    booked_on t = each_more _ n i h (sym row_test ∙ t)

  pub booked_done : (n i : ℕ) → n ≤ i → booked_from n i ≡ true
  unfolding booked_from
  booked_done n i h = each_none _ n i h

  -- of all instructions, those from i on
  unfoldable pub opens_from : (t i : ℕ) → Bool
  opens_from t i = each_from (λ k. opens_below (parts_of store) (byte_of pack k) (word_of pack k)) (t - i) i

  pub opens_start : (t : ℕ) → t ≡ total pack → opens_from t 0 ≡ opens_right pack store
  unfolding opens_from opens_right
  opens_start t e = rw (e, sub-zero)

  module _ (t i m p : ℕ) (r : Bool) (h : i < t) (e : m ≡ count pack) (et : t ≡ total pack) (ep : p ≡ parts_of store)
      (er : r ≡ opens_below p (get_or pack (1 + 2 * m + i) 0) (le 4 pack (1 + 2 * m + t + 4 * i))) where
    open_test : r ≡ opens_below (parts_of store) (byte_of pack i) (word_of pack i)
    open_test =
        er ∙ ap (λ x. opens_below x (get_or pack (1 + 2 * m + i) 0) (le 4 pack (1 + 2 * m + t + 4 * i))) ep
        ∙ ap₂ (λ (x y : ℕ). opens_below (parts_of store) (get_or pack (1 + 2 * x + i) 0) (le 4 pack (1 + 2 * x + y + 4 * i))) e et

    pub opens_no : r ≡ false → opens_from t i ≡ false
    unfolding opens_from
    opens_no f = each_fails _ t i h (sym open_test ∙ f)

    pub opens_on : r ≡ true → opens_from t i ≡ opens_from t (i + 1)
    unfolding opens_from
    opens_on f = each_more _ t i h (sym open_test ∙ f)

  pub opens_done : (t i : ℕ) → t ≤ i → opens_from t i ≡ true
  unfolding opens_from
  opens_done t i h = each_none _ t i h

-- ── question 14, slot by slot ──

-- what stands past the last record, as `agent_at` has it
abbrev pub past : Agent
past = record { in_use = false; id = 0; position = 0; step = 0; registers = [] }

-- ── a record in use, with the operation bytes of its workflow in hand ──

module _ (pack : List ℕ) (rows : List Row) (a : Agent) (h : a.id < 2 ^ 32) (g : Got) (w : ℕ)
    (p : g ≡ got_of (lookup (book_key a.id 0) rows)) (q : g ≡ Some w)
    (laid : Laid pack) (l : w < count pack) (ops : List ℕ) (e : ops ≡ operations_of pack w) where
  sized : length ops ≡ size_of pack w
  sized = ap length e ∙ length_operations pack laid w l

  pub sound_long : length ops ≤ a.position → is_sound pack a (book_of (value_in rows) a.id) ≡ false
  sound_long f = sound_some pack rows a h g w p q ∙ and_no _ _ (le-ltb a.position (size_of pack w) (omega (arith, sized)))

  pub sound_inside : a.position < length ops → inside_at ops a.position ≡ true → is_sound pack a (book_of (value_in rows) a.id) ≡ false
  sound_inside f t =
      sound_some pack rows a h g w p q ∙ and_yes _ _ (lt-ltb a.position (size_of pack w) (omega (arith, sized)))
      ∙ and_no _ _ (ap not (ap (λ (x : List ℕ). inside_at x a.position) (sym e) ∙ t))

  pub sound_rest : a.position < length ops → inside_at ops a.position ≡ false →
      is_sound pack a (book_of (value_in rows) a.id) ≡ leb a.step a.position
  sound_rest f t =
      sound_some pack rows a h g w p q ∙ and_yes _ _ (lt-ltb a.position (size_of pack w) (omega (arith, sized)))
      ∙ and_yes _ _ (ap not (ap (λ (x : List ℕ). inside_at x a.position) (sym e) ∙ t))
