-- The tests of questions 13 and 14 taken apart.
use mathlib.Core.Bool.{Bool, true, false}
use mathlib.Core.List.{List, [], ◌∷◌}
use mathlib.Core.Option.{some}
use mathlib.Core.Path.{◌≡◌, refl, ap, subst}
use Prim.Native.Nat.{ℕ, suc, ◌<◌, ◌^◌}
use native.Mathlib.Omega.{arith}
use borrow.Author.Tests.{ltb-true, eqb-true}
use lib.Dec.{eqb}
use lib.ListN.{length, get_or}
use Rattle.agents.specs.Slots.{is_blank}
use Rattle.keys.proofs.Keys.{workflow_is}
use Rattle.contents.specs.Contents.{value_in, book_of, book_rows}
use Rattle.questions.specs.Basics.{if◌then◌otherwise◌}
use Rattle.keys.specs.Keys.{book_key}
use Rattle.pack.specs.Layout.{count}
use Rattle.questions.proofs.Tests.{and_left, and_right}
use Rattle.store.specs.Rows.{Row, lookup}
use Rattle.agents.specs.declared.Agent.{Agent}
use Rattle.meaning.specs.Questions.{books_below, booked_right, opens_right, is_sound, slot_right, question13}
use Rattle.questions.proofs.Each.{each_at}

-- a key found is the key of a row
key_found : (rows : List Row) (k v : ℕ) → lookup k rows ≡ some v → (i : ℕ) × (i < length rows) × (get_or rows i (0, 0) ≡ (k, v))
unfolding lookup
key_found [] k v e = absurd (let z : ◌≡◌ {A = ℕ} 0 1 = cc in omega arith)
key_found (r ∷ rows) k v e = go (key_found rows k v) (eqb r.0 k) refl
  where
    go : (lookup k rows ≡ some v → (i : ℕ) × (i < length rows) × (get_or rows i (0, 0) ≡ (k, v))) → (b : Bool) → eqb r.0 k ≡ b →
        (i : ℕ) × (i < length (r ∷ rows)) × (get_or (r ∷ rows) i (0, 0) ≡ (k, v))
    go ih true q =
        let s : some r.1 ≡ some v = rw q at e in
        let s₁ : r.1 ≡ v = cc in
        (0, omega arith, λ i. (eqb-true r.0 k q i, s₁ i))
    go ih false q = let s = ih (rw q at e) in (suc s.0, omega arith, s.2)

-- where each booked workflow is below m, that of a booked id is
pub workflow_below : (pack store : List ℕ) (id w : ℕ) → id < 2 ^ 32 → booked_right pack store ≡ true →
    lookup (book_key id 0) (book_rows store) ≡ some w → w < count pack
unfolding booked_right books_below
workflow_below pack store id w h b e =
    let f = key_found (book_rows store) (book_key id 0) w e in
    let t = each_at (λ i. books_below (count pack) (get_or (book_rows store) i (0, 0))) (length (book_rows store)) 0 b f.0 (omega arith)
    (omega arith) in
    let u : books_below (count pack) (book_key id 0, w) ≡ true = subst (λ (r : Row). books_below (count pack) r ≡ true) f.2 t in
    ltb-true w (count pack) (rw (workflow_is id h) at u)

-- ── a slot ──

pub slot_used : (pack store : List ℕ) (a : Agent) → a.in_use ≡ true →
    slot_right pack store a ≡ is_sound pack a (book_of (value_in (book_rows store)) a.id)
unfolding slot_right
slot_used pack store a e = ap (λ b. if◌then◌otherwise◌ b (is_sound pack a (book_of (value_in (book_rows store)) a.id)) (is_blank a)) e

pub slot_free : (pack store : List ℕ) (a : Agent) → a.in_use ≡ false → slot_right pack store a ≡ is_blank a
unfolding slot_right
slot_free pack store a e = ap (λ b. if◌then◌otherwise◌ b (is_sound pack a (book_of (value_in (book_rows store)) a.id)) (is_blank a)) e

pub booked_of_13 : (pack store : List ℕ) → question13 pack store ≡ true → booked_right pack store ≡ true
unfolding question13
booked_of_13 pack store e = and_left (booked_right pack store) (opens_right pack store) e

pub opens_of_13 : (pack store : List ℕ) → question13 pack store ≡ true → opens_right pack store ≡ true
unfolding question13
opens_of_13 pack store e = and_right (booked_right pack store) (opens_right pack store) e
