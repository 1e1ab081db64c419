-- Whether one booked request can be retired, test by test; and the request of a book row.
use mathlib.Core.Bool.{Bool, true, false, not, ◌&&◌}
use mathlib.Core.List.{List}
use mathlib.Core.Option.{Option, none, some}
use mathlib.Core.Path.{◌≡◌, refl, sym, ◌∙◌, ap}
use Prim.Native.Nat.{ℕ, ◌%◌, ◌^◌, ◌<◌}
use native.Mathlib.Omega.{arith}
use borrow.Author.Tests.{eqb-true, ltb-true}
use lib.Dec.{ltb}
use Rattle.questions.specs.Basics.{if◌then◌otherwise◌, is_some}
use Rattle.questions.proofs.Tests.{no_yes, and_left, and_right, and_false}
use Rattle.questions.proofs.Updates.{none_some}
use Rattle.keys.specs.Keys.{book_key, is_book_key, booked_id, is_workflow_key}
use Rattle.keys.proofs.Keys.{book_again}
use Rattle.rules.specs.Blocks.{Result, yields}
use Rattle.rules.specs.Store.{Request, Log}
use Rattle.rules.specs.Logged.{reply_logged, logged_through}
use Rattle.rules.specs.Calls.{in_no_slot, can_retire}
use Rattle.rules.specs.Worklist.{listed}
use Rattle.store.specs.Rows.{Row, keys_in, lookup, store_of}
use Rattle.store.specs.Questions.{member}
use Rattle.store.proofs.Order.{member_is}
use Rattle.pack.specs.Meaning.{pack_of}
use Rattle.contents.specs.Contents.{value_in, arguments_of, request_of, book_of, book_rows, contents_of}
use Rattle.contents.proofs.Book.{book_row_lem}
use Rattle.agents.specs.Slots.{slots_of}
use Rattle.worklist.specs.Worklist.{worklist_of}
use Rattle.meaning.specs.State.{state_of, Lent}
use Rattle.retirable.specs.Retirable.{row_can}
use Rattle.logged.specs.declared.Logged.{Logged}
use Rattle.logged.specs.declared.Logged.TheVariants.{Unbooked, NotYet, Through}
use Rattle.logged.specs.Logged.{by_reply, logged_by}

-- does it lead through?
abbrev pub is_through : Logged → Bool
is_through Unbooked = false
is_through NotYet = false
is_through (Through v) = true

pub not_through : (l : Logged) → ((v : ℕ) → l ≡ Through v → ⊥) → is_through l ≡ false
not_through Unbooked n = refl
not_through NotYet n = refl
not_through (Through v) n = absurd (n v refl)

through_some : (p : Option Result) → is_through (by_reply p) ≡ is_some p
through_some none = refl
through_some (some (yields v)) = refl

-- of a booked id
module _ (pack : List ℕ) (lent : Lent) (id : ℕ) (q : Request) (booked : (contents_of (store_of lent.store)).book id ≡ some q) where
  abbrev can : Bool
  can = can_retire (pack_of pack) (state_of lent) id (some q)

  abbrev log : Log
  log = (contents_of (store_of lent.store)).log

  pub in_a_slot : (r : Bool) → r ≡ in_no_slot (slots_of lent.records) id → r ≡ false → false ≡ can
  unfolding can_retire state_of
  in_a_slot r e t =
      sym (ap (λ (b : Bool). logged_through (pack_of pack) log id (some q) && (b && not (listed id (worklist_of lent.list)))) (sym e ∙ t)
      ∙ and_false (logged_through (pack_of pack) log id (some q)))

  module _ (r : Bool) (e : r ≡ in_no_slot (slots_of lent.records) id) (t : r ≡ true) (s : Bool)
      (f : s ≡ listed id (worklist_of lent.list)) where
    unlisted_is : can ≡ (logged_through (pack_of pack) log id (some q) && not s)
    unfolding can_retire state_of
    unlisted_is = rw (← f, ← e, t) refl

    pub on_the_list : s ≡ true → false ≡ can
    on_the_list u = sym (unlisted_is ∙ rw u (and_false (logged_through (pack_of pack) log id (some q))))

    pub by_its_log : s ≡ false → (l : Logged) →
        (let o = (contents_of (store_of lent.store)).book id in l ≡ logged_by o (reply_logged (pack_of pack) log id o)) → is_through l ≡ can
    by_its_log u l g =
        ap is_through (g ∙ ap (λ (o : Option Request). logged_by o (reply_logged (pack_of pack) log id o)) booked)
        ∙ through_some (reply_logged (pack_of pack) log id (some q))
        ∙ sym (unlisted_is ∙ rw u (and_true (logged_through (pack_of pack) log id (some q))))
      where
        and_true : (b : Bool) → (b && true) ≡ b
        and_true true = refl
        and_true false = refl

-- ── rows of the book and what it has of an id ──

-- a row of a workflow's number is row 0 of its request
pub workflow_row : (k : ℕ) → is_workflow_key k ≡ true → (booked_id k < 2 ^ 32) × (book_key (booked_id k) 0 ≡ k)
unfolding is_workflow_key
workflow_row k e =
    let b = book_again k (and_left (is_book_key k) _ e) in
    let z = eqb-true (k % 8) 0 (and_right (is_book_key k) _ e) in
    (b.0, omega arith)

module _ (rows : List Row) (id : ℕ) where
  -- a row 0 is of a booked id
  pub row_booked : id < 2 ^ 32 → is_some (lookup (book_key id 0) rows) ≡ true → (q : Request) × (book_of (value_in rows) id ≡ some q)
  unfolding request_of
  row_booked h m = go (lookup (book_key id 0) rows) refl m
    where
      go : (o : Option ℕ) → lookup (book_key id 0) rows ≡ o → is_some o ≡ true → (q : Request) × (book_of (value_in rows) id ≡ some q)
      go none e n = no_yes n
      go (some w) e n = (
        record { workflow = w; arguments = arguments_of (value_in rows) id },
        book_row_lem rows id h ∙ ap (λ o. request_of o (arguments_of (value_in rows) id)) e,
      )

  -- and back
  pub booked_row : (q : Request) → book_of (value_in rows) id ≡ some q → (id < 2 ^ 32) × (w : ℕ) × (lookup (book_key id 0) rows ≡ some w)
  unfolding book_of request_of
  booked_row q e = go (ltb id (2 ^ 32)) refl e
    where
      found : (o : Option ℕ) → lookup (book_key id 0) rows ≡ o → request_of o (arguments_of (value_in rows) id) ≡ some q →
          (w : ℕ) × (lookup (book_key id 0) rows ≡ some w)
      found none f g = none_some q refl g
      found (some w) f g = (w, f)

      go : (b : Bool) → ltb id (2 ^ 32) ≡ b →
          if◌then◌otherwise◌ b (request_of (lookup (book_key id 0) rows) (arguments_of (value_in rows) id)) none ≡ some q →
          (id < 2 ^ 32) × (w : ℕ) × (lookup (book_key id 0) rows ≡ some w)
      go true l g = let f = found (lookup (book_key id 0) rows) refl g in (ltb-true id (2 ^ 32) l, f.0, f.1)
      go false l g = none_some q refl g

-- the same of a key that is in the book
pub key_booked : (rows : List Row) (k : ℕ) → is_workflow_key k ≡ true → member k (keys_in rows) ≡ true →
    (q : Request) × (book_of (value_in rows) (booked_id k) ≡ some q)
key_booked rows k w m =
    let z = workflow_row k w in
    row_booked rows (booked_id k) z.0
    (ap (λ (j : ℕ). is_some (lookup j rows)) z.1 ∙ sym (member_is k rows) ∙ m)

-- ── what question 28 asks at a row ──

module _ (pack : List ℕ) (lent : Lent) (k : ℕ) where
  -- at the row of a workflow's number
  pub row_asks : is_workflow_key k ≡ true → member k (keys_in (book_rows lent.store)) ≡ true → (id : ℕ) → id ≡ booked_id k → (r : Bool) →
      ((q : Request) → (contents_of (store_of lent.store)).book id ≡ some q → r ≡ can_retire (pack_of pack) (state_of lent) id (some q)) →
      r ≡ row_can pack lent k
  unfolding row_can state_of contents_of
  row_asks w m id e r h =
      let b = key_booked (book_rows lent.store) k w m in
      let f : book_of (value_in (book_rows lent.store)) id ≡ some b.0 = ap (book_of (value_in (book_rows lent.store))) e ∙ b.1 in
      h b.0 f ∙ ap (can_retire (pack_of pack) (state_of lent) id) (sym f) ∙ rw (w, e) refl

  -- at any other
  pub row_passed : is_workflow_key k ≡ false → row_can pack lent k ≡ true
  unfolding row_can
  row_passed w = rw w refl
