-- What a yes to questions 13 and 14 says in the rules: each block that an accepted pack opens is one of a partition below P; a record that
-- passes question 14 is sound; and a sound one passes it.
use mathlib.Core.Bool.{Bool, true, false, not, ◌&&◌}
use mathlib.Core.List.{List, []}
use mathlib.Core.Option.{Option, none, some}
use mathlib.Core.Path.{◌≡◌, refl, sym, ◌∙◌, ap, subst}
use Prim.Native.Nat.{ℕ, ◌+◌, ◌/◌, ◌%◌, ◌^◌, ◌≤◌, ◌<◌}
use native.Mathlib.Omega.{arith}
use borrow.Author.Tests.{ltb-true, leb-true, not-true, lt-ltb, le-leb, eq-eqb}
use lib.Dec.{ltb, leb}
use lib.ListN.{length, get_or}
use Rattle.meaning.proofs.Tests.{workflow_below, opens_of_13}
use Rattle.contents.specs.Contents.{value_in, arguments_of, request_of, book_of, book_rows}
use Rattle.questions.specs.Basics.{if◌then◌otherwise◌}
use Rattle.rules.specs.Instructions.{BEGIN, instruction_at}
use Rattle.rules.specs.Shapes.{Side, outside, inside}
use Rattle.rules.specs.Checked.{side_at}
use Rattle.keys.specs.Keys.{book_key}
use Rattle.rules.specs.Store.{Request}
use Rattle.rules.specs.Calls as Rules
use Rattle.questions.proofs.Updates.{none_some}
use Rattle.words.specs.Words.{le}
use Rattle.code.specs.Questions.{inside_at}
use Rattle.code.proofs.Decoded.{decoded_begin, operation_known, side_known}
use Rattle.pack.specs.Layout.{count, size_of, first_of, total, operation_byte, operand_word, operations_of, operands_of}
use Rattle.pack.specs.Refusal.{pack_refusal}
use Rattle.pack.specs.Meaning.{pack_of}
use Rattle.pack.proofs.Sizes.{within, length_operations}
use Rattle.questions.proofs.Tests.{and_left, and_right, and_yes}
use Rattle.pack.proofs.Laws.{workflow_at, accepted_laid, accepted_workflow, length_workflow, instruction_in}
use Rattle.store.specs.Rows.{lookup}
use Rattle.store.specs.Layout.{parts_of}
use Rattle.agents.specs.declared.Agent.{Agent}
use Rattle.meaning.specs.Questions.{opens_below, byte_of, word_of, booked_right, opens_right, is_sound, question13}
use Rattle.questions.proofs.Each.{each_at}

-- ── question 13 ──

module _ (pack : List ℕ) (e : pack_refusal pack ≡ none) (w : ℕ) (h : w < count pack) where
  -- each BEGIN of an accepted pack is one of a partition below P
  pub begin_below : (store : List ℕ) → question13 pack store ≡ true → (i p : ℕ) → i < size_of pack w →
      instruction_at (get_or (pack_of pack) w []) i ≡ BEGIN p → p < parts_of store
  unfolding opens_right opens_below operation_byte operand_word
  begin_below store q i p l b =
      let d = decoded_begin (operation_byte pack w i % 8) (operand_word pack w i) (operation_byte pack w i / 16) p
      (sym (instruction_in pack e w h i l) ∙ b) in
      let n : first_of pack w + i < total pack = omega (arith, within pack w (count pack) h) in
      let t = each_at (λ k. opens_below (parts_of store) (byte_of pack k) (word_of pack k)) (total pack) 0 (opens_of_13 pack store q)
      (first_of pack w + i) (omega arith) (omega arith) in
      let x : byte_of pack (first_of pack w + i) ≡ operation_byte pack w i = ap (λ k. get_or pack k 0) (omega arith) in
      let y : word_of pack (first_of pack w + i) ≡ operand_word pack w i = ap (λ k. le 4 pack k) (omega arith) in
      let u = subst (λ z. opens_below (parts_of store) (operation_byte pack w i) z ≡ true) y
      (subst (λ z. opens_below (parts_of store) z (word_of pack (first_of pack w + i)) ≡ true) x t) in
      let v : ltb (operand_word pack w i) (parts_of store) ≡ true = rw (eq-eqb (operation_byte pack w i / 16) 6 d.0) at u in
      omega (arith, ltb-true (operand_word pack w i) (parts_of store) v, d.1)

  -- ── question 14 ──

  abbrev side_of : Bool → Side
  side_of true = inside
  side_of false = outside

  side_is : (i : ℕ) → i < size_of pack w → side_at (get_or (pack_of pack) w []) i ≡ side_of (inside_at (operations_of pack w) i)
  side_is i l =
      let n = length_operations pack (accepted_laid pack e) w h in
      ap (λ c. side_at c i) (workflow_at pack w h)
      ∙ side_known (operations_of pack w) (operands_of pack w)
      (operation_known w (operations_of pack w) (operands_of pack w) (accepted_workflow pack e w h)) i (omega arith)

  -- a record passes, and what it says in the rules
  pub sound_meant : (r : Agent) (q : Request) → q.workflow ≡ w → is_sound pack r (some q) ≡ true →
      (r.position < length (Rules.request_code (pack_of pack) q)) × (side_at (Rules.request_code (pack_of pack) q) r.position ≡ outside)
      × (r.step ≤ r.position)
  unfolding is_sound
  sound_meant r q x t =
      let t₀ : (ltb r.position (size_of pack w) && (not (inside_at (operations_of pack w) r.position) && leb r.step r.position))
      ≡ true =
      subst (λ y. (ltb r.position (size_of pack y)
      && (not (inside_at (operations_of pack y) r.position) && leb r.step r.position)) ≡ true) x t in
      let l = ltb-true r.position (size_of pack w) (and_left (ltb r.position (size_of pack w)) _ t₀) in
      let t₁ = and_right (ltb r.position (size_of pack w)) _ t₀ in
      let o = not-true (inside_at (operations_of pack w) r.position)
      (and_left (not (inside_at (operations_of pack w) r.position)) _ t₁) in (
        subst (λ y. r.position < length (get_or (pack_of pack) y [])) (sym x) (omega (arith, length_workflow pack e w h)),
        subst (λ y. side_at (get_or (pack_of pack) y []) r.position ≡ outside) (sym x) (side_is r.position l ∙ ap side_of o),
        leb-true r.step r.position (and_right (not (inside_at (operations_of pack w) r.position)) _ t₁),
      )

  pub sound_passes : (r : Agent) (q : Request) → q.workflow ≡ w → r.position < length (Rules.request_code (pack_of pack) q) →
      side_at (Rules.request_code (pack_of pack) q) r.position ≡ outside →
      r.step ≤ r.position → is_sound pack r (some q) ≡ true
  unfolding is_sound
  sound_passes r q x l s t =
      let l₀ : r.position < size_of pack w =
      omega (arith, subst (λ y. r.position < length (get_or (pack_of pack) y [])) x l, length_workflow pack e w h) in
      let s₀ : side_of (inside_at (operations_of pack w) r.position) ≡ outside =
      sym (side_is r.position l₀) ∙ subst (λ y. side_at (get_or (pack_of pack) y []) r.position ≡ outside) x s in
      subst (λ y. (ltb r.position (size_of pack y)
      && (not (inside_at (operations_of pack y) r.position) && leb r.step r.position)) ≡ true) (sym x)
      (and_yes _ _ (lt-ltb r.position (size_of pack w) l₀) ∙ and_yes _ _ (not_inside (inside_at (operations_of pack w) r.position) s₀)
      ∙ le-leb r.step r.position t)
    where
      not_inside : (b : Bool) → side_of b ≡ outside → not b ≡ true
      not_inside false p = refl
      not_inside true p = absurd (let z : ◌≡◌ {A = ℕ} 0 1 = cc in omega arith)

-- a request in the book has its workflow below m
pub booked_workflow : (pack store : List ℕ) → booked_right pack store ≡ true → (id : ℕ) (q : Request) →
    book_of (value_in (book_rows store)) id ≡ some q → q.workflow < count pack
unfolding book_of request_of
booked_workflow pack store b id q e = go (ltb id (2 ^ 32)) refl (lookup (book_key id 0) (book_rows store)) refl e
  where
    go : (t : Bool) → ltb id (2 ^ 32) ≡ t → (o : Option ℕ) → lookup (book_key id 0) (book_rows store) ≡ o →
        if◌then◌otherwise◌ t (request_of o (arguments_of (value_in (book_rows store)) id)) none ≡ some q → q.workflow < count pack
    go false l o x y = none_some q refl y
    go true l none x y = none_some q refl y
    go true l (some w) x y =
        let z : w ≡ q.workflow = cc in
        subst (λ k. k < count pack) z (workflow_below pack store id w (ltb-true id (2 ^ 32) l) b x)
