-- Where a sound agent stands: its workflow, and what the rules make of its turn.
use mathlib.Core.Bool.{Bool, true, false}
use mathlib.Core.List.{List, [], ◌∷◌}
use mathlib.Core.Option
use mathlib.Core.Option.{Option, none, some}
use mathlib.Core.Path.{◌≡◌, refl, sym, ◌∙◌, ap, subst}
use Prim.Native.Nat.{ℕ, suc, ◌^◌, ◌≤◌, ◌<◌}
use native.Mathlib.Omega.{arith}
use lib.ListN.{length, get_or, drop, length-drop}
use Rattle.meaning.proofs.Tests.{workflow_below, booked_of_13}
use Rattle.contents.specs.Contents.{contents_of, value_in, arguments_of, request_of, book_of, book_rows}
use Rattle.questions.specs.Basics.{if◌then◌otherwise◌}
use Rattle.keys.specs.Keys.{book_key}
use Rattle.rules.specs.Instructions.{Code, Place}
use Rattle.rules.specs.Shapes.{outside}
use Rattle.rules.specs.Blocks.{yields, is_end, through_end}
use Rattle.rules.specs.Blocks as Blocks
use Rattle.rules.specs.Checked.{Checked, side_at}
use Rattle.rules.specs.Courses.{going, passed, Next, goes, next_of}
use Rattle.rules.specs.Courses as Courses
use Rattle.rules.specs.Store.{Request}
use Rattle.rules.specs.Calls.{code_by, can_turn, can_do, turn_in, turn_on, with_store}
use Rattle.rules.specs.Calls as Calls
use Rattle.questions.proofs.Updates.{false_true}
use Rattle.rules.proofs.Positions.{goes_forward}
use Rattle.code.specs.Meaning.{code_of}
use Rattle.code.specs.Right.{Right}
use Rattle.code.proofs.Decoded.{length_code}
use Rattle.code.proofs.Right.{right_checked, outside_at}
use Rattle.pack.specs.Layout.{count, size_of, operations_of, operands_of}
use Rattle.pack.specs.Meaning.{pack_of}
use Rattle.pack.proofs.Sizes.{length_operations}
use Rattle.pack.proofs.Laws.{workflow_at, accepted_laid, accepted_right, length_workflow}
use Rattle.store.specs.Rows.{lookup, store_of}
use Rattle.instruction.specs.declared.Spot.{Spot}
use Rattle.course.specs.Next.{StandsOutside}
use Rattle.agents.specs.declared.Agent.{Agent}
use Rattle.agents.specs.Slots.{held}
use Rattle.meaning.specs.Questions.{is_sound}
use Rattle.contents.proofs.Book.{book_row_lem}
use Rattle.meaning.proofs.Sense.{sound_meant}
use Rattle.turn.specs.Turned.{Turnable, workflow_in}

through_short : (code : Code) → through_end code ≤ length code
through_short [] = omega arith
through_short (i ∷ rest) = go (is_end i) (through_short rest)
  where
    go : (b : Bool) → through_end rest ≤ length rest → if◌then◌otherwise◌ b 1 (suc (through_end rest)) ≤ suc (length rest)
    go true l = omega arith
    go false l = omega arith

-- the position behind a block is at most the workflow's size
pub behind_short : (ops ws : List ℕ) (begin : Place) (v : ℕ) → begin.position < length ops →
    (passed (code_of ops ws) begin (yields v)).place.position ≤ length ops
unfolding Courses.passed Blocks.after_block
behind_short ops ws begin v h =
    let l = through_short (drop (suc begin.position) (code_of ops ws)) in
    let n = length-drop (suc begin.position) (code_of ops ws) in
    let m = length_code ops ws in
    omega arith

module _ (pack store : List ℕ) (a : Agent) (h : a.id < 2 ^ 32) (t : Turnable pack store a) where
  pub booked_row : lookup (book_key a.id 0) (book_rows store) ≡ some (workflow_in store a.id)
  unfolding request_of
  booked_row = go (lookup (book_key a.id 0) (book_rows store)) refl
    where
      unbooked : lookup (book_key a.id 0) (book_rows store) ≡ none → is_sound pack a (book_of (value_in (book_rows store)) a.id) ≡ false
      unbooked e =
          unfold is_sound in
          ap (is_sound pack a)
          (book_row_lem (book_rows store) a.id h ∙ ap (λ o. request_of o (arguments_of (value_in (book_rows store)) a.id)) e)

      go : (o : Option ℕ) → lookup (book_key a.id 0) (book_rows store) ≡ o →
          lookup (book_key a.id 0) (book_rows store) ≡ some (workflow_in store a.id)
      go none e = false_true (unbooked e) t.sound
      go (some v) e = e ∙ ap some (sym (ap (λ (o : Option ℕ). Option.get_or o 0) e))

  abbrev pub w : ℕ
  w = workflow_in store a.id

  abbrev request : Request
  request = record { workflow = w; arguments = arguments_of (value_in (book_rows store)) a.id }

  abbrev pub ops : List ℕ
  ops = operations_of pack w

  abbrev pub ws : List ℕ
  ws = operands_of pack w

  abbrev pub code : Code
  code = code_of ops ws

  abbrev pub at : Place
  at = (held a).course.place

  -- where the code has it
  abbrev pub spot : Spot
  spot = record { position = a.position; registers = a.registers }

  booked : book_of (value_in (book_rows store)) a.id ≡ some request
  unfolding request_of
  booked = book_row_lem (book_rows store) a.id h ∙ ap (λ o. request_of o (arguments_of (value_in (book_rows store)) a.id)) booked_row

  pub below : w < count pack
  below = workflow_below pack store a.id w h (booked_of_13 pack store t.right) booked_row

  meant : (a.position < length (Calls.request_code (pack_of pack) request))
      × (side_at (Calls.request_code (pack_of pack) request) a.position ≡ outside) × (a.step ≤ a.position)
  meant = sound_meant pack t.accepted w below a request refl (subst (λ (o : Option Request). is_sound pack a o ≡ true) booked t.sound)

  pub in_size : a.position < size_of pack w
  in_size = omega (arith, meant.0, length_workflow pack t.accepted w below)

  pub in_ops : a.position < length ops
  in_ops = omega (arith, in_size, length_operations pack (accepted_laid pack t.accepted) w below)

  pub short_ops : length ops ≤ 256
  short_ops =
      omega (arith, ((accepted_laid pack t.accepted).sizes w below).1, length_operations pack (accepted_laid pack t.accepted) w below)

  pub few_steps : a.step ≤ a.position
  few_steps = meant.2

  code_is : get_or (pack_of pack) w [] ≡ code
  code_is = workflow_at pack w below

  side : side_at code a.position ≡ outside
  side = ap (λ (c : Code). side_at c a.position) (sym code_is) ∙ meant.1

  right : Right ops ws
  right = accepted_right pack t.accepted w below

  pub stands_outside : StandsOutside ops ws spot
  stands_outside = record { right = right; in_code = in_ops; outside = outside_at ops ws right a.position in_ops side }

  checked : Checked code
  checked = right_checked ops ws right (omega (arith, in_ops))

  in_code : a.position < length code
  in_code = omega (arith, in_ops, length_code ops ws)

  -- where it goes on fits into 16 bits
  pub fits_16 : (to : Place) → next_of code (going at) ≡ goes (going to) → to.position < 65536
  fits_16 to e =
      let f = (goes_forward code checked (going at) in_code side (going to) e).in_code in omega (arith, f, short_ops, length_code ops ws)

  -- the rules' turn, by what the agent does next
  code_by_lem : code_by (pack_of pack) ((contents_of (store_of store)).book a.id) ≡ code
  unfolding contents_of
  code_by_lem = ap (code_by (pack_of pack)) booked ∙ code_is

  -- its store beside anything else
  abbrev beside : Calls.State → Calls.State
  beside others = with_store others (contents_of (store_of store))

  module _ (x : Next) (e : next_of code (going at) ≡ x) where
    pub turn_is : (others : Calls.State) (slot : ℕ) →
        turn_in (pack_of pack) (beside others) slot (some (held a)) ≡ turn_on (beside others) slot (held a) code x
    unfolding Calls.turn_in
    turn_is others slot =
        ap (λ (c : Code). turn_on (beside others) slot (held a) c (next_of c (going at))) code_by_lem
        ∙ ap (turn_on (beside others) slot (held a) code) e

    pub can_is : can_turn (pack_of pack) (contents_of (store_of store)) (some (held a))
        ≡ can_do (contents_of (store_of store)) a.id a.step code x
    unfolding Calls.can_turn
    can_is =
        ap (λ (c : Code). can_do (contents_of (store_of store)) a.id a.step c (next_of c (going at))) code_by_lem
        ∙ ap (can_do (contents_of (store_of store)) a.id a.step code) e
