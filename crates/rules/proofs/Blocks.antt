-- The run of a block in a checked workflow: it comes to the END behind which the agent goes on; and to allow a run more instructions than
-- are ahead changes nothing.
use mathlib.Core.Bool.{Bool, true, false}
use mathlib.Core.Path.{◌≡◌, refl, sym, ◌∙◌, ap, subst}
use mathlib.Core.Logic.{◌⊎◌, inl, inr}
use mathlib.Core.List.{[], ◌∷◌}
use mathlib.Core.Option.{none, some}
use Prim.Native.Nat.{ℕ, zero, suc, ◌+◌, ◌-◌, ◌≤◌, ◌<◌}
use native.Mathlib.Nat.{not-suc-le-zero, suc-add, zero-add}
use native.Mathlib.Omega.{arith}
use native.Mathlib.Decide.{dec_lt}
use lib.ListN.{length, drop, length-drop, get_or-eq_default}
use lib.Seq.{drop-cons, drop-drop}
use Rattle.questions.specs.Basics.{if◌then◌otherwise◌}
use Rattle.rules.specs.Instructions.{Code, Place, next, Instruction, BEGIN, RETURN, Act, moves, opens, closes, reads, puts, returns}
use Rattle.rules.specs.Instructions.{act, act_at, instruction_at}
use Rattle.rules.specs.Shapes.{outside, inside, shape, GoesOn}
use Rattle.rules.specs.Blocks.{Table, closing, is_end, through_end, behind_end, Work, Block, yields, close, within, run_from, run_block}
use Rattle.rules.specs.Blocks.{Closed}
use Rattle.rules.specs.Checked.{side_behind, side_from, side_at, Lands, GoesTo, Checked}
use Rattle.rules.proofs.Shapes.{Agrees, agrees}
use Rattle.rules.proofs.Positions.{side_drop, stays_inside, two_sides, own_side_lem, same_side, begins_inside, block_closed}

-- ── Enough is as good as more ──

-- past the last instruction a run is over
pub past : (code : Code) (w : Work) (n : ℕ) → length code ≤ w.place.position → run_from code n w ≡ close w (yields 0)
unfolding run_from act_at act within
past code w zero h = refl
past code w (suc n) h = rw (get_or-eq_default code (RETURN 0) {n = w.place.position} h) refl

module _ (code : Code) (checked : Checked code) where
  -- one instruction, if all goes well behind it
  one_forward : (w : Work) (f g : Work → Block) → ((v : Work) → w.place.position < v.place.position → f v ≡ g v) →
      w.place.position < length code → (y : Act) → Agrees (instruction_at code w.place.position) w.place y →
      within y w f ≡ within y w g
  unfolding within
  one_forward w f g rec h (moves to) (on, inl e) = rec _ (omega arith)
  one_forward w f g rec h (moves to) (on, inr e) =
      rec _ (subst (GoesTo code w.place.position) e (checked.stands w.place.position h).1).0
  one_forward w f g rec h (reads k to) (side, on, e) = rec _ (omega (arith, e (w.table k)))
  one_forward w f g rec h (puts k v) a = rec _ (omega arith)
  one_forward w f g rec h (opens p) a = refl
  one_forward w f g rec h (closes v) a = refl
  one_forward w f g rec h (returns v) a = refl

  pub enough : (ahead extra : ℕ) (w : Work) → length code ≤ w.place.position + ahead →
      run_from code ahead w ≡ run_from code (ahead + extra) w
  unfolding run_from act_at
  enough zero extra w l = sym (past code w (zero + extra) (omega arith))
  enough (suc ahead) extra w l = go (λ v h. enough ahead extra v h) (dec_lt w.place.position (length code))
    where
      go : ((v : Work) → length code ≤ v.place.position + ahead → run_from code ahead v ≡ run_from code (ahead + extra) v) →
          Dec (w.place.position < length code) → run_from code (suc ahead) w ≡ run_from code (suc ahead + extra) w
      go rec (yes h) =
          one_forward w (run_from code ahead) (run_from code (ahead + extra)) (λ v b. rec v (omega arith)) h
          (act (instruction_at code w.place.position) w.place) (agrees (instruction_at code w.place.position) w.place)
          ∙ ap (λ (n : ℕ). run_from code n w) (sym (suc-add ahead extra))
      go rec (no n) = past code w (suc ahead) (omega arith) ∙ sym (past code w (suc ahead + extra) (omega arith))

-- ── A block comes to its END ──

-- up to the first END all stand inside
pub inside_through : (rest : Code) (j : ℕ) → j < through_end rest → side_from inside rest j ≡ inside
inside_through [] j h = absurd (not-suc-le-zero h)
inside_through (x ∷ rest) zero h = refl
inside_through (x ∷ rest) (suc j) h = go (stays_inside x) (inside_through rest j)
  where
    go : ((is_end x ≡ true) × (side_behind inside x ≡ outside)) ⊎ ((is_end x ≡ false) × (side_behind inside x ≡ inside)) →
        (j < through_end rest → side_from inside rest j ≡ inside) → side_from (side_behind inside x) rest j ≡ inside
    go (inl i) rec = let h' = rw i.0 at h in absurd (omega arith)
    go (inr i) rec = let h' = rw i.0 at h in ap (λ w. side_from w rest j) i.1 ∙ rec (omega arith)

-- from any of them on, the first END is the same
pub through_from : (rest : Code) (k : ℕ) → k < through_end rest → through_end rest ≡ k + through_end (drop k rest)
through_from [] k h = absurd (not-suc-le-zero h)
through_from (x ∷ rest) zero h = sym (zero-add (through_end (x ∷ rest)))
through_from (x ∷ rest) (suc k) h = go (is_end x) h (through_from rest k)
  where
    go : (b : Bool) → suc k < (if◌then◌otherwise◌ b 1 (suc (through_end rest))) →
        (k < through_end rest → through_end rest ≡ k + through_end (drop k rest)) →
        if◌then◌otherwise◌ b 1 (suc (through_end rest)) ≡ suc k + through_end (drop k rest)
    go true l rec = absurd (omega arith)
    go false l rec = omega (arith, rec (omega arith))

some_through : (rest : Code) → 0 < length rest → 0 < through_end rest
some_through [] l = absurd (not-suc-le-zero l)
some_through (y ∷ rest) l = go (is_end y)
  where
    go : (b : Bool) → 0 < (if◌then◌otherwise◌ b 1 (suc (through_end rest)))
    go true = omega arith
    go false = omega arith

module _ (code : Code) (checked : Checked code) (begin p : ℕ) (opened : begin < length code)
    (begins : instruction_at code begin ≡ BEGIN p) where
  -- between BEGIN and the first END behind it, that END included
  pub record Between (j : ℕ) : Type 0 where
    pub behind : begin < j
    pub before : j < behind_end code begin

  module _ (j : ℕ) (h : Between j) where
    abbrev x : Instruction
    x = instruction_at code j

    pub in_code : j < length code
    in_code = let c = block_closed code checked begin p opened begins in omega (arith, c.0, h.before)

    -- j - begin - 1 instructions lie between
    from_begin : suc begin + (j - suc begin) ≡ j
    from_begin = omega (arith, h.behind)

    side : side_at code j ≡ inside
    side =
        ap (side_at code) (sym from_begin)
        ∙ side_drop outside code (suc begin) (j - suc begin)
        ∙ ap (λ w. side_from w (drop (suc begin) code) (j - suc begin)) (begins_inside code checked begin p opened begins).1
        ∙ inside_through (drop (suc begin) code) (j - suc begin) (omega (arith, h.behind, h.before))

    -- the END is the first one from j on
    same_end : behind_end code begin ≡ j + through_end (drop j code)
    same_end =
        let e = through_from (drop (suc begin) code) (j - suc begin) (omega (arith, h.behind, h.before)) in
        let d = ap through_end (drop-drop (j - suc begin) (suc begin) code ∙ ap (λ n. drop n code) from_begin) in
        omega (arith, e, d, from_begin)

    here : through_end (drop j code) ≡ if◌then◌otherwise◌ (is_end x) 1 (suc (through_end (drop (suc j) code)))
    here = ap through_end (drop-cons code j (RETURN 0) in_code)

    -- if this one closes the block, it is that END
    at_end : (shape x).behind ≡ some outside → suc j ≡ behind_end code begin
    at_end e = let t = here ∙ ap (λ o. if◌then◌otherwise◌ (closing o) 1 (suc (through_end (drop (suc j) code)))) e in omega (arith, t, same_end)

    -- only the last of them is END
    no_end_before : suc j < behind_end code begin → is_end x ≡ false
    no_end_before l = go (is_end x) here
      where
        go : (b : Bool) → through_end (drop j code) ≡ if◌then◌otherwise◌ b 1 (suc (through_end (drop (suc j) code))) → b ≡ false
        go true t = absurd (omega (arith, t, same_end, l))
        go false t = refl

    -- if not, it is ahead
    not_end : (shape x).behind ≡ none → behind_end code j ≡ behind_end code begin
    not_end e = let t = here ∙ ap (λ o. if◌then◌otherwise◌ (closing o) 1 (suc (through_end (drop (suc j) code)))) e in omega (arith, t, same_end)

    -- on to the next instruction of the block
    pub next_between : GoesOn (shape x) → Between (suc j)
    next_between g =
        let l = (same_side code checked j in_code g).0 in
        let t = some_through (drop (suc j) code) (omega (arith, length-drop (suc j) code, l)) in
        record { behind = omega (arith, h.behind); before = omega (arith, t, not_end g.same_side) }

    -- a jump passes no END
    pub jump_between : GoesOn (shape x) → (target : ℕ) → (shape x).target ≡ some target → Between target
    jump_between g target e =
        let t = subst (GoesTo code j) e (checked.stands j in_code).1 in
        let l : target < behind_end code j = subst (λ w. Lands w code j target) side t.2 in
        record { behind = omega (arith, h.behind, t.0); before = omega (arith, l, not_end g.same_side) }

    -- nothing there stands outside
    pub not_outside : {A : Type 0} → (shape x).stands ≡ some outside → A
    not_outside e = two_sides side (own_side_lem code checked j in_code outside e)

  -- one instruction, if the rest comes to END
  one_inside : (w : Work) (f : Work → Block) →
      ((v : Work) → w.place.position < v.place.position → Between v.place.position → Closed code begin (f v)) →
      (h : Between w.place.position) → (y : Act) →
      Agrees (instruction_at code w.place.position) w.place y → Closed code begin (within y w f)
  unfolding within
  one_inside w f rec h (moves to) (on, inl p) =
      rec _ (omega arith) (subst Between (sym p) (next_between w.place.position h on))
  one_inside w f rec h (moves to) (on, inr p) =
      let b = jump_between w.place.position h on to.position p in
      rec _ (subst (GoesTo code w.place.position) p (checked.stands w.place.position (in_code w.place.position h)).1).0 b
  one_inside w f rec h (reads k to) (s, on, p) =
      rec _ (omega (arith, p (w.table k))) (subst Between (sym (p (w.table k))) (next_between w.place.position h on))
  one_inside w f rec h (puts k v) (s, on, one) = rec _ (omega arith) (next_between w.place.position h on)
  one_inside w f rec h (closes v) (s, b, ends) =
      let last = at_end w.place.position h b in
      record {
        last = w;
        d = ends.0;
        value = v;
        at_end = ends.1;
        its_register = ends.2;
        behind_begin = h.behind;
        the_first = λ i l m. no_end_before i (record { behind = l; before = omega (arith, last, m) }) (omega (arith, last, m));
        goes_on = last;
        closed = refl;
      }
  one_inside w f rec h (opens q) a = not_outside w.place.position h (ap (λ y. (shape y).stands) a)
  one_inside w f rec h (returns v) a = not_outside w.place.position h a

  comes_to_end : (ahead : ℕ) (w : Work) → Between w.place.position → length code ≤ w.place.position + ahead →
      Closed code begin (run_from code ahead w)
  unfolding run_from act_at
  comes_to_end zero w h l = absurd (let b = in_code w.place.position h in omega arith)
  comes_to_end (suc ahead) w h l =
      one_inside w (run_from code ahead) (λ v f b. comes_to_end ahead v b (omega arith)) h
      (act_at code w.place) (agrees (instruction_at code w.place.position) w.place)

  pub first_between : Between (suc begin)
  first_between =
      let l = (begins_inside code checked begin p opened begins).0 in
      let t = some_through (drop (suc begin) code) (omega (arith, length-drop (suc begin) code, l)) in
      record { behind = omega arith; before = omega (arith, t) }

  opened_comes : (at : Place) → at.position ≡ begin → (table : Table) → Closed code begin (run_block code at table)
  unfolding run_block
  opened_comes at e table =
      comes_to_end (length code - suc at.position) (record { place = next at; table = table; new_keys = 0 })
      (subst (λ n. Between (suc n)) (sym e) first_between) (omega arith)

-- The block that BEGIN opens comes to the first END behind it, within the instructions ahead.
pub block_ends : (code : Code) → Checked code → (at : Place) (p : ℕ) (table : Table) (h : at.position < length code) →
    (e : instruction_at code at.position ≡ BEGIN p) →
    Closed code at.position (run_block code at table)
block_ends code checked at p table h e =
    opened_comes code checked at.position p h e at refl table
