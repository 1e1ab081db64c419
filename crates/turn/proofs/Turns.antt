-- The three kinds of turn: a reply, a move, a block.
use mathlib.Core.Bool.{true}
use mathlib.Core.List.{List}
use mathlib.Core.Logic.{inl, inr}
use mathlib.Core.Option.{Option, some}
use mathlib.Core.Path.{◌≡◌, refl, sym, ◌∙◌, ap, subst}
use Prim.Native.Nat.{ℕ, ◌^◌, ◌≤◌, ◌<◌}
use native.Mathlib.Omega.{arith}
use lib.ListN.{length}
use Rattle.keys.specs.Keys.{table_of, log_of}
use Rattle.contents.specs.Wrote.{Wrote}
use Rattle.contents.specs.Contents.{contents_of, value_in}
use Rattle.rules.specs.Instructions.{Code, Place, BEGIN, instruction_at}
use Rattle.rules.specs.Blocks.{yields, run_block}
use Rattle.rules.specs.Blocks as Blocks
use Rattle.rules.specs.Courses.{going, passed, goes, does, says, next_of}
use Rattle.rules.specs.Courses as Courses
use Rattle.rules.specs.Store.{Store, sought}
use Rattle.rules.specs.Calls.{gives, with_slot, can_write, through_block, with_store}
use Rattle.rules.specs.Calls as Calls
use Rattle.questions.proofs.Updates.{false_true}
use Rattle.rules.proofs.Positions.{does_begins}
use Rattle.code.specs.Meaning.{code_of}
use Rattle.code.proofs.Decoded.{decoded_begin, instruction_at_lem}
use Rattle.pack.specs.Layout.{size_of}
use Rattle.pack.specs.Meaning.{pack_of}
use Rattle.pack.proofs.Laws.{workflow_at}
use Rattle.store.specs.Rows.{Row, rows_of, store_of}
use Rattle.store.specs.Layout.{parts_of}
use Rattle.store.specs.Questions.{book_right}
use Rattle.store.specs.Questions as StoreQuestions
use Rattle.store.proofs.Sound.{store_ok, store_passes}
use Rattle.agents.specs.declared.Agent.{Agent}
use Rattle.agents.specs.Slots.{held, agent_of, Whole}
use Rattle.agents.specs.Answers.{answer_of}
use Rattle.instruction.specs.Step.{place_of}
use Rattle.course.specs.declared.Next.{Next}
use Rattle.course.specs.declared.Next.TheVariants.{Goes, Does, Says}
use Rattle.course.specs.declared.Upcoming.{Upcoming}
use Rattle.course.specs.Next.{next_at, next_in, StandsOutside}
use Rattle.std.specs.Prelude.{Ok, Err}
use Rattle.block.specs.Through.{BlockOutcome, Ready, block_at, Through, had_room}
use Rattle.block.proofs.Callers.{log_in, can_write_lem, passes_block, no_room_same, stays, same_bytes}
use Rattle.meaning.proofs.Sense.{begin_below}
use Rattle.contents.proofs.Equal.{only_bytes, wrote_nothing}
use Rattle.turn.specs.declared.Turned.{Turned}
use Rattle.turn.specs.Turned.{Turnable, moved_to, replied, behind_block, TurnedBy}
use Rattle.turn.proofs.Standing.{below, in_size, in_ops, short_ops, few_steps, stands_outside, fits_16, turn_is, can_is, w, ops}
use Rattle.turn.proofs.Standing.{ws, code, at, spot}

module _ (pack store : List ℕ) (a : Agent) (h : a.id < 2 ^ 32) (t : Turnable pack store a) where
  -- an answer without a write
  unwritten : (r : Turned) → Whole r.agent → Calls.can_turn (pack_of pack) (contents_of (store_of store)) (some (held a)) ≡ true →
      ((others : Calls.State) (slot : ℕ) →
      Calls.turn_in (pack_of pack) (with_store others (contents_of (store_of store))) slot (some (held a))
      ≡ gives (answer_of r.answer) (with_slot (with_store others (contents_of (store_of store))) slot (agent_of r.agent))) →
      TurnedBy pack store a r store
  unwritten r u y f = record { refused = λ n. false_true n y; whole = u; written = wrote_nothing store; turned = λ _. f }

  pub is_reply : (r : Turned) (v : ℕ) → next_of (code pack store a h t) (going (at pack store a h t)) ≡ says (yields v) → r ≡ replied a v →
      TurnedBy pack store a r store
  unfolding Calls.can_do Calls.turn_on answer_of agent_of
  is_reply r v e p =
      subst (λ (z : Turned). TurnedBy pack store a z store) (sym p)
      (unwritten (replied a v) (inr refl) (can_is pack store a h t (says (yields v)) e) (turn_is pack store a h t (says (yields v)) e))

  pub is_move : (r : Turned) (to : Place) → next_of (code pack store a h t) (going (at pack store a h t)) ≡ goes (going to) →
      r ≡ moved_to a to a.step → TurnedBy pack store a r store
  unfolding Calls.can_do Calls.turn_on answer_of agent_of
  is_move r to e p =
      subst (λ (z : Turned). TurnedBy pack store a z store) (sym p)
      (unwritten (moved_to a to a.step) (inl refl) (can_is pack store a h t (goes (going to)) e)
      (turn_is pack store a h t (goes (going to)) e))

  module _ (begin : Place) (p : ℕ)
      (e : next_of (code pack store a h t) (going (at pack store a h t)) ≡ does begin p (passed (code pack store a h t) begin)) where
    -- BEGIN opens a block where the agent stands
    stands_there : begin ≡ at pack store a h t
    stands_there = (does_begins (code pack store a h t) (going (at pack store a h t)) begin p _ e).0

    begins_there : instruction_at (code pack store a h t) begin.position ≡ BEGIN p
    begins_there = (does_begins (code pack store a h t) (going (at pack store a h t)) begin p _ e).1

    pub begin_in : begin.position < length (ops pack store a h t)
    begin_in = subst (λ (x : Place). x.position < length (ops pack store a h t)) (sym stands_there) (in_ops pack store a h t)

    -- of a partition below P
    partition_below : p < parts_of store
    partition_below =
        begin_below pack t.accepted (w pack store a h t) (below pack store a h t) store t.right begin.position p
        (subst (λ (x : Place). x.position < size_of pack (w pack store a h t)) (sym stands_there) (in_size pack store a h t))
        (ap (λ (c : Code). instruction_at c begin.position) (workflow_at pack (w pack store a h t) (below pack store a h t))
        ∙ begins_there)

    pub ready : Ready (ops pack store a h t) (ws pack store a h t) store p begin.position
    ready =
        record {
          right = (stands_outside pack store a h t).right;
          sound = (store_ok store t.stored).0;
          below = partition_below;
          in_code = begin_in;
          begins =
              (decoded_begin _ _ _ p (sym (instruction_at_lem (ops pack store a h t) (ws pack store a h t) begin.position begin_in)
              ∙ begins_there)).0;
        }

    module _ (store' : List ℕ) (b : BlockOutcome) (r : Turned)
        (through : Through store store' p a.id a.step (run_block (code pack store a h t) begin (table_of (value_in (rows_of store p)))) b
        (log_of (value_in (rows_of store p)) a.id a.step)) where
      -- what its log row says
      abbrev logs : Option ℕ
      logs = log_of (value_in (rows_of store p)) a.id a.step

      abbrev s : Store
      s = contents_of (store_of store)

      abbrev onto : Blocks.Result → Courses.Course
      onto = passed (code pack store a h t) begin

      lies : p < parts_of store
      lies = partition_below

      log_is : s.log.usual p a.id a.step ≡ logs
      unfolding contents_of
      log_is = ap (λ (l : ℕ → ℕ → Option ℕ). l a.id a.step) (log_in store p lies)

      can : Calls.can_turn (pack_of pack) s (some (held a)) ≡ had_room b
      unfolding Calls.can_do contents_of
      can =
          can_is pack store a h t (does begin p onto) e ∙ ap (λ o. can_write s (code pack store a h t) begin p (sought o)) log_is
          ∙ can_write_lem store store' p lies (held a) (code pack store a h t) begin onto b logs through

      wrote : Wrote store store' (contents_of (store_of store'))
      unfolding StoreQuestions.question12 contents_of
      wrote =
          let y = stays store store' p lies (held a) (code pack store a h t) begin onto b logs through in
          record {
            parts = y.parts;
            cap = y.cap;
            sound =
                λ n.
                let f = store_ok store n in
                store_passes store' (y.sound f.0)
                (subst (λ (rows : List Row). book_right rows ≡ true) (sym y.book_rows_lem) f.1);
            holds = refl;
            only = only_bytes store store' (contents_of (store_of store')) y.parts refl;
            bytes = λ n. same_bytes store store' p lies (held a) (code pack store a h t) begin onto b logs through;
          }

      is_block : r ≡ behind_block (code pack store a h t) a begin b → TurnedBy pack store a r store'
      unfolding answer_of agent_of Calls.turn_on Courses.passed contents_of
      is_block q = subst (λ (z : Turned). TurnedBy pack store a z store') (sym q) (go b refl)
        where
          go : (x : BlockOutcome) → b ≡ x → TurnedBy pack store a (behind_block (code pack store a h t) a begin b) store'
          go (Ok v) f =
              subst (λ (x : BlockOutcome). TurnedBy pack store a (behind_block (code pack store a h t) a begin x) store') (sym f)
              (record {
                refused = λ n. false_true n (can ∙ ap had_room f);
                whole = inl refl;
                written = wrote;
                turned =
                    λ y others slot.
                    turn_is pack store a h t (does begin p onto) e others slot
                    ∙ ap
                    (λ o. through_block (with_store others s) slot (held a) (code pack store a h t) begin p onto (sought o))
                    log_is
                    ∙ passes_block store store' p lies (held a) (code pack store a h t) begin onto b logs through others slot v f;
              })
          go (Err e) f =
              subst (λ (x : BlockOutcome). TurnedBy pack store a (behind_block (code pack store a h t) a begin x) store') (sym f)
              (record {
                refused = λ n. (refl, no_room_same store store' p lies (held a) (code pack store a h t) begin onto b logs through f);
                whole = inl t.used;
                written = wrote;
                turned = λ y. false_true (can ∙ ap had_room f) y;
              })

-- ── with what the code has in hand ──

module _ (pack store : List ℕ) (a : Agent) (h : a.id < 2 ^ 32) (t : Turnable pack store a) (ops' ws' : List ℕ)
    (eops : ops' ≡ ops pack store a h t) (ews : ws' ≡ ws pack store a h t) where
  same_code : code_of ops' ws' ≡ code pack store a h t
  same_code = λ i. code_of (eops i) (ews i)

  pub may_ask : StandsOutside ops' ws' (spot pack store a h t)
  may_ask =
      subst (λ (x : List ℕ). StandsOutside x ws' (spot pack store a h t)) (sym eops)
      (subst (λ (x : List ℕ). StandsOutside (ops pack store a h t) x (spot pack store a h t)) (sym ews) (stands_outside pack store a h t))

  -- the code's answer to what the agent does next
  module _ (u : Upcoming) (e : next_in (code_of ops' ws') u ≡ next_of (code_of ops' ws') (going (place_of (spot pack store a h t)))) where
    abbrev place : Place
    place = place_of u.place

    answered : (n : Next) → u.next ≡ n →
        next_of (code pack store a h t) (going (at pack store a h t)) ≡ next_at (code pack store a h t) place n
    answered n f =
        sym (subst (λ (c : Code). next_in c u ≡ next_of c (going (at pack store a h t))) same_code e)
        ∙ ap (next_at (code pack store a h t) place) f

    pub replies : (v : ℕ) → u.next ≡ Says v → (r : Turned) → r ≡ replied a v → TurnedBy pack store a r store
    replies v f r p = is_reply pack store a h t r v (answered (Says v) f) p

    pub may_go : u.next ≡ Goes → u.place.position < 65536
    may_go f = fits_16 pack store a h t place (answered Goes f)

    pub goes_on : u.next ≡ Goes → (r : Turned) → r ≡ moved_to a place a.step → TurnedBy pack store a r store
    goes_on f r p = is_move pack store a h t r place (answered Goes f) p

    module _ (p : ℕ) (f : u.next ≡ Does p) where
      pub may_run : Ready ops' ws' store p u.place.position
      may_run =
          subst (λ (x : List ℕ). Ready x ws' store p u.place.position) (sym eops)
          (subst (λ (x : List ℕ). Ready (ops pack store a h t) x store p u.place.position) (sym ews)
          (ready pack store a h t place p (answered (Does p) f)))

      pub may_leave : (u.place.position < length ops') × (length ops' ≤ 256) × (a.step < 65535)
      may_leave = (
        subst (λ (x : List ℕ). u.place.position < length x) (sym eops) (begin_in pack store a h t place p (answered (Does p) f)),
        subst (λ (x : List ℕ). length x ≤ 256) (sym eops) (short_ops pack store a h t),
        omega (arith, few_steps pack store a h t, in_ops pack store a h t, short_ops pack store a h t),
      )

      pub does_block : (store' : List ℕ) (b : BlockOutcome) (r : Turned) →
          Through store store' p a.id a.step (block_at ops' ws' store p u.place.position u.place.registers) b
          (log_of (value_in (rows_of store p)) a.id a.step) →
          r ≡ behind_block (code_of ops' ws') a place b → TurnedBy pack store a r store'
      does_block store' b r g q =
          is_block pack store a h t place p (answered (Does p) f) store' b r
          (subst
          (λ (c : Code). Through store store' p a.id a.step (run_block c place (table_of (value_in (rows_of store p)))) b
          (log_of (value_in (rows_of store p)) a.id a.step))
          same_code g)
          (q ∙ ap (λ (c : Code). behind_block c a place b) same_code)
