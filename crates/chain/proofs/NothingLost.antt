-- W-207 of lists of calls on bytes: nothing is lost on the way.
use mathlib.Core.Bool.{Bool, true, false}
use mathlib.Core.List.Memᴰ
use mathlib.Core.List.{List, [], ◌∷◌}
use mathlib.Core.Option.{Option, none, some, some-injective}
use mathlib.Core.Path.{◌≡◌, refl, sym, ◌∙◌, ap, ap₂, subst}
use Prim.Native.Nat.{ℕ, ◌^◌, ◌≤◌, ◌<◌}
use native.Mathlib.Omega.{arith}
use native.Mathlib.Decide.{ℕ_discrete}
use lib.Dec.{ltb}
use lib.ListN.{length, get_or}
use Rattle.questions.specs.Basics.{if◌then◌otherwise◌, is_some, update, each}
use Rattle.questions.specs.Questions.{No}
use Rattle.std.specs.Prelude.{Ok}
use Rattle.questions.proofs.Tests.{no_yes}
use Rattle.questions.proofs.Updates.{none_some, update_same, update_other}
use Rattle.questions.proofs.Questions.{or_else_none}
use Rattle.keys.specs.Keys.{book_key}
use Rattle.rules.specs.Instructions.{Code, Pack, Place}
use Rattle.rules.specs.Move.{MOVE}
use Rattle.rules.specs.Blocks.{Result, Block, run_block}
use Rattle.rules.specs.Courses.{Course, does, next_of}
use Rattle.rules.specs.Store.{Request, floor_of, found, booked, written, retired}
use Rattle.rules.specs.Store as Rules
use Rattle.rules.specs.Logged.{request_code, follow, reply_logged}
use Rattle.rules.specs.Calls.{code_by, Agent, Call, arrival, can_retire}
use Rattle.rules.specs.Plain.{Event, tallies_of, machine_of, replies_of}
use Rattle.rules.proofs.Follow.{Free}
use Rattle.rules.proofs.Invariant.{Inv}
use Rattle.rules.proofs.Changes.{Change, same, books, writes, retires, change, live, asked, none_ahead}
use Rattle.rules.proofs.Logged.{logged_ends}
use Rattle.rules.proofs.Retire.{retired_logged}
use Rattle.rules.proofs.Move.{InMove, takes, adds, in_move, replied_both}
use Rattle.contents.specs.Contents.{contents_of, value_in, arguments_of, request_of, book_of, book_rows}
use Rattle.contents.specs.Wrote.{Wrote}
use Rattle.pack.specs.Meaning.{pack_of}
use Rattle.store.specs.Layout.{parts_of}
use Rattle.store.specs.Rows.{Store, lookup, rows_of, store_of}
use Rattle.store.specs.Created.{Created}
use Rattle.store.specs.Questions.{store_refusal}
use Rattle.agents.specs.Answers.{Answer}
use Rattle.agents.specs.Answers.{answer_of}
use Rattle.meaning.specs.State.{state_of, Lent}
use Rattle.meaning.specs.Questions.{refusal_for}
use Rattle.meaning.specs.Carried.{Carried}
use Rattle.chain.specs.Chain.{Chain, begins, goes_on}
use Rattle.chain.specs.NothingLost.{sum_over, data_value, all_data, between_steps, is_under_way}
use Rattle.chain.specs.NothingLost.{amount_if, amounts_under_way, AddsUp, AllWords, NothingLost}
use Rattle.chain.proofs.Sums.{none_below}
use Rattle.chain.proofs.Counted.{amount_of}
use Rattle.chain.proofs.SumsAfter.{was_logged, by_booking, by_retiring, by_first, by_second}
use Rattle.chain.proofs.Mirror.{fresh_contents, mirror, invariant_as}
use Rattle.chain.proofs.Theorem.{sized}

-- the store of the rules that bytes hold
abbrev holds : (store : List ℕ) → Rules.Store
holds store = contents_of (store_of store)

-- each booked amount is a number of four bytes
abbrev Small : Rules.Store → Type 0
Small s = (id : ℕ) → amount_of (s.book id) < 2 ^ 32

-- ── A fresh store ──

fresh_adds_up : (buffer store : List ℕ) (P C : ℕ) → Created buffer store P C (Ok tt) → AddsUp store
unfolding sum_over
fresh_adds_up buffer store P C h =
    let no_row : (p : ℕ) → rows_of store p ≡ [] = λ p. ap (λ (st : Store). st.rows p) (h.made refl).1 in
    let no_data : all_data store ≡ 0 =
    none_below (parts_of store) (λ p. sum_over data_value (rows_of store p)) (λ p. ap (sum_over data_value) (no_row p)) in
    let no_amounts : amounts_under_way store ≡ 0 = ap (sum_over (amount_if (is_under_way store))) (no_row (parts_of store)) in
    omega (arith, no_data, no_amounts)

-- and books nothing
fresh_small : (buffer store : List ℕ) (P C : ℕ) → Created buffer store P C (Ok tt) → Small (holds store)
fresh_small buffer store P C h id =
    let nothing = ap (λ (x : Rules.Store). x.book id) (ap contents_of (h.made refl).1 ∙ fresh_contents P C) in
    subst (λ (o : Option Request). amount_of o < 2 ^ 32) (sym nothing) (omega arith)

-- ── A call ──

-- what the book has is a request of four arguments
four : (store : List ℕ) (id : ℕ) (q : Request) → (holds store).book id ≡ some q →
    (w : ℕ) × (record { workflow = w; arguments = arguments_of (value_in (book_rows store)) id } ≡ q)
unfolding contents_of book_of request_of
four store id q e = go (ltb id (2 ^ 32)) (lookup (book_key id 0) (book_rows store)) e
  where
    go : (b : Bool) (o : Option ℕ) → if◌then◌otherwise◌ b (request_of o (arguments_of (value_in (book_rows store)) id)) none ≡ some q →
        (w : ℕ) × (record { workflow = w; arguments = arguments_of (value_in (book_rows store)) id } ≡ q)
    go false o f = none_some q refl f
    go true none f = none_some q refl f
    go true (some w) f = (w, some-injective _ q f)

module _ (pack : List ℕ) (P C : ℕ) (only : pack_of pack ≡ MOVE ∷ []) where
  -- each booked workflow is MOVE
  is_move : (q : Request) → q.workflow < length (pack_of pack) → request_code (pack_of pack) q ≡ MOVE
  is_move q l =
      let one : length (pack_of pack) ≡ 1 = ap length only in
      let first : q.workflow ≡ 0 = omega (arith, l, one) in
      ap (λ (x : Pack). get_or x q.workflow []) only ∙ ap (λ n. get_or (MOVE ∷ []) n []) first

  module _ (events : List Event) (lent : Lent) (chain : Chain pack P C events lent) where
    abbrev s : Rules.Store
    s = holds lent.store

    inv : Inv (pack_of pack) (state_of lent) (machine_of (pack_of pack) events) (tallies_of events) (replies_of events)
    inv = invariant_as (mirror pack P C events lent chain)

    module _ (store' : List ℕ) (parts : parts_of store' ≡ parts_of lent.store) (passes' : store_refusal store' ≡ none) where
      passes : store_refusal lent.store ≡ none
      passes = (sized pack P C events lent chain).passes

      booked_adds : (id : ℕ) (q : Request) → s.book id ≡ none → floor_of s ≤ id → holds store' ≡ booked s id q →
          AddsUp lent.store → AddsUp store'
      unfolding state_of
      booked_adds id q new from e adds_up =
          omega (
            arith,
            by_booking lent.store store' passes passes' parts id q e (inv.core.unlogged id (inv.core.unbooked id from new)),
            adds_up,
          )

      -- a request that is logged through, by the reply to which its log leads, has both blocks logged
      not_under_way : (id : ℕ) (q : Request) → id < 2 ^ 32 → s.book id ≡ some q → (o : Option Result) →
          reply_logged (pack_of pack) s.log id (some q) ≡ o → is_some o ≡ true → is_under_way lent.store id ≡ false
      unfolding state_of
      not_under_way id q l book none e there = no_yes there
      not_under_way id q l book (some r) e there =
          let f = four lent.store id q book in
          let ends = logged_ends (pack_of pack) s.log id q r e in
          let both = replied_both s.log id f.0 _ _ _ _ ends.0 r
          (ap₂ (λ (c : Code) (x : Request). follow s.log id c x ends.0) (sym (is_move q (inv.core.valid id q book))) f.1
          ∙ ends.1) in
          ap₂ between_steps
          (was_logged lent.store store' passes passes' parts id 0 0 _ l (omega arith) both.2)
          (was_logged lent.store store' passes passes' parts id 1 1 _ l (omega arith) both.3)

      -- and what a retire removes is logged through
      retired_adds : (floor : ℕ) → each floor (λ id. can_retire (pack_of pack) (state_of lent) id (s.book id)) ≡ true →
          holds store' ≡ retired s floor → AddsUp lent.store → AddsUp store'
      unfolding state_of
      retired_adds floor all e adds_up =
          omega (
            arith,
            by_retiring lent.store store' passes passes' parts floor e
                (λ id q l below book. not_under_way id q l book _ refl
                (retired_logged (pack_of pack) (state_of lent) floor all id q below book)),
            adds_up,
          )

      -- the block that an agent runs
      module _ (slot : ℕ) (a : Agent) (from : Place) (p : ℕ) (onto : Result → Course) (held : (state_of lent).slots slot ≡ some a)
          (next : next_of (code_by (pack_of pack) (s.book a.id)) a.course ≡ does from p onto)
          (absent : found s.log p a.id a.step ≡ none)
          (e : holds store'
          ≡ written s p a.id a.step (run_block (code_by (pack_of pack) (s.book a.id)) from (s.rows p)))
          (small : amount_of (s.book a.id) < 2 ^ 32) where
        abbrev q : Request
        q = asked (pack_of pack) (state_of lent) _ _ _ inv slot a held

        book_is : s.book a.id ≡ some q
        unfolding state_of
        book_is = (live (pack_of pack) (state_of lent) _ _ _ inv slot a held).book_is

        code_is : code_by (pack_of pack) (s.book a.id) ≡ MOVE
        unfolding state_of
        code_is = ap (code_by (pack_of pack)) book_is ∙ is_move q (inv.core.valid a.id q book_is)

        -- the request, with its four arguments written out
        abbrev written_out : (w : ℕ) × (record { workflow = w; arguments = arguments_of (value_in (book_rows lent.store)) a.id } ≡ q)
        written_out = four lent.store a.id q book_is

        abbrev request : Request
        request = record { workflow = written_out.0; arguments = arguments_of (value_in (book_rows lent.store)) a.id }

        free : (u : ℕ) → a.step ≤ u → (p' : ℕ) → Free s.log p' a.id u
        unfolding state_of
        free u l p' =
            none_ahead (pack_of pack) (state_of lent) _ _ _ inv slot a held from p onto
            (ap (λ (o : Option Request). next_of (code_by (pack_of pack) o) a.course) (sym book_is) ∙ next) absent p' u l

        -- it is one of MOVE's two
        abbrev argument : (number : ℕ) → ℕ
        argument number = get_or request.arguments number 0

        abbrev OfMove : Type 0
        OfMove = InMove s.log a.id request.workflow (argument 0) (argument 1) (argument 2) (argument 3) from p a.step

        in_it : OfMove
        unfolding state_of
        in_it =
            let l = live (pack_of pack) (state_of lent) _ _ _ inv slot a held in
            in_move s.log a.id _ _ _ _ _ l.turns a.course a.step
            (ap₂ (λ (c : Code) (x : Request). follow s.log a.id c x l.turns) (sym (is_move q (inv.core.valid a.id q book_is)))
            written_out.1 ∙ l.there)
            from p onto (ap (λ (c : Code). next_of c a.course) (sym code_is) ∙ next)

        abbrev block : Block
        block = run_block MOVE from (s.rows p)

        wrote : holds store' ≡ written s p a.id a.step block
        wrote = e ∙ ap (λ (c : Code). written s p a.id a.step (run_block c from (s.rows p))) code_is

        block_adds : AddsUp lent.store → AddsUp store'
        block_adds adds_up = go in_it
          where
            booked_so : s.book a.id ≡ some request
            booked_so = book_is ∙ ap some (sym written_out.1)

            small_so : amount_of (some request) < 2 ^ 32
            small_so = subst (λ (o : Option Request). amount_of o < 2 ^ 32) booked_so small

            go : OfMove → AddsUp store'
            go (takes part step puts) =
                by_first lent.store store' passes passes' parts p a.id a.step block wrote (argument 0) _ (puts (s.rows p)) request
                booked_so small_so step (λ u l. free u (omega (arith, step))) refl adds_up
            go (adds part step r logged puts) =
                by_second lent.store store' passes passes' parts p a.id a.step block wrote (argument 1) _ (puts (s.rows p))
                request
                booked_so small_so step r logged (λ u l. free u (omega (arith, step))) refl adds_up

    -- ── and a call ──

    module _ (c : Call) (answer : Answer) (lent' : Lent) (h : Carried pack lent c answer lent')
        (passes' : store_refusal lent'.store ≡ none)
        (words : (slot id w : ℕ) (args : List ℕ) → c ≡ arrival slot id w args → (at : ℕ) → get_or args at 0 < 2 ^ 32)
        (small : Small s) (adds_up : AddsUp lent.store) where
      -- what is booked is an arrival's, or was booked before
      small_after : (st : Rules.Store) → Change (pack_of pack) (state_of lent) c st → Small st
      unfolding state_of
      small_after st (same e) j = subst (λ (x : Rules.Store). amount_of (x.book j) < 2 ^ 32) (sym e) (small j)
      small_after st (books slot id q is new from e) j = go (ℕ_discrete j id)
        where
          go : Dec (j ≡ id) → amount_of (st.book j) < 2 ^ 32
          go (yes w) =
              subst (λ (o : Option Request). amount_of o < 2 ^ 32)
              (sym (ap (λ (x : Rules.Store). x.book j) e ∙ ap (update s.book id (some q)) w ∙ update_same s.book id (some q)))
              (words slot id q.workflow q.arguments is 2)
          go (no n) = subst (λ (o : Option Request). amount_of o < 2 ^ 32)
              (sym (ap (λ (x : Rules.Store). x.book j) e ∙ update_other s.book id (some q) j n)) (small j)
      small_after st (writes slot a from p onto held next absent e) j =
          subst (λ (x : Rules.Store). amount_of (x.book j) < 2 ^ 32) (sym e) (small j)
      small_after st (retires floor is all some_booked e) j =
          subst (λ (x : Rules.Store). amount_of (x.book j) < 2 ^ 32) (sym e) (go (ltb j floor))
        where
          go : (b : Bool) → amount_of (if◌then◌otherwise◌ b none (s.book j)) < 2 ^ 32
          go true = omega arith
          go false = small j

      by_change : (st : Rules.Store) → Change (pack_of pack) (state_of lent) c st → Wrote lent.store lent'.store st →
          AddsUp lent'.store
      unfolding state_of
      by_change st (same e) w = subst AddsUp (sym (w.bytes (passes lent'.store w.parts passes') (sym e))) adds_up
      by_change st (books slot id q is new from e) w =
          booked_adds lent'.store w.parts passes' id q new from (w.holds ∙ e) adds_up
      by_change st (writes slot a from p onto held next absent e) w =
          block_adds lent'.store w.parts passes' slot a from p onto held next absent (w.holds ∙ e) (small a.id) adds_up
      by_change st (retires floor is all some_booked e) w = retired_adds lent'.store w.parts passes' floor all (w.holds ∙ e) adds_up

      call_adds : Small (holds lent'.store) × AddsUp lent'.store
      unfolding refusal_for
      call_adds = go (refusal_for pack lent c) refl
        where
          go : (o : Option No) → refusal_for pack lent c ≡ o → Small (holds lent'.store) × AddsUp lent'.store
          go none e =
              let done = change (pack_of pack) (state_of lent) c (or_else_none _ _ e).1 in
              let w = (h.carried e).1.written in
              (subst Small (sym w.holds) (small_after _ done), by_change _ done w)
          go (some n) e =
              subst (λ (x : Lent). Small (holds x.store) × AddsUp x.store) (sym (h.refused n e).1) (small, adds_up)

  -- ── lists of calls ──

  adds_up_on : (events : List Event) (lent : Lent) → Chain pack P C events lent → AllWords events →
      Small (holds lent.store) × AddsUp lent.store
  adds_up_on events lent (begins buffer store₀ h) words = (fresh_small buffer store₀ P C h, fresh_adds_up buffer store₀ P C h)
  adds_up_on events lent (goes_on events₀ lent₀ c answer lent' chain h) words =
      let before = adds_up_on events₀ lent₀ chain (λ slot id w args a m. words slot id w args a (Memᴰ.tail m)) in
      call_adds events₀ lent₀ chain c answer lent' h (sized pack P C _ lent' (goes_on events₀ lent₀ c answer lent' chain h)).passes
      (λ slot id w args is. words slot id w args (answer_of answer)
      (Memᴰ.head (ap (λ (x : Call). record { made = x; answer = answer_of answer }) (sym is))))
      before.0 before.1

-- Nothing is lost.
pub nothing_lost : NothingLost
nothing_lost pack P C only events lent chain words = (adds_up_on pack P C only events lent chain words).1
