-- Laws for callers: an accepted pack has what a block requires, and what a block comes to is what the rules say of the turn.
use mathlib.Core.Bool.{Bool, true, false}
use mathlib.Core.List.{List}
use mathlib.Core.Logic.{◌≢◌}
use mathlib.Core.Option.{Option, none, some}
use mathlib.Core.Path.{◌≡◌, refl, sym, ap, ap₂, ◌∙◌, subst, fun_ext}
use Prim.Native.Nat.{ℕ, suc, ◌+◌, ◌<◌}
use native.Mathlib.Omega.{arith}
use native.Mathlib.Decide.{ℕ_discrete}
use borrow.Author.Tests.{lt-ltb}
use lib.Dec.{ltb, leb}
use lib.ListN.{length}
use Rattle.contents.specs.Contents.{value_in, contents_of, book_of}
use Rattle.keys.specs.Keys.{floor_key, table_of, log_of}
use Rattle.questions.specs.Basics.{if◌then◌otherwise◌, update}
use Rattle.rules.specs.Instructions.{Code, Place}
use Rattle.rules.specs.Blocks.{Block, yields, run_block, rows_needed}
use Rattle.rules.specs.Blocks as Blocks
use Rattle.rules.specs.Courses.{Course}
use Rattle.rules.specs.Store.{Store, sought, with_row, written}
use Rattle.rules.specs.Store as Stores
use Rattle.rules.specs.Calls.{Agent, State, can_write, moves_to, through_block, with_store}
use Rattle.rules.specs.Calls as Calls
use Rattle.questions.proofs.Updates.{update_same, update_other}
use Rattle.store.specs.Rows.{rows_of, store_of}
use Rattle.store.specs.Layout.{parts_of, cap_of}
use Rattle.store.specs.Sound.{Sound}
use Rattle.std.specs.Prelude.{Ok}
use Rattle.block.specs.Through.{BlockOutcome, no_room, outcome_of, logged_value, has_room, Committed, Through, had_room}

-- ---- the store

changed : {A : Type 0} (f g : ℕ → A) (p : ℕ) (v : A) → g p ≡ v → ((q : ℕ) → q ≢ p → g q ≡ f q) → g ≡ update f p v
changed f g p v here there = fun_ext {f = g} {g = update f p v} (λ q. go q (ℕ_discrete q p))
  where
    go : (q : ℕ) → Dec (q ≡ p) → g q ≡ update f p v q
    go q (yes e) = ap g e ∙ here ∙ sym (ap (update f p v) e ∙ update_same f p v)
    go q (no n) = there q n ∙ sym (update_other f p v q n)

-- a partition of the rules' store is what its rows stand for
module _ (xs : List ℕ) (p : ℕ) (h : p < parts_of xs) where
  used_in : (contents_of (store_of xs)).used p ≡ length (rows_of xs p)
  unfolding contents_of
  used_in = λ i. if◌then◌otherwise◌ (lt-ltb p (parts_of xs) h i) (length (rows_of xs p)) 0

  rows_in : (contents_of (store_of xs)).rows p ≡ table_of (value_in (rows_of xs p))
  unfolding contents_of
  rows_in = λ i k. if◌then◌otherwise◌ (lt-ltb p (parts_of xs) h i) (table_of (value_in (rows_of xs p)) k) none

  pub log_in : (contents_of (store_of xs)).log.usual p ≡ log_of (value_in (rows_of xs p))
  unfolding contents_of
  log_in = λ i id t. if◌then◌otherwise◌ (lt-ltb p (parts_of xs) h i) (log_of (value_in (rows_of xs p)) id t) none

-- the rules' rows, and no others
module _ (xs ys : List ℕ) (p id t : ℕ) (b : Block) (h : p < parts_of xs) (c : Committed xs ys p id t b) where
  still : p < parts_of ys
  still = subst (λ (n : ℕ). p < n) (sym c.parts) h

  same_book : rows_of ys (parts_of ys) ≡ rows_of xs (parts_of xs)
  same_book = ap (rows_of ys) c.parts ∙ c.others (parts_of xs) (λ e. omega arith)

  more_used : (contents_of (store_of ys)).used p ≡ (contents_of (store_of xs)).used p + rows_needed b
  more_used = used_in ys p still ∙ c.used ∙ ap (λ (n : ℕ). n + rows_needed b) (sym (used_in xs p h))

  abbrev with_row_lem : (ℕ → ℕ → Option ℕ) → ℕ → ℕ → Option ℕ
  with_row_lem l = update l id (update (l id) t (some (logged_value b.result)))

  log_usual : (contents_of
      (store_of ys)).log ≡ record {
        usual = update (contents_of (store_of xs)).log.usual p
            (with_row_lem ((contents_of (store_of xs)).log.usual p));
      }
  unfolding contents_of
  log_usual = λ i.
      record {
        usual =
            changed (contents_of (store_of xs)).log.usual (contents_of (store_of ys)).log.usual p
            (with_row_lem ((contents_of (store_of xs)).log.usual p))
            (log_in ys p still ∙ c.log ∙ ap with_row_lem (sym (log_in xs p h)))
            (λ q n j m u. if◌then◌otherwise◌ (ltb q (c.parts j)) (log_of (value_in (c.others q n j)) m u) none) i;
      }

  row_as : (v : Blocks.Result) →
      record {
        usual =
            update (contents_of (store_of xs)).log.usual p
            (update ((contents_of (store_of xs)).log.usual p) id
            (update ((contents_of (store_of xs)).log.usual p id) t (some (logged_value v))));
      }
      ≡ with_row (contents_of (store_of xs)).log p id t v
  unfolding Stores.with_row
  row_as (yields v) = refl

  committed_store : contents_of (store_of ys) ≡ written (contents_of (store_of xs)) p id t b
  unfolding contents_of
  committed_store =
      λ i.
      record {
        room = c.cap i;
        used =
            changed (contents_of (store_of xs)).used (contents_of (store_of ys)).used p
            ((contents_of (store_of xs)).used p + rows_needed b) more_used
            (λ q n j. if◌then◌otherwise◌ (ltb q (c.parts j)) (length (c.others q n j)) 0) i;
        rows =
            changed (contents_of (store_of xs)).rows (contents_of (store_of ys)).rows p b.table (rows_in ys p still ∙ c.table)
            (λ q n j k. if◌then◌otherwise◌ (ltb q (c.parts j)) (table_of (value_in (c.others q n j)) k) none) i;
        log = (log_usual ∙ row_as b.result) i;
        book_used = length (same_book i);
        book = book_of (value_in (same_book i));
        floor = value_in (same_book i) floor_key;
      }

-- ---- what a block comes to

-- the three ways through a block
data Came (xs ys : List ℕ) (p id t : ℕ) (b : Block) (r : BlockOutcome) (o : Option ℕ) : Type 0 where
  found : (v : ℕ) → o ≡ some v → r ≡ Ok v → ys ≡ xs → Came xs ys p id t b r o
  wrote : o ≡ none → has_room xs p b ≡ true → r ≡ outcome_of b.result → Committed xs ys p id t b → Came xs ys p id t b r o
  full : o ≡ none → has_room xs p b ≡ false → r ≡ no_room → ys ≡ xs → Came xs ys p id t b r o

came : (xs ys : List ℕ) (p id t : ℕ) (b : Block) (r : BlockOutcome) (o : Option ℕ) → Through xs ys p id t b r o → Came xs ys p id t b r o
unfolding Through
came xs ys p id t b r (some v) (e, q) = found v refl e q
came xs ys p id t b r none q = go (has_room xs p b) refl q
  where
    go : (m : Bool) → has_room xs p b ≡ m →
        if◌then◌otherwise◌ m ((r ≡ outcome_of b.result) × Committed xs ys p id t b) ((r ≡ no_room) × (ys ≡ xs)) → Came xs ys p id t b r none
    go true m (e, c) = wrote refl m e c
    go false m (e, c) = full refl m e c

had : (v : Blocks.Result) → had_room (outcome_of v) ≡ true
had (yields v) = refl

result_as : {v : ℕ} {r : BlockOutcome} (w : Blocks.Result) → r ≡ outcome_of w → r ≡ Ok v → w ≡ yields v
result_as {v} {r} (yields w) e f = let q : w ≡ v = cc in ap yields q

same_result : {v w : ℕ} {r : BlockOutcome} → r ≡ Ok v → r ≡ Ok w → v ≡ w
same_result {v} {w} {r} e f = cc

never_both : {A : Type 0} {v : ℕ} {r : BlockOutcome} → r ≡ Ok v → r ≡ no_room → A
never_both {v} {r} e f = let z : ◌≡◌ {A = ℕ} 0 1 = cc in absurd (omega arith)

never_wrote : {A : Type 0} {r : BlockOutcome} (v : Blocks.Result) → r ≡ outcome_of v → r ≡ no_room → A
never_wrote {r} (yields v) e f = never_both e f

-- Agent a stands at BEGIN of a block of partition p: xs are the bytes before, ys those that the block leaves, r is what it comes to, o what
-- its log row says.
module _ (xs ys : List ℕ) (p : ℕ) (h : p < parts_of xs) (a : Agent) (code : Code) (from : Place) (onto : Blocks.Result → Course)
    (r : BlockOutcome) (o : Option ℕ)
    (through : Through xs ys p a.id a.step (run_block code from (table_of (value_in (rows_of xs p)))) r o) where
  abbrev block : Block
  block = run_block code from (table_of (value_in (rows_of xs p)))

  abbrev way : Came xs ys p a.id a.step block r o
  way = came xs ys p a.id a.step block r o through

  -- a state with the store that bytes hold, beside anything else
  abbrev holding : State → List ℕ → State
  holding others zs = with_store others (contents_of (store_of zs))

  same_block : run_block code from ((contents_of (store_of xs)).rows p) ≡ block
  same_block = ap (run_block code from) (rows_in xs p h)

  room_as : can_write (contents_of (store_of xs)) code from p none ≡ has_room xs p block
  unfolding Calls.can_write contents_of
  room_as = ap₂ (λ (n : ℕ) (b : Block). leb (n + rows_needed b) (cap_of xs)) (used_in xs p h) same_block

  -- question 21 says yes exactly where the code had room
  pub can_write_lem : can_write (contents_of (store_of xs)) code from p (sought o) ≡ had_room r
  unfolding Calls.can_write
  can_write_lem = go way
    where
      go : Came xs ys p a.id a.step block r o → can_write (contents_of (store_of xs)) code from p (sought o) ≡ had_room r
      go (found v e f q) = ap (λ w. can_write (contents_of (store_of xs)) code from p (sought w)) e ∙ sym (ap had_room f)
      go (wrote e m f c) = ap (λ w. can_write (contents_of (store_of xs)) code from p (sought w)) e ∙ room_as ∙ m
          ∙ sym (ap had_room f ∙ had block.result)
      go (full e m f q) = ap (λ w. can_write (contents_of (store_of xs)) code from p (sought w)) e ∙ room_as ∙ m ∙ sym (ap had_room f)

  -- and then the rules pass the block with the code's result, in a state that holds the bytes left
  pub passes_block : (others : State) (slot v : ℕ) → r ≡ Ok v →
      through_block (holding others xs) slot a code from p onto (sought o) ≡ moves_to (holding others ys) slot a (onto (yields v))
      (suc a.step)
  unfolding Calls.through_block
  passes_block others slot v z = go way
    where
      go : Came xs ys p a.id a.step block r o →
          through_block (holding others xs) slot a code from p onto (sought o) ≡ moves_to (holding others ys) slot a (onto (yields v))
          (suc a.step)
      go (found w e f q) =
          ap (λ w. through_block (holding others xs) slot a code from p onto (sought w)) e
          ∙ ap₂ (λ zs n. moves_to (holding others zs) slot a (onto (yields n)) (suc a.step)) (sym q) (same_result f z)
      go (wrote e m f c) =
          ap (λ w. through_block (holding others xs) slot a code from p onto (sought w)) e
          ∙ ap
          (λ (b : Block). moves_to (with_store others (written (contents_of (store_of xs)) p a.id a.step b)) slot a (onto b.result)
          (suc a.step)) same_block
          ∙ ap₂ (λ (s : Store) (n : Blocks.Result). moves_to (with_store others s) slot a (onto n) (suc a.step))
          (sym (committed_store xs ys p a.id a.step block h c)) (result_as block.result f z)
      go (full e m f q) = never_both z f

  -- a no to question 21 changes nothing
  pub no_room_same : r ≡ no_room → ys ≡ xs
  no_room_same z = go way
    where
      go : Came xs ys p a.id a.step block r o → ys ≡ xs
      go (found v e f q) = q
      go (wrote e m f c) = never_wrote block.result f z
      go (full e m f q) = q

  -- P, C and the book stay, and the store is sound
  pub record BookStays : Type 0 where
    pub parts : parts_of ys ≡ parts_of xs
    pub cap : cap_of ys ≡ cap_of xs
    pub book_rows_lem : rows_of ys (parts_of ys) ≡ rows_of xs (parts_of xs)
    pub sound : Sound xs → Sound ys

  pub stays : BookStays
  stays = go way
    where
      same : ys ≡ xs → BookStays
      same q =
          record {
            parts = ap parts_of q;
            cap = ap cap_of q;
            book_rows_lem = ap (λ zs. rows_of zs (parts_of zs)) q;
            sound = subst Sound (sym q);
          }

      go : Came xs ys p a.id a.step block r o → BookStays
      go (found v e f q) = same q
      go (wrote e m f c) =
          record {
            parts = c.parts;
            cap = c.cap;
            book_rows_lem = same_book xs ys p a.id a.step block h c;
            sound = λ s. c.sound;
          }
      go (full e m f q) = same q

  -- where the rules' store stays the same, no byte changes: a block that is written adds a row
  pub same_bytes : contents_of (store_of xs) ≡ contents_of (store_of ys) → ys ≡ xs
  same_bytes z = go way
    where
      go : Came xs ys p a.id a.step block r o → ys ≡ xs
      go (found v e f q) = q
      go (wrote e m f c) =
          let u : (contents_of (store_of xs)).used p ≡ (contents_of (store_of ys)).used p = ap (λ (s : Store). s.used p) z in
          absurd (omega (arith, u, more_used xs ys p a.id a.step block h c))
      go (full e m f q) = q
