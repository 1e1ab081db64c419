-- The writes of a block: its pending rows and its log row.
use mathlib.Core.Bool.{Bool, true, false}
use mathlib.Core.List.{List, [], ◌∷◌}
use mathlib.Core.Option.{Option, none, some}
use mathlib.Core.Path.{◌≡◌, refl, sym, ap, ◌∙◌, subst, fun_ext}
use Prim.Native.Nat.{ℕ, ◌+◌, ◌^◌, ◌<◌}
use native.Mathlib.Omega.{arith}
use borrow.Author.Tests.{eq-eqb, ne_eqb, eqb-true, eqb-false, ltb-true, lt-ltb, le-leb, lt-leb}
use lib.Dec.{eqb, ltb}
use lib.ListN.{length, get_or, take}
use Rattle.contents.specs.Contents.{value_in}
use Rattle.questions.specs.Basics.{if◌then◌otherwise◌, update}
use Rattle.rules.specs.Blocks.{Block, rows_needed}
use Rattle.keys.specs.Keys.{log_key, is_data_key, is_log_key, table_of, log_of, is_form}
use Rattle.questions.proofs.Tests.{yes_no, and_left, and_right, and_both}
use Rattle.keys.proofs.Keys.{log_is, data_bounds, log_bounds, log_no_data, log_put, log_put_data}
use Rattle.store.specs.Rows.{Row, pairs, lookup, insert_at, put_row, put_all, new_rows, count_new, rows_of, keys_in}
use Rattle.store.specs.Rows as Rows
use Rattle.store.specs.Layout.{parts_of, cap_of}
use Rattle.store.specs.Questions.{ahead, rising, all_in, keys_ok}
use Rattle.store.specs.Sound.{Stored, StoredIfRoom, Sound}
use Rattle.store.specs.Answers.{found_in}
use Rattle.store.specs.Sound as Sounds
use Rattle.store.specs.Questions as Questions
use Rattle.store.proofs.Lists.{lookup_put_same, lookup_put_other, rises_none}
use Rattle.store.proofs.Search.{at_lookup, no_lookup, changed_parts, changed_cap, changed_here, changed_there}
use Rattle.store.proofs.Sound.{length_put_all, log_form}
use Rattle.instruction.specs.Pending.{over, seen, rows_in, new_in, Sized, Kept}
use Rattle.block.specs.Run.{block_of}
use Rattle.block.specs.Through.{BlockOutcome, no_room, has_room, Committed, Through}
use Rattle.instruction.specs.declared.pending.Pending.{Pending}
use Rattle.block.specs.declared.run.Ran.{Ran}
use Rattle.std.specs.Prelude.{Ok, Err}
use Rattle.store.proofs.Order.{rising_unlike}
use Rattle.instruction.proofs.Rows.{data_forms, keys_count, values_count, keys_here}

-- ---- rows that are put one after the other are seen at once

put_all_seen : (ps rs : List Row) (j : ℕ) → rising (keys_in ps) ≡ true → lookup j (put_all ps rs) ≡ seen ps rs j
unfolding over Rows.put_all Rows.lookup Questions.rising Rows.keys_in
put_all_seen [] rs j u = refl
put_all_seen (r ∷ ps) rs j u =
    put_all_seen ps (put_row r.0 r.1 rs) j (and_right (ahead r.0 (keys_in ps)) _ u)
    ∙ go (eqb r.0 j) refl
  where
    go : (t : Bool) → eqb r.0 j ≡ t → over (lookup j ps) (lookup j (put_row r.0 r.1 rs)) ≡ seen (r ∷ ps) rs j
    go true e =
        let q : r.0 ≡ j = eqb-true r.0 j e in
        let none_there : lookup j ps ≡ none = ap (λ (k : ℕ). lookup k ps) (sym q) ∙ rises_none r.0 ps u in
        let new_there : lookup j (put_row r.0 r.1 rs) ≡ some r.1 =
        ap (λ (k : ℕ). lookup k (put_row r.0 r.1 rs)) (sym q) ∙ lookup_put_same r.0 r.1 rs in
        rw (e, none_there, new_there) refl
    go false e = rw (e, lookup_put_other r.0 r.1 j rs (λ (q : j ≡ r.0). eqb-false r.0 j e (sym q))) refl

-- the first row is seen over the others
first_seen : (k v : ℕ) (ps rs : List Row) (j : ℕ) → seen ((k, v) ∷ ps) rs j ≡ update (seen ps rs) k (some v) j
unfolding over Rows.lookup
first_seen k v ps rs j = go (eqb j k) refl
  where
    go : (t : Bool) → eqb j k ≡ t → seen ((k, v) ∷ ps) rs j ≡ if◌then◌otherwise◌ t (some v) (seen ps rs j)
    go true e = rw (eq-eqb k j (sym (eqb-true j k e))) refl
    go false e = rw (ne_eqb k j (λ q. eqb-false j k e (sym q))) refl

-- ---- data keys and log keys

none_of : (f : ℕ → Bool) (j : ℕ) → f j ≡ false → (ps : List Row) → all_in f (keys_in ps) ≡ true → lookup j ps ≡ none
unfolding Questions.all_in Rows.keys_in Rows.lookup
none_of f j n [] a = refl
none_of f j n (r ∷ ps) a =
    let m = ne_eqb r.0 j (λ q. yes_no (sym (and_left (f r.0) _ a) ∙ ap f q ∙ n)) in
    rw m (none_of f j n ps (and_right (f r.0) _ a))

-- a log key is smaller than every data key
log_ahead : (k : ℕ) (ks : List ℕ) → is_log_key k ≡ true → all_in is_data_key ks ≡ true → rising ks ≡ true → rising (k ∷ ks) ≡ true
unfolding Questions.rising Questions.ahead Questions.all_in
log_ahead k [] l a u = refl
log_ahead k (x ∷ ks) l a u =
    and_both (ltb k x) _ (lt-ltb k x (omega (arith, log_bounds k l, data_bounds x (and_left (is_data_key x) _ a)))) u

log_at : (rs : List Row) (id t : ℕ) → id < 2 ^ 32 → t < 65536 → log_of (value_in rs) id t ≡ lookup (log_key id t) rs
log_at rs id t h g = rw (lt-ltb id (2 ^ 32) h, lt-ltb t 65536 g) refl

-- the log row by the search for it
pub log_none : (rs : List Row) (id t i : ℕ) → id < 2 ^ 32 → t < 65536 → found_in (log_key id t) (keys_in rs) ≡ Err i →
    log_of (value_in rs) id t ≡ none
log_none rs id t i h g e = log_at rs id t h g ∙ no_lookup (log_key id t) rs i e

pub log_some : (rs : List Row) (id t i : ℕ) → id < 2 ^ 32 → t < 65536 → found_in (log_key id t) (keys_in rs) ≡ Ok i →
    log_of (value_in rs) id t ≡ some (get_or rs i (0, 0)).1
log_some rs id t i h g e = log_at rs id t h g ∙ at_lookup (log_key id t) rs i e

-- the pending rows hide no log row
log_same : (q : Pending) → Kept q → (rs : List Row) (id t : ℕ) → log_of (seen (rows_in q) rs) id t ≡ log_of (value_in rs) id t
unfolding over
log_same q kept rs id t = go (ltb id (2 ^ 32)) (ltb t 65536) refl refl
  where
    go : (a b : Bool) → ltb id (2 ^ 32) ≡ a → ltb t 65536 ≡ b
        → if◌then◌otherwise◌ a (if◌then◌otherwise◌ b (seen (rows_in q) rs (log_key id t)) none) none
        ≡ if◌then◌otherwise◌ a (if◌then◌otherwise◌ b (lookup (log_key id t) rs) none) none
    go true true e f =
        let no_data = log_no_data (log_key id t) (log_is id t (ltb-true id (2 ^ 32) e) (ltb-true t 65536 f)) in
        rw (none_of is_data_key (log_key id t) no_data (rows_in q) kept.data_keys) refl
    go true false e f = refl
    go false b e f = refl

-- the keys of a partition of a sound store
pub keys_good : (xs : List ℕ) (p : ℕ) → Sound xs → p < parts_of xs → keys_ok false (keys_in (rows_of xs p)) ≡ true
unfolding Sounds.KeysGood
keys_good xs p s l = rw (ne_eqb p (parts_of xs) (omega arith)) at (s.keys p (omega arith))

-- ---- a block's rows: the log row, and behind it the pending ones

module _ (r : Ran) (kept : Kept r.pending) (id t v : ℕ) (h : id < 2 ^ 32) (g : t < 65536) (q : Pending) (sized : Sized q)
    (e : rows_in q ≡ insert_at (rows_in r.pending) 0 (log_key id t, v)) where
  rows_are : rows_in q ≡ (log_key id t, v) ∷ rows_in r.pending
  unfolding Rows.insert_at
  rows_are = e

  keys_are : take q.count q.keys ≡ log_key id t ∷ keys_in (rows_in r.pending)
  unfolding Rows.keys_in
  keys_are = sym (keys_here q sized) ∙ ap keys_in rows_are

  pub first_key : get_or (take q.count q.keys) 0 0 ≡ log_key id t
  first_key = ap (λ (l : List ℕ). get_or l 0 0) keys_are

  pub some_keys : 0 < length (take q.count q.keys)
  some_keys = omega (arith, ap length keys_are)

  rising_all : rising (log_key id t ∷ keys_in (rows_in r.pending)) ≡ true
  rising_all = log_ahead (log_key id t) (keys_in (rows_in r.pending)) (log_is id t h g) kept.data_keys kept.in_order

  pub keys_rise : rising (take q.count q.keys) ≡ true
  keys_rise = rw keys_are rising_all

  pub keys_right : (P p : ℕ) → p < P → all_in (is_form (eqb p P)) (take q.count q.keys) ≡ true
  unfolding Questions.all_in
  keys_right P p l =
      rw keys_are
      (and_both (is_form (eqb p P) (log_key id t)) _ (log_form P p id t l h g)
      (ap (λ (b : Bool). all_in (is_form b) (keys_in (rows_in r.pending))) (ne_eqb p P (omega arith))
      ∙ data_forms (keys_in (rows_in r.pending)) kept.data_keys))

  abbrev out : List Row
  out = pairs (take q.count q.keys) (take q.count q.values)

  pub seen_out : (rs : List Row) (j : ℕ) → lookup j (put_all out rs) ≡ update (seen (rows_in r.pending) rs) (log_key id t) (some v) j
  unfolding rows_in
  seen_out rs j =
      put_all_seen (rows_in q) rs j (rw (keys_here q sized) keys_rise)
      ∙ ap (λ (ps : List Row). seen ps rs j) rows_are ∙ first_seen (log_key id t) v (rows_in r.pending) rs j

  pub length_out : (rs : List Row) → keys_ok false (keys_in rs) ≡ true → log_of (value_in rs) id t ≡ none
      → length (put_all out rs) ≡ length rs + (1 + new_in r.pending rs)
  unfolding Rows.count_new Rows.new_rows
  length_out rs good new =
      length_put_all false (take q.count q.keys) (take q.count q.values) rs (keys_count q sized ∙ sym (values_count q sized))
      (rising_unlike (take q.count q.keys) keys_rise) (keys_right 1 0 (omega arith)) good
      ∙ ap (λ (ks : List ℕ). length rs + count_new ks rs) keys_are
      ∙ ap (λ (o : Option ℕ). length rs + (new_rows o + new_in r.pending rs)) (sym (log_at rs id t h g) ∙ new)

-- ---- a block's writes

module _ (xs ys : List ℕ) (p : ℕ) (r : Ran) (kept : Kept r.pending) (id t : ℕ) (h : id < 2 ^ 32) (g : t < 65536) (q : Pending)
    (sized : Sized q) (e : rows_in q ≡ insert_at (rows_in r.pending) 0 (log_key id t, r.result))
    (s : Stored xs ys p (put_all (pairs (take q.count q.keys) (take q.count q.values)))) where
  abbrev after : ℕ → Option ℕ
  after = seen (rows_in r.pending) (rows_of xs p)

  looked : ◌≡◌ {A = ℕ → Option ℕ} (λ j. lookup j (rows_of ys p)) (update after (log_key id t) (some r.result))
  looked =
      fun_ext {f = λ j. lookup j (rows_of ys p)} {g = update after (log_key id t) (some r.result)}
      (λ j. ap (lookup j) (changed_here xs ys p _ s.is) ∙ seen_out r kept id t r.result h g q sized e (rows_of xs p) j)

  log_whole : log_of after ≡ log_of (value_in (rows_of xs p))
  log_whole = fun_ext {f = log_of after} {g = log_of (value_in (rows_of xs p))}
      (λ i. fun_ext {f = log_of after i} {g = log_of (value_in (rows_of xs p)) i} (λ u. log_same r.pending kept (rows_of xs p) i u))

  abbrev with_row_lem : (ℕ → ℕ → Option ℕ) → ℕ → ℕ → Option ℕ
  with_row_lem l = update l id (update (l id) t (some r.result))

  pub committed : keys_ok false (keys_in (rows_of xs p)) ≡ true → log_of (value_in (rows_of xs p)) id t ≡ none →
      Committed xs ys p id t (block_of (rows_of xs p) r)
  committed good new =
      record {
        sound = s.sound;
        parts = changed_parts xs ys p _ s.is;
        cap = changed_cap xs ys p _ s.is;
        table =
            ap table_of looked
            ∙ fun_ext {f = table_of (update after (log_key id t) (some r.result))} {g = table_of after}
            (log_put_data after r.result id t h g);
        log =
            ap log_of looked
            ∙ fun_ext {f = log_of (update after (log_key id t) (some r.result))} {g = with_row_lem (log_of after)}
            (λ i. fun_ext {f = log_of (update after (log_key id t) (some r.result)) i} {g = with_row_lem (log_of after) i}
            (λ u. log_put after r.result id t h g i u))
            ∙ ap with_row_lem log_whole;
        used = ap length (changed_here xs ys p _ s.is) ∙ length_out r kept id t r.result h g q sized e (rows_of xs p) good new;
        others = λ o n. changed_there xs ys p _ s.is o n;
      }

-- ---- question 21

-- where a block needs more rows than are free, the answer is no, and nothing is changed
pub too_full : (xs ys : List ℕ) (p id t : ℕ) (b : Block) → cap_of xs < length (rows_of xs p) + rows_needed b → ys ≡ xs →
    Through xs ys p id t b no_room none
unfolding Through
too_full xs ys p id t b l same = rw (lt-leb (length (rows_of xs p) + rows_needed b) (cap_of xs) l) (refl, same)

-- A block's rows, by the answer of their write: written if question 21 says yes, else nothing is changed.
module _ (xs ys : List ℕ) (p : ℕ) (r : Ran) (kept : Kept r.pending) (id t : ℕ) (h : id < 2 ^ 32) (g : t < 65536) (q : Pending)
    (sized : Sized q) (e : rows_in q ≡ insert_at (rows_in r.pending) 0 (log_key id t, r.result))
    (good : keys_ok false (keys_in (rows_of xs p)) ≡ true) (new : log_of (value_in (rows_of xs p)) id t ≡ none) where
  count : length (put_all (pairs (take q.count q.keys) (take q.count q.values)) (rows_of xs p)) ≡ length
      (rows_of xs p) + rows_needed (block_of (rows_of xs p) r)
  count = length_out r kept id t r.result h g q sized e (rows_of xs p) good new

  pub written : StoredIfRoom xs ys p (put_all (pairs (take q.count q.keys) (take q.count q.values))) true →
      Through xs ys p id t (block_of (rows_of xs p) r) (Ok r.result) none
  unfolding Sounds.StoredIfRoom Through
  written s =
      let yes : has_room xs p (block_of (rows_of xs p) r) ≡ true =
      le-leb (length (rows_of xs p) + rows_needed (block_of (rows_of xs p) r)) (cap_of xs) (omega (arith, s.0, count)) in
      rw yes (refl, committed xs ys p r kept id t h g q sized e s.1 good new)

  pub left_alone : StoredIfRoom xs ys p (put_all (pairs (take q.count q.keys) (take q.count q.values))) false →
      Through xs ys p id t (block_of (rows_of xs p) r) no_room none
  unfolding Sounds.StoredIfRoom
  left_alone s = too_full xs ys p id t (block_of (rows_of xs p) r) (omega (arith, s.0, count)) s.1

-- what is shown of the block that the code ran holds of the rules' block
pub same_block : (xs ys : List ℕ) (p id t : ℕ) (b b' : Block) (r : BlockOutcome) → b ≡ b' → Through xs ys p id t b r none →
    Through xs ys p id t b' r none
same_block xs ys p id t b b' r e = subst (λ (a : Block). Through xs ys p id t a r none) e

pub through_logged : (xs ys : List ℕ) (p id t : ℕ) (b : Block) (o : Option ℕ) (v : ℕ) → o ≡ some v → ys ≡ xs →
    Through xs ys p id t b (Ok v) o
unfolding Through
through_logged xs ys p id t b o v q c = rw q (refl, c)
