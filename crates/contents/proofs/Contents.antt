-- What a store means after a change of the book that leaves the floor row.
use mathlib.Core.Bool.{Bool, true, false}
use mathlib.Core.List.{List}
use mathlib.Core.Option.{none}
use mathlib.Core.Path.{◌≡◌, refl, ◌∙◌, ap}
use Prim.Native.Nat.{ℕ}
use native.Mathlib.Omega.{arith}
use borrow.Author.Tests.{ltb-true}
use lib.Dec.{ltb}
use lib.ListN.{length}
use Rattle.rules.specs.Store.{with_book}
use Rattle.contents.specs.Contents.{contents_of, value_in, book_of}
use Rattle.questions.specs.Basics.{if◌then◌otherwise◌}
use Rattle.keys.specs.Keys.{floor_key, table_of, log_of}
use Rattle.store.specs.Rows.{Row, Store, alter, lookup}
use Rattle.store.proofs.Lists.{alter_here, alter_there}

pub contents_book : (st : Store) (g : List Row → List Row) →
    lookup floor_key (g (st.rows st.parts)) ≡ lookup floor_key (st.rows st.parts) → contents_of (alter st.parts g st) ≡
    with_book (contents_of st) (length (g (st.rows st.parts))) (book_of (value_in (g (st.rows st.parts))))
unfolding contents_of alter
contents_book st g floor =
    let P = st.parts in
    λ i.
    record {
      room = st.cap;
      used = λ p. used_same p (ltb p P) refl i;
      rows = λ p k. rows_same p k (ltb p P) refl i;
      log = record { usual = λ p id t. log_same p id t (ltb p P) refl i };
      book_used = length (alter_here P g st i);
      book = book_of (value_in (alter_here P g st i));
      floor = (ap (lookup floor_key) (alter_here P g st) ∙ floor) i;
    }
  where
    same : (p : ℕ) → ltb p st.parts ≡ true → (alter st.parts g st).rows p ≡ st.rows p
    same p e = alter_there st.parts p g st (λ q. let l = ltb-true p st.parts e in omega arith)

    used_same : (p : ℕ) (b : Bool) → ltb p st.parts ≡ b →
        if◌then◌otherwise◌ b (length ((alter st.parts g st).rows p)) 0 ≡ if◌then◌otherwise◌ b (length (st.rows p)) 0
    used_same p true e = ap length (same p e)
    used_same p false e = refl

    rows_same : (p k : ℕ) (b : Bool) → ltb p st.parts ≡ b →
        if◌then◌otherwise◌ b (table_of (value_in ((alter st.parts g st).rows p)) k) none ≡ if◌then◌otherwise◌ b
        (table_of (value_in (st.rows p)) k) none
    rows_same p k true e = ap (λ (r : List Row). table_of (value_in r) k) (same p e)
    rows_same p k false e = refl

    log_same : (p id t : ℕ) (b : Bool) → ltb p st.parts ≡ b →
        if◌then◌otherwise◌ b (log_of (value_in ((alter st.parts g st).rows p)) id t) none ≡ if◌then◌otherwise◌ b
        (log_of (value_in (st.rows p)) id t) none
    log_same p id t true e = ap (λ (r : List Row). log_of (value_in r) id t) (same p e)
    log_same p id t false e = refl
