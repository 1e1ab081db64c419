-- A worklist in bytes: what is written is read back, and what stands behind the last entry stays.
use mathlib.Core.List.{List}
use mathlib.Core.Logic.{inl, ⊎_elim}
use mathlib.Core.Path.{◌≡◌, refl, sym, ap, ◌∙◌}
use Prim.Native.Nat.{ℕ, zero, suc, ◌+◌, ◌*◌, ◌/◌, ◌%◌, ◌^◌, ◌≤◌, ◌<◌}
use native.Mathlib.Nat.{eq-or-lt_of_le}
use native.Mathlib.Numerals.{add-one}
use native.Mathlib.Decide.{ℕ_discrete, dec_lt}
use native.Mathlib.Omega.{arith}
use lib.ListN.{length, get_or, set, replicate, length-set}
use lib.Seq.{ext_get_or, get_or-set_same}
use Rattle.words.specs.Words.{le, put}
use Rattle.words.proofs.Laws.{length_put, get_or_put, le_put, le_put_other}
use Rattle.rules.specs.Worklist as Rules
use Rattle.worklist.specs.declared.Entry.{Entry}
use Rattle.worklist.specs.declared.Worklist.{Worklist}
use Rattle.worklist.specs.Worklist.{no_entry, place_at, no_worklist, Kept}
use Rattle.worklist.specs.Bytes.{entry_in, entries_in, list_in, with_entry, with_entries, with_list}
use Rattle.worklist.proofs.Typed.{Small}

length_in : (xs : List ℕ) (n i : ℕ) → length (entries_in xs n i) ≡ n
unfolding entries_in
length_in xs zero i = refl
length_in xs (suc n) i = ap suc (length_in xs n (i + 1))

-- a list in bytes has sixteen places
pub sixteen_in : (xs : List ℕ) → length (list_in xs).places ≡ 16
sixteen_in xs = length_in xs 16 0

at_in : (xs : List ℕ) (n i k : ℕ) → k < n → place_at (entries_in xs n i) k ≡ entry_in xs (i + k)
unfolding entries_in
at_in xs zero i k h = absurd (omega arith)
at_in xs (suc n) i zero h = ap (entry_in xs) (omega arith)
at_in xs (suc n) i (suc k) h = at_in xs n (i + 1) k (omega arith) ∙ ap (entry_in xs) (omega arith)

-- ── read ──

-- sixteen places that have what the bytes have there
pub read_all : (xs : List ℕ) (es : List Entry) → length es ≡ 16 → ((k : ℕ) → k < 16 → place_at es k ≡ entry_in xs k) →
    es ≡ (list_in xs).places
read_all xs es sixteen each =
    ext_get_or no_entry es (entries_in xs 16 0) (sixteen ∙ sym (length_in xs 16 0))
    (λ k l. let l' : k < 16 = omega arith in
    each k l' ∙ sym (at_in xs 16 0 k l' ∙ ap (entry_in xs) (omega arith)))

-- ── written ──

pub length_with : (xs : List ℕ) (es : List Entry) (n : ℕ) → length (with_entries xs es n) ≡ length xs
unfolding with_entries
length_with xs es zero = refl
length_with xs es (suc n) =
    length_put 4 (put 4 (with_entries xs es n) (4 + 8 * n) (place_at es n).id) (8 + 8 * n) (place_at es n).mark
    ∙ length_put 4 (with_entries xs es n) (4 + 8 * n) (place_at es n).id ∙ length_with xs es n

-- one entry more
pub with_more : (xs : List ℕ) (es : List Entry) (n : ℕ) → with_entries xs es (n + 1) ≡ with_entry (with_entries xs es n) n (place_at es n)
unfolding with_entries
with_more xs es n = rw add-one

-- a word of another place stays
beside : (xs : List ℕ) (i at : ℕ) (e : Entry) → (at + 4 ≤ 4 + 8 * i) → le 4 (with_entry xs i e) at ≡ le 4 xs at
beside xs i at e h =
    le_put_other 4 4 (put 4 xs (4 + 8 * i) e.id) at (8 + 8 * i) e.mark (inl (omega arith))
    ∙ le_put_other 4 4 xs at (4 + 8 * i) e.id (inl h)

count_back : (xs : List ℕ) (es : List Entry) (n : ℕ) → le 4 (with_entries xs es n) 0 ≡ le 4 xs 0
unfolding with_entries
count_back xs es zero = refl
count_back xs es (suc n) = beside (with_entries xs es n) n 0 (place_at es n) (omega arith) ∙ count_back xs es n

same_entry : (xs : List ℕ) (i : ℕ) (e : Entry) → 12 + 8 * i ≤ length xs → Small e → entry_in (with_entry xs i e) i ≡ e
same_entry xs i e l s =
    let a : le 4 (with_entry xs i e) (4 + 8 * i) ≡ e.id =
    le_put_other 4 4 (put 4 xs (4 + 8 * i) e.id) (4 + 8 * i) (8 + 8 * i) e.mark (inl (omega arith))
    ∙ le_put 4 xs (4 + 8 * i) e.id (omega arith) s.0 in
    let b : le 4 (with_entry xs i e) (8 + 8 * i) ≡ e.mark =
    le_put 4 (put 4 xs (4 + 8 * i) e.id) (8 + 8 * i) e.mark (omega (arith, length_put 4 xs (4 + 8 * i) e.id)) s.1 in
    λ t. record { id = a t; mark = b t }

-- each entry written is read back
entry_back : (xs : List ℕ) (es : List Entry) (n i : ℕ) → ((k : ℕ) → k < n → Small (place_at es k)) → 4 + 8 * n ≤ length xs → i < n
    → entry_in (with_entries xs es n) i ≡ place_at es i
unfolding with_entries
entry_back xs es zero i f l h = absurd (omega arith)
entry_back xs es (suc n) i f l h = go (ℕ_discrete i n) (λ h'. entry_back xs es n i (λ k q. f k (omega arith)) (omega arith) h')
  where
    go : Dec (i ≡ n) → (i < n → entry_in (with_entries xs es n) i ≡ place_at es i) →
        entry_in (with_entry (with_entries xs es n) n (place_at es n)) i ≡ place_at es i
    go (yes e) ih = rw e (same_entry (with_entries xs es n) n (place_at es n) (omega (arith, length_with xs es n)) (f n (omega arith)))
    go (no d) ih =
        let a = beside (with_entries xs es n) n (4 + 8 * i) (place_at es n) (omega arith) in
        let b = beside (with_entries xs es n) n (8 + 8 * i) (place_at es n) (omega arith) in
        (λ t. record { id = a t; mark = b t }) ∙ ih (omega arith)

-- a worklist written is read back
pub list_back : (xs : List ℕ) (l : Worklist) → 132 ≤ length xs → length l.places ≡ 16 → l.count < 256 ^ 4 →
    ((k : ℕ) → k < 16 → Small (place_at l.places k)) → list_in (with_list xs l) ≡ l
list_back xs l h sixteen small f =
    let ys = put 4 xs 0 l.count in
    let n = count_back ys l.places 16 ∙ le_put 4 xs 0 l.count (omega arith) small in
    let p = ext_get_or no_entry (entries_in (with_list xs l) 16 0) l.places (length_in (with_list xs l) 16 0 ∙ sym sixteen)
    (λ i q. let q' : i < 16 = omega (arith, length_in (with_list xs l) 16 0) in
    at_in (with_list xs l) 16 0 i q' ∙ ap (entry_in (with_list xs l)) (omega arith)
    ∙ entry_back ys l.places 16 i f (omega (arith, length_put 4 xs 0 l.count)) q') in
    λ t. record { count = n t; places = p t }

pub length_list : (xs : List ℕ) (l : Worklist) → length (with_list xs l) ≡ length xs
length_list xs l = length_with (put 4 xs 0 l.count) l.places 16 ∙ length_put 4 xs 0 l.count

-- 132 zero bytes are an empty list
pub all_empty : list_in (replicate 132 0) ≡ no_worklist
unfolding entries_in le
all_empty = refl

-- ── what isn't written ──

-- a number put where it was read leaves the bytes as they were there
put_read : (w : ℕ) (xs ys : List ℕ) (at j : ℕ) → ((k : ℕ) → get_or xs k 0 < 256) → at + w ≤ length ys → at ≤ j → j < at + w →
    get_or (put w ys at (le w xs at)) j 0 ≡ get_or xs j 0
unfolding le put
put_read zero xs ys at j f l h h' = absurd (omega arith)
put_read (suc w) xs ys at j f l h h' =
    let b = f at in
    let low : (get_or xs at 0 + 256 * le w xs (at + 1)) % 256 ≡ get_or xs at 0 = omega arith in
    let high : (get_or xs at 0 + 256 * le w xs (at + 1)) / 256 ≡ le w xs (at + 1) = omega arith in
    rw (low, high)
    (⊎_elim
    (λ (e : at ≡ j).
    get_or_put w (set ys at (get_or xs at 0)) (at + 1) (le w xs (at + 1)) j (λ p q. omega arith)
    ∙ ap (λ k. get_or (set ys at (get_or xs at 0)) k 0) (sym e) ∙ get_or-set_same ys at (get_or xs at 0) 0 (omega arith)
    ∙ ap (λ k. get_or xs k 0) e)
    (λ (e : at < j).
    put_read w xs (set ys at (get_or xs at 0)) (at + 1) j f (omega (arith, length-set ys at (get_or xs at 0))) (omega arith) (omega arith))
    (eq-or-lt_of_le h))

module _ (xs : List ℕ) (small : (k : ℕ) → get_or xs k 0 < 256) where
  -- an entry put where it was read
  entry_read : (ys : List ℕ) (i j : ℕ) → 12 + 8 * i ≤ length ys → 4 + 8 * i ≤ j → j < 12 + 8 * i →
      get_or (with_entry ys i (entry_in xs i)) j 0 ≡ get_or xs j 0
  entry_read ys i j l h h' = go (dec_lt j (8 + 8 * i))
    where
      zs : List ℕ
      zs = put 4 ys (4 + 8 * i) (le 4 xs (4 + 8 * i))

      go : Dec (j < 8 + 8 * i) → get_or (put 4 zs (8 + 8 * i) (le 4 xs (8 + 8 * i))) j 0 ≡ get_or xs j 0
      go (yes e) =
          get_or_put 4 zs (8 + 8 * i) (le 4 xs (8 + 8 * i)) j (λ p q. omega arith)
          ∙ put_read 4 xs ys (4 + 8 * i) j small (omega arith) h (omega arith)
      go (no d) =
          put_read 4 xs zs (8 + 8 * i) j small (omega (arith, length_put 4 ys (4 + 8 * i) (le 4 xs (4 + 8 * i)))) (omega arith)
          (omega arith)

  -- an entry leaves the bytes of other places
  entry_beside : (ys : List ℕ) (i j : ℕ) (e : Entry) → (4 + 8 * i ≤ j → j < 12 + 8 * i → ⊥) → get_or (with_entry ys i e) j 0 ≡ get_or ys j 0
  entry_beside ys i j e h =
      get_or_put 4 (put 4 ys (4 + 8 * i) e.id) (8 + 8 * i) e.mark j (λ p q. h (omega arith) (omega arith))
      ∙ get_or_put 4 ys (4 + 8 * i) e.id j (λ p q. h p (omega arith))

  -- from the m-th place on the entries are those of xs
  module _ (ys : List ℕ) (es : List Entry) (m : ℕ) (read : (i : ℕ) → m ≤ i → i < 16 → place_at es i ≡ entry_in xs i) (j : ℕ)
      (h : 4 + 8 * m ≤ j) (e : get_or ys j 0 ≡ get_or xs j 0) where
    entries_stay : (n : ℕ) → n ≤ 16 → 4 + 8 * n ≤ length ys → get_or (with_entries ys es n) j 0 ≡ get_or xs j 0
    unfolding with_entries
    entries_stay zero q l = e
    entries_stay (suc n) q l = go (dec_lt j (4 + 8 * n)) (dec_lt j (12 + 8 * n)) (entries_stay n (omega arith) (omega arith))
      where
        go : Dec (j < 4 + 8 * n) → Dec (j < 12 + 8 * n) → get_or (with_entries ys es n) j 0 ≡ get_or xs j 0 →
            get_or (with_entry (with_entries ys es n) n (place_at es n)) j 0 ≡ get_or xs j 0
        go (yes d) d' ih = entry_beside (with_entries ys es n) n j (place_at es n) (λ p p'. omega arith) ∙ ih
        go (no d) (no d') ih = entry_beside (with_entries ys es n) n j (place_at es n) (λ p p'. omega arith) ∙ ih
        go (no d) (yes d') ih =
            ap (λ x. get_or (with_entry (with_entries ys es n) n x) j 0) (read n (omega arith) (omega arith))
            ∙ entry_read (with_entries ys es n) n j (omega (arith, length_with ys es n)) (omega arith) d'

  -- A call that keeps to `Kept` writes no byte behind the last entry, the bytes from 132 on included.
  pub behind_stays : (after : Worklist) (work : Rules.Worklist) → 132 ≤ length xs → Kept (list_in xs) after work → (j : ℕ) →
      4 + 8 * length work ≤ j → get_or (with_list xs after) j 0 ≡ get_or xs j 0
  behind_stays after work l k j h =
      entries_stay (put 4 xs 0 after.count) after.places (length work)
      (λ i p q. k.behind i p ∙ at_in xs 16 0 i q ∙ ap (entry_in xs) (omega arith)) j h
      (get_or_put 4 xs 0 after.count j (λ p q. omega arith)) 16 (omega arith) (omega (arith, length_put 4 xs 0 after.count))
