-- Log keys lie below data key 0, so the place where that belongs parts rising rows into log rows and data rows.
use mathlib.Core.Bool.{Bool, true, false}
use mathlib.Core.List.{List, [], ◌∷◌}
use mathlib.Core.Path.{◌≡◌, refl, ap, ◌∙◌}
use Prim.Native.Nat.{ℕ, ◌-◌, ◌≤◌, ◌<◌}
use native.Mathlib.Nat.{sub-zero}
use native.Mathlib.Omega.{arith}
use borrow.Author.Tests.{le-ltb, ltb-true, ltb-false}
use lib.Dec.{eqb, ltb}
use lib.ListN.{length, take, drop, length-drop}
use lib.Seq.{take_all}
use Rattle.keys.specs.Keys.{is_data_key, is_log_key, is_form, data_key}
use Rattle.keys.proofs.Keys.{no_log, no_data, form_log, form_data}
use Rattle.questions.proofs.Tests.{and_left, and_right}
use Rattle.store.specs.Layout.{parts_of}
use Rattle.store.specs.Rows.{Row, keys_in, rows_of, rank_of}
use Rattle.store.specs.Rows as Rows
use Rattle.store.specs.Questions.{ahead, rising, all_in}
use Rattle.store.specs.Questions as Questions
use Rattle.store.specs.Answers.{Searched, ended_at}
use Rattle.store.specs.Answers.{Found}
use Rattle.store.specs.Sound.{Sound}
use Rattle.store.specs.Sound as Sounds
use Rattle.store.proofs.Found.{ends_at_rank}
use Rattle.store.proofs.Lists.{rank_within}
use Rattle.store.proofs.Sound.{apart_forms, keys_apart_lem, rows_rise}
use Rattle.listing.specs.Store.{of_kind}

-- behind a key from k on, the keys are all greater than k
rank_first : (k x : ℕ) (rows : List Row) → k ≤ x → rising (x ∷ keys_in rows) ≡ true → rank_of k rows ≡ 0
unfolding Rows.rank_of Rows.keys_in Questions.rising Questions.ahead
rank_first k x [] h u = refl
rank_first k x (r ∷ rows) h u = rw (le-ltb r.0 k (omega (arith, ltb-true x r.0 (and_left (ltb x r.0) _ u)))) refl

-- in rising rows with keys of a form, the data rows stand from the place of data key 0 on and the log rows ahead of it
parted : (b : Bool) (rows : List Row) → all_in (is_form b) (keys_in rows) ≡ true → rising (keys_in rows) ≡ true
    → (drop (rank_of (data_key 0) rows) rows ≡ of_kind is_data_key rows) × (take (rank_of (data_key 0) rows) rows ≡ of_kind is_log_key rows)
unfolding Rows.rank_of Rows.keys_in Questions.all_in of_kind
parted b [] f u = (refl, refl)
parted b (r ∷ rows) f u =
    go (parted b rows (and_right (is_form b r.0) _ f) (unfold Questions.rising in and_right (ahead r.0 (keys_in rows)) _ u))
    (ltb r.0 (data_key 0)) refl
  where
    own : is_form b r.0 ≡ true
    own = and_left (is_form b r.0) _ f

    go : (drop (rank_of (data_key 0) rows) rows ≡ of_kind is_data_key rows) × (take (rank_of (data_key 0) rows) rows ≡ of_kind is_log_key rows) →
        (t : Bool) → ltb r.0 (data_key 0) ≡ t
        → (drop (rank_of (data_key 0) (r ∷ rows)) (r ∷ rows) ≡ of_kind is_data_key (r ∷ rows))
        × (take (rank_of (data_key 0) (r ∷ rows)) (r ∷ rows) ≡ of_kind is_log_key (r ∷ rows))
    go ih true e =
        let l : r.0 < data_key 0 = ltb-true r.0 (data_key 0) e in
        rw (e, no_data r.0 l, form_log b r.0 own l) (ih.0, ap (◌∷◌ r) ih.1)
    go ih false e =
        let l : data_key 0 ≤ r.0 = ltb-false r.0 (data_key 0) e in
        let z : rank_of (data_key 0) rows ≡ 0 = rank_first (data_key 0) r.0 rows l u in
        let more = rw z at ih in
        rw (e, no_log r.0 l, form_data b r.0 own l) (ap (◌∷◌ r) more.0, more.1)

-- `first` parts the rows: the data rows stand from there on, and the log rows ahead
pub record PartedAt (rows : List Row) (first : ℕ) : Type 0 where
  pub within : first ≤ length rows
  pub data_rows_lem : (count : ℕ) → count ≡ length rows → take (count - first) (drop first rows) ≡ of_kind is_data_key rows
  pub log_rows_lem : take (first - 0) (drop 0 rows) ≡ of_kind is_log_key rows

-- The place where a search for 2^63 ended parts the rows of a partition of a sound store, and of the book.
pub parted_at : (s : List ℕ) (p : ℕ) → Sound s → p ≤ parts_of s → (k : ℕ) → k ≡ data_key 0 →
    (f : Found) → Searched k (keys_in (rows_of s p)) f → (first : ℕ) → first ≡ ended_at f → PartedAt (rows_of s p) first
unfolding Sounds.KeysGood
parted_at s p sound l k i f q first e =
    record {
      within = omega (arith, place, rank_within (data_key 0) rows);
      data_rows_lem = λ count w. take_all (count - first) (drop first rows) (simp length-drop (omega arith)) ∙ parts.0;
      log_rows_lem = rw sub-zero parts.1;
    }
  where
    rows : List Row
    rows = rows_of s p

    book : Bool
    book = eqb p (parts_of s)

    place : first ≡ rank_of (data_key 0) rows
    place = e ∙ ends_at_rank k rows f q ∙ ap (λ x. rank_of x rows) i

    parts : (drop first rows ≡ of_kind is_data_key rows) × (take first rows ≡ of_kind is_log_key rows)
    parts = rw place (parted book rows (apart_forms book (keys_in rows) (keys_apart_lem book (keys_in rows) (sound.keys p l)))
        (rows_rise s sound p l))
