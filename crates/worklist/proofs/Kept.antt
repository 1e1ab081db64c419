-- What each call leaves of a worklist: its entries, and nothing written behind the last of them.
use mathlib.Core.Bool.{Bool, true, false}
use mathlib.Core.List.{List, [], ◌∷◌, ◌++◌}
use mathlib.Core.Option.{none, some}
use mathlib.Core.Path.{◌≡◌, refl, sym, ◌∙◌, ap}
use Prim.Native.Nat.{ℕ, zero, suc, ◌+◌, ◌-◌, ◌≤◌, ◌<◌}
use native.Mathlib.Decide.{dec_lt}
use native.Mathlib.Omega.{arith}
use borrow.Author.Tests.{lt-ltb, le-ltb, ltb-true}
use lib.Dec.{eqb, ltb}
use lib.ListN.{length, get_or, set, replicate, take, drop, length-set, get_or-append}
use Rattle.std.proofs.lemmas.List.{length-append, length-drop, get_or-take, get_or-drop, get_or-append_right}
use lib.Seq.{ext_get_or, get_or-set_same, get_or-set_other}
use Rattle.questions.specs.Basics.{if◌then◌otherwise◌}
use Rattle.rules.specs.Worklist as Rules
use Rattle.worklist.specs.declared.Entry.{Entry}
use Rattle.worklist.specs.declared.Worklist.{Worklist}
use Rattle.worklist.specs.Worklist.{mark_of, entry_of, no_entry, place_at, entries_of, worklist_of, no_worklist, Kept}
use Rattle.worklist.specs.Worklist.{has_id, waits, waiting}
use Rattle.worklist.proofs.Places.{FirstAt}
use Rattle.worklist.proofs.Means.{rest_from, rest_all, rest_same, rest_more, length_entries, at_entries}
use Rattle.worklist.proofs.Means.{taken_at, taken_not, without_at, without_not}
use Rattle.worklist.proofs.Means.{waiting_at, waiting_not, took_at, took_not, all_waiting_is}

-- a list has as many entries as it has ids
pub length_worklist : (l : Worklist) → length (worklist_of l) ≡ l.count
length_worklist l = length_entries l.places l.count

-- by its places
pub kept_by : (l after : Worklist) (work : Rules.Worklist) → worklist_of after ≡ work → length after.places ≡ length l.places →
    ((k : ℕ) → after.count ≤ k → place_at after.places k ≡ place_at l.places k) → Kept l after work
kept_by l after work e n b =
    record { means = e; places = n; behind = λ k h. b k (omega (arith, length_worklist after, ap length e)) }

-- a list that isn't touched
pub kept_same : (l : Worklist) → Kept l l (worklist_of l)
kept_same l = kept_by l l (worklist_of l) refl refl (λ k h. refl)

kept_left : (l : Worklist) (work : Rules.Worklist) → work ≡ worklist_of l → Kept l l work
kept_left l work e = kept_by l l work (sym e) refl (λ k h. refl)

pub no_list_means : worklist_of no_worklist ≡ []
unfolding entries_of
no_list_means = refl

-- the empty list with nothing written behind its last entry is all zero
pub kept_none : (r : Worklist) → Kept no_worklist r [] → r ≡ no_worklist
kept_none r k =
    let n : r.count ≡ 0 = sym (length_worklist r) ∙ ap length k.means in
    let p : r.places ≡ replicate 16 no_entry =
    ext_get_or no_entry r.places (replicate 16 no_entry) k.places (λ i h. k.behind i (omega arith)) in
    λ t. record { count = n t; places = p t }

same_mark : (m n : ℕ) → mark_of m ≡ mark_of n → m ≡ n
same_mark zero zero e = refl
same_mark zero (suc zero) e = absurd (let z : ◌≡◌ {A = ℕ} 0 1 = cc in omega arith)
same_mark zero (suc (suc n)) e = absurd (let z : ◌≡◌ {A = ℕ} 0 1 = cc in omega arith)
same_mark (suc zero) zero e = absurd (let z : ◌≡◌ {A = ℕ} 0 1 = cc in omega arith)
same_mark (suc zero) (suc zero) e = refl
same_mark (suc zero) (suc (suc n)) e = absurd (let z : ◌≡◌ {A = ℕ} 0 1 = cc in omega arith)
same_mark (suc (suc m)) zero e = absurd (let z : ◌≡◌ {A = ℕ} 0 1 = cc in omega arith)
same_mark (suc (suc m)) (suc zero) e = absurd (let z : ◌≡◌ {A = ℕ} 0 1 = cc in omega arith)
same_mark (suc (suc m)) (suc (suc n)) e = cc

-- `Kept` leaves nothing open: two lists that it is said of are one.
pub kept_one : (l a b : Worklist) (work : Rules.Worklist) → Kept l a work → Kept l b work → a ≡ b
kept_one l a b work p q =
    let n : a.count ≡ b.count = sym (length_worklist a) ∙ ap length (p.means ∙ sym q.means) ∙ length_worklist b in
    let es = ext_get_or no_entry a.places b.places (p.places ∙ sym q.places) (λ i h. go i (dec_lt i (length work))) in
    λ t. record { count = n t; places = es t }
  where
    go : (i : ℕ) → Dec (i < length work) → place_at a.places i ≡ place_at b.places i
    go i (yes h) =
        let e : entry_of (place_at a.places i) ≡ entry_of (place_at b.places i) =
        sym (at_entries a.places a.count i (omega (arith, length_worklist a, ap length p.means)))
        ∙ ap (λ w. get_or w i (entry_of no_entry)) (p.means ∙ sym q.means)
        ∙ at_entries b.places b.count i (omega (arith, length_worklist b, ap length q.means)) in
        let m = same_mark (place_at a.places i).mark (place_at b.places i).mark (ap (λ (x : Rules.Entry). x.mark) e) in
        λ t. record { id = (e t).id; mark = m t }
    go i (no h) = p.behind i (omega arith) ∙ sym (q.behind i (omega arith))

-- 26, of a list that isn't full
pub can_list_more : (l : Worklist) (id : ℕ) → l.count < 16 → Rules.can_list id (worklist_of l) ≡ true
unfolding Rules.can_list
can_list_more l id h = rw (lt-ltb (length (worklist_of l)) 16 (omega (arith, length_worklist l))) (go (Rules.listed id (worklist_of l)))
  where
    go : (b : Bool) → if◌then◌otherwise◌ b true true ≡ true
    go true = refl
    go false = refl

-- and of a full list
pub can_list_full : (l : Worklist) (id : ℕ) → 16 ≤ l.count → Rules.can_list id (worklist_of l) ≡ Rules.listed id (worklist_of l)
unfolding Rules.can_list
can_list_full l id h = rw (le-ltb (length (worklist_of l)) 16 (omega (arith, length_worklist l))) (go (Rules.listed id (worklist_of l)))
  where
    go : (b : Bool) → if◌then◌otherwise◌ b true false ≡ b
    go true = refl
    go false = refl

-- ── by the first place with an id ──

module _ (l : Worklist) (id : ℕ) where
  abbrev es : List Entry
  es = l.places

  -- the id stands nowhere
  module _ (no : (k : ℕ) → k < l.count → has_id id (place_at es k) ≡ false) where
    nowhere : (k : ℕ) → 0 ≤ k → k < 0 + l.count → has_id id (place_at es k) ≡ false
    nowhere k q q' = no k (omega arith)

    pub taken_nowhere : Rules.taken_on id (worklist_of l) ≡ false
    taken_nowhere = ap (Rules.taken_on id) (sym (rest_all es l.count)) ∙ taken_not id es l.count 0 nowhere

    pub without_nowhere : Kept l l (Rules.without id (worklist_of l))
    without_nowhere =
        kept_left l _ (ap (Rules.without id) (sym (rest_all es l.count)) ∙ without_not id es l.count 0 nowhere ∙ rest_all es l.count)

  -- it stands at p first
  module _ (p : ℕ) (first : FirstAt (has_id id) es l.count p) where
    before : (k : ℕ) → 0 ≤ k → k < p → has_id id (place_at es k) ≡ false
    before k q h = first.before k h

    pub taken_here : Rules.taken_on id (worklist_of l) ≡ eqb (place_at es p).mark 1
    taken_here =
        ap (Rules.taken_on id) (sym (rest_all es l.count))
        ∙ taken_at id es p first.here l.count 0 (omega arith) (omega (arith, first.within)) before

    -- fs has the entries behind it moved up by one
    pub without_here : (fs : List Entry) → length fs ≡ length es → ((k : ℕ) → k < p → place_at fs k ≡ place_at es k) →
        ((k : ℕ) → p ≤ k → k < l.count - 1 → place_at fs k ≡ place_at es (k + 1)) →
        ((k : ℕ) → l.count - 1 ≤ k → place_at fs k ≡ place_at es k) →
        Kept l (record { count = l.count - 1; places = fs }) (Rules.without id (worklist_of l))
    without_here fs long ahead moved behind =
        let n = l.count - 1 in
        let h = first.within in
        kept_by l (record { count = n; places = fs }) _
        (sym (rest_all fs n)
        ∙ sym (without_at id es p first.here fs n 0 (omega arith) (omega arith) before
        (λ k q q'. ahead k q')
        (λ k q q'. moved k q (omega arith)))
        ∙ ap (λ j. Rules.without id (rest_from es j 0)) (omega arith)
        ∙ ap (Rules.without id) (rest_all es l.count))
        long
        (λ k q. behind k q)

module _ (l : Worklist) (id : ℕ) where
  -- 26, of a new id
  pub room_for_new : Rules.listed id (worklist_of l) ≡ false → Rules.can_list id (worklist_of l) ≡ true → l.count < 16
  unfolding Rules.can_list
  room_for_new h e =
      let t : ltb (length (worklist_of l)) 16 ≡ true =
      ap (λ b. if◌then◌otherwise◌ b true (ltb (length (worklist_of l)) 16)) (sym h) ∙ e in
      let u = ltb-true (length (worklist_of l)) 16 t in
      omega (arith, length_worklist l)

  pub added_listed : Rules.listed id (worklist_of l) ≡ true → Kept l l (Rules.added id (worklist_of l))
  unfolding Rules.added
  added_listed h = kept_left l _ (rw h refl)

  pub added_new : Rules.listed id (worklist_of l) ≡ false → l.count < length l.places →
      Kept l (record { count = l.count + 1; places = set l.places l.count (record { id = id; mark = 0 }) }) (Rules.added id (worklist_of l))
  unfolding Rules.added
  added_new h r =
      let n = l.count in
      let es = l.places in
      let fs = set es n (record { id = id; mark = 0 }) in
      let same : rest_from fs n 0 ≡ worklist_of l =
      rest_same es fs n 0 0 (λ k q. get_or-set_other es n (0 + k) (record { id = id; mark = 0 }) no_entry (λ e. omega arith))
      ∙ rest_all es n in
      let last : place_at fs (0 + n) ≡ record { id = id; mark = 0 } =
      ap (place_at fs) (omega arith) ∙ get_or-set_same es n (record { id = id; mark = 0 }) no_entry r in
      kept_by l (record { count = n + 1; places = fs }) _
      (sym (rest_all fs (n + 1)) ∙ sym (rest_more fs n 0) ∙ rw h (λ t. same t ++ entry_of (last t) ∷ []))
      (length-set es n (record { id = id; mark = 0 }))
      (λ k q. get_or-set_other es n k (record { id = id; mark = 0 }) no_entry (λ e. omega arith))

-- ── by the first that waits ──

module _ (l : Worklist) where
  module _ (no : (k : ℕ) → k < l.count → waits (place_at l.places k) ≡ false) where
    all_busy : (k : ℕ) → 0 ≤ k → k < 0 + l.count → waits (place_at l.places k) ≡ false
    all_busy k q q' = no k (omega arith)

    pub none_waits : Rules.first_waiting (worklist_of l) ≡ none
    none_waits = ap Rules.first_waiting (sym (rest_all l.places l.count)) ∙ waiting_not l.places l.count 0 all_busy

    pub took_none : Kept l l (Rules.took_first (worklist_of l))
    took_none =
        kept_left l _ (ap Rules.took_first (sym (rest_all l.places l.count)) ∙ took_not l.places l.count 0 all_busy ∙ rest_all l.places l.count)

  module _ (p : ℕ) (first : FirstAt waits l.places l.count p) where
    waits_before : (k : ℕ) → 0 ≤ k → k < p → waits (place_at l.places k) ≡ false
    waits_before k q h = first.before k h

    pub one_waits : Rules.first_waiting (worklist_of l) ≡ some (place_at l.places p).id
    one_waits =
        ap Rules.first_waiting (sym (rest_all l.places l.count))
        ∙ waiting_at l.places p first.here l.count 0 (omega arith) (omega (arith, first.within)) waits_before

    pub took_one : l.count ≤ length l.places →
        Kept l (record { count = l.count; places = set l.places p (record { id = (place_at l.places p).id; mark = 1 }) })
        (Rules.took_first (worklist_of l))
    took_one r =
        let marked : Entry = record { id = (place_at l.places p).id; mark = 1 } in
        let fs = set l.places p marked in
        let h = first.within in
        kept_by l (record { count = l.count; places = fs }) _
        (sym (rest_all fs l.count)
        ∙ sym (took_at l.places p first.here fs l.count 0 (omega arith) (omega arith) waits_before
        (get_or-set_same l.places p marked no_entry (omega arith))
        (λ k d. get_or-set_other l.places p k marked no_entry d))
        ∙ ap Rules.took_first (rest_all l.places l.count))
        (length-set l.places p marked)
        (λ k q. get_or-set_other l.places p k marked no_entry (λ e. omega arith))

-- ── restart ──

module _ (l : Worklist) where
  -- fs has the entries, each of them waiting
  pub restarted_right : Rules.list_right (worklist_of l) ≡ true → (fs : List Entry) → length fs ≡ length l.places →
      ((k : ℕ) → k < l.count → place_at fs k ≡ waiting (place_at l.places k)) →
      ((k : ℕ) → l.count ≤ k → place_at fs k ≡ place_at l.places k) →
      Kept l (record { count = l.count; places = fs }) (Rules.restarted (worklist_of l))
  unfolding Rules.restarted
  restarted_right e fs long marked behind =
      kept_by l (record { count = l.count; places = fs }) _
      (rw e
      (sym (rest_all fs l.count)
      ∙ sym (all_waiting_is l.places fs l.count 0 (λ k q q'. marked k (omega arith)))
      ∙ ap Rules.all_waiting (rest_all l.places l.count)))
      long
      behind

  -- its entries, each marked, in front of the places behind them
  pub restarted_front : Rules.list_right (worklist_of l) ≡ true → (front : List Entry) → l.count ≤ length l.places →
      length front ≡ l.count → ((k : ℕ) → k < l.count → place_at front k ≡ waiting (place_at (take l.count l.places) k)) →
      Kept l (record { count = l.count; places = front ++ drop l.count l.places }) (Rules.restarted (worklist_of l))
  restarted_front e front h long marked =
      restarted_right e (front ++ drop l.count l.places)
      (omega (arith, length-append front (drop l.count l.places), length-drop l.count l.places))
      (λ k q. get_or-append front (drop l.count l.places) no_entry k (omega arith) ∙ marked k q ∙ ap waiting (get_or-take l.count l.places k no_entry q))
      (λ k q. get_or-append_right front (drop l.count l.places) l.count k no_entry long q
      ∙ get_or-drop l.count l.places (k - l.count) no_entry ∙ ap (place_at l.places) (omega arith))

  pub restarted_wrong : Rules.list_right (worklist_of l) ≡ false → Kept l l (Rules.restarted (worklist_of l))
  unfolding Rules.restarted
  restarted_wrong e = kept_left l _ (rw e refl)
