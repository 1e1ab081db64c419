-- What the rules say of a worklist, by its places.
use mathlib.Core.Bool.{Bool, true, false, not, ◌&&◌, ◌||◌}
use mathlib.Core.List.{List, [], ◌∷◌, ◌++◌}
use mathlib.Core.Logic.{⊎_elim}
use mathlib.Core.Option.{none, some}
use mathlib.Core.Path.{◌≡◌, refl, sym, ◌∙◌, ap}
use Prim.Native.Nat.{ℕ, zero, suc, ◌+◌, ◌-◌, ◌≤◌, ◌<◌}
use native.Mathlib.Nat.{eq-or-lt_of_le, sub-zero}
use native.Mathlib.Omega.{arith}
use borrow.Author.Tests.{ne_eqb, le-leb, lt-leb, leb-true}
use lib.Dec.{eqb, leb}
use lib.ListN.{length, get_or, take, drop}
use Rattle.std.proofs.Common.{drop-cons}
use Rattle.std.proofs.lemmas.List.{length-take-le, get_or-take}
use Rattle.std.specs.List.{list_any}
use Rattle.questions.specs.Basics.{if◌then◌otherwise◌}
use native.Mathlib.Numerals.{add-one}
use Rattle.questions.proofs.Tests.{and_left, and_false}
use Rattle.rules.specs.Worklist as Rules
use Rattle.worklist.specs.declared.Entry.{Entry}
use Rattle.worklist.specs.Worklist.{mark_of, entry_of, no_entry, place_at, entries_of, has_id, waits}

-- the entries at the n places from the i-th on
unfoldable pub rest_from : (places : List Entry) (n i : ℕ) → Rules.Worklist
rest_from es zero i = []
rest_from es (suc n) i = entry_of (place_at es i) ∷ rest_from es n (i + 1)

none_rest : (n i : ℕ) → rest_from [] n i ≡ entries_of [] n
unfolding rest_from entries_of
none_rest zero i = refl
none_rest (suc n) i = ap (λ w. entry_of no_entry ∷ w) (none_rest n (i + 1))

next_rest : (e : Entry) (es : List Entry) (n i : ℕ) → rest_from (e ∷ es) n (suc i) ≡ rest_from es n i
unfolding rest_from
next_rest e es zero i = refl
next_rest e es (suc n) i =
    ap (λ j. entry_of (place_at es i) ∷ rest_from (e ∷ es) n j) (omega arith)
    ∙ ap (λ w. entry_of (place_at es i) ∷ w) (next_rest e es n (i + 1))

-- all of them
pub rest_all : (es : List Entry) (n : ℕ) → rest_from es n 0 ≡ entries_of es n
unfolding rest_from entries_of
rest_all es zero = refl
rest_all [] (suc n) = ap (λ w. entry_of no_entry ∷ w) (none_rest n 1)
rest_all (e ∷ es) (suc n) = ap (λ w. entry_of e ∷ w) (next_rest e es n 0 ∙ rest_all es n)

pub length_rest : (es : List Entry) (n i : ℕ) → length (rest_from es n i) ≡ n
unfolding rest_from
length_rest es zero i = refl
length_rest es (suc n) i = ap suc (length_rest es n (i + 1))

pub length_entries : (es : List Entry) (n : ℕ) → length (entries_of es n) ≡ n
length_entries es n = ap length (sym (rest_all es n)) ∙ length_rest es n 0

-- the i-th of them
pub at_entries : (es : List Entry) (n i : ℕ) → i < n → get_or (entries_of es n) i (entry_of no_entry) ≡ entry_of (place_at es i)
unfolding entries_of
at_entries es zero i h = absurd (omega arith)
at_entries [] (suc n) zero h = refl
at_entries [] (suc n) (suc i) h = at_entries [] n i (omega arith)
at_entries (e ∷ es) (suc n) zero h = refl
at_entries (e ∷ es) (suc n) (suc i) h = at_entries es n i (omega arith)

-- places that have the same, from one place on here and from another on there
pub rest_same : (es fs : List Entry) (n i j : ℕ) → ((k : ℕ) → k < n → place_at fs (i + k) ≡ place_at es (j + k)) →
    rest_from fs n i ≡ rest_from es n j
unfolding rest_from
rest_same es fs zero i j h = refl
rest_same es fs (suc n) i j h =
    let e : place_at fs i ≡ place_at es j = ap (place_at fs) (omega arith) ∙ h 0 (omega arith) ∙ ap (place_at es) (omega arith) in
    let r : rest_from fs n (i + 1) ≡ rest_from es n (j + 1) =
    rest_same es fs n (i + 1) (j + 1)
    (λ k l. ap (place_at fs) (omega arith) ∙ h (k + 1) (omega arith) ∙ ap (place_at es) (omega arith)) in
    λ t. entry_of (e t) ∷ r t

-- one entry more at the end
pub rest_more : (es : List Entry) (n i : ℕ) → rest_from es n i ++ entry_of (place_at es (i + n)) ∷ [] ≡ rest_from es (n + 1) i
rest_more es n i = go n i ∙ ap (λ m. rest_from es m i) (omega arith)
  where
    unfold_step : (n i : ℕ) → rest_from es (suc n) i ≡ entry_of (place_at es i) ∷ rest_from es n (i + 1)
    unfold_step n i = unfold rest_from in refl

    go : (n i : ℕ) → rest_from es n i ++ entry_of (place_at es (i + n)) ∷ [] ≡ rest_from es (suc n) i
    go zero i = unfold rest_from in ap (λ j. entry_of (place_at es j) ∷ []) (omega arith)
    go (suc n) i =
        ap (λ w. w ++ entry_of (place_at es (i + suc n)) ∷ []) (unfold_step n i)
        ∙ ap (λ j. entry_of (place_at es i) ∷ (rest_from es n (i + 1) ++ entry_of (place_at es j) ∷ [])) (omega arith)
        ∙ ap (λ w. entry_of (place_at es i) ∷ w) (go n (i + 1)) ∙ sym (unfold_step (suc n) i)

-- ── marks ──

pub waiting_is : (m : ℕ) → Rules.is_waiting (mark_of m) ≡ eqb m 0
waiting_is zero = refl
waiting_is (suc zero) = refl
waiting_is (suc (suc m)) = sym (ne_eqb (suc (suc m)) 0 (λ e. omega arith))

pub taken_is : (m : ℕ) → Rules.is_taken (mark_of m) ≡ eqb m 1
taken_is zero = refl
taken_is (suc zero) = refl
taken_is (suc (suc m)) = sym (ne_eqb (suc (suc m)) 1 (λ e. omega arith))

pub marked_is : (m : ℕ) → Rules.is_marked (mark_of m) ≡ leb m 1
marked_is zero = refl
marked_is (suc zero) = refl
marked_is (suc (suc m)) = sym (lt-leb (suc (suc m)) 1 (omega arith))

-- ── one id ──

module _ (id : ℕ) (es : List Entry) where
  -- the id stands at p, and at no place before
  module _ (p : ℕ) (here : has_id id (place_at es p) ≡ true) where
    at_here : (i : ℕ) → i ≡ p → eqb id (place_at es i).id ≡ true
    at_here i e = ap (λ j. has_id id (place_at es j)) e ∙ here

    pub listed_at : (n i : ℕ) → i ≤ p → p < i + n → ((k : ℕ) → i ≤ k → k < p → has_id id (place_at es k) ≡ false) →
        Rules.listed id (rest_from es n i) ≡ true
    unfolding rest_from
    listed_at zero i l h b = absurd (omega arith)
    listed_at (suc n) i l h b =
        ⊎_elim (λ (e : i ≡ p). rw (at_here i e) refl)
        (λ (e : i < p). rw (b i (omega arith) e) (listed_at n (i + 1) (omega arith) (omega arith) (λ k q q'. b k (omega arith) q')))
        (eq-or-lt_of_le l)

    pub taken_at : (n i : ℕ) → i ≤ p → p < i + n → ((k : ℕ) → i ≤ k → k < p → has_id id (place_at es k) ≡ false) →
        Rules.taken_on id (rest_from es n i) ≡ eqb (place_at es p).mark 1
    unfolding rest_from
    taken_at zero i l h b = absurd (omega arith)
    taken_at (suc n) i l h b =
        ⊎_elim (λ (e : i ≡ p). rw (at_here i e) (taken_is (place_at es i).mark ∙ ap (λ j. eqb (place_at es j).mark 1) e))
        (λ (e : i < p). rw (b i (omega arith) e) (taken_at n (i + 1) (omega arith) (omega arith) (λ k q q'. b k (omega arith) q')))
        (eq-or-lt_of_le l)

    -- fs has the entries before p where they were, and those behind it moved up by one
    pub without_at : (fs : List Entry) (n i : ℕ) → i ≤ p → p < i + suc n → ((k : ℕ) → i ≤ k → k < p → has_id id (place_at es k) ≡ false) →
        ((k : ℕ) → i ≤ k → k < p → place_at fs k ≡ place_at es k) →
        ((k : ℕ) → p ≤ k → k < i + n → place_at fs k ≡ place_at es (k + 1)) →
        Rules.without id (rest_from es (suc n) i) ≡ rest_from fs n i
    unfolding rest_from
    without_at fs zero i l h b before behind = rw (at_here i (omega arith)) refl
    without_at fs (suc n) i l h b before behind =
        ⊎_elim
        (λ (e : i ≡ p). rw (at_here i e)
        (sym (rest_same es fs (suc n) i (i + 1) (λ k q. behind (i + k) (omega arith) (omega arith) ∙ ap (place_at es) (omega arith)))))
        (λ (e : i < p). rw (b i (omega arith) e)
        (ap (λ w. entry_of (place_at es i) ∷ w)
        (without_at fs n (i + 1) (omega arith) (omega arith) (λ k q q'. b k (omega arith) q') (λ k q q'. before k (omega arith) q')
        (λ k q q'. behind k q (omega arith)))
        ∙ ap (λ x. entry_of x ∷ rest_from fs n (i + 1)) (sym (before i (omega arith) e))))
        (eq-or-lt_of_le l)

  -- the id stands nowhere
  pub listed_not : (n i : ℕ) → ((k : ℕ) → i ≤ k → k < i + n → has_id id (place_at es k) ≡ false) → Rules.listed id (rest_from es n i) ≡ false
  unfolding rest_from
  listed_not zero i b = refl
  listed_not (suc n) i b = rw (b i (omega arith) (omega arith)) (listed_not n (i + 1) (λ k q q'. b k (omega arith) (omega arith)))

  pub taken_not : (n i : ℕ) → ((k : ℕ) → i ≤ k → k < i + n → has_id id (place_at es k) ≡ false) → Rules.taken_on id (rest_from es n i) ≡ false
  unfolding rest_from
  taken_not zero i b = refl
  taken_not (suc n) i b = rw (b i (omega arith) (omega arith)) (taken_not n (i + 1) (λ k q q'. b k (omega arith) (omega arith)))

  pub without_not : (n i : ℕ) → ((k : ℕ) → i ≤ k → k < i + n → has_id id (place_at es k) ≡ false) →
      Rules.without id (rest_from es n i) ≡ rest_from es n i
  unfolding rest_from
  without_not zero i b = refl
  without_not (suc n) i b =
      rw (b i (omega arith) (omega arith))
      (ap (λ w. entry_of (place_at es i) ∷ w) (without_not n (i + 1) (λ k q q'. b k (omega arith) (omega arith))))

either : (b c : Bool) → if◌then◌otherwise◌ b true c ≡ (b || c)
either true c = refl
either false c = refl

-- an id among the n entries from i on, as the code looks for it
pub listed_in : (id : ℕ) (es : List Entry) (n i : ℕ) → i + n ≤ length es →
    Rules.listed id (rest_from es n i) ≡ list_any (has_id id) (take n (drop i es))
unfolding rest_from
listed_in id es zero i h = refl
listed_in id es (suc n) i h =
    rw (drop-cons es i no_entry (omega arith), listed_in id es n (i + 1) (omega arith))
    (either (eqb id (place_at es i).id) (list_any (has_id id) (take n (drop (i + 1) es)))
    ∙ ap (λ j. eqb id (place_at es i).id || list_any (has_id id) (take n (drop j es))) (add-one i))

-- and among the first n places
pub listed_is : (id : ℕ) (es : List Entry) (n : ℕ) → n ≤ length es → list_any (has_id id) (take n es) ≡ Rules.listed id (entries_of es n)
listed_is id es n h = sym (listed_in id es n 0 (omega arith)) ∙ ap (Rules.listed id) (rest_all es n)

-- ── the first that waits ──

module _ (es : List Entry) where
  module _ (p : ℕ) (here : waits (place_at es p) ≡ true) where
    waits_here : (i : ℕ) → i ≡ p → Rules.is_waiting (mark_of (place_at es i).mark) ≡ true
    waits_here i e = waiting_is (place_at es i).mark ∙ ap (λ j. waits (place_at es j)) e ∙ here

    pub waiting_at : (n i : ℕ) → i ≤ p → p < i + n → ((k : ℕ) → i ≤ k → k < p → waits (place_at es k) ≡ false) →
        Rules.first_waiting (rest_from es n i) ≡ some (place_at es p).id
    unfolding rest_from
    waiting_at zero i l h b = absurd (omega arith)
    waiting_at (suc n) i l h b =
        ⊎_elim (λ (e : i ≡ p). rw (waits_here i e) (ap (λ j. some (place_at es j).id) e))
        (λ (e : i < p). rw (waiting_is (place_at es i).mark ∙ b i (omega arith) e)
        (waiting_at n (i + 1) (omega arith) (omega arith) (λ k q q'. b k (omega arith) q')))
        (eq-or-lt_of_le l)

    -- fs has this one marked, and the others as they were
    pub took_at : (fs : List Entry) (n i : ℕ) → i ≤ p → p < i + n → ((k : ℕ) → i ≤ k → k < p → waits (place_at es k) ≡ false) →
        place_at fs p ≡ record { id = (place_at es p).id; mark = 1 } →
        ((k : ℕ) → (k ≡ p → ⊥) → place_at fs k ≡ place_at es k) →
        Rules.took_first (rest_from es n i) ≡ rest_from fs n i
    unfolding rest_from
    took_at fs zero i l h b m o = absurd (omega arith)
    took_at fs (suc n) i l h b m o =
        ⊎_elim
        (λ (e : i ≡ p). rw (waits_here i e)
        (let x : place_at fs i ≡ record { id = (place_at es i).id; mark = 1 } =
        ap (place_at fs) e ∙ m ∙ ap (λ j. record { id = (place_at es j).id; mark = 1 }) (sym e) in
        let r : rest_from es n (i + 1) ≡ rest_from fs n (i + 1) =
        sym (rest_same es fs n (i + 1) (i + 1) (λ k q. o (i + 1 + k) (λ z. omega arith))) in
        λ t. entry_of (sym x t) ∷ r t))
        (λ (e : i < p). rw (waiting_is (place_at es i).mark ∙ b i (omega arith) e)
        (let r = took_at fs n (i + 1) (omega arith) (omega arith) (λ k q q'. b k (omega arith) q') m o in
        let x = sym (o i (λ z. omega arith)) in
        λ t. entry_of (x t) ∷ r t))
        (eq-or-lt_of_le l)

  pub waiting_not : (n i : ℕ) → ((k : ℕ) → i ≤ k → k < i + n → waits (place_at es k) ≡ false) → Rules.first_waiting (rest_from es n i) ≡ none
  unfolding rest_from
  waiting_not zero i b = refl
  waiting_not (suc n) i b =
      rw (waiting_is (place_at es i).mark ∙ b i (omega arith) (omega arith))
      (waiting_not n (i + 1) (λ k q q'. b k (omega arith) (omega arith)))

  pub took_not : (n i : ℕ) → ((k : ℕ) → i ≤ k → k < i + n → waits (place_at es k) ≡ false) →
      Rules.took_first (rest_from es n i) ≡ rest_from es n i
  unfolding rest_from
  took_not zero i b = refl
  took_not (suc n) i b =
      rw (waiting_is (place_at es i).mark ∙ b i (omega arith) (omega arith))
      (ap (λ w. entry_of (place_at es i) ∷ w) (took_not n (i + 1) (λ k q q'. b k (omega arith) (omega arith))))

  -- ── all waiting ──

  pub all_waiting_is : (fs : List Entry) (n i : ℕ) →
      ((k : ℕ) → i ≤ k → k < i + n → place_at fs k ≡ record { id = (place_at es k).id; mark = 0 }) →
      Rules.all_waiting (rest_from es n i) ≡ rest_from fs n i
  unfolding rest_from
  all_waiting_is fs zero i h = refl
  all_waiting_is fs (suc n) i h =
      let x = sym (h i (omega arith) (omega arith)) in
      let r = all_waiting_is fs n (i + 1) (λ k q q'. h k (omega arith) (omega arith)) in
      λ t. entry_of (x t) ∷ r t

  -- ── question 25 ──

  -- is none of the ids from place i on there twice, and is each marked?
  unfoldable pub right_from : (n i : ℕ) → Bool
  right_from n i = Rules.all_once (rest_from es (n - i) i) && Rules.all_marked (rest_from es (n - i) i)

  right_step : (n i : ℕ) → i < n →
      right_from n i
      ≡ ((not (Rules.listed (place_at es i).id (rest_from es (n - (i + 1)) (i + 1))) && Rules.all_once (rest_from es (n - (i + 1)) (i + 1)))
      && (Rules.is_marked (mark_of (place_at es i).mark) && Rules.all_marked (rest_from es (n - (i + 1)) (i + 1))))
  unfolding rest_from right_from
  right_step n i h = let e : n - i ≡ suc (n - (i + 1)) = omega arith in rw e refl

  pub right_badly_marked : (n i : ℕ) → i < n → 1 < (place_at es i).mark → right_from n i ≡ false
  right_badly_marked n i h m =
      right_step n i h
      ∙ rw (marked_is (place_at es i).mark ∙ lt-leb (place_at es i).mark 1 m)
      (and_false
      (not (Rules.listed (place_at es i).id (rest_from es (n - (i + 1)) (i + 1))) && Rules.all_once (rest_from es (n - (i + 1)) (i + 1))))

  pub right_twice : (n i : ℕ) → i < n → Rules.listed (place_at es i).id (rest_from es (n - (i + 1)) (i + 1)) ≡ true → right_from n i ≡ false
  right_twice n i h t = right_step n i h ∙ rw t refl

  pub right_on : (n i : ℕ) → i < n → (place_at es i).mark ≤ 1 →
      Rules.listed (place_at es i).id (rest_from es (n - (i + 1)) (i + 1)) ≡ false → right_from n i ≡ right_from n (i + 1)
  right_on n i h m t =
      right_step n i h ∙ rw (t, marked_is (place_at es i).mark ∙ le-leb (place_at es i).mark 1 m) (unfold right_from in refl)

  pub right_end : (n i : ℕ) → n ≤ i → right_from n i ≡ true
  unfolding rest_from right_from
  right_end n i h = let e : n - i ≡ 0 = omega arith in rw e refl

  pub right_all : (n : ℕ) → n ≤ 16 → right_from n 0 ≡ Rules.list_right (entries_of es n)
  unfolding right_from Rules.list_right
  right_all n h =
      rw (sub-zero, rest_all es n, length_entries es n, le-leb n 16 h) refl

  pub right_many : (n : ℕ) → 16 < n → Rules.list_right (entries_of es n) ≡ false
  unfolding Rules.list_right
  right_many n h = rw (length_entries es n, lt-leb n 16 h) refl

  -- so a list that passes has at most sixteen
  pub right_count : (n : ℕ) → Rules.list_right (entries_of es n) ≡ true → n ≤ 16
  unfolding Rules.list_right
  right_count n e =
      let h = leb-true (length (entries_of es n)) 16 (and_left _ _ e) in omega (arith, length_entries es n)

-- the first n of the places are entries enough
entries_taken : (es : List Entry) (n : ℕ) → n ≤ length es → entries_of (take n es) (length (take n es)) ≡ entries_of es n
entries_taken es n h =
    let l = length-take-le n es h in
    ap (entries_of (take n es)) l
    ∙ sym (rest_all (take n es) n)
    ∙ rest_same es (take n es) n 0 0 (λ k q. get_or-take n es (0 + k) no_entry (omega arith))
    ∙ rest_all es n

-- question 25, by the entries that are looked at
pub answered : (es xs : List Entry) (n : ℕ) → n ≤ length es → n ≤ 16 → xs ≡ take n es →
    right_from xs (length xs) 0 ≡ Rules.list_right (entries_of es n)
answered es xs n h m e =
    rw e (right_all (take n es) (length (take n es)) (omega (arith, length-take-le n es h)) ∙ ap Rules.list_right (entries_taken es n h))
