-- Laws of the worklist: who is listed after each change, and that a list which passes 25 still does.
use mathlib.Core.Bool.{Bool, true, false, not, ◌&&◌}
use mathlib.Core.Path.{◌≡◌, refl, sym, ◌∙◌, ap, subst}
use mathlib.Core.Logic.{◌⊎◌, inl, inr}
use mathlib.Core.List.Memᴰ
use mathlib.Core.List.{[], ◌∷◌, ◌++◌, Memᴰ}
use Prim.Native.Nat.{ℕ, suc, ◌≤◌}
use native.Mathlib.Omega.{arith}
use borrow.Author.Tests.{le-leb, leb-true, ltb-true}
use lib.Dec.{ltb, leb, eqb}
use lib.ListN.{length}
use Rattle.questions.specs.Basics.{if◌then◌otherwise◌}
use Rattle.rules.specs.Worklist.{Mark, waiting, taken, Entry, Worklist, most_listed, is_waiting, is_marked, listed, all_once, all_marked}
use Rattle.rules.specs.Worklist.{list_right, can_list, added, took_first, without, all_waiting, restarted}
use Rattle.questions.proofs.Tests.{no_yes, yes_no, and_left, and_right, and_both}
use Rattle.questions.proofs.Updates.{eqb_cases}

abbrev entry : ℕ → Mark → Entry
entry id m = record { id = id; mark = m }

-- whether two ids are the same
abbrev pub SameOrNot : ℕ → ℕ → Type 0
SameOrNot j k = ((j ≡ k) × (eqb j k ≡ true)) ⊎ ((j ≡ k → ⊥) × (eqb j k ≡ false))

-- ── Who is listed ──

-- who is listed with one entry more at the end
pub listed_more : (id : ℕ) (l : Worklist) (x : Entry) → listed id (l ++ x ∷ []) ≡ if◌then◌otherwise◌ (listed id l) true (listed id (x ∷ []))
listed_more id [] x = refl
listed_more id (e ∷ l) x = go (eqb id e.id) (listed_more id l x)
  where
    go : (b : Bool) → listed id (l ++ x ∷ []) ≡ if◌then◌otherwise◌ (listed id l) true (listed id (x ∷ [])) →
        if◌then◌otherwise◌ b true (listed id (l ++ x ∷ [])) ≡ if◌then◌otherwise◌ (if◌then◌otherwise◌ b true (listed id l)) true (listed id (x ∷ []))
    go true rec = refl
    go false rec = rec

-- who is listed stays listed when an id is added
pub listed_added : (id j : ℕ) (l : Worklist) → listed j l ≡ true → listed j (added id l) ≡ true
unfolding added
listed_added id j l e = go (listed id l)
  where
    go : (b : Bool) → listed j (if◌then◌otherwise◌ b l (l ++ entry id waiting ∷ [])) ≡ true
    go true = e
    go false = listed_more j l (entry id waiting) ∙ ap (λ b. if◌then◌otherwise◌ b true (listed j (entry id waiting ∷ []))) e

-- who is listed after an addition was listed, or is the one added
pub added_listed : (id j : ℕ) (l : Worklist) → listed j (added id l) ≡ true → (listed j l ≡ true) ⊎ (j ≡ id)
unfolding added
added_listed id j l e = go (listed id l) e
  where
    new : (b : Bool) → listed j l ≡ b → if◌then◌otherwise◌ b true (listed j (entry id waiting ∷ [])) ≡ true → (listed j l ≡ true) ⊎ (j ≡ id)
    new true h f = inl h
    new false h f = one (eqb_cases j id)
      where
        one : SameOrNot j id → (listed j l ≡ true) ⊎ (j ≡ id)
        one (inl c) = inr c.0
        one (inr c) = no_yes (rw c.1 at f)

    go : (b : Bool) → listed j (if◌then◌otherwise◌ b l (l ++ entry id waiting ∷ [])) ≡ true → (listed j l ≡ true) ⊎ (j ≡ id)
    go true h = inl h
    go false h = new (listed j l) refl (sym (listed_more j l (entry id waiting)) ∙ h)

-- a take changes nothing of who is listed
pub listed_took : (j : ℕ) (l : Worklist) → listed j (took_first l) ≡ listed j l
listed_took j [] = refl
listed_took j (e ∷ l) = go (is_waiting e.mark) (listed_took j l)
  where
    go : (b : Bool) → listed j (took_first l) ≡ listed j l →
        listed j (if◌then◌otherwise◌ b (entry e.id taken ∷ l) (e ∷ took_first l)) ≡ if◌then◌otherwise◌ (eqb j e.id) true (listed j l)
    go true rec = refl
    go false rec = ap (if◌then◌otherwise◌ (eqb j e.id) true) rec

-- nor does a restart
pub listed_waiting : (j : ℕ) (l : Worklist) → listed j (all_waiting l) ≡ listed j l
listed_waiting j [] = refl
listed_waiting j (e ∷ l) = ap (if◌then◌otherwise◌ (eqb j e.id) true) (listed_waiting j l)

pub listed_restarted : (j : ℕ) (l : Worklist) → listed j (restarted l) ≡ listed j l
unfolding restarted
listed_restarted j l = go (list_right l)
  where
    go : (b : Bool) → listed j (if◌then◌otherwise◌ b (all_waiting l) l) ≡ listed j l
    go true = listed_waiting j l
    go false = refl

-- a removal takes no other id off
pub listed_without : (id j : ℕ) (l : Worklist) → (j ≡ id → ⊥) → listed j (without id l) ≡ listed j l
listed_without id j [] n = refl
listed_without id j (e ∷ l) n = go (eqb_cases id e.id) (listed_without id j l n)
  where
    go : SameOrNot id e.id → listed j (without id l) ≡ listed j l →
        listed j (if◌then◌otherwise◌ (eqb id e.id) l (e ∷ without id l)) ≡ if◌then◌otherwise◌ (eqb j e.id) true (listed j l)
    go (inl h) rec = rw h.1 (other (eqb_cases j e.id))
      where
        other : SameOrNot j e.id → listed j l ≡ if◌then◌otherwise◌ (eqb j e.id) true (listed j l)
        other (inl c) = absurd (n (c.0 ∙ sym h.0))
        other (inr c) = rw c.1 refl
    go (inr h) rec = rw h.1 (ap (if◌then◌otherwise◌ (eqb j e.id) true) rec)

-- who is listed after a removal was listed
pub without_listed : (id j : ℕ) (l : Worklist) → listed j (without id l) ≡ true → listed j l ≡ true
without_listed id j [] e = e
without_listed id j (x ∷ l) e = go (eqb id x.id) e (without_listed id j l)
  where
    more : (b : Bool) → listed j l ≡ true → if◌then◌otherwise◌ b true (listed j l) ≡ true
    more true h = refl
    more false h = h

    sub : (b : Bool) → if◌then◌otherwise◌ b true (listed j (without id l)) ≡ true → (listed j (without id l) ≡ true → listed j l ≡ true) →
        if◌then◌otherwise◌ b true (listed j l) ≡ true
    sub true h rec = refl
    sub false h rec = rec h

    go : (b : Bool) → listed j (if◌then◌otherwise◌ b l (x ∷ without id l)) ≡ true → (listed j (without id l) ≡ true → listed j l ≡ true) →
        if◌then◌otherwise◌ (eqb j x.id) true (listed j l) ≡ true
    go true h rec = more (eqb j x.id) h
    go false h rec = sub (eqb j x.id) h rec

-- ── Question 25 ──

not_false : (b : Bool) → not b ≡ true → b ≡ false
not_false true e = no_yes e
not_false false e = refl

-- what question 25 asks, one by one
pub record Right (l : Worklist) : Type 0 where
  pub few : length l ≤ most_listed
  pub once : all_once l ≡ true
  pub marked : all_marked l ≡ true

pub right_is : (l : Worklist) → list_right l ≡ true → Right l
unfolding list_right
right_is l e =
    let r = and_right (leb (length l) most_listed) _ e in
    record {
      few = leb-true (length l) most_listed (and_left (leb (length l) most_listed) _ e);
      once = and_left (all_once l) _ r;
      marked = and_right (all_once l) _ r;
    }

-- and back
pub is_right : (l : Worklist) → Right l → list_right l ≡ true
unfolding list_right
is_right l r = rw (le-leb (length l) most_listed r.few, r.once, r.marked) refl

-- one more
length_more : (l : Worklist) (x : Entry) → length (l ++ x ∷ []) ≡ suc (length l)
length_more [] x = refl
length_more (e ∷ l) x = ap suc (length_more l x)

once_more : (l : Worklist) (x : Entry) → all_once l ≡ true → listed x.id l ≡ false → all_once (l ++ x ∷ []) ≡ true
once_more [] x o n = refl
once_more (e ∷ l) x o n = go (eqb_cases x.id e.id) (once_more l x (and_right (not (listed e.id l)) _ o))
  where
    go : SameOrNot x.id e.id →
        (listed x.id l ≡ false → all_once (l ++ x ∷ []) ≡ true) → (not (listed e.id (l ++ x ∷ [])) && all_once (l ++ x ∷ [])) ≡ true
    go (inl h) rec = yes_no (rw h.1 at n)
    go (inr h) rec =
        and_both (not (listed e.id (l ++ x ∷ []))) (all_once (l ++ x ∷ []))
        (ap not absent)
        (rec (rw h.1 at n))
      where
        apart : SameOrNot e.id x.id →
            if◌then◌otherwise◌ (eqb e.id x.id) true false ≡ false
        apart (inl c) = absurd (h.0 (sym c.0))
        apart (inr c) = rw c.1 refl

        absent : listed e.id (l ++ x ∷ []) ≡ false
        absent =
            listed_more e.id l x
            ∙ ap (λ b. if◌then◌otherwise◌ b true (listed e.id (x ∷ [])))
            (not_false (listed e.id l) (and_left (not (listed e.id l)) _ o))
            ∙ apart (eqb_cases e.id x.id)

marked_more : (l : Worklist) (x : Entry) → all_marked l ≡ true → is_marked x.mark ≡ true → all_marked (l ++ x ∷ []) ≡ true
marked_more [] x m h = rw h refl
marked_more (e ∷ l) x m h =
    and_both (is_marked e.mark) (all_marked (l ++ x ∷ [])) (and_left (is_marked e.mark) _ m)
    (marked_more l x (and_right (is_marked e.mark) _ m) h)

pub right_added : (id : ℕ) (l : Worklist) → Right l → can_list id l ≡ true → Right (added id l)
unfolding added can_list
right_added id l r c = go (listed id l) refl c
  where
    go : (b : Bool) → listed id l ≡ b → if◌then◌otherwise◌ b true (ltb (length l) most_listed) ≡ true →
        Right (if◌then◌otherwise◌ b l (l ++ entry id waiting ∷ []))
    go true e h = r
    go false e h =
        record {
          few = let n = length_more l (entry id waiting) in let f = ltb-true (length l) most_listed h in omega arith;
          once = once_more l (entry id waiting) r.once e;
          marked = marked_more l (entry id waiting) r.marked refl;
        }

-- the first waiting one taken
length_took : (l : Worklist) → length (took_first l) ≡ length l
length_took [] = refl
length_took (e ∷ l) = go (is_waiting e.mark) (length_took l)
  where
    go : (b : Bool) → length (took_first l) ≡ length l →
        length (if◌then◌otherwise◌ b (entry e.id taken ∷ l) (e ∷ took_first l)) ≡ suc (length l)
    go true rec = refl
    go false rec = ap suc rec

once_took : (l : Worklist) → all_once (took_first l) ≡ all_once l
once_took [] = refl
once_took (e ∷ l) = go (is_waiting e.mark) (once_took l)
  where
    go : (b : Bool) → all_once (took_first l) ≡ all_once l →
        all_once (if◌then◌otherwise◌ b (entry e.id taken ∷ l) (e ∷ took_first l)) ≡ (not (listed e.id l) && all_once l)
    go true rec = refl
    go false rec = rw (rec, listed_took e.id l) refl

marked_took : (l : Worklist) → all_marked l ≡ true → all_marked (took_first l) ≡ true
marked_took [] m = refl
marked_took (e ∷ l) m = go (is_waiting e.mark) (marked_took l (and_right (is_marked e.mark) _ m))
  where
    go : (b : Bool) → all_marked (took_first l) ≡ true → all_marked (if◌then◌otherwise◌ b (entry e.id taken ∷ l) (e ∷ took_first l)) ≡ true
    go true rec = and_right (is_marked e.mark) _ m
    go false rec = and_both (is_marked e.mark) (all_marked (took_first l)) (and_left (is_marked e.mark) _ m) rec

pub right_took : (l : Worklist) → Right l → Right (took_first l)
right_took l r =
    record {
      few = let n = length_took l in let f = r.few in omega arith;
      once = once_took l ∙ r.once;
      marked = marked_took l r.marked;
    }

-- one less
length_without : (id : ℕ) (l : Worklist) → length (without id l) ≤ length l
length_without id [] = omega arith
length_without id (e ∷ l) = go (eqb id e.id) (length_without id l)
  where
    go : (b : Bool) → length (without id l) ≤ length l → length (if◌then◌otherwise◌ b l (e ∷ without id l)) ≤ suc (length l)
    go true rec = omega arith
    go false rec = omega arith

once_without : (id : ℕ) (l : Worklist) → all_once l ≡ true → all_once (without id l) ≡ true
once_without id [] o = refl
once_without id (e ∷ l) o = go (eqb id e.id) (once_without id l (and_right (not (listed e.id l)) _ o))
  where
    absent : (b : Bool) → listed e.id (without id l) ≡ b → not b ≡ true
    absent true h = no_yes (sym (not_false (listed e.id l) (and_left (not (listed e.id l)) _ o)) ∙ without_listed id e.id l h)
    absent false h = refl

    go : (b : Bool) → all_once (without id l) ≡ true → all_once (if◌then◌otherwise◌ b l (e ∷ without id l)) ≡ true
    go true rec = and_right (not (listed e.id l)) _ o
    go false rec =
        and_both (not (listed e.id (without id l))) (all_once (without id l)) (absent (listed e.id (without id l)) refl) rec

marked_without : (id : ℕ) (l : Worklist) → all_marked l ≡ true → all_marked (without id l) ≡ true
marked_without id [] m = refl
marked_without id (e ∷ l) m = go (eqb id e.id) (marked_without id l (and_right (is_marked e.mark) _ m))
  where
    go : (b : Bool) → all_marked (without id l) ≡ true → all_marked (if◌then◌otherwise◌ b l (e ∷ without id l)) ≡ true
    go true rec = and_right (is_marked e.mark) _ m
    go false rec = and_both (is_marked e.mark) (all_marked (without id l)) (and_left (is_marked e.mark) _ m) rec

pub right_without : (id : ℕ) (l : Worklist) → Right l → Right (without id l)
right_without id l r =
    record {
      few = let n = length_without id l in let f = r.few in omega arith;
      once = once_without id l r.once;
      marked = marked_without id l r.marked;
    }

-- all waiting
length_waiting : (l : Worklist) → length (all_waiting l) ≡ length l
length_waiting [] = refl
length_waiting (e ∷ l) = ap suc (length_waiting l)

once_waiting : (l : Worklist) → all_once (all_waiting l) ≡ all_once l
once_waiting [] = refl
once_waiting (e ∷ l) = rw (once_waiting l, listed_waiting e.id l) refl

marked_waiting : (l : Worklist) → all_marked (all_waiting l) ≡ true
marked_waiting [] = refl
marked_waiting (e ∷ l) = marked_waiting l

pub right_waiting : (l : Worklist) → Right l → Right (all_waiting l)
right_waiting l r =
    record {
      few = let n = length_waiting l in let f = r.few in omega arith;
      once = once_waiting l ∙ r.once;
      marked = marked_waiting l;
    }

-- of a list that passes 25 restart marks all as waiting
pub restarted_is : (l : Worklist) → Right l → restarted l ≡ all_waiting l
unfolding restarted
restarted_is l r = rw (is_right l r) refl

-- then each entry is waiting
pub waits_all : (l : Worklist) (e : Entry) → Memᴰ e (all_waiting l) → e.mark ≡ waiting
waits_all [] e h = absurd (Memᴰ.not-nil h)
waits_all (x ∷ l) e h = go (Memᴰ.cases_cons h) (waits_all l e)
  where
    go : (e ≡ entry x.id waiting) ⊎ Memᴰ e (all_waiting l) → (Memᴰ e (all_waiting l) → e.mark ≡ waiting) → e.mark ≡ waiting
    go (inl p) rec = ap (λ (w : Entry). w.mark) p
    go (inr p) rec = rec p

-- and it still passes 25
pub right_restarted : (l : Worklist) → Right l → Right (restarted l)
right_restarted l r = subst Right (sym (restarted_is l r)) (right_waiting l r)
