-- Replies by id: the first reply to an id in a list, and how it changes.
use mathlib.Core.Bool.{Bool, true, false}
use mathlib.Core.Path.{◌≡◌, refl, sym, ◌∙◌, ap}
use mathlib.Core.Logic.{◌⊎◌, inl, inr}
use mathlib.Core.List.{List, [], ◌∷◌, ◌++◌, Memᴰ}
use mathlib.Core.Option.{Option, none, some}
use Prim.Native.Nat.{ℕ}
use lib.Dec.{eqb}
use Rattle.questions.specs.Basics.{if◌then◌otherwise◌}
use Rattle.rules.specs.Blocks.{Result}
use Rattle.rules.specs.Plain.{Reply, answered, first_replies}
use Rattle.questions.proofs.Updates.{none_some, false_true, eqb_same, eqb_cases}

-- the value of the first reply to an id
abbrev pub reply_to : (id : ℕ) → List Reply → Option Result
reply_to id [] = none
reply_to id (r ∷ rest) = if◌then◌otherwise◌ (eqb id r.id) (some r.value) (reply_to id rest)

-- a reply more changes none that is there
pub reply_more : (id : ℕ) (v : Result) (l : List Reply) (x : Reply) → reply_to id l ≡ some v → reply_to id (l ++ x ∷ []) ≡ some v
reply_more id v [] x e = none_some v refl e
reply_more id v (r ∷ l) x e = go (eqb id r.id) e (reply_more id v l x)
  where
    go : (b : Bool) → if◌then◌otherwise◌ b (some r.value) (reply_to id l) ≡ some v →
        (reply_to id l ≡ some v → reply_to id (l ++ x ∷ []) ≡ some v) →
        if◌then◌otherwise◌ b (some r.value) (reply_to id (l ++ x ∷ [])) ≡ some v
    go true h rec = h
    go false h rec = rec h

-- none to another id
pub reply_other : (id : ℕ) (l : List Reply) (x : Reply) → (id ≡ x.id → ⊥) → reply_to id (l ++ x ∷ []) ≡ reply_to id l
reply_other id [] x n = go (eqb_cases id x.id)
  where
    go : ((id ≡ x.id) × (eqb id x.id ≡ true)) ⊎ ((id ≡ x.id → ⊥) × (eqb id x.id ≡ false)) → reply_to id (x ∷ []) ≡ none
    go (inl h) = absurd (n h.0)
    go (inr h) = rw h.1 refl
reply_other id (r ∷ l) x n = ap (if◌then◌otherwise◌ (eqb id r.id) (some r.value)) (reply_other id l x n)

-- and is the first where there was none
pub reply_new : (id : ℕ) (v : Result) (l : List Reply) → reply_to id l ≡ none → reply_to id (l ++ record { id = id; value = v } ∷ []) ≡ some v
reply_new id v [] e = rw (eqb_same id) refl
reply_new id v (r ∷ l) e = go (eqb id r.id) e (reply_new id v l)
  where
    go : (b : Bool) → if◌then◌otherwise◌ b (some r.value) (reply_to id l) ≡ none →
        (reply_to id l ≡ none → reply_to id (l ++ record { id = id; value = v } ∷ []) ≡ some v) →
        if◌then◌otherwise◌ b (some r.value) (reply_to id (l ++ record { id = id; value = v } ∷ [])) ≡ some v
    go true h rec = none_some r.value h refl
    go false h rec = rec h

-- ── Answered ──

pub answered_by : (id : ℕ) (rs : List Reply) → answered id rs ≡ true → (r : Reply) × Memᴰ r rs × (r.id ≡ id)
answered_by id [] e = false_true refl e
answered_by id (r ∷ rs) e = go (eqb_cases id r.id) (answered_by id rs)
  where
    go : ((id ≡ r.id) × (eqb id r.id ≡ true)) ⊎ ((id ≡ r.id → ⊥) × (eqb id r.id ≡ false)) →
        (answered id rs ≡ true → (r : Reply) × Memᴰ r rs × (r.id ≡ id)) →
        (w : Reply) × Memᴰ w (r ∷ rs) × (w.id ≡ id)
    go (inl h) rec = (r, Memᴰ.head refl, sym h.0)
    go (inr h) rec = let x = rec (rw h.1 at e) in (x.0, Memᴰ.tail x.1, x.2)

-- a first reply was given
pub answered_first : (id : ℕ) (v : Result) (rs : List Reply) → reply_to id (first_replies rs) ≡ some v → answered id rs ≡ true
unfolding first_replies
answered_first id v [] e = none_some v refl e
answered_first id v (r ∷ rs) e = go (eqb_cases id r.id) (answered_first id v rs)
  where
    rest : (b : Bool) → (id ≡ r.id → ⊥) → reply_to id (if◌then◌otherwise◌ b (first_replies rs) (first_replies rs ++ r ∷ [])) ≡ some v →
        reply_to id (first_replies rs) ≡ some v
    rest true n h = h
    rest false n h = sym (reply_other id (first_replies rs) r n) ∙ h

    go : ((id ≡ r.id) × (eqb id r.id ≡ true)) ⊎ ((id ≡ r.id → ⊥) × (eqb id r.id ≡ false)) →
        (reply_to id (first_replies rs) ≡ some v → answered id rs ≡ true) →
        if◌then◌otherwise◌ (eqb id r.id) true (answered id rs) ≡ true
    go (inl h) rec = rw h.1 refl
    go (inr h) rec = rw h.1 (rec (rest (answered r.id rs) h.0 e))
