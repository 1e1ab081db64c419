-- Functions that are changed at one number.
use mathlib.Core.Bool.{Bool, true, false}
use mathlib.Core.Path.{◌≡◌, refl, sym, ◌∙◌}
use mathlib.Core.Logic.{◌⊎◌, inl, inr}
use mathlib.Core.Option.{Option, none, some}
use Prim.Native.Nat.{ℕ, ◌≤◌, ◌<◌}
use native.Mathlib.Omega.{arith}
use lib.Dec.{T, eqb, ltb, eqb→eq, eqb_refl, ltb→lt, nltb→le}
use Rattle.questions.specs.Basics.{update}

pub none_some {ℓ} : {A : Type 0} {B : Type ℓ} {o : Option A} (x : A) → o ≡ none → o ≡ some x → B
none_some {o} x e e' = absurd (let z : ◌≡◌ {A = ℕ} 0 1 = cc in omega arith)

pub false_true {ℓ} : {B : Type ℓ} {b : Bool} → b ≡ false → b ≡ true → B
false_true {b} e e' = absurd (let z : ◌≡◌ {A = ℕ} 0 1 = cc in omega arith)

pub le_cases : (m n : ℕ) → m ≤ n → (m ≡ n) ⊎ (m < n)
le_cases m n h = go (ltb m n) refl
  where
    go : (b : Bool) → ltb m n ≡ b → (m ≡ n) ⊎ (m < n)
    go true e = inr (ltb→lt m n (rw e tt))
    go false e = inl (let l : n ≤ m = nltb→le m n (rw e tt) in omega arith)

pub T_true : (b : Bool) → T b → b ≡ true
T_true true t = refl
T_true false t = absurd t

pub true_T : (b : Bool) → b ≡ true → T b
true_T b e = rw e tt

pub eqb_same : (k : ℕ) → eqb k k ≡ true
eqb_same k = T_true (eqb k k) (eqb_refl k)

pub eqb_cases : (j k : ℕ) → ((j ≡ k) × (eqb j k ≡ true)) ⊎ ((j ≡ k → ⊥) × (eqb j k ≡ false))
eqb_cases j k = go (eqb j k) refl
  where
    go : (b : Bool) → eqb j k ≡ b → ((j ≡ k) × (eqb j k ≡ true)) ⊎ ((j ≡ k → ⊥) × (eqb j k ≡ false))
    go true e = inl (eqb→eq j k (true_T (eqb j k) e), e)
    go false e = inr (λ p. false_true e (rw p (eqb_same k)), e)

module _ {A : Type 0} (f : ℕ → A) (k : ℕ) (v : A) where
  pub update_same : update f k v k ≡ v
  update_same = rw (eqb_same k) refl

  pub update_other : (j : ℕ) → (j ≡ k → ⊥) → update f k v j ≡ f j
  update_other j n = go (eqb_cases j k)
    where
      go : ((j ≡ k) × (eqb j k ≡ true)) ⊎ ((j ≡ k → ⊥) × (eqb j k ≡ false)) → update f k v j ≡ f j
      go (inl h) = absurd (n h.0)
      go (inr h) = rw h.1 refl

  -- what is changed, and where it is as before
  pub update_cases : (j : ℕ) → ((j ≡ k) × (update f k v j ≡ v)) ⊎ ((j ≡ k → ⊥) × (update f k v j ≡ f j))
  update_cases j = go (eqb_cases j k)
    where
      go : ((j ≡ k) × (eqb j k ≡ true)) ⊎ ((j ≡ k → ⊥) × (eqb j k ≡ false)) →
          ((j ≡ k) × (update f k v j ≡ v)) ⊎ ((j ≡ k → ⊥) × (update f k v j ≡ f j))
      go (inl h) = inl (h.0, rw h.1 refl)
      go (inr h) = inr (h.0, rw h.1 refl)

-- To show something of each thing that a changed function holds: of the new one, and of those elsewhere.
pub update_each : {A : Type 0} (f : ℕ → Option A) (k : ℕ) (o : Option A) (P : ℕ → A → Type 0) →
    ((x : A) → o ≡ some x → P k x) → ((j : ℕ) (x : A) → (j ≡ k → ⊥) → f j ≡ some x → P j x) →
    (j : ℕ) (x : A) → update f k o j ≡ some x → P j x
update_each {A} f k o P new old j x e = go (update_cases f k o j)
  where
    go : ((j ≡ k) × (update f k o j ≡ o)) ⊎ ((j ≡ k → ⊥) × (update f k o j ≡ f j)) → P j x
    go (inl h) = rw h.0 (new x (sym h.1 ∙ e))
    go (inr h) = old j x h.0 (sym h.1 ∙ e)
