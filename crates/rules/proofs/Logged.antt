-- Logged through: the reply worked out from the log is the end of the follow, it takes no more moves than a checked workflow has
-- instructions, it stays while the log grows, and there is one only.
use mathlib.Core.Path.{◌≡◌, refl, sym, ◌∙◌, ap}
use mathlib.Core.Logic.{◌⊎◌, inl, inr}
use mathlib.Core.Option.{Option, none, some}
use Prim.Native.Nat.{ℕ, zero, suc, ◌+◌, ◌≤◌, ◌<◌}
use native.Mathlib.Omega.{arith}
use native.Mathlib.Nat.{add-zero, zero-add, suc-add, add-suc}
use lib.ListN.{length}
use Rattle.rules.specs.Instructions.{Code, Pack}
use Rattle.rules.specs.Blocks.{Result}
use Rattle.rules.specs.Courses.{Course}
use Rattle.rules.specs.Store.{Request, Log}
use Rattle.rules.specs.Checked.{Checked}
use Rattle.rules.specs.Logged.{request_code, start, Stage, at, finished, onward, follow, reply_or, reply_from, reply_logged}
use Rattle.questions.proofs.Updates.{none_some}
use Rattle.rules.proofs.Follow.{Grows, onward_stays, follow_stays, follow_before, follow_below}
use Rattle.rules.proofs.Positions.{follow_position}

module _ (log : Log) (id : ℕ) (code : Code) (q : Request) where
  -- the request has come to this reply, after some moves
  abbrev pub Ends : (v : Result) → Type 0
  Ends v = (n : ℕ) × (follow log id code q n ≡ some (finished v))

  -- the reply to which the log leads is where the follow ends
  reply_or_lem : (o : Option Stage) (rest : Option Result) (v : Result) → reply_or o rest ≡ some v → (o ≡ some (finished v)) ⊎ (rest ≡ some v)
  reply_or_lem none rest v e = none_some v refl e
  reply_or_lem (some (at c t)) rest v e = inr e
  reply_or_lem (some (finished w)) rest v e = inl (let same : w ≡ v = cc in ap (λ x. some (finished x)) same)

  from_ends : (ahead n : ℕ) (v : Result) → reply_from log id code ahead (follow log id code q n) ≡ some v → Ends v
  unfolding reply_from follow
  from_ends zero n v e = go (reply_or_lem (follow log id code q n) none v e)
    where
      go : (follow log id code q n ≡ some (finished v)) ⊎ (none ≡ some v) → Ends v
      go (inl h) = (n, h)
      go (inr h) = none_some v refl h
  from_ends (suc ahead) n v e = go (reply_or_lem (follow log id code q n) _ v e) (from_ends ahead (suc n) v)
    where
      go : (follow log id code q n ≡ some (finished v)) ⊎ (reply_from log id code ahead (follow log id code q (suc n)) ≡ some v) →
          (reply_from log id code ahead (follow log id code q (suc n)) ≡ some v → Ends v) → Ends v
      go (inl h) rec = (n, h)
      go (inr h) rec = rec h

  -- and back, where the moves are enough
  ends_from : (ahead n k : ℕ) (v : Result) → follow log id code q (n + k) ≡ some (finished v) → k ≤ ahead →
      reply_from log id code ahead (follow log id code q n) ≡ some v
  unfolding reply_from follow
  ends_from zero n zero v e l = rw (ap (follow log id code q) (sym (add-zero n)) ∙ e) refl
  ends_from zero n (suc k) v e l = absurd (omega arith)
  ends_from (suc ahead) n zero v e l = rw (ap (follow log id code q) (sym (add-zero n)) ∙ e) refl
  ends_from (suc ahead) n (suc k) v e l =
      let b = follow_below log id code q (n + suc k) (finished v) n (omega arith) e in
      let rec = ends_from ahead (suc n) k v (ap (follow log id code q) (suc-add n k ∙ sym (add-suc n k)) ∙ e) (omega arith) in
      go b.0 b.1 b.2 rec
    where
      go : (c : Course) (t : ℕ) → follow log id code q n ≡ some (at c t) →
          reply_from log id code ahead (follow log id code q (suc n)) ≡ some v →
          reply_or (follow log id code q n) (reply_from log id code ahead (onward log id code (follow log id code q n))) ≡ some v
      go c t h r = ap (λ o. reply_or o (reply_from log id code ahead (onward log id code (follow log id code q n)))) h ∙ r

  -- there is one end only
  pub ends_once : (v w : Result) → Ends v → Ends w → v ≡ w
  ends_once v w e f = go (which e.0 f.0)
    where
      which : (a b : ℕ) → (a ≡ b) ⊎ ((a < b) ⊎ (b < a))
      which zero zero = inl refl
      which zero (suc b) = inr (inl (omega arith))
      which (suc a) zero = inr (inr (omega arith))
      which (suc a) (suc b) = up (which a b)
        where
          up : (a ≡ b) ⊎ ((a < b) ⊎ (b < a)) → (suc a ≡ suc b) ⊎ ((suc a < suc b) ⊎ (suc b < suc a))
          up (inl h) = inl (omega arith)
          up (inr (inl h)) = inr (inl (omega arith))
          up (inr (inr h)) = inr (inr (omega arith))

      go : (e.0 ≡ f.0) ⊎ ((e.0 < f.0) ⊎ (f.0 < e.0)) → v ≡ w
      go (inl h) =
          let x = ap (follow log id code q) h in
          let e₁ = e.1 in
          let f₁ = f.1 in
          cc
      go (inr (inl h)) =
          let b = follow_below log id code q f.0 (finished w) e.0 h f.1 in
          let b₂ = b.2 in
          let e₁ = e.1 in
          absurd (let z : ◌≡◌ {A = ℕ} 0 1 = cc in omega arith)
      go (inr (inr h)) =
          let b = follow_below log id code q e.0 (finished v) f.0 h e.1 in
          let b₂ = b.2 in
          let f₁ = f.1 in
          absurd (let z : ◌≡◌ {A = ℕ} 0 1 = cc in omega arith)

  -- In a checked workflow each end is found within as many moves as it has instructions.
  pub reply_within : Checked code → (v : Result) → Ends v → reply_from log id code (length code) (some (at (start q) 0)) ≡ some v
  unfolding follow
  reply_within checked v (zero, e) = absurd (let z : ◌≡◌ {A = ℕ} 0 1 = cc in omega arith)
  reply_within checked v (suc n, e) =
      let b = follow_before log id code q n (finished v) e in
      let p = follow_position code checked log id q n b.0 b.1 b.2 in
      ends_from (length code) 0 (suc n) v (ap (follow log id code q) (zero-add (suc n)) ∙ e) (let p₀ = p.0 in let p₁ = p.1 in omega arith)

  pub reply_ends : (v : Result) → reply_from log id code (length code) (some (at (start q) 0)) ≡ some v → Ends v
  unfolding follow
  reply_ends v e = from_ends (length code) 0 v e

-- what is worked out from the log stays while the log grows
pub ends_stay : (log log' : Log) (id : ℕ) (code : Code) (q : Request) (v : Result) → Grows log log' id → Ends log id code q v →
    Ends log' id code q v
ends_stay log log' id code q v g e = (e.0, follow_stays log log' id code q e.0 (finished v) g e.1)

-- of a booked request
pub logged_ends : (pack : Pack) (log : Log) (id : ℕ) (q : Request) (v : Result) → reply_logged pack log id (some q) ≡ some v →
    Ends log id (request_code pack q) q v
unfolding reply_logged
logged_ends pack log id q v e = reply_ends log id (request_code pack q) q v e

pub ends_logged : (pack : Pack) (log : Log) (id : ℕ) (q : Request) (v : Result) → Checked (request_code pack q) →
    Ends log id (request_code pack q) q v →
    reply_logged pack log id (some q) ≡ some v
unfolding reply_logged
ends_logged pack log id q v checked e = reply_within log id (request_code pack q) q checked v e

-- what is worked out within so many moves stays while the log grows
module _ (log log' : Log) (id : ℕ) (code : Code) (grows : Grows log log' id) where
  from_stays : (ahead : ℕ) (o o' : Option Stage) → ((x : Stage) → o ≡ some x → o' ≡ some x) → (v : Result) →
      reply_from log id code ahead o ≡ some v → reply_from log' id code ahead o' ≡ some v
  unfolding reply_from
  from_stays zero none o' k v e = none_some v refl e
  from_stays zero (some (at c t)) o' k v e = none_some v refl e
  from_stays zero (some (finished r)) o' k v e = rw (k (finished r) refl) e
  from_stays (suc ahead) none o' k v e = none_some v refl e
  from_stays (suc ahead) (some (at c t)) o' k v e =
      rw (k (at c t) refl)
      (from_stays ahead (onward log id code (some (at c t))) (onward log' id code (some (at c t)))
      (λ x. onward_stays log log' id code (some (at c t)) (some (at c t)) x grows (λ u h. h)) v e)
  from_stays (suc ahead) (some (finished r)) o' k v e = rw (k (finished r) refl) e

-- of a booked request, for any pack, checked or not
pub logged_stays : (pack : Pack) (log log' : Log) (id : ℕ) (q : Request) (v : Result) → Grows log log' id →
    reply_logged pack log id (some q) ≡ some v → reply_logged pack log' id (some q) ≡ some v
unfolding reply_logged
logged_stays pack log log' id q v grows e =
    from_stays log log' id (request_code pack q) grows (length (request_code pack q)) (some (at (start q) 0)) (some (at (start q) 0))
    (λ x h. h) v e
