-- What create leaves.
use Rattle.std.specs.Prelude.{List, ◌∷◌, ◌≡◌, ℕ, ◌+◌, ◌*◌, ◌/◌, ◌%◌, length, replicate}
use Rattle.questions.specs.Verdicts.{verdict_of}
use Rattle.questions.specs.Verdicts.{Verdict}
use Rattle.std.specs.Prelude.{Ok}
use Rattle.store.specs.Rows.{store_of, empty_store}
use Rattle.store.specs.Questions.{create_refusal}
use Rattle.store.specs.Sound.{Sound}

-- the bytes of a fresh store: P, the two of C, and zeros
unfoldable pub fresh_bytes : (P C : ℕ) → List ℕ
fresh_bytes P C = P ∷ C % 256 ∷ C / 256 ∷ replicate (2 * (P + 1) + 12 * ((P + 1) * C)) 0

-- Create on the buffer `store` leaves store' and answers r: accepted, every byte is that of a fresh store, which is sound and has no row;
-- refused, no byte is changed.
pub record Created (store store' : List ℕ) (P C : ℕ) (r : Verdict) : Type 0 where
  pub answer : r ≡ verdict_of (create_refusal P C (length store))
  pub bytes : r ≡ Ok tt → store' ≡ fresh_bytes P C
  pub made : r ≡ Ok tt → Sound store' × (store_of store' ≡ empty_store P C)
  pub kept : (r ≡ Ok tt → ⊥) → store' ≡ store
