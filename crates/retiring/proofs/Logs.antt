-- The log rows of smaller ids removed, one partition after the other.
use mathlib.Core.List.{List}
use mathlib.Core.Path.{◌≡◌, refl, ap, subst, ◌∙◌}
use Prim.Native.Nat.{ℕ, ◌+◌, ◌<◌}
use native.Mathlib.Decide.{dec_lt}
use native.Mathlib.Omega.{arith}
use Rattle.keys.specs.Keys.{log_key}
use Rattle.store.specs.Rows.{rows_of, rows_from}
use Rattle.store.specs.Sound.{Sound, Stored}
use Rattle.store.proofs.Search.{changed_parts, changed_cap, changed_here, changed_there}
use Rattle.retiring.specs.Retiring.{log_from, LogsFrom}

pub logs_none : (floor : ℕ) (xs : List ℕ) → Sound xs → LogsFrom floor xs xs 0
logs_none floor xs s = record { sound = s; parts = refl; cap = refl; done = λ q h. absurd (omega arith); left = λ q h. refl }

pub logs_more : (floor : ℕ) (xs ys zs : List ℕ) (p low : ℕ) → LogsFrom floor xs ys p → low ≡ log_key floor 0 →
    Stored ys zs p (rows_from low) → LogsFrom floor xs zs (p + 1)
logs_more floor xs ys zs p low g e stored =
    record {
      sound = s.sound;
      parts = changed_parts ys zs p (log_from floor) s.is ∙ g.parts;
      cap = changed_cap ys zs p (log_from floor) s.is ∙ g.cap;
      done = λ q h. done q h (dec_lt q p);
      left = λ q h. changed_there ys zs p (log_from floor) s.is q (omega arith) ∙ g.left q (omega arith);
    }
  where
    s : Stored ys zs p (log_from floor)
    s = subst (λ (k : ℕ). Stored ys zs p (rows_from k)) e stored

    done : (q : ℕ) → q < p + 1 → Dec (q < p) → rows_of zs q ≡ log_from floor (rows_of xs q)
    done q h (yes a) = changed_there ys zs p (log_from floor) s.is q (omega arith) ∙ g.done q a
    done q h (no a) =
        let q_is : q ≡ p = omega arith in
        rw q_is (changed_here ys zs p (log_from floor) s.is ∙ ap (log_from floor) (g.left p (omega arith)))
