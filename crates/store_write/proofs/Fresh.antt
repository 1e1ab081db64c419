-- A fresh store: its bytes, that it is sound, and that it has no row.
use mathlib.Core.Bool.{true}
use mathlib.Core.List.{List, []}
use mathlib.Core.Option.{none}
use mathlib.Core.Path.{◌≡◌, refl, sym, ap₂, ◌∙◌, fun_ext}
use Prim.Native.Nat.{ℕ, suc, ◌+◌, ◌-◌, ◌*◌, ◌/◌, ◌%◌, ◌≤◌, ◌<◌}
use native.Mathlib.Omega.{arith}
use native.Mathlib.Decide.{dec_lt, dec_le}
use borrow.Author.Tests.{eqb-true}
use lib.Dec.{eqb}
use lib.ListN.{length, get_or, set, replicate, length-replicate, get_or-replicate, get_or-eq_default}
use Rattle.words.specs.Words as Words
use Rattle.words.specs.Words.{le, put, fields}
use Rattle.words.proofs.Laws.{le_zero}
use Rattle.store.specs.Layout.{parts_of, cap_of, store_length, key_at, value_at, used_of}
use Rattle.store.specs.Rows.{pairs, keys_in, rows_of, store_of, empty_store}
use Rattle.store.specs.Questions.{numbers_right, keys_apart, rising, keys_ok, create_refusal}
use Rattle.store.specs.Sound.{KeysGood, Sound}
use Rattle.store.specs.Created.{fresh_bytes, Created}
use Rattle.questions.specs.Questions.{number}
use Rattle.std.specs.Prelude.{Ok}
use Rattle.questions.specs.Verdicts.{Verdict, verdict_of}
use Rattle.questions.proofs.Chains.{accepted}
use Rattle.questions.proofs.Questions.{ask_none}
use Rattle.store.proofs.Bytes.{used_here, used_past}
use Rattle.store.proofs.Sound.{numbers_mean}

-- n zero bytes
abbrev zero_bytes : ℕ → List ℕ
zero_bytes n = replicate n 0

zeros : (n j : ℕ) → get_or (zero_bytes n) j 0 ≡ 0
zeros n j = go (dec_lt j n)
  where
    go : Dec (j < n) → get_or (zero_bytes n) j 0 ≡ 0
    go (yes l) = get_or-replicate {A = ℕ} n j 0 0 l
    go (no h) = get_or-eq_default {A = ℕ} (zero_bytes n) 0 {n = j} (omega (arith, length-replicate {A = ℕ} n 0))

-- what the code writes: zeros, then P, then C
pub fresh_written : (P C n : ℕ) → n ≡ store_length P C → C ≤ 256 → put 2 (set (replicate n 0) 0 P) 1 C ≡ fresh_bytes P C
unfolding Words.put fresh_bytes
fresh_written P C n e h =
    let z : n ≡ suc (suc (suc (2 * (P + 1) + 12 * ((P + 1) * C)))) = omega arith in
    let high : C / 256 % 256 ≡ C / 256 = omega arith in
    rw (z, high) refl

module _ (P C : ℕ) where
  long : length (fresh_bytes P C) ≡ store_length P C
  unfolding fresh_bytes
  long = let r = length-replicate {A = ℕ} (2 * (P + 1) + 12 * ((P + 1) * C)) 0 in omega arith

  fresh_parts : parts_of (fresh_bytes P C) ≡ P
  unfolding Words.le fresh_bytes
  fresh_parts = omega arith

  fresh_cap : cap_of (fresh_bytes P C) ≡ C
  unfolding Words.le fresh_bytes
  fresh_cap = omega arith

  -- every byte behind P and C is zero
  behind : (j : ℕ) → 3 ≤ j → get_or (fresh_bytes P C) j 0 ≡ 0
  unfolding fresh_bytes
  behind j h =
      let e : j ≡ suc (suc (suc (j - 3))) = omega arith in
      rw e (zeros (2 * (P + 1) + 12 * ((P + 1) * C)) (j - 3))

  fresh_zero : (w at : ℕ) → 3 ≤ at → le w (fresh_bytes P C) at ≡ 0
  fresh_zero w at h = le_zero w (fresh_bytes P C) at (λ j l. behind j (omega arith))

  fresh_unused : (p : ℕ) → used_of (fresh_bytes P C) p ≡ 0
  fresh_unused p = go (dec_le p (parts_of (fresh_bytes P C)))
    where
      go : Dec (p ≤ parts_of (fresh_bytes P C)) → used_of (fresh_bytes P C) p ≡ 0
      go (yes l) = used_here (fresh_bytes P C) p l ∙ fresh_zero 2 _ (omega arith)
      go (no n) = used_past (fresh_bytes P C) p (omega arith)

  no_rows : (p : ℕ) → rows_of (fresh_bytes P C) p ≡ []
  unfolding rows_of pairs Words.fields
  no_rows p = rw (fresh_unused p) refl

  fresh_store_lem : store_of (fresh_bytes P C) ≡ empty_store P C
  fresh_store_lem = λ i. record {
    parts = fresh_parts i;
    cap = fresh_cap i;
    rows = fun_ext {f = rows_of (fresh_bytes P C)} {g = λ p. []} no_rows i;
  }

  fresh_sound : numbers_right P C ≡ true → Sound (fresh_bytes P C)
  unfolding KeysGood keys_in keys_ok keys_apart rising
  fresh_sound ok =
      let n = numbers_mean P C ok in
      record {
        formed =
            record {
              shape =
                  record {
                    parts_low = omega (arith, fresh_parts);
                    parts_high = omega (arith, fresh_parts);
                    cap_low = omega (arith, fresh_cap);
                    cap_high = omega (arith, fresh_cap);
                    size = long ∙ sym (ap₂ store_length fresh_parts fresh_cap);
                  };
              filled = λ p l.
                  record {
                    fit = omega (arith, fresh_unused p);
                    blank_keys = λ i a b. fresh_zero 8 (key_at (fresh_bytes P C) p i) (omega arith);
                    blank_values = λ i a b. fresh_zero 4 (value_at (fresh_bytes P C) p i) (omega arith);
                  };
            };
        keys = λ p l. rw (no_rows p) refl;
      }

-- ---- what create leaves, at each of its answers; v is the verdict on what it was given

module _ (xs : List ℕ) (P C : ℕ) (v : Verdict) (e : v ≡ verdict_of (create_refusal P C (length xs))) where
  pub created_kept : (v ≡ Ok tt → ⊥) → Created xs xs P C v
  created_kept never = record { answer = e; bytes = λ q. absurd (never q); made = λ q. absurd (never q); kept = λ q. refl }

  pub create_right : v ≡ Ok tt → (numbers_right P C ≡ true) × (length xs ≡ store_length P C)
  unfolding create_refusal
  create_right a =
      let n = ask_none (number 9) (numbers_right P C) _ (accepted v _ e a) in
      (n.0, eqb-true _ _ (ask_none (number 10) (eqb (length xs) (store_length P C)) none n.1).0)

  pub created_fresh : v ≡ Ok tt → (ys : List ℕ) → ys ≡ fresh_bytes P C → Created xs ys P C v
  created_fresh a ys b =
      record {
        answer = e;
        bytes = λ q. b;
        made = λ q. rw b (fresh_sound P C (create_right a).0, fresh_store_lem P C);
        kept = λ q. absurd (q a);
      }
