-- The questions step by step, from what the code has in hand.
use mathlib.Core.Path.{◌≡◌, refl, sym, ◌∙◌}
use mathlib.Core.Bool.{Bool, true, false, ◌&&◌}
use mathlib.Core.List.{List}
use mathlib.Core.Option.{none}
use Prim.Native.Nat.{ℕ, ◌≤◌}
use native.Mathlib.Omega.{arith}
use borrow.Author.Tests.{leb-true, eqb-true, le-leb}
use lib.Dec.{leb, eqb}
use lib.ListN.{length}
use Rattle.std.specs.Prelude.{Ok}
use Rattle.questions.specs.Questions.{number, ask}
use Rattle.questions.specs.Verdicts.{Verdict, verdict_of}
use Rattle.questions.proofs.Chains.{accepted}
use Rattle.questions.proofs.Questions.{ask_none}
use Rattle.questions.proofs.Tests.{and_left, and_right}
use Rattle.store.specs.Layout.{parts_of, cap_of}
use Rattle.store.specs.Questions.{numbers_right, question9}
use Rattle.schedule_check.specs.Layout.{request_count, event_count, length_for}
use Rattle.schedule_check.specs.Questions.{ScheduleLaid, question22}

-- a yes to 22
pub laid : (s : List ℕ) → question22 s ≡ true → ScheduleLaid s
unfolding question22
laid s h =
    let g = leb (request_count s) 64 in
    let e = leb (event_count s) 1024 in
    let l = eqb (length s) (length_for (request_count s) (event_count s)) in
    record {
      few_requests = leb-true _ _ (and_left g (e && l) h);
      few_events = leb-true _ _ (and_left e l (and_right g (e && l) h));
      whole = eqb-true _ _ (and_right e l (and_right g (e && l) h));
    }

-- a no to 22, and the last of its tests
pub not_laid : (s : List ℕ) → (ScheduleLaid s → ⊥) → false ≡ question22 s
not_laid s f = go (question22 s) refl where
  go : (b : Bool) → question22 s ≡ b → false ≡ question22 s
  go true h = absurd (f (laid s h))
  go false h = sym h

pub laid_as : (s : List ℕ) (e : ℕ) → request_count s ≤ 64 → e ≡ event_count s → e ≤ 1024 →
    eqb (length s) (length_for (request_count s) e) ≡ question22 s
unfolding question22
laid_as s e h q h' = rw (← q, le-leb (request_count s) 64 h, le-leb e 1024 h') refl

-- 9 is put to the numbers that the code has read, behind a yes to 22
pub nine : (s : List ℕ) (u : Bool) (P C : ℕ) → ScheduleLaid s → P ≡ parts_of s → C ≡ cap_of s → u ≡ numbers_right P C → u ≡ question9 s
unfolding question9
nine s u P C l p c q = rw (le-leb 3 (length s) (omega (arith, l.whole)), ← p, ← c) q

-- a yes to 22, as it was asked
pub laid_asked : (s : List ℕ) (b : Bool) (v : Verdict) → b ≡ question22 s → v ≡ verdict_of (ask (number 22) b none) → v ≡ Ok tt →
    ScheduleLaid s
laid_asked s b v q e a = laid s (sym q ∙ (ask_none (number 22) b none (accepted v _ e a)).0)
