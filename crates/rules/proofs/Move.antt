-- The two blocks of MOVE: where an agent of it stands before each, what each puts, and that a request with a reply has both logged.
use mathlib.Core.Path.{◌≡◌, refl, sym, ◌∙◌, ap, subst}
use mathlib.Core.Logic.{◌⊎◌, inl, inr}
use mathlib.Core.List.{[], ◌∷◌}
use mathlib.Core.Option.{Option, none, some, get_or}
use Prim.Native.Nat.{ℕ, zero, suc, ◌+◌, ◌-◌, ◌%◌, ◌^◌, ◌<◌}
use native.Mathlib.Omega.{arith}
use Rattle.questions.specs.Basics.{update}
use Rattle.rules.specs.Instructions.{Place, act, act_at}
use Rattle.rules.specs.Move.{MOVE}
use Rattle.rules.specs.Blocks.{Table, Result, yields, within, run_from, run_block, after_block}
use Rattle.rules.specs.Courses.{Course, does, says, passed, next_by, next_of, going}
use Rattle.rules.specs.Store.{Request, Log, found}
use Rattle.rules.specs.Logged.{start, Stage, at, finished, behind, follow}
use Rattle.questions.proofs.Updates.{none_some, le_cases}
use Rattle.rules.proofs.Follow.{follow_before, follow_below, follow_next}

module _ (log : Log) (id workflow a0 a1 a2 a3 : ℕ) where
  abbrev asked : Request
  asked = record { workflow = workflow; arguments = a0 ∷ a1 ∷ a2 ∷ a3 ∷ [] }

  -- before the first block: register 4 has the key
  abbrev before_first : Place
  before_first = record { position = 1; registers = a0 ∷ a1 ∷ a2 ∷ a3 ∷ a0 ∷ 0 ∷ 0 ∷ 0 ∷ [] }

  -- before the second: register 0 has the first one's result
  abbrev before_second : (result : ℕ) → Place
  before_second v = record { position = 6; registers = v ∷ a1 ∷ a2 ∷ a3 ∷ a0 ∷ 0 ∷ 0 ∷ 0 ∷ [] }

  -- The block that opens at a place, in a partition and as a step, is the first one, which takes the amount from the key in argument 0; or
  -- the second one, of a request whose first is logged, which adds the amount to the key in argument 1.
  pub data InMove (from : Place) (p t : ℕ) : Type 0 where
    takes : p ≡ 0 → t ≡ 0 →
        ((T : Table) → (run_block MOVE from T).table ≡ update T a0 (some ((get_or (T a0) 0 + 2 ^ 32 - a2) % 2 ^ 32))) → InMove from p t
    adds : p ≡ 1 → t ≡ 1 → (r : Result) → found log 0 id 0 ≡ some r →
        ((T : Table) → (run_block MOVE from T).table ≡ update T a1 (some ((get_or (T a1) 0 + a2) % 2 ^ 32))) → InMove from p t

  takes_amount : (T : Table) → (run_block MOVE before_first T).table ≡ update T a0 (some ((get_or (T a0) 0 + 2 ^ 32 - a2) % 2 ^ 32))
  unfolding run_block run_from within act_at act
  takes_amount T = refl

  adds_amount : (v : ℕ) (T : Table) → (run_block MOVE (before_second v) T).table ≡ update T a1 (some ((get_or (T a1) 0 + a2) % 2 ^ 32))
  unfolding run_block run_from within act_at act
  adds_amount v T = refl

  abbrev stage : (moves : ℕ) → Option Stage
  stage n = follow log id MOVE asked n

  -- how far the log leads: through the first block, if that is logged, and through the second, if that is too
  after_1 : stage 1 ≡ some (at (going before_first) 0)
  unfolding follow next_of next_by act_at act
  after_1 = refl

  after_2 : stage 2 ≡ behind (passed MOVE before_first) 0 (found log 0 id 0)
  unfolding follow next_of next_by act_at act
  after_2 = refl

  after_3 : (v : ℕ) → found log 0 id 0 ≡ some (yields v) → stage 3 ≡ behind (passed MOVE (before_second v)) 1 (found log 1 id 1)
  unfolding follow next_of next_by act_at act behind passed after_block
  after_3 v e = rw e refl

  -- both blocks have their log row
  abbrev BothLogged : Type 0
  BothLogged = (v : ℕ) × (w : ℕ) × (found log 0 id 0 ≡ some (yields v)) × (found log 1 id 1 ≡ some (yields w))

  -- who has come to three moves has both in the log
  both_logged : (c : Course) (t : ℕ) → stage 3 ≡ some (at c t) → BothLogged
  unfolding behind
  both_logged c t e = go (found log 0 id 0) (found log 1 id 1) refl refl
    where
      go : (o u : Option Result) → found log 0 id 0 ≡ o → found log 1 id 1 ≡ u → BothLogged
      go none u f g =
          let b = follow_before log id MOVE asked 2 (at c t) e in
          none_some (at b.0 b.1) (after_2 ∙ ap (behind (passed MOVE before_first) 0) f) b.2
      go (some (yields v)) none f g = none_some (at c t) (after_3 v f ∙ ap (behind (passed MOVE (before_second v)) 1) g) e
      go (some (yields v)) (some (yields w)) f g = (v, w, f, g)

  -- where it replies
  abbrev before_reply : (result : ℕ) → Place
  before_reply w = record { position = 11; registers = w ∷ a1 ∷ a2 ∷ a3 ∷ a0 ∷ 0 ∷ 0 ∷ 0 ∷ [] }

  at_reply : (v w : ℕ) → found log 0 id 0 ≡ some (yields v) → found log 1 id 1 ≡ some (yields w) →
      stage 3 ≡ some (at (going (before_reply w)) 2)
  unfolding behind passed after_block
  at_reply v w f g = after_3 v f ∙ ap (behind (passed MOVE (before_second v)) 1) g

  -- and then it has come to its end
  ends : (c : Course) (t : ℕ) → stage 4 ≡ some (at c t) → ⊥
  unfolding next_of next_by act_at act
  ends c t e =
      let b = follow_before log id MOVE asked 3 (at c t) e in
      let l = both_logged b.0 b.1 b.2 in
      let over = follow_next log id MOVE asked 3 (going (before_reply l.1)) 2 (says (yields l.1)) (some (finished (yields l.1)))
      (at_reply l.0 l.1 l.2 l.3) refl refl in
      absurd (let z : ◌≡◌ {A = ℕ} 0 1 = cc in omega arith)

  -- an agent that does a block next, by how many moves the log has led it
  module _ (c : Course) (t : ℕ) (from : Place) (p : ℕ) (onto : Result → Course) (next : next_of MOVE c ≡ does from p onto) where
    at_start : stage 0 ≡ some (at c t) → InMove from p t
    unfolding follow next_of next_by act_at act
    at_start e =
        let here : start asked ≡ c = cc in
        let moves_on = ap (next_of MOVE) here ∙ next in
        absurd (let z : ◌≡◌ {A = ℕ} 0 1 = cc in omega arith)

    at_first : some (at (going before_first) 0) ≡ some (at c t) → InMove from p t
    unfolding next_of next_by act_at act
    at_first e =
        let here : going before_first ≡ c = cc in
        let step : 0 ≡ t = cc in
        let opens : does before_first 0 (passed MOVE before_first) ≡ does from p onto = ap (next_of MOVE) here ∙ next in
        let place : before_first ≡ from = cc in
        let part : 0 ≡ p = cc in
        takes (sym part) (sym step)
        (λ T. subst (λ (x : Place). (run_block MOVE x T).table ≡ update T a0 (some ((get_or (T a0) 0 + 2 ^ 32 - a2) % 2 ^ 32))) place
        (takes_amount T))

    at_second : (o : Option Result) → found log 0 id 0 ≡ o → behind (passed MOVE before_first) 0 o ≡ some (at c t) → InMove from p t
    unfolding next_of next_by act_at act behind passed after_block
    at_second none f e = none_some (at c t) refl e
    at_second (some (yields v)) f e =
        let here : going (before_second v) ≡ c = cc in
        let step : 1 ≡ t = cc in
        let opens : does (before_second v) 1 (passed MOVE (before_second v)) ≡ does from p onto = ap (next_of MOVE) here ∙ next in
        let place : before_second v ≡ from = cc in
        let part : 1 ≡ p = cc in
        adds (sym part) (sym step) (yields v) f
        (λ T. subst (λ (x : Place). (run_block MOVE x T).table ≡ update T a1 (some ((get_or (T a1) 0 + a2) % 2 ^ 32))) place
        (adds_amount v T))

    -- behind the second block it replies
    at_last : stage 3 ≡ some (at c t) → InMove from p t
    unfolding next_of next_by act_at act
    at_last e =
        let l = both_logged c t e in
        let there = sym (at_reply l.0 l.1 l.2 l.3) ∙ e in
        let here : going (before_reply l.1) ≡ c = cc in
        let replies = ap (next_of MOVE) here ∙ next in
        absurd (let z : ◌≡◌ {A = ℕ} 0 1 = cc in omega arith)

  pub in_move : (moves : ℕ) (c : Course) (t : ℕ) → stage moves ≡ some (at c t) → (from : Place) (p : ℕ) (onto : Result → Course) →
      next_of MOVE c ≡ does from p onto → InMove from p t
  in_move zero c t e from p onto next = at_start c t from p onto next e
  in_move (suc zero) c t e from p onto next = at_first c t from p onto next (sym after_1 ∙ e)
  in_move (suc (suc zero)) c t e from p onto next = at_second c t from p onto next (found log 0 id 0) refl (sym after_2 ∙ e)
  in_move (suc (suc (suc zero))) c t e from p onto next = at_last c t from p onto next e
  in_move (suc (suc (suc (suc n)))) c t e from p onto next = absurd (go (le_cases 4 _ (omega arith)))
    where
      go : (4 ≡ suc (suc (suc (suc n)))) ⊎ (4 < suc (suc (suc (suc n)))) → ⊥
      go (inl h) = ends c t (subst (λ k. stage k ≡ some (at c t)) (sym h) e)
      go (inr l) = let b = follow_below log id MOVE asked (suc (suc (suc (suc n)))) (at c t) 4 l e in ends b.0 b.1 b.2

  -- behind a block there is no reply yet
  no_reply : (onto : Result → Course) (t : ℕ) (o : Option Result) (r : Result) → behind onto t o ≡ some (finished r) → ⊥
  unfolding behind
  no_reply onto t none r e = none_some (finished r) refl e
  no_reply onto t (some v) r e = absurd (let z : ◌≡◌ {A = ℕ} 0 1 = cc in omega arith)

  -- nor behind both, by what the first one's log row says
  not_at_three : (r : Result) → stage 3 ≡ some (finished r) → (o : Option Result) → found log 0 id 0 ≡ o → ⊥
  unfolding behind
  not_at_three r e none f =
      let b = follow_before log id MOVE asked 2 (finished r) e in
      none_some (at b.0 b.1) (after_2 ∙ ap (behind (passed MOVE before_first) 0) f) b.2
  not_at_three r e (some (yields v)) f = no_reply (passed MOVE (before_second v)) 1 (found log 1 id 1) r (sym (after_3 v f) ∙ e)

  -- who has come to the reply has both in the log
  pub replied_both : (moves : ℕ) (r : Result) → stage moves ≡ some (finished r) → BothLogged
  unfolding follow
  replied_both zero r e = absurd (let z : ◌≡◌ {A = ℕ} 0 1 = cc in omega arith)
  replied_both (suc zero) r e = absurd (let h = sym after_1 ∙ e in let z : ◌≡◌ {A = ℕ} 0 1 = cc in omega arith)
  replied_both (suc (suc zero)) r e = absurd (no_reply (passed MOVE before_first) 0 (found log 0 id 0) r (sym after_2 ∙ e))
  replied_both (suc (suc (suc zero))) r e = absurd (not_at_three r e (found log 0 id 0) refl)
  replied_both (suc (suc (suc (suc n)))) r e =
      let b = follow_below log id MOVE asked (suc (suc (suc (suc n)))) (finished r) 3 (omega arith) e in
      both_logged b.0 b.1 b.2
