-- A move by the log of a request under way: what may be asked, where it leads, and the reply from there on.
use mathlib.Core.List.{List}
use mathlib.Core.Option.{Option, none, some}
use mathlib.Core.Path.{◌≡◌, refl, sym, ◌∙◌, ap, subst}
use Prim.Native.Nat.{ℕ, zero, suc, ◌+◌, ◌-◌, ◌≤◌, ◌<◌}
use native.Mathlib.Omega.{arith}
use lib.ListN.{length}
use Rattle.rules.specs.Instructions.{Code, Place, BEGIN, instruction_at}
use Rattle.rules.specs.Blocks.{Result, yields}
use Rattle.rules.specs.Courses.{Course, going, passed, next_of}
use Rattle.rules.specs.Store.{Log, found}
use Rattle.rules.specs.Logged.{at, behind, by_next, onward, reply_from}
use Rattle.rules.specs.Logged as Logged
use Rattle.rules.proofs.Positions.{does_begins, forward}
use Rattle.code.specs.Meaning.{code_of}
use Rattle.code.proofs.Decoded.{length_code}
use Rattle.code.proofs.Right.{right_checked, outside_at}
use Rattle.store.specs.Layout.{parts_of}
use Rattle.store.specs.Sound.{Sound}
use Rattle.instruction.specs.declared.Spot.{Spot}
use Rattle.instruction.specs.Step.{place_of}
use Rattle.course.specs.declared.Next.{Next}
use Rattle.course.specs.declared.Next.TheVariants.{Goes, Does, Says}
use Rattle.course.specs.declared.Upcoming.{Upcoming}
use Rattle.course.specs.Next.{next_at, next_in, StandsOutside}
use Rattle.std.specs.Prelude as Code
use Rattle.std.specs.Prelude.{Some, None}
use Rattle.logged.specs.declared.Stage.{Stage}
use Rattle.logged.specs.declared.Stage.TheVariants.{UnderWay, Finished}
use Rattle.logged.specs.Logged.{stage_of, Followed, StandsAt}

-- where the log leads no further there is no reply, a reply stays, and who is under way when the moves are used up has none
module _ (log : Log) (id : ℕ) (code : Code) where
  stays_none : (ahead : ℕ) → reply_from log id code ahead none ≡ none
  unfolding Logged.reply_from
  stays_none zero = refl
  stays_none (suc ahead) = refl

  stays_finished : (r : Result) (ahead : ℕ) → reply_from log id code ahead (some (Logged.finished r)) ≡ some r
  unfolding Logged.reply_from
  stays_finished r zero = refl
  stays_finished r (suc ahead) = refl

  pub used_up : (n moves : ℕ) → n ≤ moves → (c : Course) (t : ℕ) → reply_from log id code (n - moves) (some (at c t)) ≡ none
  unfolding Logged.reply_from
  used_up n moves l c t = let d : n - moves ≡ 0 = omega arith in rw d refl

module _ (ops ws store : List ℕ) (f : Followed ops ws store) (from : Spot) (t : ℕ) (u : StandsAt ops ws from t) where
  abbrev code : Code
  code = code_of ops ws

  abbrev here : Course
  here = going (place_of from)

  -- what it does next may be asked
  pub may_ask : StandsOutside ops ws from
  may_ask =
      record {
        right = f.right;
        in_code = u.in_code;
        outside = outside_at ops ws f.right from.position u.in_code u.side;
      }

  -- ── the code's answer to what it does next ──
  module _ (x : Upcoming) (e : next_in code x ≡ next_of code here) where
    abbrev place : Place
    place = place_of x.place

    does_next : (n : Next) → x.next ≡ n → next_at code place n ≡ next_of code here
    does_next n q = ap (next_at code place) (sym q) ∙ e

    module _ (log : Log) (id : ℕ) where
      -- one instruction, or the reply
      pub goes_on : x.next ≡ Goes → some (at (going place) t) ≡ onward log id code (some (at here t))
      goes_on q = ap (by_next log id t) (does_next Goes q)

      pub replies : (v : ℕ) → x.next ≡ Says v → some (Logged.finished (yields v)) ≡ onward log id code (some (at here t))
      replies v q = ap (by_next log id t) (does_next (Says v) q)

    -- a block of a partition
    module _ (p : ℕ) (q : x.next ≡ Does p) where
      begins : (place ≡ place_of from) × (instruction_at code place.position ≡ BEGIN p)
      begins = does_begins code here place p _ (sym (does_next (Does p) q))

      in_ops : x.place.position < length ops
      in_ops = subst (λ (z : Place). z.position < length ops) (sym begins.0) u.in_code

      -- its log row may be sought
      pub may_seek : Sound store × (p < parts_of store)
      may_seek = (f.sound, f.opens x.place.position p in_ops begins.1)

      -- it opens where the request stands, and step may rise
      pub may_pass : (x.place.position < length ops) × (t < 65535)
      may_pass = (in_ops, omega (arith, u.in_code, u.few_steps, f.short))

      pub passes : (log : Log) (id : ℕ) → behind (passed code place) t (found log p id t) ≡ onward log id code (some (at here t))
      passes log id = ap (by_next log id t) (does_next (Does p) q)

  -- ── behind the move ──
  module _ (log : Log) (id : ℕ) (s : Code.Option Stage) (e : stage_of s ≡ onward log id code (some (at here t))) where
    leads : (l : Code.Option Stage) → s ≡ l → stage_of l ≡ onward log id code (some (at here t))
    leads l q = ap stage_of (sym q) ∙ e

    -- the request is under way further on
    pub stands_further : (to : Spot) (next : ℕ) → s ≡ Some (UnderWay to next) → StandsAt ops ws to next
    stands_further to next q =
        let n = length_code ops ws in
        let g = forward code (right_checked ops ws f.right (omega (arith, u.in_code))) here (omega (arith, u.in_code, n)) u.side
        log id t (going (place_of to)) next (next_of code here) refl (sym (leads _ q)) in
        record {
          in_code = omega (arith, g.0.in_code, n);
          side = g.0.side;
          few_steps = omega (arith, g.0.further, g.1, u.few_steps);
        }

    -- the reply to which the log leads from here on, of which one move is made
    module _ (n moves : ℕ) (l : moves < n) where
      abbrev from_here : Option Result
      from_here = reply_from log id code (n - moves) (some (at here t))

      one_less : from_here ≡ reply_from log id code (n - (moves + 1)) (onward log id code (some (at here t)))
      unfolding Logged.reply_from
      one_less = let d : n - moves ≡ suc (n - (moves + 1)) = omega arith in rw d refl

      pub still_sought : (to : Spot) (next : ℕ) → s ≡ Some (UnderWay to next) →
          from_here ≡ reply_from log id code (n - (moves + 1)) (some (at (going (place_of to)) next))
      still_sought to next q = one_less ∙ ap (reply_from log id code (n - (moves + 1))) (sym (leads _ q))

      pub no_further : s ≡ None → from_here ≡ none
      no_further q =
          one_less ∙ ap (reply_from log id code (n - (moves + 1))) (sym (leads _ q)) ∙ stays_none log id code (n - (moves + 1))

      pub comes_to : (v : ℕ) → s ≡ Some (Finished v) → from_here ≡ some (yields v)
      comes_to v q =
          one_less ∙ ap (reply_from log id code (n - (moves + 1))) (sym (leads _ q))
          ∙ stays_finished log id code (yields v) (n - (moves + 1))
