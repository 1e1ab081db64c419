-- What the type of a record says of its words: there are twelve, each below 2 ^ 32, and position and step number are below 2 ^ 16.
use mathlib.Core.Bool.{Bool, true, false}
use mathlib.Core.Path.{◌≡◌, ap}
use mathlib.Core.List.{List, [], ◌∷◌}
use Prim.Native.Nat.{ℕ, zero, suc, ◌<◌, ◌^◌}
use native.Mathlib.Omega.{arith}
use mir.Val.{Val}
use denote.Laws.{Is}
use denote.Shadow.{shadow}
use denote.Array.{Array, each}
use denote.Builtin.{u32}
use denote.Struct.Laws as LL
use lib.ListN.{length, get_or}
use Rattle.questions.specs.Basics.{if◌then◌otherwise◌}
use Rattle.agents.specs.declared.Agent.{Agent}
use Rattle.agents.specs.Slots.{agent_at}
use Rattle.agents.proofs.Typed.{eight_records, eight_registers}
use Rattle.agents.specs.contracts.Agent as T
use Rattle.agents.proofs.Agent.TheLaws as T'
use Rattle.slots.specs.Records.{words_of}

-- a record of its type
pub record Fitting (a : Agent) : Type 0 where
  pub twelve : length (words_of a) ≡ 12
  pub small : (j : ℕ) → get_or (words_of a) j 0 < 256 ^ 4
  pub position : a.position < 2 ^ 16
  pub step : a.step < 2 ^ 16

registers_small : (l : List ℕ) (us : List Val) →
    shadow (each ℕ u32.own_val l us)
    → (j : ℕ) → get_or l j 0 < 256 ^ 4
registers_small [] us s j = omega arith
registers_small (x ∷ l) [] s j = absurd s
registers_small (x ∷ l) (u ∷ us) s zero = s.0.1
registers_small (x ∷ l) (u ∷ us) s (suc j) = registers_small l us s.1 j

bit : (b : Bool) → if◌then◌otherwise◌ b 1 0 < 256 ^ 4
bit true = omega arith
bit false = omega arith

fitting : (a : Agent) (vs : List Val) → length a.registers ≡ 8 → Is T.the_row a vs → Fitting a
unfolding words_of
fitting a vs eight is =
    let owed = LL.owed T.the_type T'.the_laws a vs is in
    record {
      twelve = ap (λ n. suc (suc (suc (suc n)))) eight;
      small = small owed.1.0.1 owed.1.1.0.1 owed.1.1.1.0.1 (registers_small a.registers _ owed.1.1.1.1.0.1.1);
      position = owed.1.1.0.1;
      step = owed.1.1.1.0.1;
    }
  where
    small : a.id < 2 ^ 32 → a.position < 2 ^ 16 → a.step < 2 ^ 16 → ((j : ℕ) → get_or a.registers j 0 < 256 ^ 4) → (j : ℕ) →
        get_or (words_of a) j 0 < 256 ^ 4
    small id p s rs zero = bit a.in_use
    small id p s rs (suc zero) = id
    small id p s rs (suc (suc zero)) = omega arith
    small id p s rs (suc (suc (suc zero))) = omega arith
    small id p s rs (suc (suc (suc (suc j)))) = rs j

each_fitting : (rs : List Agent) (us : List Val) → shadow (each Agent (T.the_row).own_val rs us) → (i : ℕ) → i < length rs →
    length (agent_at rs i).registers ≡ 8
    → Fitting (agent_at rs i)
each_fitting [] us s i h e = absurd (omega arith)
each_fitting (r ∷ rs) [] s i h e = absurd s
each_fitting (r ∷ rs) (u ∷ us) s zero h e = fitting r (u ∷ []) e s.0
each_fitting (r ∷ rs) (u ∷ us) s (suc i) h e = each_fitting rs us s.1 i (omega arith) e

-- each of eight records
pub all_fitting : (rs : List Agent) (vs : List Val) → Is (Array T.the_row 8) rs vs → (i : ℕ) → i < 8 → Fitting (agent_at rs i)
all_fitting rs vs is i h = each_fitting rs is.0 is.1.1 i (omega (arith, eight_records rs vs is)) (eight_registers rs vs is i h)
