-- What the type of a record says of it: eight registers; and of an array of records: eight of them, each of its type.
use mathlib.Core.Path.{◌≡◌, refl, ap}
use mathlib.Core.List.{List, [], ◌∷◌, map}
use Prim.Native.Nat.{ℕ, zero, suc, ◌<◌}
use native.Mathlib.Omega.{arith}
use mir.Val.{Val}
use denote.Laws.{Is}
use denote.Shadow.{shadow}
use denote.Array.{Array, each}
use denote.Struct.Laws as LL
use lib.ListN.{length}
use Rattle.agents.specs.declared.Agent.{Agent}
use Rattle.agents.specs.Slots.{agent_at}
use Rattle.agents.specs.contracts.Agent as T
use Rattle.agents.proofs.Agent.TheLaws as T'

pub eight_records : (rs : List Agent) (vs : List Val) → Is (Array T.the_row 8) rs vs → length rs ≡ 8
eight_records rs vs is = is.1.0.1

mapped : (l : List ℕ) → length (map {A = ℕ} {B = ℕ} (λ v. v) l) ≡ length l
mapped [] = refl
mapped (x ∷ l) = ap suc (mapped l)

registers_eight : (a : Agent) (vs : List Val) → Is T.the_row a vs → length a.registers ≡ 8
registers_eight a vs is = (LL.owed T.the_type T'.the_laws a vs is).1.1.1.1.0.1.0.1

each_eight : (rs : List Agent) (us : List Val) → shadow (each Agent (T.the_row).own_val rs us) → (i : ℕ) → i < length rs →
    length (agent_at rs i).registers ≡ 8
each_eight [] [] s i h = absurd (omega arith)
each_eight [] (u ∷ us) s i h = absurd s
each_eight (r ∷ rs) [] s i h = absurd s
each_eight (r ∷ rs) (u ∷ us) s zero h = registers_eight r (u ∷ []) s.0
each_eight (r ∷ rs) (u ∷ us) s (suc i) h = each_eight rs us s.1 i (omega arith)

pub eight_registers : (rs : List Agent) (vs : List Val) → Is (Array T.the_row 8) rs vs → (i : ℕ) → i < 8 →
    length (agent_at rs i).registers ≡ 8
eight_registers rs vs is i h = each_eight rs is.0 is.1.1 i (omega (arith, eight_records rs vs is))
