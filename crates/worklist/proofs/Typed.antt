-- What the type of a worklist says of it: sixteen places.
use mathlib.Core.Path.{◌≡◌}
use mathlib.Core.List.{List, [], ◌∷◌}
use Prim.Native.Nat.{ℕ, zero, suc, ◌^◌, ◌<◌}
use native.Mathlib.Omega.{arith}
use mir.Val.{Val}
use denote.Laws.{Is}
use denote.Shadow.{shadow}
use denote.Array.{each}
use denote.Struct.Laws as LL
use lib.ListN.{length}
use Rattle.worklist.specs.declared.Entry.{Entry}
use Rattle.worklist.specs.declared.Worklist.{Worklist}
use Rattle.worklist.specs.Worklist.{place_at}
use Rattle.worklist.specs.contracts.Entry as E
use Rattle.worklist.specs.contracts.Worklist as T
use Rattle.worklist.proofs.Worklist.TheLaws as T'
use Rattle.worklist.proofs.Entry.TheLaws as E'

pub sixteen_places : (l : Worklist) (vs : List Val) → Is T.the_row l vs → length l.places ≡ 16
sixteen_places l vs is = (LL.owed T.the_type T'.the_laws l vs is).1.0.1.0.1

-- id and mark of an entry have 32 bits
abbrev pub Small : Entry → Type 0
Small e = (e.id < 256 ^ 4) × (e.mark < 256 ^ 4)

each_small : (es : List Entry) (us : List Val) →
    shadow (each Entry (E.the_row).own_val es us) →
    (k : ℕ) → k < length es → Small (place_at es k)
each_small [] us s k h = absurd (omega arith)
each_small (e ∷ es) [] s k h = absurd s
each_small (e ∷ es) (u ∷ us) s zero h = let o = LL.owed E.the_type E'.the_laws e (u ∷ []) s.0 in (o.0.1, o.1.0.1)
each_small (e ∷ es) (u ∷ us) s (suc k) h = each_small es us s.1 k (omega arith)

pub count_small : (l : Worklist) (vs : List Val) → Is T.the_row l vs → l.count < 256 ^ 4
count_small l vs is = (LL.owed T.the_type T'.the_laws l vs is).0.1

pub entries_small : (l : Worklist) (vs : List Val) → Is T.the_row l vs → (k : ℕ) → k < 16 → Small (place_at l.places k)
entries_small l vs is k h =
    each_small l.places _ (LL.owed T.the_type T'.the_laws l vs is).1.0.1.1 k (omega (arith, sixteen_places l vs is))
