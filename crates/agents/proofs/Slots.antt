-- Records and slots, each from the other.
use mathlib.Core.Bool.{Bool, true, false}
use mathlib.Core.List.{List, []}
use mathlib.Core.Logic.{◌⊎◌, inl, inr}
use mathlib.Core.Option.{Option, none, some}
use mathlib.Core.Path.{◌≡◌, refl, sym, ◌∙◌, ap, fun_ext}
use Prim.Native.Nat.{ℕ, zero, suc, ◌+◌, ◌≤◌, ◌<◌}
use native.Mathlib.Nat.{add-zero}
use native.Mathlib.Omega.{arith}
use native.Mathlib.Decide.{dec_lt}
use lib.ListN.{length, set, replicate, length-set, get_or-eq_default}
use lib.Seq.{ext_get_or, get_or-set_same, get_or-set_other}
use Rattle.questions.specs.Basics.{if◌then◌otherwise◌, update}
use Rattle.rules.specs.Calls as Rules
use Rattle.questions.proofs.Updates.{update_cases}
use Rattle.agents.specs.declared.Agent.{Agent}
use Rattle.agents.specs.Slots.{no_agent, agent_at, held, agent_of, record_of, slots_of, records_from, records_of, Whole, Tidy}

abbrev past : Agent
past = record { in_use = false; id = 0; position = 0; step = 0; registers = [] }

pub record_back : (o : Option Rules.Agent) → agent_of (record_of o) ≡ o
unfolding agent_of record_of
record_back none = refl
record_back (some a) = refl

pub agent_back : (r : Agent) → Whole r → record_of (agent_of r) ≡ r
unfolding agent_of record_of
agent_back r (inl e) = go r.in_use refl e
  where
    go : (b : Bool) → r.in_use ≡ b → b ≡ true → record_of (if◌then◌otherwise◌ b (some (held r)) none) ≡ r
    go true q e = λ i. record { in_use = sym q i; id = r.id; position = r.position; step = r.step; registers = r.registers }
    go false q e = absurd (let z : ◌≡◌ {A = ℕ} 0 1 = cc in omega arith)
agent_back r (inr e) = rw e refl

length_from : (f : ℕ → Option Rules.Agent) (n i : ℕ) → length (records_from f n i) ≡ n
unfolding records_from
length_from f zero i = refl
length_from f (suc n) i = ap suc (length_from f n (suc i))

record_from : (f : ℕ → Option Rules.Agent) (n i k : ℕ) → k < n → agent_at (records_from f n i) k ≡ record_of (f (i + k))
unfolding records_from
record_from f zero i k h = absurd (omega arith)
record_from f (suc n) i zero h = ap (λ j. record_of (f j)) (sym (add-zero i))
record_from f (suc n) i (suc k) h = record_from f n (suc i) k (omega arith) ∙ ap (λ j. record_of (f j)) (omega arith)

length_records : (f : ℕ → Option Rules.Agent) → length (records_of f) ≡ 8
length_records f = length_from f 8 0

pub record_at : (f : ℕ → Option Rules.Agent) (i : ℕ) → i < 8 → agent_at (records_of f) i ≡ record_of (f i)
record_at f i h = record_from f 8 0 i h ∙ ap (λ j. record_of (f j)) (omega arith)

-- the slots of the records of slots, where there are none from the eighth on
pub slots_back : (f : ℕ → Option Rules.Agent) → ((i : ℕ) → 8 ≤ i → f i ≡ none) → slots_of (records_of f) ≡ f
unfolding slots_of
slots_back f h = fun_ext {f = slots_of (records_of f)} {g = f} (λ i. go i (dec_lt i 8))
  where
    go : (i : ℕ) → Dec (i < 8) → agent_of (agent_at (records_of f) i) ≡ f i
    go i (yes l) = ap agent_of (record_at f i l) ∙ record_back (f i)
    go i (no n) = unfold agent_of in
        ap agent_of (get_or-eq_default (records_of f) past {n = i} (omega (arith, length_records f))) ∙ sym (h i (omega arith))

-- past the records there is no agent
pub slots_past : (rs : List Agent) (i : ℕ) → length rs ≤ i → slots_of rs i ≡ none
unfolding slots_of agent_of
slots_past rs i h = ap agent_of (get_or-eq_default rs past {n = i} h)

-- the records of the slots of tidy records
pub records_back : (rs : List Agent) → Tidy rs → records_of (slots_of rs) ≡ rs
unfolding slots_of
records_back rs t =
    ext_get_or past (records_of (slots_of rs)) rs (length_records (slots_of rs) ∙ sym t.eight)
    (λ i h. let l : i < 8 = omega (arith, length_records (slots_of rs)) in
    record_at (slots_of rs) i l ∙ agent_back (agent_at rs i) (t.whole i l))

-- another thing in one slot is another record there
pub records_with : (f : ℕ → Option Rules.Agent) (slot : ℕ) (o : Option Rules.Agent) → slot < 8 →
    records_of (update f slot o) ≡ set (records_of f) slot (record_of o)
records_with f slot o h =
    ext_get_or past (records_of (update f slot o)) (set (records_of f) slot (record_of o))
    (length_records (update f slot o) ∙ sym (length-set (records_of f) slot (record_of o) ∙ length_records f))
    (λ i l. let l' : i < 8 = omega (arith, length_records (update f slot o)) in
    record_at (update f slot o) i l' ∙ go i l' (update_cases f slot o i))
  where
    go : (i : ℕ) → i < 8 → ((i ≡ slot) × (update f slot o i ≡ o)) ⊎ ((i ≡ slot → ⊥) × (update f slot o i ≡ f i)) →
        record_of (update f slot o i) ≡ agent_at (set (records_of f) slot (record_of o)) i
    go i l (inl c) =
        ap record_of c.1 ∙ sym (get_or-set_same (records_of f) slot (record_of o) past (omega (arith, length_records f)))
        ∙ ap (agent_at (set (records_of f) slot (record_of o))) (sym c.0)
    go i l (inr c) = ap record_of c.1 ∙ sym (record_at f i l) ∙ sym (get_or-set_other (records_of f) slot i (record_of o) past c.0)

-- no agents, as records
pub records_none : records_of (λ slot. none) ≡ replicate 8 no_agent
unfolding records_from record_of
records_none = refl

pub slots_none : slots_of (replicate 8 no_agent) ≡ (λ slot. none)
slots_none = ap slots_of (sym records_none) ∙ slots_back (λ slot. none) (λ i h. refl)

-- what a slot in use holds, by its record
pub slot_held : (rs : List Agent) (slot : ℕ) → (agent_at rs slot).in_use ≡ true → slots_of rs slot ≡ some (held (agent_at rs slot))
unfolding slots_of agent_of
slot_held rs slot e = ap (λ b. if◌then◌otherwise◌ b (some (held (agent_at rs slot))) none) e
