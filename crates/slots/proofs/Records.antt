-- Records in bytes: what the code reads is the record there, and records written are read back.
use mathlib.Core.Bool.{Bool, true, false, ◌&&◌}
use mathlib.Core.List.{List, ◌∷◌}
use mathlib.Core.Logic.{inl}
use mathlib.Core.Path.{◌≡◌, refl, sym, ap, ◌∙◌}
use Prim.Native.Nat.{ℕ, zero, suc, ◌+◌, ◌*◌, ◌^◌, ◌≤◌, ◌<◌}
use native.Mathlib.Nat.{add-zero, add_assoc}
use native.Mathlib.Numerals.{add-one}
use native.Mathlib.Decide.{ℕ_discrete}
use native.Mathlib.Omega.{arith}
use mir.Val.{bool_byte}
use borrow.Author.Tests.{lt-ltb}
use lib.Dec.{ltb, eqb}
use lib.ListN.{length, replicate}
use lib.Seq.{ext_get_or}
use Rattle.questions.specs.Basics.{if◌then◌otherwise◌}
use Rattle.words.specs.Words.{le, put, fields}
use Rattle.agents.specs.declared.Agent.{Agent}
use Rattle.agents.specs.Slots.{no_agent, agent_at, is_blank}
use Rattle.slots.specs.Records.{no_record, is_record, record_by, record_in, records_in, slots_in, words_of, puts, with_record, with_records}
use Rattle.slots.specs.Records.{with_slots}
use Rattle.slots.proofs.Words.{length_puts, fields_puts, fields_beside}
use Rattle.slots.proofs.Typed.{Fitting}

twelve : (xs : List ℕ) (at : ℕ) →
    fields 4 xs at 12 ≡ le 4 xs at ∷ le 4 xs (at + 4) ∷ le 4 xs (at + 8) ∷ le 4 xs (at + 12) ∷ fields 4 xs (at + 16) 8
unfolding fields
twelve xs at = simp add_assoc

-- the i-th record, by the words that were read
pub record_read : (xs : List ℕ) (i u p s : ℕ) → u ≡ le 4 xs (48 * i) → p ≡ le 4 xs (48 * i + 8) → s ≡ le 4 xs (48 * i + 12)
    → record_in xs i
    ≡ if◌then◌otherwise◌ (ltb u 2 && (ltb p (2 ^ 16) && ltb s (2 ^ 16)))
    (record { in_use = eqb u 1; id = le 4 xs (48 * i + 4); position = p; step = s; registers = fields 4 xs (48 * i + 16) 8 }) no_record
unfolding record_by is_record
record_read xs i u p s eu ep es = rw (eu, ep, es, twelve xs (48 * i)) refl

-- bytes that are no record stand for one that is neither in use nor empty
pub no_record_is : (no_record.in_use ≡ false) × (is_blank no_record ≡ false)
unfolding is_blank
no_record_is = (refl, refl)

-- so do twelve words that make none
pub malformed : (ws : List ℕ) → is_record ws ≡ false → record_by ws ≡ no_record
unfolding record_by
malformed ws e = rw e refl

-- 384 zero bytes are eight empty slots
pub all_empty : slots_in (replicate 384 0) ≡ replicate 8 no_agent
unfolding records_in record_by is_record fields le
all_empty = refl

-- the words of a record, written as the code does: four, then the registers
pub record_written : (xs : List ℕ) (at : ℕ) (a : Agent)
    → puts 4 (put 4 (put 4 (put 4 (put 4 xs at (bool_byte a.in_use)) (at + 4) a.id) (at + 8) a.position) (at + 12) a.step)
    (at + 16) a.registers 8
    ≡ puts 4 xs at (words_of a) 12
unfolding puts words_of
record_written xs at a = rw (bit a.in_use) (simp (add-zero, add_assoc))
  where
    bit : (b : Bool) → bool_byte b ≡ if◌then◌otherwise◌ b 1 0
    bit true = refl
    bit false = refl

-- a record is made again of its words
back : (a : Agent) → Fitting a → record_by (words_of a) ≡ a
unfolding record_by is_record words_of
back a f = rw (lt-ltb a.position (2 ^ 16) f.position, lt-ltb a.step (2 ^ 16) f.step) (go a.in_use refl)
  where
    go : (b : Bool) → a.in_use ≡ b
        → if◌then◌otherwise◌ (ltb (if◌then◌otherwise◌ b 1 0) 2 && true)
        (record { in_use = eqb (if◌then◌otherwise◌ b 1 0) 1; id = a.id; position = a.position; step = a.step; registers = a.registers })
        no_record
        ≡ a
    go true e = λ j. record { in_use = sym e j; id = a.id; position = a.position; step = a.step; registers = a.registers }
    go false e = λ j. record { in_use = sym e j; id = a.id; position = a.position; step = a.step; registers = a.registers }

pub length_records : (xs : List ℕ) (rs : List Agent) (n : ℕ) → length (with_records xs rs n) ≡ length xs
unfolding with_records
length_records xs rs zero = refl
length_records xs rs (suc n) = length_puts 4 (with_records xs rs n) (48 * n) (words_of (agent_at rs n)) 12 ∙ length_records xs rs n

-- one record more
pub records_more : (xs : List ℕ) (rs : List Agent) (n : ℕ) → with_records xs rs (n + 1) ≡ with_record (with_records xs rs n) n (agent_at rs n)
unfolding with_records
records_more xs rs n = rw add-one

-- each record written is read back
record_back : (xs : List ℕ) (rs : List Agent) (n i : ℕ) → ((k : ℕ) → k < n → Fitting (agent_at rs k)) → 48 * n ≤ length xs → i < n
    → record_in (with_records xs rs n) i ≡ agent_at rs i
unfolding with_records
record_back xs rs zero i f l h = absurd (omega arith)
record_back xs rs (suc n) i f l h = go (ℕ_discrete i n) (λ h'. record_back xs rs n i (λ k q. f k (omega arith)) (omega arith) h')
  where
    go : Dec (i ≡ n) → (i < n → record_in (with_records xs rs n) i ≡ agent_at rs i) → record_in (with_records xs rs (suc n)) i ≡ agent_at rs i
    go (yes e) ih =
        let g = f n (omega arith) in
        rw e
        (ap record_by (fields_puts 4 (with_records xs rs n) (48 * n) (words_of (agent_at rs n)) 12 g.twelve
        (omega (arith, length_records xs rs n)) g.small)
        ∙ back (agent_at rs n) g)
    go (no d) ih =
        ap record_by (fields_beside 4 4 (with_records xs rs n) (48 * i) 12 (48 * n) (words_of (agent_at rs n)) 12 (inl (omega arith)))
        ∙ ih (omega arith)

length_in : (xs : List ℕ) (n i : ℕ) → length (records_in xs n i) ≡ n
unfolding records_in
length_in xs zero i = refl
length_in xs (suc n) i = ap suc (length_in xs n (i + 1))

pub at_in : (xs : List ℕ) (n i k : ℕ) → k < n → agent_at (records_in xs n i) k ≡ record_in xs (i + k)
unfolding records_in
at_in xs zero i k h = absurd (omega arith)
at_in xs (suc n) i zero h = ap (record_in xs) (omega arith)
at_in xs (suc n) i (suc k) h = at_in xs n (i + 1) k (omega arith) ∙ ap (record_in xs) (omega arith)

-- eight records written are read back
pub slots_back : (xs : List ℕ) (rs : List Agent) → length xs ≡ 384 → length rs ≡ 8 → ((k : ℕ) → k < 8 → Fitting (agent_at rs k))
    → slots_in (with_slots xs rs) ≡ rs
slots_back xs rs l e f =
    ext_get_or _ _ _ (length_in (with_slots xs rs) 8 0 ∙ sym e)
    (λ i h. let h' : i < 8 = omega (arith, length_in (with_slots xs rs) 8 0) in
    at_in (with_slots xs rs) 8 0 i h' ∙ ap (record_in (with_slots xs rs)) (omega arith) ∙ record_back xs rs 8 i f (omega arith) h')
