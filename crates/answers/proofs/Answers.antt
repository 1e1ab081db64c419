-- Answers in numbers and words.
use mathlib.Core.List.{List, [], ◌∷◌}
use mathlib.Core.Bool.{Bool, true, false}
use mathlib.Core.Option.{Option, none, some}
use mathlib.Core.Path.{◌≡◌, refl, sym, ◌∙◌, ap, ap₂, subst}
use Prim.Native.Nat.{ℕ, zero, suc, ◌%◌, ◌^◌, ◌≤◌, ◌<◌}
use native.Mathlib.Omega.{arith}
use borrow.Author.Tests.{ne_eqb}
use lib.Dec.{eqb}
use lib.ListN.{length, get_or}
use Rattle.questions.specs.Basics.{if◌then◌otherwise◌}
use Rattle.questions.proofs.Updates.{none_some}
use Rattle.questions.specs.Questions.{No, no}
use Rattle.questions.specs.Verdicts.{verdict_of}
use Rattle.questions.specs.Verdicts.{Verdict}
use Rattle.std.specs.Prelude.{Ok, Err, is_ok}
use Rattle.questions.specs.declared.Refusal.{Refusal}
use Rattle.questions.proofs.Tests.{yes_no}
use Rattle.rules.specs.Plain.{accepted}
use Rattle.rules.specs.Blocks.{yields}
use Rattle.rules.specs.Calls.{Answer, done, moved, reply, given, refused}
use Rattle.words.specs.Words.{le, put}
use Rattle.words.proofs.Laws.{put_mod}
use Rattle.slots.specs.Records.{puts}
use Rattle.slots.specs.Records as Records
use Rattle.slots.proofs.Words.{le_puts}
use Rattle.agents.proofs.Answers.{accepted_none, refused_some}
use Rattle.agents.specs.declared.Agent.{Agent}
use Rattle.agents.specs.declared.Accepted.TheVariants.{Done, Moved, Reply, Given}
use Rattle.agents.specs.Answers.{Answer as Said, answer_of}
use Rattle.slots.specs.Records.{with_slots}
use Rattle.worklist.specs.declared.Worklist.{Worklist}
use Rattle.worklist.specs.Bytes.{with_list}
use Rattle.answers.specs.Answers.{with_words, heard, PlaceFits, judged, slots_after, list_after}
use Rattle.answers.specs.Answers as Answers

-- only the low 4 bytes of a number are written
pub low_words : (answer : List ℕ) (x y z : ℕ) → with_words answer (x ∷ y % 2 ^ 32 ∷ z % 2 ^ 32 ∷ []) ≡ with_words answer (x ∷ y ∷ z ∷ [])
unfolding Records.puts
low_words answer x y z =
    ap (λ (l : List ℕ). put 4 l 8 (z % 2 ^ 32)) (put_mod 4 (put 4 answer 0 x) 4 y) ∙ put_mod 4 (put 4 (put 4 answer 0 x) 4 y) 8 z

pub low_parts : (answer : List ℕ) (x y z u : ℕ)
    → put 4 (put 4 (put 4 (put 4 answer 12 (x % 2 ^ 32)) 16 (y % 2 ^ 32)) 20 (z % 2 ^ 32)) 24 (u % 2 ^ 32) ≡ puts 4 answer 12
    (x ∷ y ∷ z ∷ u ∷ []) 4
unfolding Records.puts
low_parts answer x y z u =
    rw (put_mod 4 answer 12 x, put_mod 4 (put 4 answer 12 x) 16 y, put_mod 4 (put 4 (put 4 answer 12 x) 16 y) 20 z)
    (put_mod 4 (put 4 (put 4 (put 4 answer 12 x) 16 y) 20 z) 24 u)

-- a word, and eight behind it
pub nine_words : (answer : List ℕ) (turns : ℕ) (rows : List ℕ) →
    puts 4 (put 4 answer 12 turns) 16 rows 8 ≡ puts 4 answer 12 (turns ∷ rows) 9
unfolding Records.puts
nine_words answer turns rows = refl

-- ---- what was written is what is heard

-- the three words from the buffer's start on are read back
module _ (answer : List ℕ) (x y z : ℕ) (h : 12 ≤ length answer) (hx : x < 2 ^ 32) (hy : y < 2 ^ 32) (hz : z < 2 ^ 32) where
  small : (j : ℕ) → get_or (x ∷ y ∷ z ∷ []) j 0 < 256 ^ 4
  small zero = hx
  small (suc zero) = hy
  small (suc (suc zero)) = hz
  small (suc (suc (suc j))) = omega arith

  pub first_word : le 4 (with_words answer (x ∷ y ∷ z ∷ [])) 0 ≡ x
  first_word = le_puts 4 answer 0 (x ∷ y ∷ z ∷ []) 3 0 (omega arith) h small

  pub second_word : le 4 (with_words answer (x ∷ y ∷ z ∷ [])) 4 ≡ y
  second_word = le_puts 4 answer 0 (x ∷ y ∷ z ∷ []) 3 1 (omega arith) h small

  pub third_word : le 4 (with_words answer (x ∷ y ∷ z ∷ [])) 8 ≡ z
  third_word = le_puts 4 answer 0 (x ∷ y ∷ z ∷ []) 3 2 (omega arith) h small

pub heard_reply : (answer answer' : List ℕ) (id value : ℕ) → 12 ≤ length answer → id < 2 ^ 32 → value < 2 ^ 32 →
    answer' ≡ with_words answer (id ∷ value ∷ 0 ∷ []) → heard 2 answer' ≡ some (reply id (yields value))
unfolding Answers.heard
heard_reply answer answer' id value h i v e =
    rw e
    (ap₂ (λ (x y : ℕ). some (reply x (yields y))) (first_word answer id value 0 h i v (omega arith))
    (second_word answer id value 0 h i v (omega arith)))

pub heard_given : (answer answer' : List ℕ) (id : ℕ) → 12 ≤ length answer → id < 2 ^ 32 →
    answer' ≡ with_words answer (id ∷ 0 ∷ 0 ∷ []) → heard 4 answer' ≡ some (given id)
unfolding Answers.heard
heard_given answer answer' id h i e = rw e (ap (λ (x : ℕ). some (given x)) (first_word answer id 0 0 h i (omega arith) (omega arith)))

pub heard_refused : (answer answer' : List ℕ) (q w i : ℕ) → 12 ≤ length answer → q < 256 → w < 2 ^ 32 → i < 2 ^ 32 →
    answer' ≡ with_words answer (q ∷ w ∷ i ∷ []) → heard 3 answer' ≡ some (refused (no q w i))
unfolding Answers.heard
heard_refused answer answer' q w i h hq hw hi e =
    let hq' : q < 2 ^ 32 = omega arith in
    rw e (rw (first_word answer q w i h hq' hw hi, second_word answer q w i h hq' hw hi, third_word answer q w i h hq' hw hi) refl)

-- ---- what is heard is what is read

-- an answer that was heard
heard_is : (a b : Answer) → some a ≡ some b → a ≡ b
heard_is a b e i = taken (e i)
  where
    taken : Option Answer → Answer
    taken none = a
    taken (some x) = x

module _ (number : ℕ) (answer : List ℕ) (a : Answer) (h : heard number answer ≡ some a) where
  pub reads_done : number ≡ 0 → done ≡ a
  reads_done e = heard_is done a (sym (rw e (unfold Answers.heard in refl)) ∙ h)

  pub reads_moved : number ≡ 1 → moved ≡ a
  reads_moved e = heard_is moved a (sym (rw e (unfold Answers.heard in refl)) ∙ h)

  pub reads_reply : (id value : ℕ) → number ≡ 2 → id ≡ le 4 answer 0 → value ≡ le 4 answer 4 → reply id (yields value) ≡ a
  reads_reply id value e p q =
      rw (p, q) (heard_is (reply (le 4 answer 0) (yields (le 4 answer 4))) a (sym (rw e (unfold Answers.heard in refl)) ∙ h))

  pub reads_given : (id : ℕ) → number ≡ 4 → id ≡ le 4 answer 0 → given id ≡ a
  reads_given id e p = rw p (heard_is (given (le 4 answer 0)) a (sym (rw e (unfold Answers.heard in refl)) ∙ h))

  -- any other number that is an answer's is 3
  pub reads_refused : (number ≡ 0 → ⊥) → (number ≡ 1 → ⊥) → (number ≡ 2 → ⊥) → (number ≡ 4 → ⊥) → PlaceFits a → (q w i : ℕ) →
      q ≡ le 4 answer 0 → w ≡ le 4 answer 4 → i ≡ le 4 answer 8 → refused (no (q % 256) w i) ≡ a
  reads_refused d e f n4 fits q w i r s t = go (eqb number 3) refl
    where
      by_3 : (b : Bool) → eqb number 3 ≡ b →
          heard number answer ≡ if◌then◌otherwise◌ b (some (refused (no (le 4 answer 0) (le 4 answer 4) (le 4 answer 8)))) none
      by_3 b g =
          unfold Answers.heard in rw (ne_eqb number 0 d, ne_eqb number 1 e, ne_eqb number 2 f, ne_eqb number 4 n4, g) refl

      small : (x : Answer) → PlaceFits x → refused (no (le 4 answer 0) (le 4 answer 4) (le 4 answer 8)) ≡ x → le 4 answer 0 < 256
      small x z g = (subst PlaceFits (sym g) z).0

      go : (b : Bool) → eqb number 3 ≡ b → refused (no (q % 256) w i) ≡ a
      go false g = none_some a (by_3 false g) h
      go true g =
          let same = heard_is (refused (no (le 4 answer 0) (le 4 answer 4) (le 4 answer 8))) a (sym (by_3 true g) ∙ h) in
          let low : q % 256 ≡ le 4 answer 0 = omega (arith, r, small a fits same) in
          rw (low, s, t) same

-- a verdict as an answer
pub judged_accepted : (v : Verdict) (o : Option No) → v ≡ Ok tt → v ≡ verdict_of o → judged o ≡ done
unfolding judged
judged_accepted v o a e = ap judged (accepted_none v o e a)

pub judged_refused : (v : Verdict) (o : Option No) (n : Refusal) → v ≡ Err n → v ≡ verdict_of o →
    judged o ≡ refused (no n.question n.workflow n.instruction)
unfolding judged
judged_refused v o n a e = ap judged (refused_some v o n e a)

-- what an accepted call left is written, and nothing after a refusal
module _ (slots : List ℕ) (records : List Agent) where
  pub slots_written : (a : Said) → is_ok a ≡ true → with_slots slots records ≡ slots_after (answer_of a) slots records
  unfolding slots_after answer_of
  slots_written (Ok Done) e = refl
  slots_written (Ok Moved) e = refl
  slots_written (Ok (Reply id value)) e = refl
  slots_written (Ok (Given id)) e = refl
  slots_written (Err n) e = yes_no (sym e)

  pub slots_left : (a : Said) → is_ok a ≡ false → slots ≡ slots_after (answer_of a) slots records
  unfolding slots_after answer_of
  slots_left (Ok Done) e = yes_no e
  slots_left (Ok Moved) e = yes_no e
  slots_left (Ok (Reply id value)) e = yes_no e
  slots_left (Ok (Given id)) e = yes_no e
  slots_left (Err n) e = refl

module _ (bytes : List ℕ) (list : Worklist) where
  pub list_written : (a : Said) → is_ok a ≡ true → with_list bytes list ≡ list_after (answer_of a) bytes list
  unfolding list_after answer_of
  list_written (Ok Done) e = refl
  list_written (Ok Moved) e = refl
  list_written (Ok (Reply id value)) e = refl
  list_written (Ok (Given id)) e = refl
  list_written (Err n) e = yes_no (sym e)

  pub list_left : (a : Said) → is_ok a ≡ false → bytes ≡ list_after (answer_of a) bytes list
  unfolding list_after answer_of
  list_left (Ok Done) e = yes_no e
  list_left (Ok Moved) e = yes_no e
  list_left (Ok (Reply id value)) e = yes_no e
  list_left (Ok (Given id)) e = yes_no e
  list_left (Err n) e = refl

-- a refusal is not accepted
pub not_accepted : (a : Said) → is_ok a ≡ false → {P : Type 0} → accepted (answer_of a) ≡ true → P
unfolding answer_of
not_accepted (Ok Done) e d = yes_no e
not_accepted (Ok Moved) e d = yes_no e
not_accepted (Ok (Reply id value)) e d = yes_no e
not_accepted (Ok (Given id)) e d = yes_no e
not_accepted (Err n) e d = yes_no (sym d)
