-- Laws of parts, of openings and of what is read.
use mathlib.Core.Path.{◌≡◌, refl, sym, ◌∙◌, ap, subst}
use mathlib.Core.Bool.{Bool, true, false}
use mathlib.Core.List.{List, [], ◌∷◌}
use mathlib.Core.Option.{Option, none, some}
use Prim.Native.Nat.{ℕ, zero, suc, ◌+◌, ◌*◌, ◌/◌, ◌≤◌, ◌<◌}
use native.Mathlib.Decide.{dec_lt}
use native.Mathlib.Nat.{le_of_suc-le-suc}
use native.Mathlib.Omega.{arith}
use borrow.Author.Tests.{lt-ltb, le-ltb, le-leb, lt-leb, leb-true, leb-false}
use lib.Dec.{leb}
use lib.ListN.{length, get_or, take, drop, length-drop}
use lib.Seq.{length-take-le}
use Rattle.rules.specs.Instructions.{RETURN}
use Rattle.questions.specs.Questions.{No}
use Rattle.std.specs.Prelude.{Err}
use Rattle.questions.specs.declared.Refusal.{Refusal}
use Rattle.questions.specs.Verdicts.{Verdict, verdict_of}
use Rattle.words.specs.Words.{le}
use Rattle.code.specs.Layout.{word_at}
use Rattle.code.specs.Meaning.{decode, code_of}
use Rattle.code.proofs.Decoded.{length_code, instruction_at_lem}
use Rattle.pack.specs.Layout.{size_of, operations_at, operands_at, operations_of, operands_of}
use Rattle.pack.specs.Refusal.{open_refusal, opened}
use Rattle.pack.proofs.Sizes.{operations_within, operands_within}
use Rattle.pack.proofs.Workflows.{open_laid, open_below}
use Rattle.reader.specs.Readers.{part_of, opened_number, opening_of, operations_from, operands_from, Opened, operations_in, operands_in}
use Rattle.reader.specs.Readers.{Beside, read_at, Read}
use Rattle.reader.specs.declared.Instruction.{Instruction}
use Rattle.reader.specs.declared.Opening.{Opening}
use Rattle.reader.specs.declared.Reader.{Reader}

module _ (xs : List ℕ) (a n : ℕ) where
  pub part_whole : a + n ≤ length xs → part_of xs a n ≡ take n (drop a xs)
  unfolding part_of
  part_whole h = rw (le-leb (a + n) (length xs) h)

  pub part_none : length xs < a + n → part_of xs a n ≡ []
  unfolding part_of
  part_none h = rw (lt-leb (a + n) (length xs) h)

  -- a part has n bytes or none
  part_length : 0 < length (part_of xs a n) → length (part_of xs a n) ≡ n
  part_length h = go (leb (a + n) (length xs)) refl
    where
      go : (b : Bool) → leb (a + n) (length xs) ≡ b → length (part_of xs a n) ≡ n
      go true e =
          let l = leb-true (a + n) (length xs) e in
          ap length (part_whole l) ∙ length-take-le n (drop a xs) (rw length-drop (omega arith))
      go false e =
          let l = leb-false (a + n) (length xs) e in
          let z = ap length (part_none l) in absurd (omega arith)

-- no byte, no word
no_word : (ws : List ℕ) (i : ℕ) → length ws ≡ 0 → 0 ≡ word_at ws i
unfolding le
no_word [] i e = refl
no_word (x ∷ ws) i e = absurd (omega arith)

get_or_past : {A : Type 0} (xs : List A) (i : ℕ) (d : A) → length xs ≤ i → get_or xs i d ≡ d
get_or_past [] i d h = refl
get_or_past (x ∷ xs) zero d h = absurd (omega arith)
get_or_past (x ∷ xs) (suc i) d h = get_or_past xs i d (le_of_suc-le-suc h)

module _ (ops ws : List ℕ) (i : ℕ) where
  read_past : length ops ≤ i → Read ops ws i (record { byte = 176; word = 0 })
  unfolding read_at decode
  read_past h =
      record {
        bytes = rw (le-ltb i (length ops) h);
        meaning = sym (get_or_past (code_of ops ws) i (RETURN 0) (omega (arith, length_code ops ws)));
      }

  read_here : (b w : ℕ) → i < length ops → b ≡ get_or ops i 0 → w ≡ word_at ws i → Read ops ws i (record { byte = b; word = w })
  unfolding read_at
  read_here b w h e f =
      record {
        bytes = rw (lt-ltb i (length ops) h, e, f);
        meaning = rw (e, f) (sym (instruction_at_lem ops ws i h));
      }

-- What is read at i of operation bytes and operand bytes that stand beside each other: past the end, without a word, with one.
module _ (ops ws : List ℕ) (i : ℕ) where
  pub past_end : length ops ≤ i → Beside ops ws → Read ops ws i (record { byte = 176; word = 0 })
  past_end h b = read_past ops ws i h

  module _ (h : i < length ops) where
    pub without_word : length ws / 4 ≤ i → Beside ops ws → Read ops ws i (record { byte = get_or ops i 0; word = 0 })
    without_word l b = read_here ops ws i _ _ h refl (no_word ws i (go (dec_lt 0 (length ws))))
      where
        go : Dec (0 < length ws) → length ws ≡ 0
        go (yes z) = absurd (omega (arith, b (omega arith) z))
        go (no n) = omega arith

    pub with_word : (w : ℕ) → w ≡ word_at ws i → Beside ops ws → Read ops ws i (record { byte = get_or ops i 0; word = w })
    with_word w e b = read_here ops ws i _ _ h refl e

-- so do the parts of any reader, and what is read of them is read of the reader
pub read_of : (r : Reader) (i : ℕ) (ops ws : List ℕ) (x : Instruction) → ops ≡ operations_in r → ws ≡ operands_in r →
    (Beside ops ws → Read ops ws i x) → Read (operations_in r) (operands_in r) i x
read_of r i ops ws x e f h =
    subst (λ (bs : List ℕ). Read bs (operands_in r) i x) e
    (subst (λ (vs : List ℕ). Read ops vs i x) f (h (λ l m. rw (e, f) (sized (rw e at l) (rw f at m)))))
  where
    sized : 0 < length (operations_in r) → 0 < length (operands_in r) → length (operands_in r) ≡ 4 * length (operations_in r)
    sized l m =
        part_length r.pack.now r.operands (4 * r.size) m
        ∙ ap (λ (n : ℕ). 4 * n) (sym (part_length r.pack.now r.operations r.size l))

-- what is found of a refused workflow, and of an accepted one
pub found_none : (p : List ℕ) (w : ℕ) (v : Verdict) (m : Refusal) → v ≡ verdict_of (open_refusal p w) → v ≡ Err m →
    record { verdict = v; operations = 0; operands = 0; size = 0 } ≡ opening_of p w
unfolding opened_number
found_none p w v m e r = go (open_refusal p w) e
  where
    go : (o : Option No) → v ≡ verdict_of o →
        ◌≡◌ {A = Opening} (record { verdict = v; operations = 0; operands = 0; size = 0 })
        (record {
          verdict = verdict_of o;
          operations = opened_number o (operations_at p w);
          operands = opened_number o (operands_at p w);
          size = opened_number o (size_of p w);
        })
    go none e = let z : ◌≡◌ {A = ℕ} 0 1 = cc in absurd (omega arith)
    go (some n) e = λ j. record { verdict = e j; operations = 0; operands = 0; size = 0 }

pub found_there : (p : List ℕ) (w : ℕ) (v : Verdict) (a b n : ℕ) → v ≡ verdict_of (open_refusal p w) → open_refusal p w ≡ none →
    a ≡ operations_at p w → b ≡ operands_at p w → n ≡ size_of p w →
    record { verdict = v; operations = a; operands = b; size = n } ≡ opening_of p w
unfolding opened_number
found_there p w v a b n e o f g h = rw (e, o, f, g, h)

-- the parts that an opening's numbers say are those that the pack's own opening hands out
module _ (p : List ℕ) (w : ℕ) where
  operations_opened : part_of p (opened_number (open_refusal p w) (operations_at p w))
      (opened_number (open_refusal p w) (size_of p w)) ≡ operations_from p w
  unfolding opened_number opened operations_of
  operations_opened = go (open_refusal p w) refl
    where
      go : (o : Option No) → open_refusal p w ≡ o →
          part_of p (opened_number o (operations_at p w)) (opened_number o (size_of p w)) ≡ opened o (operations_of p w)
      go none e = part_whole p (operations_at p w) (size_of p w) (operations_within p (open_laid p w e) w (open_below p w e))
      go (some n) e = part_whole p 0 0 (omega arith)

  operands_opened : part_of p (opened_number (open_refusal p w) (operands_at p w))
      (4 * opened_number (open_refusal p w) (size_of p w)) ≡ operands_from p w
  unfolding opened_number opened operands_of
  operands_opened = go (open_refusal p w) refl
    where
      go : (o : Option No) → open_refusal p w ≡ o →
          part_of p (opened_number o (operands_at p w)) (4 * opened_number o (size_of p w)) ≡ opened o (operands_of p w)
      go none e = part_whole p (operands_at p w) (4 * size_of p w) (operands_within p (open_laid p w e) w (open_below p w e))
      go (some n) e = part_whole p 0 0 (omega arith)

module _ (r : Reader) (o : Opened r) where
  pub has_operations : operations_in r ≡ operations_from r.pack.now r.workflow
  has_operations = ap operations_in o ∙ operations_opened r.pack.now r.workflow

  pub has_operands : operands_in r ≡ operands_from r.pack.now r.workflow
  has_operands = ap operands_in o ∙ operands_opened r.pack.now r.workflow

  pub has_instruction : (i : ℕ) (x : Instruction) → Read (operations_in r) (operands_in r) i x →
      Read (operations_from r.pack.now r.workflow) (operands_from r.pack.now r.workflow) i x
  has_instruction i x read =
      subst (λ ws. Read (operations_from r.pack.now r.workflow) ws i x) has_operands
      (subst (λ ops. Read ops (operands_in r) i x) has_operations read)
