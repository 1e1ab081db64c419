-- The promises of check, open and create, from what the code has in hand.
use mathlib.Core.List.{List, [], ◌∷◌, ◌++◌}
use mathlib.Core.Option
use mathlib.Core.Option.{Option, none, some}
use mathlib.Core.Path.{◌≡◌, refl, sym, ◌∙◌, ap, subst}
use Prim.Native.Nat.{ℕ, zero, suc, ◌+◌, ◌*◌, ◌^◌, ◌≤◌, ◌<◌}
use native.Mathlib.Decide.{dec_lt}
use native.Mathlib.Omega.{arith}
use borrow.Author.Tests.{le-leb, lt-leb}
use lib.ListN.{length, get_or, replicate, get_or-replicate, length-append, get_or-eq_default}
use Rattle.questions.specs.Questions.{No, Placed}
use Rattle.questions.specs.Questions as Questions
use Rattle.questions.proofs.Every.{Every}
use Rattle.rules.specs.Blocks.{Result, yields}
use Rattle.rules.specs.Calls.{Answer, done, moved, reply, given, refused}
use Rattle.questions.specs.Verdicts.{Verdict}
use Rattle.pack.specs.Layout.{count, size_of, operations_at, operands_at}
use Rattle.pack.specs.Laid.{Laid}
use Rattle.pack.proofs.Placed.{open_placed}
use Rattle.pack.proofs.Sizes.{operations_within, operands_within}
use Rattle.pack.proofs.Workflows.{open_laid, open_below}
use Rattle.meaning.specs.State.{worked_out}
use Rattle.meaning.specs.Questions.{reply_refusal}
use Rattle.meaning.proofs.Placed.{create_placed, reply_placed}
use Rattle.std.specs.Prelude as code
use Rattle.std.specs.Prelude.{Ok, Err, Some, None}
use Rattle.questions.specs.declared.Refusal.{Refusal}
use Rattle.runtime.specs.Known.{Known, known, known_in}
use Rattle.pack.specs.Refusal.{open_refusal}
use Rattle.questions.proofs.Questions.{or_else_none}
use Rattle.rules.specs.Routes.{Counting, by_turns, by_rows, MostOf}
use Rattle.rules.proofs.Routes.{turns_small, rows_small, most_within}
use Rattle.rules.proofs.Routes as Routes
use Rattle.pack.specs.Meaning.{pack_of}
use Rattle.pack.proofs.Laws.{length_pack, length_workflow, accepted_checked}
use Rattle.figures.specs.declared.Figured.{Figured}
use Rattle.figures.specs.Answered.{Answered, shown}
use Rattle.words.specs.Words.{fields}
use Rattle.slots.specs.Records.{puts}
use Rattle.slots.specs.Records as Records
use Rattle.slots.proofs.Words.{fields_puts}
use Rattle.store.specs.Questions.{create_refusal}
use Rattle.store.specs.Created.{Created}
use Rattle.answers.specs.Answers.{number_of, values_of, with_words, judged}
use Rattle.answers.specs.Answers as Answers
use Rattle.host.specs.Told.{opened_parts, opened_words, answer_short, Told, FiguresTold, known_number, known_words, ReplyTold, Made}

-- numbers that may be missing
pub same : {m n : ℕ} → some m ≡ some n → m ≡ n
same e = ap (λ o. Option.get_or o 0) e

pub missing : {n : ℕ} → ◌≡◌ {A = Option ℕ} none (some n) → ⊥
missing e = let z = ap (λ o. present o) e in omega (arith, z)
  where
    present : Option ℕ → ℕ
    present none = 0
    present (some n) = 1

pub told_short : (need : ℕ) (answer : List ℕ) (a : Answer) (words : List ℕ) → length answer < need → Told need answer a words 100 answer
unfolding answer_short
told_short need answer a words h =
    let e : answer_short need answer ≡ some 100 = rw (lt-leb need (length answer) h) refl in
    record { short = λ n q. (same (sym e ∙ q), refl); told = λ q. absurd (missing (sym q ∙ e)) }

-- words of 32 bits are read back whole
abbrev Small : (words : List ℕ) → Type 0
Small words = (j : ℕ) → get_or words j 0 < 256 ^ 4

told_all : (need : ℕ) (answer : List ℕ) (a : Answer) (words : List ℕ) (number : ℕ) (answer' : List ℕ) → need ≤ length answer
    → 0 + length words * 4 ≤ need → Small words → number ≡ number_of a → answer' ≡ with_words answer words
    → Told need answer a words number answer'
unfolding answer_short
told_all need answer a words number answer' h l f p q =
    let e : answer_short need answer ≡ none = rw (le-leb need (length answer) h) refl in
    record {
      short = λ n s. absurd (missing (sym e ∙ s));
      told = λ s. (p, q, rw q (fields_puts 4 answer 0 words (length words) refl (omega arith) f));
    }

append_small : (xs ys : List ℕ) → Small xs → Small ys → Small (xs ++ ys)
append_small [] ys f g j = g j
append_small (x ∷ xs) ys f g zero = f zero
append_small (x ∷ xs) ys f g (suc j) = append_small xs ys (λ k. f (suc k)) g j

-- the words of what questions came to, each no of which names a place
three_words : (o : Option No) → length (values_of (judged o)) ≡ 3
unfolding Answers.values_of judged
three_words none = refl
three_words (some n) = refl

judged_small : (o : Option No) → Every Placed o → Small (values_of (judged o))
unfolding Answers.values_of judged
judged_small none h zero = omega arith
judged_small none h (suc zero) = omega arith
judged_small none h (suc (suc zero)) = omega arith
judged_small none h (suc (suc (suc j))) = omega arith
judged_small (some n) h zero = let p = h n refl in omega (arith, p.0)
judged_small (some n) h (suc zero) = let p = h n refl in omega (arith, p.1)
judged_small (some n) h (suc (suc zero)) = let p = h n refl in omega (arith, p.2)
judged_small (some n) h (suc (suc (suc j))) = omega arith

-- the answer b that was written is that of the questions
pub told_judged : (answer : List ℕ) (o : Option No) (b : Answer) (number : ℕ) (answer' : List ℕ) → 12 ≤ length answer → Every Placed o
    → b ≡ judged o → (number ≡ number_of b) × (answer' ≡ with_words answer (values_of b))
    → Told 12 answer (judged o) (values_of (judged o)) number answer'
told_judged answer o b number answer' h f e t =
    told_all 12 answer (judged o) (values_of (judged o)) number answer' h (omega (arith, three_words o)) (judged_small o f)
    (t.0 ∙ ap number_of e) (t.1 ∙ ap (λ x. with_words answer (values_of x)) e)

-- the four words of the parts behind the three of the answer
seven_words : (answer : List ℕ) (a : Answer) (x y z u : ℕ)
    → puts 4 (with_words answer (values_of a)) 12 (x ∷ y ∷ z ∷ u ∷ []) 4 ≡ with_words answer (values_of a ++ x ∷ y ∷ z ∷ u ∷ [])
unfolding Records.puts Answers.values_of
seven_words answer done x y z u = refl
seven_words answer moved x y z u = refl
seven_words answer (reply id (yields value)) x y z u = refl
seven_words answer (given id) x y z u = refl
seven_words answer (refused n) x y z u = refl

-- the words of an opening, by what its questions came to
opened_words_lem : (answer pack : List ℕ) (w : ℕ) (a : Answer) (o : Option No) → open_refusal pack w ≡ o → a ≡ judged o
    → with_words answer (values_of a ++ opened_parts pack w o) ≡ with_words answer (opened_words pack w)
unfolding opened_words
opened_words_lem answer pack w a o e q = rw (e, q) refl

-- there are seven
seven : (pack : List ℕ) (w : ℕ) → length (opened_words pack w) ≡ 7
unfolding opened_words
seven pack w = go (open_refusal pack w)
  where
    go : (o : Option No) → length (values_of (judged o) ++ opened_parts pack w o) ≡ 7
    go none = unfold opened_parts in unfold Answers.values_of in unfold judged in refl
    go (some n) = unfold opened_parts in unfold Answers.values_of in unfold judged in refl

-- and each has 32 bits: a pack that passes is at most 10,273 bytes long
opened_small : (pack : List ℕ) (w : ℕ) → Small (opened_words pack w)
unfolding opened_words
opened_small pack w = go (open_refusal pack w) refl (open_placed pack w)
  where
    parts : (o : Option No) → open_refusal pack w ≡ o → Small (opened_parts pack w o)
    parts (some n) e = unfold opened_parts in zeros
      where
        zeros : Small (0 ∷ 0 ∷ 0 ∷ 0 ∷ [])
        zeros zero = omega arith
        zeros (suc zero) = omega arith
        zeros (suc (suc zero)) = omega arith
        zeros (suc (suc (suc zero))) = omega arith
        zeros (suc (suc (suc (suc j)))) = omega arith
    parts none e = unfold opened_parts in four
      where
        l : Laid pack
        l = open_laid pack w e

        b : w < count pack
        b = open_below pack w e

        long : length pack ≤ 10273
        long = omega (arith, l.whole, l.few, l.short)

        four : Small (operations_at pack w ∷ size_of pack w ∷ operands_at pack w ∷ 4 * size_of pack w ∷ [])
        four zero = omega (arith, operations_within pack l w b, long)
        four (suc zero) = omega (arith, operations_within pack l w b, long)
        four (suc (suc zero)) = omega (arith, operands_within pack l w b, long)
        four (suc (suc (suc zero))) = omega (arith, operands_within pack l w b, long)
        four (suc (suc (suc (suc j)))) = omega arith

    go : (o : Option No) → open_refusal pack w ≡ o → Every Placed o → Small (values_of (judged o) ++ opened_parts pack w o)
    go o e f = append_small (values_of (judged o)) (opened_parts pack w o) (judged_small o f) (parts o e)

-- open, by what its questions came to: the answer b was written, and then the words of the parts
pub told_open : (answer pack : List ℕ) (w : ℕ) (o : Option No) (b : Answer) (number : ℕ) (between ws answer' : List ℕ) →
    28 ≤ length answer → open_refusal pack w ≡ o
    → b ≡ judged (open_refusal pack w) → (number ≡ number_of b) × (between ≡ with_words answer (values_of b)) → ws ≡ opened_parts pack w o →
    answer' ≡ puts 4 between 12 ws 4
    → Told 28 answer (judged (open_refusal pack w)) (opened_words pack w) number answer'
told_open answer pack w o b number between ws answer' h q e t p r =
    told_all 28 answer _ (opened_words pack w) number answer' h (omega (arith, seven pack w)) (opened_small pack w) (t.0 ∙ ap number_of e)
    (r ∙ ap (λ l. puts 4 l 12 ws 4) t.1 ∙ ap (λ l. puts 4 (with_words answer (values_of b)) 12 l 4) p
    ∙ four o ∙ opened_words_lem answer pack w b o q (e ∙ ap judged q))
  where
    four : (o : Option No) →
        puts 4 (with_words answer (values_of b)) 12 (opened_parts pack w o) 4 ≡ with_words answer (values_of b ++ opened_parts pack w o)
    four none = unfold opened_parts in seven_words answer b (operations_at pack w) (size_of pack w) (operands_at pack w) (4 * size_of pack w)
    four (some n) = unfold opened_parts in seven_words answer b 0 0 0 0

-- ── figures ──

-- the nine words of the figures behind the three of the answer
twelve_words : (answer : List ℕ) (a : Answer) (turns : ℕ) (rows : List ℕ) → length rows ≡ 8
    → puts 4 (with_words answer (values_of a)) 12 (turns ∷ rows) 9 ≡ with_words answer (values_of a ++ turns ∷ rows)
unfolding Records.puts Answers.values_of
twelve_words answer done turns rows e = rw e refl
twelve_words answer moved turns rows e = rw e refl
twelve_words answer (reply id (yields value)) turns rows e = rw e refl
twelve_words answer (given id) turns rows e = rw e refl
twelve_words answer (refused n) turns rows e = rw e refl

-- each has 32 bits: no figure is above 256
module _ (pack : List ℕ) (w : ℕ) (r : code.Result Figured Refusal) (a : Answered pack w r) where
  few : open_refusal pack w ≡ none → (c : Counting) → Routes.Small c → (n : ℕ) → MostOf c (get_or (pack_of pack) w []) n → n ≤ 256
  unfolding open_refusal
  few e c s n m =
      let p = (or_else_none _ _ e).0 in
      let b = open_below pack w e in
      let k = accepted_checked pack p w (omega (arith, length_pack pack, b)) in
      omega (arith, most_within _ k c s n m, length_workflow pack p w b, ((open_laid pack w e).sizes w b).1)

  nine_small : Small ((shown r).turns ∷ (shown r).rows)
  nine_small = go (open_refusal pack w) refl
    where
      past : (j : ℕ) → 8 ≤ j → get_or (shown r).rows j 0 < 256 ^ 4
      past j l = omega (arith, get_or-eq_default (shown r).rows 0 {n = j} (omega (arith, a.eight)))

      zeros : (j : ℕ) → (shown r).rows ≡ replicate 8 0 → get_or (shown r).rows j 0 < 256 ^ 4
      zeros j e = within (dec_lt j 8)
        where
          within : Dec (j < 8) → get_or (shown r).rows j 0 < 256 ^ 4
          within (yes l) = omega (arith, ap (λ l. get_or l j 0) e, get_or-replicate {A = ℕ} 8 j 0 0 l)
          within (no l) = past j (omega arith)

      go : (o : Option No) → open_refusal pack w ≡ o → Small ((shown r).turns ∷ (shown r).rows)
      go none e zero = let n = few e by_turns turns_small (shown r).turns (a.figures e).of_turns in omega arith
      go none e (suc j) = within (dec_lt j 8)
        where
          within : Dec (j < 8) → get_or (shown r).rows j 0 < 256 ^ 4
          within (yes l) = let n = few e (by_rows j) (rows_small j) (get_or (shown r).rows j 0) ((a.figures e).of_rows j l) in omega arith
          within (no l) = past j (omega arith)
      go (some n) e zero = omega (arith, (a.none_given n e).0)
      go (some n) e (suc j) = zeros j (a.none_given n e).1

-- figures, refused for its answer buffer
pub figures_short : (pack answer : List ℕ) (w : ℕ) → length answer < 48 → FiguresTold pack answer w 100 answer
unfolding answer_short
figures_short pack answer w h =
    let e : answer_short 48 answer ≡ some 100 = rw (lt-leb 48 (length answer) h) refl in
    record { short = λ n q. (same (sym e ∙ q), refl); told = λ q. absurd (missing (sym q ∙ e)) }

-- figures: the answer b was written, and then the nine words
pub told_figures : (answer pack : List ℕ) (w : ℕ) (r : code.Result Figured Refusal) (b : Answer) (number : ℕ) (between answer' : List ℕ) →
    48 ≤ length answer → Answered pack w r → b ≡ judged (open_refusal pack w) →
    (number ≡ number_of b) × (between ≡ with_words answer (values_of b)) → answer' ≡ puts 4 between 12 ((shown r).turns ∷ (shown r).rows) 9 →
    FiguresTold pack answer w number answer'
told_figures answer pack w r b number between answer' h a e t q =
    record {
      short = (told_all 48 answer (judged o) words number answer' h long whole given written).short;
      told =
          λ s.
          let t = (told_all 48 answer (judged o) words number answer' h long whole given written).told s in
          record {
            turns = (shown r).turns;
            rows = (shown r).rows;
            eight = a.eight;
            given = given;
            words = written;
            read = ap (fields 4 answer' 0) (sym twelve) ∙ t.2;
            figures = a.figures;
            none_given = a.none_given;
          };
    }
  where
    o : Option No
    o = open_refusal pack w

    words : List ℕ
    words = values_of (judged o) ++ (shown r).turns ∷ (shown r).rows

    twelve : length words ≡ 12
    twelve = length-append (values_of (judged o)) ((shown r).turns ∷ (shown r).rows) ∙ omega (arith, three_words o, a.eight)

    long : 0 + length words * 4 ≤ 48
    long = omega (arith, twelve)

    whole : Small words
    whole = append_small (values_of (judged o)) ((shown r).turns ∷ (shown r).rows) (judged_small o (open_placed pack w)) (nine_small pack w r a)

    given : number ≡ number_of (judged o)
    given = t.0 ∙ ap number_of e

    written : answer' ≡ with_words answer words
    written =
        q ∙ ap (λ l. puts 4 l 12 ((shown r).turns ∷ (shown r).rows) 9) (t.1 ∙ ap (λ x. with_words answer (values_of x)) e)
        ∙ twelve_words answer (judged o) (shown r).turns (shown r).rows a.eight

-- create, refused for its answer buffer
pub made_short : (store answer : List ℕ) (P C : ℕ) → length answer < 12 → Made store answer P C 100 store answer
unfolding answer_short
made_short store answer P C h =
    let e : answer_short 12 answer ≡ some 100 = rw (lt-leb 12 (length answer) h) refl in
    record { told = told_short 12 answer _ _ h; short = λ n q. refl; created = λ q. absurd (missing (sym q ∙ e)) }

-- create, by its verdict v, of which the answer b was written
pub made : (store answer : List ℕ) (P C number : ℕ) (store' answer' : List ℕ) (v : Verdict) (b : Answer) → 12 ≤ length answer →
    Created store store' P C v
    → b ≡ judged (create_refusal P C (length store)) → (number ≡ number_of b) × (answer' ≡ with_words answer (values_of b)) →
    Made store answer P C number store' answer'
unfolding answer_short
made store answer P C number store' answer' v b h m e t =
    let q : answer_short 12 answer ≡ none = rw (le-leb 12 (length answer) h) refl in
    record {
      told = told_judged answer (create_refusal P C (length store)) b number answer' h (create_placed P C (length store)) e t;
      short = λ n s. absurd (missing (sym q ∙ s));
      created = λ s. subst (Created store store' P C) m.answer m;
    }

-- ---- the reading of a reply

module _ (pack store answer : List ℕ) (id : ℕ) where
  pub reply_short : length answer < 12 → ReplyTold pack store answer id 100 answer
  unfolding answer_short
  reply_short h =
      let e : answer_short 12 answer ≡ some 100 = rw (lt-leb 12 (length answer) h) refl in
      record { short = λ n q. (same (sym e ∙ q), refl); told = λ q. absurd (missing (sym q ∙ e)) }

  -- a no names a place, so that its words have it whole
  read_placed : (m : Refusal) → Err m ≡ known_in pack store id → Placed (Questions.no m.question m.workflow m.instruction)
  read_placed m e = go (reply_refusal pack store id) refl (worked_out pack store id) e
    where
      go : (o : Option No) → reply_refusal pack store id ≡ o → (r : Option Result) → Err m ≡ known o r →
          Placed (Questions.no m.question m.workflow m.instruction)
      go (some n) f r g =
          let a : n.question ≡ m.question = cc in
          let b : n.workflow ≡ m.workflow = cc in
          let d : n.instruction ≡ m.instruction = cc in
          let p = reply_placed pack store id n f in
          subst Placed (λ j. record { question = a j; workflow = b j; instruction = d j }) p
      go none f none g = absurd (let z : ◌≡◌ {A = ℕ} 0 1 = cc in omega arith)
      go none f (some (yields v)) g = absurd (let z : ◌≡◌ {A = ℕ} 0 1 = cc in omega arith)

  known_small : (k : Known) → k ≡ known_in pack store id → id < 2 ^ 32 → ((v : ℕ) → k ≡ Ok (Some v) → v < 2 ^ 32) → Small (known_words id k)
  known_small (Ok None) e l b zero = omega arith
  known_small (Ok None) e l b (suc zero) = omega arith
  known_small (Ok None) e l b (suc (suc zero)) = omega arith
  known_small (Ok None) e l b (suc (suc (suc j))) = omega arith
  known_small (Ok (Some v)) e l b zero = l
  known_small (Ok (Some v)) e l b (suc zero) = b v refl
  known_small (Ok (Some v)) e l b (suc (suc zero)) = omega arith
  known_small (Ok (Some v)) e l b (suc (suc (suc j))) = omega arith
  known_small (Err n) e l b zero = omega (arith, (read_placed n e).0)
  known_small (Err n) e l b (suc zero) = omega (arith, (read_placed n e).1)
  known_small (Err n) e l b (suc (suc zero)) = omega (arith, (read_placed n e).2)
  known_small (Err n) e l b (suc (suc (suc j))) = omega arith

  three_known : (k : Known) → length (known_words id k) ≡ 3
  three_known (Ok None) = refl
  three_known (Ok (Some v)) = refl
  three_known (Err n) = refl

  pub reply_told : (k : Known) (number : ℕ) (answer' : List ℕ) → 12 ≤ length answer → k ≡ known_in pack store id → id < 2 ^ 32 →
      ((v : ℕ) → k ≡ Ok (Some v) → v < 2 ^ 32) → number ≡ known_number k → answer' ≡ with_words answer (known_words id k) →
      ReplyTold pack store answer id number answer'
  unfolding answer_short
  reply_told k number answer' h e l b p q =
      let s : answer_short 12 answer ≡ none = rw (le-leb 12 (length answer) h) refl in
      record {
        short = λ n t. absurd (missing (sym s ∙ t));
        told =
            λ t. (
              p ∙ ap known_number e,
              q ∙ ap (λ (x : Known). with_words answer (known_words id x)) e,
              subst (λ (x : Known). fields 4 answer' 0 3 ≡ known_words id x) e
                  (rw q (ap (λ n. fields 4 (with_words answer (known_words id k)) 0 n) (sym (three_known k))
                  ∙ fields_puts 4 answer 0 (known_words id k) (length (known_words id k)) refl (omega (arith, three_known k))
                  (known_small k e l b))),
            );
      }
