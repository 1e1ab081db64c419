-- What the exports promise that put questions and change no slot: check, open, figures, reply, create.
use Rattle.std.specs.Prelude.{List, [], ◌∷◌, ◌++◌, ◌≡◌, ℕ, ◌*◌, leb, length, get_or, replicate}
use Rattle.std.proofs.Math.Option.{Option, none, some}
use Rattle.words.specs.Words.{fields}
use Rattle.questions.specs.Basics.{if◌then◌otherwise◌}
use Rattle.questions.specs.Questions.{No}
use Rattle.questions.specs.Verdicts.{verdict_of}
use Rattle.rules.specs.Calls.{Answer}
use Rattle.rules.specs.Routes.{Figures}
use Rattle.pack.specs.Layout.{size_of, operations_at, operands_at}
use Rattle.pack.specs.Meaning.{pack_of}
use Rattle.pack.specs.Refusal.{open_refusal}
use Rattle.store.specs.Questions.{create_refusal}
use Rattle.store.specs.Created.{Created}
use Rattle.std.specs.Prelude.{Ok, Err, Some, None}
use Rattle.runtime.specs.Known.{Known, known_in}
use Rattle.answers.specs.Answers.{number_of, values_of, with_words, judged}

-- where the parts of an opened workflow start in the pack and how many bytes they are: operations, then operands
unfoldable pub opened_parts : (pack : List ℕ) (workflow : ℕ) → Option No → List ℕ
opened_parts pack w none = operations_at pack w ∷ size_of pack w ∷ operands_at pack w ∷ 4 * size_of pack w ∷ []
opened_parts pack w (some n) = 0 ∷ 0 ∷ 0 ∷ 0 ∷ []

-- the seven words of an opening
unfoldable pub opened_words : (pack : List ℕ) (workflow : ℕ) → List ℕ
opened_words pack w = values_of (judged (open_refusal pack w)) ++ opened_parts pack w (open_refusal pack w)

-- 100: an answer buffer with fewer bytes than the call writes
unfoldable pub answer_short : (need : ℕ) (answer : List ℕ) → Option ℕ
answer_short need answer = if leb need (length answer) then none otherwise some 100

-- The answer buffer is too short, and nothing is written; or it has the words, none of them cut, and the number is that of the answer.
pub record Told (need : ℕ) (answer : List ℕ) (a : Answer) (words : List ℕ) (number : ℕ) (answer' : List ℕ) : Type 0 where
  pub short : (n : ℕ) → answer_short need answer ≡ some n → (number ≡ n) × (answer' ≡ answer)
  pub told : answer_short need answer ≡ none →
      (number ≡ number_of a) × (answer' ≡ with_words answer words) × (fields 4 answer' 0 (length words) ≡ words)

-- W-202, the figures of a workflow: twelve words, none of them cut. The three of the answer; then the most turns, and the most rows of
-- partition 0 to 7. Refused, there are none: zeros.
pub record FiguresGiven (pack answer : List ℕ) (workflow number : ℕ) (answer' : List ℕ) : Type 0 where
  pub turns : ℕ
  pub rows : List ℕ
  pub eight : length rows ≡ 8
  pub given : number ≡ number_of (judged (open_refusal pack workflow))
  pub words : answer' ≡ with_words answer (values_of (judged (open_refusal pack workflow)) ++ turns ∷ rows)
  pub read : fields 4 answer' 0 12 ≡ values_of (judged (open_refusal pack workflow)) ++ turns ∷ rows
  pub figures : open_refusal pack workflow ≡ none → Figures (get_or (pack_of pack) workflow []) turns (λ partition. get_or rows partition 0)
  pub none_given : (n : No) → open_refusal pack workflow ≡ some n → (turns ≡ 0) × (rows ≡ replicate 8 0)

-- The answer buffer is too short for them, and nothing is written; or they are given.
pub record FiguresTold (pack answer : List ℕ) (workflow number : ℕ) (answer' : List ℕ) : Type 0 where
  pub short : (n : ℕ) → answer_short 48 answer ≡ some n → (number ≡ n) × (answer' ≡ answer)
  pub told : answer_short 48 answer ≡ none → FiguresGiven pack answer workflow number answer'

-- W-208, the reading of a reply: the number of what is known, and its three words.
abbrev pub known_number : Known → ℕ
known_number (Ok None) = 5
known_number (Ok (Some value)) = 2
known_number (Err n) = 3

abbrev pub known_words : (id : ℕ) → Known → List ℕ
known_words id (Ok None) = 0 ∷ 0 ∷ 0 ∷ []
known_words id (Ok (Some value)) = id ∷ value ∷ 0 ∷ []
known_words id (Err n) = n.question ∷ n.workflow ∷ n.instruction ∷ []

-- The answer buffer is too short, and nothing is written; or it has the words, none of them cut, of what is known of the id.
pub record ReplyTold (pack store answer : List ℕ) (id number : ℕ) (answer' : List ℕ) : Type 0 where
  pub short : (n : ℕ) → answer_short 12 answer ≡ some n → (number ≡ n) × (answer' ≡ answer)
  pub told : answer_short 12 answer ≡ none →
      (number ≡ known_number (known_in pack store id))
      × (answer' ≡ with_words answer (known_words id (known_in pack store id)))
      × (fields 4 answer' 0 3 ≡ known_words id (known_in pack store id))

-- Create: what is told, and what the store's bytes become.
pub record Made (store answer : List ℕ) (P C number : ℕ) (store' answer' : List ℕ) : Type 0 where
  pub told : Told 12 answer (judged (create_refusal P C (length store)))
      (values_of (judged (create_refusal P C (length store)))) number answer'
  pub short : (n : ℕ) → answer_short 12 answer ≡ some n → store' ≡ store
  pub created : answer_short 12 answer ≡ none → Created store store' P C (verdict_of (create_refusal P C (length store)))
