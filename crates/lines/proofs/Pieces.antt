-- Laws of lines.
use mathlib.Core.Path.{◌≡◌, sym, subst}
use mathlib.Core.List.{List}
use Prim.Native.Nat.{ℕ}
use mathlib.Core.Bool.{true, false}
use Rattle.keys.specs.Keys.{is_data_key, data_of, id_of, step_of}
use Rattle.agents.specs.Answers.{Answer}
use Rattle.agents.specs.Answers.{answer_of}
use Rattle.text.specs.Text.{Appended}
use Rattle.lines.specs.Lines.{answer_text, row_line, log_line, stored_line}

-- the text of an answer, by which answer it is
pub answer_as : {out out' : List ℕ} {n n' : ℕ} (a b : Answer) → a ≡ b → Appended out n (answer_text (answer_of b)) out' n' →
    Appended out n (answer_text (answer_of a)) out' n'
answer_as {out} {out'} {n} {n'} a b e h = subst (λ (x : Answer). Appended out n (answer_text (answer_of x)) out' n') (sym e) h

-- the line of a row, by its stored key
pub data_line : {out out' : List ℕ} {n n' : ℕ} (p k v : ℕ) → is_data_key k ≡ true →
    Appended out n (row_line p (data_of k) v) out' n' → Appended out n (stored_line p k v) out' n'
unfolding stored_line
data_line p k v e h = rw e h

pub log_line_lem : {out out' : List ℕ} {n n' : ℕ} (p k v : ℕ) → is_data_key k ≡ false →
    Appended out n (log_line p (id_of k) (step_of k) v) out' n' → Appended out n (stored_line p k v) out' n'
unfolding stored_line
log_line_lem p k v e h = rw e h
