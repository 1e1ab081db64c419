-- A text printed piece by piece in a loop: what is printed and what is left come to the whole.
use mathlib.Core.Path.{◌≡◌, sym, ap, subst, ◌∙◌}
use mathlib.Core.List.{List, [], ◌++◌, append-nil, append_assoc}
use Prim.Native.Nat.{ℕ, ◌≤◌}
use lib.ListN.{length}
use Rattle.text.specs.Text.{Appended}
use Rattle.text.proofs.Laws.{appended_none, appended_then}

pub record Printing (out : List ℕ) (n : ℕ) (out' : List ℕ) (at : ℕ) (rest whole : List ℕ) : Type 0 where
  pub printed : List ℕ
  pub appended : Appended out n printed out' at
  pub comes : printed ++ rest ≡ whole

pub printing_none : (out : List ℕ) (n : ℕ) (rest whole : List ℕ) → n ≤ length out → rest ≡ whole → Printing out n out n rest whole
printing_none out n rest whole h e = record { printed = []; appended = appended_none out n h; comes = e }

module _ {out out' : List ℕ} {n at : ℕ} {rest whole : List ℕ} (h : Printing out n out' at rest whole) where
  -- a piece more
  pub printing_more : {out'' : List ℕ} {at' : ℕ} (piece left : List ℕ) → rest ≡ piece ++ left → Appended out' at piece out'' at' →
      Printing out n out'' at' left whole
  printing_more piece left e a =
      record {
        printed = h.printed ++ piece;
        appended = appended_then h.appended a;
        comes = append_assoc h.printed piece left ∙ ap (λ xs. h.printed ++ xs) (sym e) ∙ h.comes;
      }

  -- nothing is left
  pub printing_done : rest ≡ [] → Appended out n whole out' at
  printing_done e = subst (λ xs. Appended out n xs out' at)
      (sym (append-nil h.printed) ∙ ap (λ xs. h.printed ++ xs) (sym e) ∙ h.comes) h.appended
