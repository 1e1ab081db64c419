-- Bytes copied over a part of others.
use mathlib.Core.List.{List, ◌++◌, append_assoc}
use mathlib.Core.Path.{◌≡◌, sym, ap, ◌∙◌}
use Prim.Native.Nat.{ℕ, ◌+◌, ◌≤◌}
use native.Mathlib.Omega.{arith}
use borrow.Rule.Slice.PartMut.{put_mid}
use lib.ListN.{length, take, drop, length-take, length-drop}
use lib.Seq.{drop-drop}
use Rattle.std.proofs.lemmas.List.Edits.{sets, sets-eq}
use Rattle.store.specs.Parts.{piece}

pub copied : (xs from ys : List ℕ) (a b n k m : ℕ) → a + n ≤ length xs → b + n ≤ length from → k ≡ n → m ≡ n → ys ≡ piece m b from →
    put_mid a k xs ys ≡ sets xs a (piece n b from)
copied xs from ys a b n k m h g ek em e =
    let long : length (piece n b from) ≡ n = simp (length-take, length-drop) (omega arith) in
    rw (e, em, ek)
    (sym (sets-eq (piece n b from) xs a (omega (arith, long))
    ∙ ap (λ (i : ℕ). (take a xs ++ piece n b from) ++ drop (a + i) xs) long
    ∙ append_assoc (take a xs) (piece n b from) (drop (a + n) xs)
    ∙ ap (λ (bs : List ℕ). take a xs ++ (piece n b from ++ bs)) (sym (drop-drop n a xs))))
