-- W-203: equal contents mean equal bytes.
use Rattle.std.specs.Prelude.{List, ◌≡◌, ℕ}
use Rattle.std.proofs.Math.Option.{none}
use Rattle.contents.specs.Contents.{contents_of}
use Rattle.store.specs.Layout.{AllBytes, parts_of}
use Rattle.store.specs.Rows.{store_of}
use Rattle.store.specs.Questions.{store_refusal}

-- Two stores that pass 9 to 12, with equal P, that hold the same rows of the rules are equal byte for byte. (P is asked for by itself:
-- two stores without a row may differ in it, and the rules' store does not show it.)
abbrev pub EqualContents : Type 0
EqualContents =
    (xs ys : List ℕ) → AllBytes xs → AllBytes ys → store_refusal xs ≡ none → store_refusal ys ≡ none → parts_of xs ≡ parts_of ys →
    contents_of (store_of xs) ≡ contents_of (store_of ys) → xs ≡ ys
