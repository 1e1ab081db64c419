-- What a search for a key answers, by the keys that are searched.
use Rattle.std.specs.Prelude.{Result, Ok, Err, Some, None, true, List, [], ◌∷◌, ◌++◌, ◌≡◌, ℕ, ◌+◌, ◌<◌, ltb}
use Rattle.std.specs.declared.option.Option.{Option as CodeOption}
use Rattle.std.proofs.Math.Option.{Option, none, some}
use Rattle.questions.specs.Basics.{if◌then◌otherwise◌}
use Rattle.store.specs.Rows.{index_of}
use Rattle.store.specs.Questions.{member, rising}

-- the row of a key or, as an error, the place where the key belongs, as the code answers it
abbrev pub Found : Type 0
Found = Result ℕ ℕ

-- how many keys are smaller than k
unfoldable pub smaller : (k : ℕ) → List ℕ → ℕ
smaller k [] = 0
smaller k (x ∷ ks) = (if ltb x k then 1 otherwise 0) + smaller k ks

-- By a reading of all keys: the place of k, or the place where it belongs, behind all smaller ones.
unfoldable pub found_in : (k : ℕ) → List ℕ → Found
found_in k ks = if member k ks then Ok (index_of k ks) otherwise Err (smaller k ks)

-- what a search for k reads: the keys up to the first that isn't smaller, and none behind
unfoldable pub up_to : (k : ℕ) → List ℕ → List ℕ
up_to k [] = []
up_to k (x ∷ ks) = if ltb x k then x ∷ up_to k ks otherwise x ∷ []

-- What a search for k among keys promises of its answer.
pub record Searched (k : ℕ) (ks : List ℕ) (found : Found) : Type 0 where
  -- it agrees with a reading of all keys, where they rise
  pub all : rising ks ≡ true → found ≡ found_in k ks
  -- it is that of the keys up to the first that isn't smaller, in whatever order the others stand
  pub read : found ≡ found_in k (up_to k ks)
  -- what stands behind a greater key g changes nothing in it: whatever `more` is, rising or not, the answer is that of a reading of all
  -- where rising keys, `other`, stand in its place
  pub behind : (low more other : List ℕ) (g : ℕ) → k < g → ks ≡ low ++ g ∷ more → rising (low ++ g ∷ other) ≡ true →
      found ≡ found_in k (low ++ g ∷ other)

-- where a search ended: at the key's row, or where the key belongs
unfoldable pub ended_at : Found → ℕ
ended_at (Ok i) = i
ended_at (Err i) = i

-- how many rows have the key: 1 where it was found, else 0
unfoldable pub rows_found : Found → ℕ
rows_found (Ok i) = 1
rows_found (Err i) = 0

-- the value at a key, as the code answers it
abbrev pub Got : Type 0
Got = CodeOption ℕ

-- the same of what the rules find
unfoldable pub got_of : Option ℕ → Got
got_of none = None
got_of (some v) = Some v
