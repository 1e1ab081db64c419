-- The parts of a case, by its bytes.
use Rattle.std.specs.Prelude.{List, ℕ, ◌+◌, ◌≤◌, length}
use Rattle.words.specs.Words.{le}

-- where the pack ends, where the store or the schedule ends, and where a call ends
abbrev pub pack_end : (c : List ℕ) → ℕ
pack_end c = 9 + le 4 c 1

abbrev pub parts_end : (c : List ℕ) → ℕ
parts_end c = pack_end c + le 4 c 5

abbrev pub call_end : (c : List ℕ) → ℕ
call_end c = parts_end c + 413

-- kind, lengths and both parts are there
pub record HasParts (c : List ℕ) : Type 0 where
  pub head : 9 ≤ length c
  pub parts : parts_end c ≤ length c

-- the rest of a call too
pub record HasCall (c : List ℕ) : Type 0 where
  pub head : 9 ≤ length c
  pub call : call_end c ≤ length c
