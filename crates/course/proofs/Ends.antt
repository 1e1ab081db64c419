-- The index behind a block: the search for END, from an instruction on.
use Rattle.std.proofs.Common.{◌≡◌, refl, ap, subst, ◌∙◌, ℕ, zero, suc, ◌+◌, ◌-◌, ◌<◌, Bool, true, false, cond, List, ◌∷◌, length, drop, eqb, ltb, arith, add-one, drop-cons, length-drop, Some, None}
use Rattle.std.proofs.Math.ListN.{drop_of_length-le}
use Rattle.std.specs.List.{position, position_or_len}
use Rattle.rules.specs.Instructions.{RETURN, instruction_at}
use Rattle.rules.specs.Blocks.{is_end, through_end, behind_end}
use Rattle.operation.specs.Parts.{operation_of}
use Rattle.operation.specs.Operations.{op_end}
use Rattle.code.specs.Layout.{operation_at, register_at, word_at}
use Rattle.code.specs.Meaning.{code_of}
use Rattle.code.proofs.Decoded.{decoded_end, length_code, instruction_at_lem}

-- the END that is sought among the bytes
abbrev pub is_end_byte : ℕ → Bool
is_end_byte byte = eqb (operation_of byte) op_end

-- how many instructions through the END, where the search came to the place p of n
abbrev through : (p n : ℕ) → ℕ
through p n = cond (ltb p n) (p + 1) n

module _ (ops ws : List ℕ) where
  module _ (i : ℕ) (h : i < length ops) where
    code_at : drop i (code_of ops ws) ≡ instruction_at (code_of ops ws) i ∷ drop (suc i) (code_of ops ws)
    code_at = drop-cons (code_of ops ws) i (RETURN 0) (omega (arith, length_code ops ws))

    end_at : is_end (instruction_at (code_of ops ws) i) ≡ eqb (operation_at ops i) op_end
    end_at = ap is_end (instruction_at_lem ops ws i h) ∙ decoded_end (register_at ops i) (word_at ws i) (operation_at ops i)

  -- of n instructions from i on
  sought : (n i : ℕ) → i + n ≡ length ops → through_end (drop i (code_of ops ws)) ≡ through (position_or_len is_end_byte (drop i ops)) n
  sought zero i h = rw (drop_of_length-le (code_of ops ws) {i = i} (omega (arith, length_code ops ws))) (grind arith)
  sought (suc n) i h = go (omega arith) (eqb (operation_at ops i) op_end) refl (sought n (suc i) (omega arith))
    where
      go : i < length ops → (b : Bool) → eqb (operation_at ops i) op_end ≡ b →
          through_end (drop (suc i) (code_of ops ws)) ≡ through (position_or_len is_end_byte (drop (suc i) ops)) n →
          through_end (drop i (code_of ops ws)) ≡ through (position_or_len is_end_byte (drop i ops)) (suc n)
      go l true e r = rw (code_at i l, end_at i l, drop-cons ops i 0, e) (grind arith)
      go l false e r = rw (code_at i l, end_at i l, drop-cons ops i 0, e, r) (grind arith)

-- what the search found
module _ (ops : List ℕ) (begin : ℕ) (h : begin < length ops) where
  abbrev p : ℕ
  p = position_or_len is_end_byte (drop (begin + 1) ops)

  abbrev n : ℕ
  n = length ops - (begin + 1)

  behind : (ws : List ℕ) (b : Bool) → ltb p n ≡ b → through_end (drop (suc begin) (code_of ops ws)) ≡ cond b (p + 1) n
  behind ws b q =
      subst (λ j. through_end (drop j (code_of ops ws)) ≡ through p n) (add-one begin) (sought ops ws n (begin + 1) (omega arith))
      ∙ ap (λ b. cond b (p + 1) n) q

  pub end_found : (a : ℕ) → Some a ≡ position is_end_byte (drop (begin + 1) ops) → (ws : List ℕ) →
      begin + 1 + a + 1 ≡ behind_end (code_of ops ws) begin
  end_found a e ws = go (ltb p n) (behind ws (ltb p n) refl) (rw length-drop at e)
    where
      go : (b : Bool) → through_end (drop (suc begin) (code_of ops ws)) ≡ cond b (p + 1) n → Some a ≡ cond b (Some p) None →
          begin + 1 + a + 1 ≡ behind_end (code_of ops ws) begin
      go true t r = let e : a ≡ p = cc in omega arith
      go false t r = cc

  pub end_missing : None ≡ position is_end_byte (drop (begin + 1) ops) → (ws : List ℕ) → length ops ≡ behind_end (code_of ops ws) begin
  end_missing e ws = go (ltb p n) (behind ws (ltb p n) refl) (rw length-drop at e)
    where
      go : (b : Bool) → through_end (drop (suc begin) (code_of ops ws)) ≡ cond b (p + 1) n → None ≡ cond b (Some p) None →
          length ops ≡ behind_end (code_of ops ws) begin
      go true t r = cc
      go false t r = omega arith
