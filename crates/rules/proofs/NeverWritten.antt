-- W-206, reading a key never written: proved of every block's run, by the table of operations.
use mathlib.Core.List.{List}
use mathlib.Core.Option.{Option, none, some, get_or}
use mathlib.Core.Path.{◌≡◌, refl, sym, ap, ◌∙◌}
use Prim.Native.Nat.{ℕ, suc, ◌+◌, ◌-◌, ◌<◌}
use native.Mathlib.Decide.{dec_lt}
use native.Mathlib.Omega.{arith}
use lib.ListN.{length, get_or-eq_default}
use lib.Seq.{set-get_or, get_or-set_same}
use Rattle.questions.specs.Basics.{if◌then◌otherwise◌, update, is_some}
use Rattle.rules.specs.Instructions.{Code, Instruction, SET, END, GET, RETURN, Place, register, next, becomes, act, act_at}
use Rattle.rules.specs.Instructions.{instruction_at}
use Rattle.rules.specs.Blocks.{Table, Work, Block, yields, within, run_from, run_block}
use Rattle.rules.specs.NeverWritten.{work_at, NeverWritten, OfTheCopy}
use Rattle.questions.proofs.Updates.{update_same}

-- d becomes what it holds: no register changes
again : (at : Place) (d : ℕ) → becomes at d (register at d) ≡ next at
again at d = ap (λ (rs : List ℕ). record { position = suc at.position; registers = rs }) (set-get_or at.registers d 0)

module _ (d s : ℕ) (w : Work) (onward : Work → Block) where
  abbrev at : Place
  at = w.place

  -- by what the block sees at the key
  by : (o : Option ℕ) → w.table (register at s) ≡ o →
      within (act (GET d s) at) w onward ≡ onward (work_at w (becomes at d (get_or o (register at d))))
  unfolding act within
  by o e = ap (λ (found : Option ℕ). onward (work_at w (becomes at d (get_or found (register at d))))) e

  pub never_written : NeverWritten d s w onward
  unfolding act within
  never_written =
      record {
        absent = λ e. by none e ∙ ap (λ (to : Place). onward (work_at w to)) (again at d);
        present = λ v e. by (some v) e;
        behind_put =
            λ k v e.
            let put : Table = update w.table (register at k) (some (register at v)) in
            let n : ℕ = if◌then◌otherwise◌ (is_some (w.table (register at k))) w.new_keys (suc w.new_keys) in
            ap
            (λ (found : Option ℕ).
            onward (record { place = becomes (next at) d (get_or found (register at d)); table = put; new_keys = n }))
            (ap put e ∙ update_same w.table (register at k) (some (register at v)));
        still_zero = λ e. ap (λ (old : ℕ). onward (work_at w (becomes at d (get_or (w.table (register at s)) old)))) e;
        has = refl;
      }

-- an END stands within its workflow
end_below : (code : Code) (i d : ℕ) → instruction_at code i ≡ END d → i < length code
end_below code i d e = go (dec_lt i (length code))
  where
    go : Dec (i < length code) → i < length code
    go (yes h) = h
    go (no n) =
        let past : RETURN 0 ≡ END d = sym (get_or-eq_default code (RETURN 0) {n = i} (omega (arith, n))) ∙ e in
        let z : ◌≡◌ {A = ℕ} 0 1 = cc in absurd (omega arith)

-- the first of the instructions ahead
one : (code : Code) (n : ℕ) (w : Work) (x : Instruction) → instruction_at code w.place.position ≡ x →
    run_from code (suc n) w ≡ within (act x w.place) w (λ w'. run_from code n w')
unfolding run_from act_at
one code n w x e = ap (λ (y : Instruction). within (act y w.place) w (λ w'. run_from code n w')) e

pub of_the_copy : OfTheCopy
unfolding act within run_block
of_the_copy code from table d s v h first second third e =
    let n : ℕ = length code - (from.position + 4) in
    let ahead : length code - suc from.position ≡ suc (suc (suc n)) =
    omega (arith, end_below code (suc (suc (suc from.position))) d third) in
    let w : Work = record { place = next from; table = table; new_keys = 0 } in
    let w' : Work = work_at w (becomes (next from) d v) in
    let w'' : Work = work_at w (next (becomes (next from) d v)) in
    ap (λ (k : ℕ). (run_from code k w).result) ahead
    ∙ ap (λ (b : Block). b.result) (one code (suc (suc n)) w (SET d v) first)
    ∙ ap (λ (b : Block). b.result) (one code (suc n) w' (GET d s) second)
    ∙ ap (λ (b : Block). b.result) ((never_written d s w' (λ x. run_from code (suc n) x)).absent e)
    ∙ ap (λ (b : Block). b.result) (one code n w'' (END d) third)
    ∙ ap yields (get_or-set_same from.registers d v 0 h)
