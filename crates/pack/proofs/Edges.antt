-- The edges that document 01 marks ●, proved together of the written rules.
use mathlib.Core.Path.{◌≡◌, refl}
use mathlib.Core.List.{List, [], ◌∷◌}
use mathlib.Core.Option.{none, some}
use Prim.Native.Nat.{ℕ, suc}
use native.Mathlib.Omega.{arith}
use borrow.Author.Tests.{le-leb}
use lib.ListN.{length}
use Rattle.words.specs.Words.{le}
use Rattle.questions.specs.Basics.{each_from}
use Rattle.questions.specs.Questions.{no, number, ask, or_else, first_no}
use Rattle.rules.specs.Instructions.{ADD, SUB, Place, moves, act}
use Rattle.keys.specs.Keys.{data_key, log_key, book_key}
use Rattle.operation.specs.Operations.{side_of, operand_of, fixed_of}
use Rattle.code.specs.Questions.{legal, question4, in_range, register_right, question5, inside_at, stands, is_no_end, lands_from, lands}
use Rattle.code.specs.Questions.{question6, puts_before, counted, question7, question8}
use Rattle.code.specs.Refusal.{instruction_no, code_no}
use Rattle.pack.specs.Layout.{first_of, operations_of, operands_of}
use Rattle.pack.specs.Questions.{question1, size_right, question2, question3}
use Rattle.pack.specs.Refusal.{layout_no, pack_refusal}

-- 01 01 00, an operation byte, 00 00 00 00: one workflow of one instruction with operand 0
abbrev single : (byte : ℕ) → List ℕ
single byte = 0x01 ∷ 0x01 ∷ 0x00 ∷ byte ∷ 0x00 ∷ 0x00 ∷ 0x00 ∷ 0x00 ∷ []

-- at position i, with d and s in registers 0 and 1
abbrev holding : (i d s : ℕ) → Place
holding i d s = record { position = i; registers = d ∷ s ∷ [] }

pub record Edges : Type 0 where
  pub empty_pack : pack_refusal [] ≡ some (number 1)
  pub seventeen : (rest : List ℕ) → pack_refusal (17 ∷ rest) ≡ some (number 1)
  pub return_alone : pack_refusal (single 0xB0) ≡ none
  pub no_return : pack_refusal (single 0x00) ≡ some (no 8 0 0)
  pub bit_3 : pack_refusal (single 0xB8) ≡ some (no 4 0 0)
  pub target_0 : pack_refusal (single 0x50) ≡ some (no 5 0 0)
  pub difference : (i : ℕ) → act (SUB 0 1) (holding i 0 30) ≡ moves (holding (suc i) 4294967266 30)
  pub sum : (i : ℕ) → act (ADD 0 1) (holding i 4294967295 1) ≡ moves (holding (suc i) 0 1)
  pub log_key_lem : log_key 7 1 ≡ 458753
  pub data_key_lem : data_key 100 ≡ 9223372036854775908
  pub book_key_lem : book_key 7 0 ≡ 56

pub edges : Edges
unfolding le each_from ask or_else first_no act side_of operand_of fixed_of first_of operations_of operands_of question1 size_right question2
    question3 legal question4 in_range register_right question5 inside_at stands is_no_end lands_from lands question6 puts_before counted
    question7 question8 layout_no instruction_no code_no pack_refusal
edges =
    record {
      empty_pack = refl;
      seventeen = λ rest. rw (le-leb 1 (suc (length rest)) (omega arith));
      return_alone = refl;
      no_return = refl;
      bit_3 = refl;
      target_0 = refl;
      difference = λ i. refl;
      sum = λ i. refl;
      log_key_lem = refl;
      data_key_lem = refl;
      book_key_lem = refl;
    }
