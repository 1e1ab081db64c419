-- The parts of an operation byte and of a jump's operand.
use Rattle.std.specs.Prelude.{ℕ, ◌/◌, ◌%◌}

-- In an operation byte the high four bits are the operation, the low three the register d; bit 3 is 0.
abbrev pub operation_of : (byte : ℕ) → ℕ
operation_of byte = byte / 16

abbrev pub register_of : (byte : ℕ) → ℕ
register_of byte = byte % 8

abbrev pub bit3_of : (byte : ℕ) → ℕ
bit3_of byte = byte / 8 % 2

-- A jump's w is 16 × target + s.
abbrev pub target_of : (w : ℕ) → ℕ
target_of w = w / 16

abbrev pub source_of : (w : ℕ) → ℕ
source_of w = w % 16
