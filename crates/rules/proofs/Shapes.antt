-- What an instruction asks for agrees with its shape: one line for each operation, and the cases of `Act` serve for the rest.
use mathlib.Core.Bool.{Bool, true, false}
use mathlib.Core.Path.{◌≡◌, refl}
use mathlib.Core.Logic.{◌⊎◌, inl, inr}
use mathlib.Core.Option.{Option, none, some}
use Prim.Native.Nat.{ℕ, suc}
use lib.Dec.{ltb, eqb}
use Rattle.questions.specs.Basics.{if◌then◌otherwise◌}
use Rattle.rules.specs.Instructions.{Place, register, goto, next, Instruction, SET, COPY, ADD, SUB, JLT, JEQ, BEGIN, END, GET, PUT}
use Rattle.rules.specs.Instructions.{HAS, RETURN, Act, moves, opens, closes, reads, puts, returns, act}
use Rattle.rules.specs.Shapes.{outside, inside, Shape, shape, GoesOn}
use Rattle.rules.specs.Routes.{puts_of}

-- an instruction, and what it asks for at a place
abbrev pub Agrees : Instruction → Place → Act → Type 0
Agrees x at (moves to) = GoesOn (shape x) × ((to.position ≡ suc at.position) ⊎ ((shape x).target ≡ some to.position))
Agrees x at (opens p) = x ≡ BEGIN p
Agrees x at (closes v) =
    ((shape x).stands ≡ some inside) × ((shape x).behind ≡ some outside) × ((d : ℕ) × (x ≡ END d) × (v ≡ register at d))
Agrees x at (reads k on_found) =
    ((shape x).stands ≡ some inside) × GoesOn (shape x) × ((found : Option ℕ) → (on_found found).position ≡ suc at.position)
Agrees x at (puts k v) = ((shape x).stands ≡ some inside) × GoesOn (shape x) × (puts_of x ≡ 1)
Agrees x at (returns v) = (shape x).stands ≡ some outside

on : {s : Shape} → s.behind ≡ none → s.leads_on ≡ true → GoesOn s
on b l = record { same_side = b; leads_on = l }

-- a jump goes either way
either : (at : Place) (target : ℕ) (taken : Bool) →
    ((if◌then◌otherwise◌ taken (goto at target) (next at)).position ≡ suc at.position)
    ⊎ (some target ≡ some (if◌then◌otherwise◌ taken (goto at target) (next at)).position)
either at target true = inr refl
either at target false = inl refl

pub agrees : (x : Instruction) (at : Place) → Agrees x at (act x at)
unfolding act
agrees (SET d w) at = (on refl refl, inl refl)
agrees (COPY d s) at = (on refl refl, inl refl)
agrees (ADD d s) at = (on refl refl, inl refl)
agrees (SUB d s) at = (on refl refl, inl refl)
agrees (JLT d s target) at = (on refl refl, either at target (ltb (register at d) (register at s)))
agrees (JEQ d s target) at = (on refl refl, either at target (eqb (register at d) (register at s)))
agrees (BEGIN p) at = refl
agrees (END d) at = (refl, refl, (d, refl, refl))
agrees (GET d s) at = (refl, on refl refl, λ found. refl)
agrees (PUT d s) at = (refl, on refl refl, refl)
agrees (HAS d s) at = (refl, on refl refl, λ found. refl)
agrees (RETURN d) at = refl
