-- MOVE, the workflow of document 01's whole case: a stock move from one partition to the other.
use Rattle.std.specs.Prelude.{[], ◌∷◌}
use Rattle.rules.specs.Instructions.{Code, COPY, BEGIN, GET, SUB, PUT, END, ADD, RETURN}

-- MOVE takes the amount, argument 2, from the key in argument 0 of partition 0, and adds it to the key in argument 1 of partition 1.
abbrev pub MOVE : Code
MOVE =
    COPY 4 0
    ∷ BEGIN 0
    ∷ GET 5 4
    ∷ SUB 5 2
    ∷ PUT 4 5
    ∷ END 5
    ∷ BEGIN 1
    ∷ GET 5 1
    ∷ ADD 5 2
    ∷ PUT 1 5
    ∷ END 5
    ∷ RETURN 0
    ∷ []
