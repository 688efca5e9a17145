-- The names that every text sees, with their numbers; a kind with its count of arguments.
use Rattle.std.specs.Prelude.{ℕ, List, [], ◌∷◌, ◌++◌, codes}
use Rattle.lp_sig.specs.Rows.{Row}

abbrev pub standard_kinds : List (Row (ℕ × ℕ))
standard_kinds =
    (codes "o", (0, 0)) ∷
    (codes "int", (1, 0)) ∷
    (codes "string", (2, 0)) ∷
    (codes "list", (3, 1)) ∷ []

abbrev pub connectives : List (Row ℕ)
connectives =
    (codes ",", 0) ∷
    (codes ";", 1) ∷
    (codes "=>", 2) ∷
    (codes ":-", 3) ∷
    (codes "pi", 4) ∷
    (codes "sigma", 5) ∷
    (codes "true", 6) ∷
    (codes "!", 7) ∷ []

abbrev pub relations : List (Row ℕ)
relations =
    (codes "=", 8) ∷
    (codes "is", 9) ∷
    (codes "<", 10) ∷
    (codes ">", 11) ∷
    (codes "=<", 12) ∷
    (codes ">=", 13) ∷
    (codes "::", 14) ∷
    (codes "nil", 15) ∷ []

abbrev pub operations : List (Row ℕ)
operations =
    (codes "+", 16) ∷
    (codes "-", 17) ∷
    (codes "*", 18) ∷
    (codes "div", 19) ∷
    (codes "mod", 20) ∷
    (codes "~", 21) ∷
    (codes "^", 22) ∷
    (codes "size", 23) ∷
    (codes "not", 24) ∷ []

abbrev pub standard_constants : List (Row ℕ)
standard_constants = connectives ++ (relations ++ operations)
