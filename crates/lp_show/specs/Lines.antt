-- One line of an answer.
use Rattle.std.specs.Prelude.{ℕ, List, ◌++◌, codes}
use Rattle.lp_calculus.specs.Term.{Term}
use Rattle.lp_model.specs.Shown.{Entry, piece, side}

abbrev pub value_line : List Entry → List ℕ → (name : List ℕ) → Term → List ℕ
value_line es vs n t = codes "  " ++ (n ++ (codes " = " ++ ((piece es vs 0 t).text ++ codes "\n")))

abbrev pub pair_line : List Entry → List ℕ → Term → Term → List ℕ
pair_line es vs t u = codes "  where " ++ (side es vs t ++ (codes " == " ++ (side es vs u ++ codes "\n")))
