-- A program with negated goals, and its queries.
use Rattle.lp_calculus.specs.Term.{Term, abs, index}
use Rattle.lp_calculus.specs.Types.{Ty, arrow}
use Rattle.lp_calculus.specs.Typing.{Scheme, o_type}
use Rattle.lp_model.specs.Branch.{Answer}
use Rattle.lp_model.specs.Flatten.{ClauseFormula}
use Rattle.lp_model.specs.Skeleton.{Told}
use Rattle.lp_search_laws.specs.Worked.{conj, declares, fact, kind, known, on, plain_type, told}
use Rattle.lp_standard.specs.Connectives.{not_of, pi_of, two}
use Rattle.std.specs.Prelude.{List, Option, [], ℕ, ◌∷◌}

abbrev pub i : Ty
i = kind 8

abbrev pub x : ℕ → Term
x n = index n

-- module neg: a 32, b 33, p 34, q 35, lone 36
abbrev pub neg : ℕ → Option Scheme
neg = declares (plain_type i ∷ plain_type i ∷ plain_type (arrow i o_type) ∷ plain_type (arrow i o_type) ∷ plain_type (arrow i o_type) ∷ [])

abbrev pub rules : List ClauseFormula
rules =
    fact (on 34 (known 32))
    ∷ fact (on 34 (known 33))
    ∷ fact (on 35 (known 32))
    ∷ fact (pi_of i (abs (two 3 [] (on 36 (x 0)) (conj (on 34 (x 0)) (not_of (on 35 (x 0)))))))
    ∷ []

abbrev pub asked : (vars : ℕ) → Term → (steps : ℕ) → Told Answer
asked k t steps = told neg rules 0 k t steps 100
