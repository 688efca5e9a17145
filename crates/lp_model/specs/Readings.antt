-- What programs, typed formulas and answers mean: the plain trees at their numbers.
use Rattle.std.specs.Prelude.{ℕ, ◌-◌, nat_lt, if◌then◌else◌, List, map, Option, Some}
use Rattle.lp_calculus.specs.Typing.{Scheme}
use Rattle.lp_term.specs.Nodes.{Nodes, tree, type_tree}
use Rattle.lp_model.specs.declared.program.Declared.{Declared}
use Rattle.lp_model.specs.declared.program.ClauseFormula as code
use Rattle.lp_model.specs.declared.answer.Pair as code_pair
use Rattle.lp_model.specs.Flatten.{ClauseFormula}
use Rattle.lp_model.specs.Pair.{Pair}
use Rattle.lp_standard.specs.Constants.{first_declared}
use Rattle.lp_standard.specs.Schemes.{entry, standard_schemes}

abbrev pub scheme_of : Nodes → Declared → Scheme
scheme_of b c = record { count = c.type_vars; body = type_tree b c.scheme.0 }

-- the declared types of the constants: the standard ones, then those of the list behind them
abbrev pub declared_by : Nodes → List Declared → ℕ → Option Scheme
declared_by b cs c = if nat_lt c first_declared then entry standard_schemes c else entry (map (λ x. Some (scheme_of b x)) cs) (c - first_declared)

abbrev pub formula_of : Nodes → code.ClauseFormula → ClauseFormula
formula_of b c = record { type_vars = c.type_vars; formula = tree b c.formula.0 }

abbrev pub pair_of : Nodes → code_pair.Pair → Pair
pair_of b p = record { left = tree b p.left.0; right = tree b p.right.0; level = p.level }
