-- Assumed clauses as a closing makes them.
use Rattle.std.specs.Prelude.{List, [], ◌∷◌, ◌++◌}
use Rattle.lp_model.specs.Flat.{Clause, formula_of_clause}
use Rattle.lp_model.specs.Flatten.{ClauseFormula}
use Rattle.lp_model.specs.Pair.{Closing, closed}
use Rattle.lp_model.specs.Proofs.{assumed}

abbrev pub assumed_as : Closing → Clause → ClauseFormula
assumed_as c x = assumed (closed c (formula_of_clause x))

-- a search has those that it tries first in front; a proof has them last, where what is assumed is put
abbrev pub assumed_at : Closing → List Clause → List ClauseFormula
assumed_at c [] = []
assumed_at c (x ∷ A) = assumed_at c A ++ assumed_as c x ∷ []
