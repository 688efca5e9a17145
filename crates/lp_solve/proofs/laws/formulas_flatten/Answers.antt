use Rattle.lp_solve.proofs.Texts.Flattens.{clauses_flatten, once_flattened, query_flattens, clause_flattens}
use Rattle.lp_solve.proofs.laws.formulas_flatten.Goals as goal

pub returns-clause-clauses : goal.returns-clause-clauses
returns-clause-clauses c = λ d k Ts t f. once_flattened (clause_flattens d k Ts t f)

pub returns-clause-goals : goal.returns-clause-goals
returns-clause-goals c = λ d k t f. once_flattened (query_flattens d k t f)

pub returns-clause-modules : goal.returns-clause-modules
returns-clause-modules c = λ source text expected own used m is. clauses_flatten m.signature source m.bank _ m.clauses.items is.sentences
