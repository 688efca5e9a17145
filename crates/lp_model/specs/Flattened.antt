-- What flattened clauses and goals mean: those over the plain trees at their numbers.
use Rattle.std.specs.Prelude.{List, [], ◌∷◌, map}
use Rattle.lp_term.specs.Nodes.{Nodes, tree, type_tree}
use Rattle.lp_model.specs.declared.clause.Goal as code
use Rattle.lp_model.specs.declared.clause.Goal.TheOpen.{Goal-F}
use Rattle.lp_model.specs.declared.clause.Clause as code_clause
use Rattle.lp_model.specs.Flat.{Goal, Atomic, Cut, Either, Exists, Forall, Goals, no_goals, goals, Clause, clause, Clauses, no_clauses, clauses, assuming, denied}

abbrev pub goals_in : List Goal → Goals
goals_in [] = no_goals
goals_in (g ∷ gs) = goals g (goals_in gs)

abbrev pub clauses_in : List Clause → Clauses
clauses_in [] = no_clauses
clauses_in (c ∷ cs) = clauses c (clauses_in cs)

-- the top of a goal and of a clause, whose parts are read already
abbrev pub goal_top : Nodes → Goal-F Goal Clause → Goal
goal_top b (Goal-F.Atom t) = Atomic (tree b t.0)
goal_top b Goal-F.Cut = Cut
goal_top b (Goal-F.Either l r) = Either (goals_in l.items) (goals_in r.items)
goal_top b (Goal-F.Some T l) = Exists (type_tree b T.0) (goals_in l.items)
goal_top b (Goal-F.All T l) = Forall (type_tree b T.0) (goals_in l.items)
goal_top b (Goal-F.Assume cs l) = assuming (clauses_in cs.items) (goals_in l.items)
goal_top b (Goal-F.Not l) = denied (goals_in l.items)

abbrev pub clause_top : Nodes → code_clause.Clause-F Goal Clause → Clause
clause_top b c = clause c.type_vars (map (λ T. type_tree b T.0) c.vars.items) (tree b c.head.0) (goals_in c.body.items)

abbrev pub goal_of : Nodes → code.Goal → Goal
goal_of b = code.fold-Goal Goal Clause (goal_top b) (clause_top b)

abbrev pub clause_of : Nodes → code_clause.Clause → Clause
clause_of b = code_clause.fold-Clause Goal Clause (goal_top b) (clause_top b)

abbrev pub goals_of : Nodes → List code.Goal → Goals
goals_of b gs = goals_in (map (goal_of b) gs)

abbrev pub clauses_of : Nodes → List code_clause.Clause → Clauses
clauses_of b cs = clauses_in (map (clause_of b) cs)
