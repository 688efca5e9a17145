-- Goals and clauses by their tops.
use Rattle.std.proofs.Common.{◌≡◌, ◌∙◌, suc, List, [], ◌∷◌, length, map, Vec, Global, ap, refl, sym}
use Rattle.lp_model.specs.declared.clause.Goal as code
use Rattle.lp_model.specs.declared.clause.Goal.{Goal}
use Rattle.lp_model.specs.declared.clause.Goal.TheOpen.{Goal-F}
use Rattle.lp_model.specs.declared.clause.Goal.TheVariants.{rolls-Atom, rolls-Cut, rolls-Either, rolls-Some, rolls-All, rolls-Assume, rolls-Not}
use Rattle.lp_model.specs.declared.clause.Goal.TheFolds.{fold-roll-Goal, fold_out-Clause}
use Rattle.lp_model.specs.declared.clause.Clause.{Clause}
use Rattle.lp_model.specs.Flat.{Goal as FlatGoal, Clause as FlatClause, Atomic, Cut, Either, Exists, Forall, clause, assuming, denied}
use Rattle.lp_model.specs.Flattened.{goal_top, clause_top, goal_of, goals_of, clause_of, clauses_of}
use Rattle.lp_term.specs.Nodes.{Nodes, tree, type_tree}
use Rattle.lp_term.specs.declared.node.TermId.{TermId}
use Rattle.lp_term.specs.declared.node.TypeId.{TypeId}
use Rattle.lp_gen.specs.inner.Planned.{clauses_length}

pub atom_is : (b : Nodes) (t : TermId) → goal_of b (code.Atom t) ≡ Atomic (tree b t.0)
atom_is b t = ap (goal_of b) (sym (rolls-Atom t)) ∙ fold-roll-Goal FlatGoal FlatClause (goal_top b) (clause_top b) (Goal-F.Atom t)

pub cut_is : (b : Nodes) → goal_of b code.Cut ≡ Cut
cut_is b = ap (goal_of b) (sym rolls-Cut) ∙ fold-roll-Goal FlatGoal FlatClause (goal_top b) (clause_top b) Goal-F.Cut

pub either_is : (b : Nodes) (l r : Vec Goal Global) → goal_of b (code.Either l r) ≡ Either (goals_of b l.items) (goals_of b r.items)
either_is b l r = ap (goal_of b) (sym (rolls-Either l r)) ∙ fold-roll-Goal FlatGoal FlatClause (goal_top b) (clause_top b) (Goal-F.Either l r)

pub some_is : (b : Nodes) (T : TypeId) (l : Vec Goal Global) → goal_of b (code.Some T l) ≡ Exists (type_tree b T.0) (goals_of b l.items)
some_is b T l = ap (goal_of b) (sym (rolls-Some T l)) ∙ fold-roll-Goal FlatGoal FlatClause (goal_top b) (clause_top b) (Goal-F.Some T l)

pub all_is : (b : Nodes) (T : TypeId) (l : Vec Goal Global) → goal_of b (code.All T l) ≡ Forall (type_tree b T.0) (goals_of b l.items)
all_is b T l = ap (goal_of b) (sym (rolls-All T l)) ∙ fold-roll-Goal FlatGoal FlatClause (goal_top b) (clause_top b) (Goal-F.All T l)

pub assume_is : (b : Nodes) (cs : Vec Clause Global) (l : Vec Goal Global) → goal_of b (code.Assume cs l) ≡ assuming (clauses_of b cs.items) (goals_of b l.items)
assume_is b cs l = ap (goal_of b) (sym (rolls-Assume cs l)) ∙ fold-roll-Goal FlatGoal FlatClause (goal_top b) (clause_top b) (Goal-F.Assume cs l)

pub not_is : (b : Nodes) (l : Vec Goal Global) → goal_of b (code.Not l) ≡ denied (goals_of b l.items)
not_is b l = ap (goal_of b) (sym (rolls-Not l)) ∙ fold-roll-Goal FlatGoal FlatClause (goal_top b) (clause_top b) (Goal-F.Not l)

pub clause_is : (b : Nodes) (c : Clause) → clause_of b c ≡ clause c.type_vars (map (λ T. type_tree b T.0) c.vars.items) (tree b c.head.0) (goals_of b c.body.items)
clause_is b c = fold_out-Clause FlatGoal FlatClause (goal_top b) (clause_top b) c

pub clauses_many : (b : Nodes) (cs : List Clause) → clauses_length (clauses_of b cs) ≡ length cs
clauses_many b [] = refl
clauses_many b (c ∷ cs) = ap suc (clauses_many b cs)
