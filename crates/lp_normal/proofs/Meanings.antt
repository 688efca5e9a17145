-- What a goal and a clause mean by their tops, and the bounds of their numbers.
use Rattle.std.proofs.Common.{◌≡◌, ℕ, suc, map, sym, ap, ◌∙◌, Vec, Global}
use Rattle.std.specs.Prelude.{max}
use Rattle.lp_term.specs.Nodes.{Nodes, tree, type_tree}
use Rattle.lp_term.specs.declared.node.TermId.{TermId}
use Rattle.lp_term.specs.declared.node.TypeId.{TypeId}
use Rattle.lp_model.specs.declared.clause.Goal as code
use Rattle.lp_model.specs.declared.clause.Goal.{Goal}
use Rattle.lp_model.specs.declared.clause.Goal.TheOpen.{Goal-F}
use Rattle.lp_model.specs.declared.clause.Goal.TheVariants.{rolls-Atom, rolls-Cut, rolls-Either, rolls-Some, rolls-All, rolls-Assume, rolls-Not}
use Rattle.lp_model.specs.declared.clause.Goal.TheFolds.{fold-roll-Goal, fold_out-Clause}
use Rattle.lp_model.specs.declared.clause.Clause.{Clause}
use Rattle.lp_model.specs.Flat.{Goal as FlatGoal, Clause as FlatClause, Atomic, Cut, Either, Exists, Forall, clause, assuming, denied}
use Rattle.lp_model.specs.Flattened.{goal_top, clause_top, goal_of, goals_of, clause_of, clauses_of}
use Rattle.lp_normal.specs.Within.{highest, term_bound_at, clause_term_bound_at, term_bound, clause_term_bound, type_bound_at, clause_type_bound_at, type_bound, clause_type_bound}

pub atom_is : (b : Nodes) (t : TermId) → goal_of b (code.Atom t) ≡ Atomic (tree b t.0)
atom_is b t = ap (goal_of b) (sym (rolls-Atom t)) ∙ fold-roll-Goal FlatGoal FlatClause (goal_top b) (clause_top b) (Goal-F.Atom t)

pub cut_is : (b : Nodes) → goal_of b code.Cut ≡ Cut
cut_is b = ap (goal_of b) (sym rolls-Cut) ∙ fold-roll-Goal FlatGoal FlatClause (goal_top b) (clause_top b) Goal-F.Cut

pub either_is : (b : Nodes) (l r : Vec Goal Global) → goal_of b (code.Either l r) ≡ Either (goals_of b l.items) (goals_of b r.items)
either_is b l r = ap (goal_of b) (sym (rolls-Either l r)) ∙ fold-roll-Goal FlatGoal FlatClause (goal_top b) (clause_top b) (Goal-F.Either l r)

pub some_is : (b : Nodes) (T : TypeId) (l : Vec Goal Global) → goal_of b (code.Some T l) ≡ Exists (type_tree b T.0) (goals_of b l.items)
some_is b T l = ap (goal_of b) (sym (rolls-Some T l)) ∙ fold-roll-Goal FlatGoal FlatClause (goal_top b) (clause_top b) (Goal-F.Some T l)

pub all_is : (b : Nodes) (T : TypeId) (l : Vec Goal Global) → goal_of b (code.All T l) ≡ Forall (type_tree b T.0) (goals_of b l.items)
all_is b T l = ap (goal_of b) (sym (rolls-All T l)) ∙ fold-roll-Goal FlatGoal FlatClause (goal_top b) (clause_top b) (Goal-F.All T l)

pub assume_is : (b : Nodes) (cs : Vec Clause Global) (l : Vec Goal Global) → goal_of b (code.Assume cs l) ≡ assuming (clauses_of b cs.items) (goals_of b l.items)
assume_is b cs l = ap (goal_of b) (sym (rolls-Assume cs l)) ∙ fold-roll-Goal FlatGoal FlatClause (goal_top b) (clause_top b) (Goal-F.Assume cs l)

pub not_is : (b : Nodes) (l : Vec Goal Global) → goal_of b (code.Not l) ≡ denied (goals_of b l.items)
not_is b l = ap (goal_of b) (sym (rolls-Not l)) ∙ fold-roll-Goal FlatGoal FlatClause (goal_top b) (clause_top b) (Goal-F.Not l)

-- bounds

pub atom_terms : (t : TermId) → term_bound (code.Atom t) ≡ suc t.0
atom_terms t = ap term_bound (sym (rolls-Atom t)) ∙ fold-roll-Goal ℕ ℕ term_bound_at clause_term_bound_at (Goal-F.Atom t)

pub atom_types : (t : TermId) → type_bound (code.Atom t) ≡ 0
atom_types t = ap type_bound (sym (rolls-Atom t)) ∙ fold-roll-Goal ℕ ℕ type_bound_at clause_type_bound_at (Goal-F.Atom t)

pub cut_terms : term_bound code.Cut ≡ 0
cut_terms = ap term_bound (sym rolls-Cut) ∙ fold-roll-Goal ℕ ℕ term_bound_at clause_term_bound_at Goal-F.Cut

pub cut_types : type_bound code.Cut ≡ 0
cut_types = ap type_bound (sym rolls-Cut) ∙ fold-roll-Goal ℕ ℕ type_bound_at clause_type_bound_at Goal-F.Cut

pub either_terms : (l r : Vec Goal Global) → term_bound (code.Either l r) ≡ max (highest (map term_bound l.items)) (highest (map term_bound r.items))
either_terms l r = ap term_bound (sym (rolls-Either l r)) ∙ fold-roll-Goal ℕ ℕ term_bound_at clause_term_bound_at (Goal-F.Either l r)

pub either_types : (l r : Vec Goal Global) → type_bound (code.Either l r) ≡ max (highest (map type_bound l.items)) (highest (map type_bound r.items))
either_types l r = ap type_bound (sym (rolls-Either l r)) ∙ fold-roll-Goal ℕ ℕ type_bound_at clause_type_bound_at (Goal-F.Either l r)

pub some_terms : (T : TypeId) (l : Vec Goal Global) → term_bound (code.Some T l) ≡ highest (map term_bound l.items)
some_terms T l = ap term_bound (sym (rolls-Some T l)) ∙ fold-roll-Goal ℕ ℕ term_bound_at clause_term_bound_at (Goal-F.Some T l)

pub some_types : (T : TypeId) (l : Vec Goal Global) → type_bound (code.Some T l) ≡ max (suc T.0) (highest (map type_bound l.items))
some_types T l = ap type_bound (sym (rolls-Some T l)) ∙ fold-roll-Goal ℕ ℕ type_bound_at clause_type_bound_at (Goal-F.Some T l)

pub all_terms : (T : TypeId) (l : Vec Goal Global) → term_bound (code.All T l) ≡ highest (map term_bound l.items)
all_terms T l = ap term_bound (sym (rolls-All T l)) ∙ fold-roll-Goal ℕ ℕ term_bound_at clause_term_bound_at (Goal-F.All T l)

pub all_types : (T : TypeId) (l : Vec Goal Global) → type_bound (code.All T l) ≡ max (suc T.0) (highest (map type_bound l.items))
all_types T l = ap type_bound (sym (rolls-All T l)) ∙ fold-roll-Goal ℕ ℕ type_bound_at clause_type_bound_at (Goal-F.All T l)

pub assume_terms : (cs : Vec Clause Global) (l : Vec Goal Global) → term_bound (code.Assume cs l) ≡ max (highest (map clause_term_bound cs.items)) (highest (map term_bound l.items))
assume_terms cs l = ap term_bound (sym (rolls-Assume cs l)) ∙ fold-roll-Goal ℕ ℕ term_bound_at clause_term_bound_at (Goal-F.Assume cs l)

pub assume_types : (cs : Vec Clause Global) (l : Vec Goal Global) → type_bound (code.Assume cs l) ≡ max (highest (map clause_type_bound cs.items)) (highest (map type_bound l.items))
assume_types cs l = ap type_bound (sym (rolls-Assume cs l)) ∙ fold-roll-Goal ℕ ℕ type_bound_at clause_type_bound_at (Goal-F.Assume cs l)

pub not_terms : (l : Vec Goal Global) → term_bound (code.Not l) ≡ highest (map term_bound l.items)
not_terms l = ap term_bound (sym (rolls-Not l)) ∙ fold-roll-Goal ℕ ℕ term_bound_at clause_term_bound_at (Goal-F.Not l)

pub not_types : (l : Vec Goal Global) → type_bound (code.Not l) ≡ highest (map type_bound l.items)
not_types l = ap type_bound (sym (rolls-Not l)) ∙ fold-roll-Goal ℕ ℕ type_bound_at clause_type_bound_at (Goal-F.Not l)

-- a clause

pub clause_is : (b : Nodes) (c : Clause) → clause_of b c ≡ clause c.type_vars (map (λ T. type_tree b T.0) c.vars.items) (tree b c.head.0) (goals_of b c.body.items)
clause_is b c = fold_out-Clause FlatGoal FlatClause (goal_top b) (clause_top b) c

pub clause_terms : (c : Clause) → clause_term_bound c ≡ max (suc c.head.0) (highest (map term_bound c.body.items))
clause_terms c = fold_out-Clause ℕ ℕ term_bound_at clause_term_bound_at c

pub clause_types : (c : Clause) → clause_type_bound c ≡ max (highest (map (λ T. suc T.0) c.vars.items)) (highest (map type_bound c.body.items))
clause_types c = fold_out-Clause ℕ ℕ type_bound_at clause_type_bound_at c
