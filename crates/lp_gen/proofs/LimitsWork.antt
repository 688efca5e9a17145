-- The parts of a goal are less to look at than the goal.
use Rattle.std.proofs.Common.{◌≡◌, ◌∙◌, ◌≤◌, ℕ, ◌+◌, ◌*◌, List, [], ◌∷◌, ◌++◌, map, Bor, Vec, Global, ap, sym, arith}
use Rattle.lp_term.specs.Nodes.{Nodes, tree}
use Rattle.lp_term.specs.Walk.{size}
use Rattle.lp_term.specs.declared.node.TermId.{TermId}
use Rattle.lp_term.specs.declared.node.TypeId.{TypeId}
use Rattle.lp_model.specs.declared.clause.Goal as code
use Rattle.lp_model.specs.declared.clause.Goal.{Goal}
use Rattle.lp_model.specs.declared.clause.Goal.TheOpen.{Goal-F}
use Rattle.lp_model.specs.declared.clause.Goal.TheVariants.{rolls-Atom, rolls-Either, rolls-Some, rolls-All, rolls-Assume, rolls-Not}
use Rattle.lp_model.specs.declared.clause.Goal.TheFolds.{fold-roll-Goal}
use Rattle.lp_model.specs.declared.clause.Clause.{Clause}
use Rattle.lp_gen.specs.declared.limits.Source.{Source}
use Rattle.lp_gen.specs.declared.limits.Source.TheVariants as on
use Rattle.lp_gen.specs.inner.Sizes.{goals_weigh}
use Rattle.lp_gen.specs.inner.Capturing.{goal_size_at, clause_size_at, goal_size, clause_size}
use Rattle.lp_gen.specs.inner.Limiting.{source_task, source_work}
use Rattle.lp_gen.proofs.Works.{one_more, two_more}

atom_size : (b : Nodes) (t : TermId) → goal_size b (code.Atom t) ≡ 4 * size (tree b t.0)
atom_size b t = ap (goal_size b) (sym (rolls-Atom t)) ∙ fold-roll-Goal ℕ ℕ (goal_size_at b) (clause_size_at b) (Goal-F.Atom t)

either_size : (b : Nodes) (l r : Vec Goal Global) → goal_size b (code.Either l r) ≡ goals_weigh (map (goal_size b) l.items) + goals_weigh (map (goal_size b) r.items)
either_size b l r = ap (goal_size b) (sym (rolls-Either l r)) ∙ fold-roll-Goal ℕ ℕ (goal_size_at b) (clause_size_at b) (Goal-F.Either l r)

some_size : (b : Nodes) (T : TypeId) (l : Vec Goal Global) → goal_size b (code.Some T l) ≡ goals_weigh (map (goal_size b) l.items)
some_size b T l = ap (goal_size b) (sym (rolls-Some T l)) ∙ fold-roll-Goal ℕ ℕ (goal_size_at b) (clause_size_at b) (Goal-F.Some T l)

all_size : (b : Nodes) (T : TypeId) (l : Vec Goal Global) → goal_size b (code.All T l) ≡ goals_weigh (map (goal_size b) l.items)
all_size b T l = ap (goal_size b) (sym (rolls-All T l)) ∙ fold-roll-Goal ℕ ℕ (goal_size_at b) (clause_size_at b) (Goal-F.All T l)

assume_size : (b : Nodes) (cs : Vec Clause Global) (l : Vec Goal Global) → goal_size b (code.Assume cs l) ≡ goals_weigh (map (clause_size b) cs.items) + goals_weigh (map (goal_size b) l.items)
assume_size b cs l = ap (goal_size b) (sym (rolls-Assume cs l)) ∙ fold-roll-Goal ℕ ℕ (goal_size_at b) (clause_size_at b) (Goal-F.Assume cs l)

not_size : (b : Nodes) (l : Vec Goal Global) → goal_size b (code.Not l) ≡ goals_weigh (map (goal_size b) l.items)
not_size b l = ap (goal_size b) (sym (rolls-Not l)) ∙ fold-roll-Goal ℕ ℕ (goal_size_at b) (clause_size_at b) (Goal-F.Not l)

module _ (b : Nodes) (g : Goal) (ss mid ss' : List Source) where
  pub atom_less : (t : TermId) (n : ℕ) → g ≡ code.Atom t → ss' ≡ ss ++ on.Term t n ∷ [] → source_work b ss' ≤ source_work b ss + goal_size b g
  atom_less t n is e = let w = one_more (source_task b) ss ss' (on.Term t n) e in let s = ap (goal_size b) is ∙ atom_size b t in omega (arith, w, s)

  one_list : (l : Vec Goal Global) (ls : Bor (List Goal)) (n : ℕ) → goal_size b g ≡ goals_weigh (map (goal_size b) l.items) → ls.now ≡ l.items → ss' ≡ ss ++ on.Goals ls n ∷ [] →
      source_work b ss' ≤ source_work b ss + goal_size b g
  one_list l ls n s same e =
      let w = one_more (source_task b) ss ss' (on.Goals ls n) e in
      let x = ap (λ l. goals_weigh (map (goal_size b) l)) same in
      omega (arith, w, s, x)

  pub some_less : (T : TypeId) (l : Vec Goal Global) (ls : Bor (List Goal)) (n : ℕ) → g ≡ code.Some T l → ls.now ≡ l.items → ss' ≡ ss ++ on.Goals ls n ∷ [] →
      source_work b ss' ≤ source_work b ss + goal_size b g
  some_less T l ls n is same e = one_list l ls n (ap (goal_size b) is ∙ some_size b T l) same e

  pub all_less : (T : TypeId) (l : Vec Goal Global) (ls : Bor (List Goal)) (n : ℕ) → g ≡ code.All T l → ls.now ≡ l.items → ss' ≡ ss ++ on.Goals ls n ∷ [] →
      source_work b ss' ≤ source_work b ss + goal_size b g
  all_less T l ls n is same e = one_list l ls n (ap (goal_size b) is ∙ all_size b T l) same e

  pub not_less : (l : Vec Goal Global) (ls : Bor (List Goal)) (n : ℕ) → g ≡ code.Not l → ls.now ≡ l.items → ss' ≡ ss ++ on.Goals ls n ∷ [] → source_work b ss' ≤ source_work b ss + goal_size b g
  not_less l ls n is same e = one_list l ls n (ap (goal_size b) is ∙ not_size b l) same e

  pub either_less : (l r : Vec Goal Global) (ls rs : Bor (List Goal)) (n : ℕ) → g ≡ code.Either l r → ls.now ≡ l.items → rs.now ≡ r.items → mid ≡ ss ++ on.Goals ls n ∷ [] →
      ss' ≡ mid ++ on.Goals rs n ∷ [] → source_work b ss' ≤ source_work b ss + goal_size b g
  either_less l r ls rs n is left right m e =
      let w = two_more (source_task b) ss mid ss' (on.Goals ls n) (on.Goals rs n) m e in
      let s = ap (goal_size b) is ∙ either_size b l r in
      let x = ap (λ l. goals_weigh (map (goal_size b) l)) left in
      let y = ap (λ l. goals_weigh (map (goal_size b) l)) right in
      omega (arith, w, s, x, y)

  pub assume_less : (cs : Vec Clause Global) (l : Vec Goal Global) (ds : Bor (List Clause)) (ls : Bor (List Goal)) (n : ℕ) → g ≡ code.Assume cs l → ds.now ≡ cs.items → ls.now ≡ l.items →
      mid ≡ ss ++ on.Clauses ds n ∷ [] → ss' ≡ mid ++ on.Goals ls n ∷ [] → source_work b ss' ≤ source_work b ss + goal_size b g
  assume_less cs l ds ls n is left right m e =
      let w = two_more (source_task b) ss mid ss' (on.Clauses ds n) (on.Goals ls n) m e in
      let s = ap (goal_size b) is ∙ assume_size b cs l in
      let x = ap (λ l. goals_weigh (map (clause_size b) l)) left in
      let y = ap (λ l. goals_weigh (map (goal_size b) l)) right in
      omega (arith, w, s, x, y)
