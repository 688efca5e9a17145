-- How much is left to do, which says that work lists come to an end.
use Rattle.std.specs.Prelude.{ℕ, suc, ◌+◌, ◌*◌, List, map, sum_by}
use Rattle.lp_calculus.specs.Types.{Ty, Tys, var, param as type_param, con, arrow, no_types, types, tys}
use Rattle.lp_term.specs.Nodes.{Nodes, tree, type_tree}
use Rattle.lp_term.specs.Walk.{size}
use Rattle.lp_gen.specs.inner.Reading.{read, read_at}
use Rattle.lp_gen.specs.declared.written_types.TypeTask.{TypeTask}
use Rattle.lp_gen.specs.declared.written_types.TypeTask.TheVariants as on_type
use Rattle.lp_gen.specs.declared.listing.Task.{Task}
use Rattle.lp_gen.specs.declared.listing.Task.TheVariants as on_term
use Rattle.lp_model.specs.declared.clause.Goal as code
use Rattle.lp_model.specs.declared.clause.Goal.TheOpen.{Goal-F}
use Rattle.lp_model.specs.declared.clause.Clause as code_clause
use Rattle.lp_gen.specs.declared.plan.Task.{Task as PlanTask}
use Rattle.lp_gen.specs.declared.plan.Task.TheVariants as on_goal

-- the nodes of a type, the items of lists counted too
abbrev mutual
  pub type_size : Ty → ℕ
  type_size (var i) = 1
  type_size (type_param k) = 1
  type_size (con c ts) = 1 + types_size ts
  type_size (arrow a b) = 1 + (type_size a + type_size b)

  pub types_size : Tys → ℕ
  types_size no_types = 0
  types_size (types t ts) = suc (type_size t + types_size ts)

abbrev pub type_task : Nodes → TypeTask → ℕ
type_task b (on_type.Visit t) = 3 * type_size (read b t)
type_task b (on_type.Parts ids at) = 1 + 3 * types_size (tys (map (λ p. read_at b at (type_tree b p.0)) ids.now))
type_task b (on_type.Constructor k n) = 1
type_task b on_type.Arrow = 1

abbrev pub type_work : Nodes → List TypeTask → ℕ
type_work b ts = sum_by (type_task b) ts

abbrev pub term_task : Nodes → Task → ℕ
term_task b (on_term.Visit t T) = 4 * size (tree b t.0)
term_task b (on_term.Args ids f) = 1 + sum_by (λ t. 1 + 4 * size (tree b t.0)) ids.items
term_task b (on_term.Apply n) = 1
term_task b (on_term.Abstract T) = 1

abbrev pub term_work : Nodes → List Task → ℕ
term_work b ts = sum_by (term_task b) ts

-- the tasks that a list of goals comes to, of which each has those that it pushes
abbrev pub goals_weigh : List ℕ → ℕ
goals_weigh ns = 1 + sum_by suc ns

abbrev pub goal_weighs_at : Goal-F ℕ ℕ → ℕ
goal_weighs_at (Goal-F.Atom t) = 0
goal_weighs_at Goal-F.Cut = 0
goal_weighs_at (Goal-F.Either l r) = 2 + goals_weigh l.items + goals_weigh r.items
goal_weighs_at (Goal-F.Some T l) = goals_weigh l.items
goal_weighs_at (Goal-F.All T l) = 1 + goals_weigh l.items
goal_weighs_at (Goal-F.Assume cs l) = 1 + goals_weigh l.items
goal_weighs_at (Goal-F.Not l) = 1 + goals_weigh l.items

abbrev pub no_weight : code_clause.Clause-F ℕ ℕ → ℕ
no_weight c = 0

abbrev pub goal_weighs : code.Goal → ℕ
goal_weighs = code.fold-Goal ℕ ℕ goal_weighs_at no_weight

abbrev pub goal_task : PlanTask → ℕ
goal_task (on_goal.Goals gs) = goals_weigh (map goal_weighs gs.now)
goal_task (on_goal.End s level) = 1

abbrev pub goal_work : List PlanTask → ℕ
goal_work ts = sum_by goal_task ts
