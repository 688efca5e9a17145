-- What is left of a walk over the parts of a formula.
use Rattle.std.specs.Prelude.{◌≡◌, ℕ, suc, ◌+◌, ◌<◌, ◌≤◌, List, [], ◌∷◌, ◌++◌, length, reverse, All, Bool, true, false, Option, Some, None}
use Rattle.lp_calculus.specs.Term.{Term, index, atom, abs, app}
use Rattle.lp_term.specs.Nodes.{Nodes, tree}
use Rattle.lp_term.specs.declared.node.TermId.{TermId}
use Rattle.lp_lambda.specs.Pattern.{Part, ArePatterns}
use Rattle.lp_lambda.specs.declared.walk.Position.{Position}
use Rattle.lp_lambda.specs.declared.walk.Position.TheVariants.{Goal, Clause, Inside}
use Rattle.lp_lambda.specs.declared.walk.Binder.{Binder}
use Rattle.lp_lambda.specs.declared.walk.Task.{Task}
use Rattle.lp_lambda.specs.declared.walk.Task.TheVariants.{Visit, Leave}
use Rattle.lp_lambda.specs.declared.walk.Walk.{Walk}

-- the part at a number
abbrev pub part_in : Nodes → Position → List Binder → TermId → Part
part_in b p bs t = record { position = p; binders = bs; term = tree b t.0 }

-- without the innermost binder
abbrev pub outer : List Binder → List Binder
outer [] = []
outer (x ∷ bs) = bs

-- the parts that tasks are about, the next one first, under these binders
abbrev pub parts_left : Nodes → List Binder → List Task → List Part
parts_left b bs [] = []
parts_left b bs (Visit p t ∷ ts) = part_in b p bs t ∷ parts_left b bs ts
parts_left b bs (Leave ∷ ts) = parts_left b (outer bs) ts

abbrev pub scope_of : Walk → List Binder
scope_of w = reverse w.scope.items

abbrev pub left : Nodes → Walk → List Part
left b w = parts_left b (scope_of w) (reverse w.work.items)

abbrev pub IsTaskIn : Nodes → Task → Type 0
IsTaskIn b (Visit p t) = t.0 < length b.terms
IsTaskIn b Leave = Unit {0}

abbrev pub AreTasksIn : Nodes → Walk → Type 0
AreTasksIn b w = All (IsTaskIn b) w.work.items

-- How much work a part is: more than its own parts together, and two more.

abbrev pub weight : Term → ℕ
weight (index i) = 2
weight (atom a) = 4
weight (abs b) = 2 + weight b
weight (app t u) = 1 + (weight t + weight u)

abbrev pub weight_at : Position → Term → ℕ
weight_at Goal t = 2 + weight t
weight_at Clause t = 2 + weight t
weight_at Inside t = weight t

abbrev pub weights : List Part → ℕ
weights [] = 0
weights (p ∷ ps) = weight_at p.position p.term + weights ps

abbrev pub task_weight : Nodes → Task → ℕ
task_weight b (Visit p t) = weight_at p (tree b t.0)
task_weight b Leave = 1

abbrev pub work : Nodes → List Task → ℕ
work b [] = 0
work b (t ∷ ts) = task_weight b t + work b ts

-- these parts come before those that were left
pub record IsPut (b c : Nodes) (ps : List Part) (old new : Walk) : Type 0 where
  pub left : left c new ≡ ps ++ left b old
  pub within : AreTasksIn c new
  pub work : work c new.work.items ≤ suc (weights ps + work b old.work.items)

-- where there are such parts, they come before those that were left
abbrev pub IsTaken : Nodes → Nodes → Option (List Part) → (old new : Walk) → Bool → Type 0
IsTaken b c parts old new true = (ps : List Part) × (parts ≡ Some ps) × IsPut b c ps old new
IsTaken b c parts old new false = parts ≡ None

-- the parts that are left are pattern text exactly where these are, and less is left to do; or these are not
abbrev pub Leads : (c : Nodes) → (before : List Part) → (load : ℕ) → Walk → Bool → Type 0
Leads c before load new true = (ArePatterns before → ArePatterns (left c new)) × (ArePatterns (left c new) → ArePatterns before) × AreTasksIn c new × (work c new.work.items < load)
Leads c before load new false = ArePatterns before → ⊥
