-- A weight of tasks that falls in the plain search: a candidate opens at most one task.
use Rattle.std.proofs.Common.{ℕ, ◌+◌, List, [], ◌∷◌, ◌++◌, length, Option, Some, None, Bool, true, false, arith, ◌<◌}
use Rattle.lp_calculus.specs.Term.{Term}
use Rattle.lp_model.specs.Skeleton.{View}
use Rattle.lp_model.specs.Faithful.{total, OpensLighter, Falls}
use Rattle.lp_calculus.specs.Spine.{head_of, arguments}
use Rattle.lp_standard.specs.Connectives.{Connective, connective_of}
use Rattle.lp_standard.specs.Connectives as connective
use Rattle.lp_model.specs.Unify.{Unified, Fail, Solution, Spent, solve, unit_limit}
use Rattle.lp_model.specs.Rule.{type_pairs}
use Rattle.lp_calculus.specs.Types.{Ty}
use Rattle.lp_calculus.specs.Instance.{instance_term}
use Rattle.lp_model.specs.Flat.{Goal, Atomic, Cut, Either, Exists, Forall, Assume, Not, Clause, clause, Goals, goal_list, instantiate_goals, type_goals}
use Rattle.lp_model.specs.Look.{head_normal}
use Rattle.lp_model.specs.Branch.{entries, Entry, Branch, Answer, Task, Go, Try, Stop, Lack, both_written}
use Rattle.lp_calculus.specs.Term.{index, atom, abs, app, constant, integer, text, eigen, logic, param}
use Rattle.lp_model.specs.Search.{has_variables, look_not, follow, with_goals, tried, try_clause, renewed, slotted, slots_of, pairs_of, look_atom, look_form, look_normal, look_goal, look_branch, look}

pub weight : Task → ℕ
weight (Go b) = 1
weight (Try c t e b mark) = 2
weight (Stop e) = 1
weight Lack = 1

follow_light : (b : Branch) (o : Option Unified) → total weight (follow b o) < 2
unfolding weight
follow_light b None = omega arith
follow_light b (Some Spent) = omega arith
follow_light b (Some Fail) = omega arith
follow_light b (Some (Solution s)) = omega arith

-- what opens nothing uncounted
Counted : View Task Answer → Type 0
Counted v = (k : ℕ) → OpensLighter weight k v

atom_counted : (n : ℕ) (P : List Clause) (height : ℕ) (e : Entry) (b : Branch) (t h : Term) → Counted (look_atom unit_limit n P height e b t h)
unfolding Counted
atom_counted n P height e b t (index i) k = tt
atom_counted n P height e b t (atom (constant c ts)) k = tt
atom_counted n P height e b t (atom (eigen j)) k = tt
atom_counted n P height e b t (atom (logic x l)) k = tt
atom_counted n P height e b t (atom (integer z)) k = tt
atom_counted n P height e b t (atom (text s)) k = tt
atom_counted n P height e b t (atom (param j u)) k = tt
atom_counted n P height e b t (abs u) k = tt
atom_counted n P height e b t (app f a) k = tt

form_counted : (n : ℕ) (P : List Clause) (height : ℕ) (e : Entry) (b : Branch) (t : Term) (f : Connective) → Counted (look_form unit_limit n P height e b t f)
unfolding Counted
form_counted n P height e b t connective.True k = tt
form_counted n P height e b t connective.Cut k = tt
form_counted n P height e b t (connective.And l r) k = tt
form_counted n P height e b t (connective.Or l r) k = tt
form_counted n P height e b t (connective.Implies c g) k = tt
form_counted n P height e b t (connective.ForAll T s) k = tt
form_counted n P height e b t (connective.Exists T s) k = tt
form_counted n P height e b t (connective.Not g) k = tt
form_counted n P height e b t connective.Atomic k = atom_counted n P height e b t (head_of t) k

normal_counted : (n : ℕ) (P : List Clause) (height : ℕ) (e : Entry) (b : Branch) (o : Option Term) → Counted (look_normal unit_limit n P height e b o)
unfolding Counted
normal_counted n P height e b None k = tt
normal_counted n P height e b (Some t) k = form_counted n P height e b t (connective_of t) k

not_counted : (e : Entry) (b : Branch) (gs : Goals) (o : Option Bool) → Counted (look_not e b gs o)
unfolding Counted
not_counted e b gs None k = tt
not_counted e b gs (Some true) k = tt
not_counted e b gs (Some false) k = tt

goal_counted : (n : ℕ) (P : List Clause) (height : ℕ) (e : Entry) (b : Branch) (g : Goal) → Counted (look_goal unit_limit n P height e b g)
unfolding Counted
goal_counted n P height e b (Atomic t) k = normal_counted n P height e b (head_normal n t) k
goal_counted n P height e b Cut k = tt
goal_counted n P height e b (Either l r) k = tt
goal_counted n P height e b (Exists T gs) k = tt
goal_counted n P height e b (Forall T gs) k = tt
goal_counted n P height e b (Assume ws cs gs) k = tt
goal_counted n P height e b (Not ws gs) k = not_counted e b gs (has_variables n (both_written ws e.written)) k

branch_counted : (n : ℕ) (P : List Clause) (height : ℕ) (b : Branch) (es : List Entry) → Counted (look_branch unit_limit n P height b es)
unfolding Counted
branch_counted n P height b [] k = tt
branch_counted n P height b (e ∷ es) k = goal_counted n P height e (with_goals b es) e.goal k

tried_light : (n k : ℕ) (vs : List Ty) (h : Term) (body : Goals) (t : Term) (e : Entry) (b : Branch) (mark : ℕ) (σ : ℕ → Term) → total weight (tried unit_limit n k vs h body t e b mark σ) < 2
tried_light n k vs h body t e b mark σ = follow_light (record {
  next = b.next + length vs;
  next_type = b.next_type + k;
  goals = entries (goal_list (instantiate_goals σ body)) e.assumed e.written e.level mark ++ b.goals;
  types = b.types;
  values = b.values;
  pairs = b.pairs;
}) (solve n unit_limit (type_pairs (head_of t) (head_of h)) (pairs_of σ e.level [] (arguments h) (arguments t)) b.pairs (b.next + length vs))

try_light : (n : ℕ) (c : Clause) (t : Term) (e : Entry) (b : Branch) (mark : ℕ) → total weight (try_clause unit_limit n c t e b mark) < 2
try_light n (clause k vs h body) t e b mark =
    let h' = instance_term (renewed k b.next_type) h in
    tried_light n k vs h' (type_goals (renewed k b.next_type) body) t e b mark (slotted (slots_of [] (arguments h') (arguments t)) b.next e.level)

pub falls : (n : ℕ) (P : List Clause) → Falls (look unit_limit n P) weight
unfolding Counted weight
falls n P height (Go b) = branch_counted n P height b b.goals 1
falls n P height (Try c t e b mark) = try_light n c t e b mark
falls n P height (Stop e) = tt
falls n P height Lack = tt
