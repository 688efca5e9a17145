-- The constant at the head of a term, and the name of a goal.
use Rattle.std.specs.Prelude.{ℕ, nat_eq, Bool, false, Option, Some, None}
use Rattle.lp_calculus.specs.Term.{Term, index, atom, abs, app, constant, integer, text, eigen, logic, param}
use Rattle.lp_model.specs.Skeleton.{GoalName, named, eigenconstant, variable}

-- the constant at the head
abbrev pub constant_of_head : Term → Option ℕ
constant_of_head (index i) = None
constant_of_head (atom (constant c ts)) = Some c
constant_of_head (atom (integer z)) = None
constant_of_head (atom (text s)) = None
constant_of_head (atom (eigen k)) = None
constant_of_head (atom (logic x l)) = None
constant_of_head (atom (param k t)) = None
constant_of_head (abs b) = None
constant_of_head (app f a) = constant_of_head f

abbrev pub same_name : Option ℕ → Option ℕ → Bool
same_name (Some a) (Some b) = nat_eq a b
same_name (Some a) None = false
same_name None o = false

-- how a note names the goal
abbrev pub goal_name : Term → GoalName
goal_name (index i) = variable
goal_name (atom (constant c ts)) = named c
goal_name (atom (eigen k)) = eigenconstant k
goal_name (atom (logic x l)) = variable
goal_name (atom (integer z)) = variable
goal_name (atom (text s)) = variable
goal_name (atom (param k t)) = variable
goal_name (abs b) = variable
goal_name (app f a) = goal_name f
