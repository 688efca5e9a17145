-- Where n steps are enough for the look at a task: what it head-reduces, evaluates and unifies comes to something with so many steps of each kind.
use Rattle.std.specs.Prelude.{◌≡◌, ◌≤◌, ◌+◌, ℕ, List, [], ◌∷◌, length, Option, Some}
use Rattle.lp_calculus.specs.Types.{Ty}
use Rattle.lp_calculus.specs.Term.{Term, index, atom, abs, app, constant, integer, text, eigen, logic, param}
use Rattle.lp_calculus.specs.Instance.{instance_term}
use Rattle.lp_model.specs.Look.{head_normal}
use Rattle.lp_calculus.specs.Spine.{head_of, arguments}
use Rattle.lp_standard.specs.Connectives.{connective_of}
use Rattle.lp_standard.specs.Connectives as connective
use Rattle.lp_model.specs.Rule.{type_pairs}
use Rattle.lp_model.specs.Unify.{solve, unit_limit}
use Rattle.lp_model.specs.Values.{Value, Outcome, Is, evaluate, term_of}
use Rattle.lp_model.specs.Flat.{Atomic, Not, Written, Goals, Clause, clause}
use Rattle.lp_model.specs.Branch.{Entry, Branch, Task, Go, Try, Stop, Lack, both_written}
use Rattle.lp_model.specs.Search.{has_variables, goal_looked, slots_of, slotted, pairs_of, renewed}
use Rattle.lp_search_laws.specs.Holds.{equation}

abbrev pub IsFound : {A : Type 0} → Option A → Type 0
IsFound {A} o = (x : A) × (o ≡ Some x)

abbrev pub CanEquate : (n level : ℕ) → Branch → (l r : Term) → Type 0
CanEquate n level b l r = IsFound (solve n unit_limit [] (equation l r level) b.pairs b.next)

-- the value of r, and the equality with l
abbrev pub CanAssign : (n level : ℕ) → Branch → (l r : Term) → Type 0
CanAssign n level b l r = (o : Outcome) × (evaluate n r ≡ Some o) × ((v : Value) → o ≡ Is v → CanEquate n level b l (term_of v))

-- a call of the constant c on two arguments: `=`, `is`, and the orders
pub record CallHasEnough (n level : ℕ) (b : Branch) (c : ℕ) (l r : Term) : Type 0 where
  pub equality : c ≡ 8 → CanEquate n level b l r
  pub assignment : c ≡ 9 → CanAssign n level b l r
  pub orders : 10 ≤ c → c ≤ 13 → IsFound (evaluate n l) × IsFound (evaluate n r)

abbrev pub HeadHasEnough : (n level : ℕ) → Branch → (head : Term) → (arguments : List Term) → Type 0
HeadHasEnough n level b (atom (constant c ts)) us = (l r : Term) → us ≡ l ∷ r ∷ [] → CallHasEnough n level b c l r
HeadHasEnough n level b (atom (eigen k)) us = Unit {0}
HeadHasEnough n level b (atom (integer z)) us = Unit {0}
HeadHasEnough n level b (atom (text s)) us = Unit {0}
HeadHasEnough n level b (atom (logic x l)) us = Unit {0}
HeadHasEnough n level b (atom (param k T)) us = Unit {0}
HeadHasEnough n level b (index i) us = Unit {0}
HeadHasEnough n level b (abs t) us = Unit {0}
HeadHasEnough n level b (app t u) us = Unit {0}

pub record AtomHasEnough (n level : ℕ) (b : Branch) (u : Term) : Type 0 where
  pub looked : IsFound (goal_looked n u)
  pub head : HeadHasEnough n level b (head_of u) (arguments u)

-- the goal has a head-normal form, and where that is an atom, what is asked of it comes
pub record TermHasEnough (n level : ℕ) (b : Branch) (t : Term) : Type 0 where
  pub form : Term
  pub comes : head_normal n t ≡ Some form
  pub call : connective_of form ≡ connective.Atomic → AtomHasEnough n level b form

-- the head and the goal's arguments against those of the clause, with new variables
abbrev pub TryHasEnough : (n : ℕ) → (vars : List Ty) → (head goal : Term) → Entry → Branch → Type 0
TryHasEnough n vs h t e b = IsFound (solve n unit_limit (type_pairs (head_of t) (head_of h)) (pairs_of (slotted (slots_of [] (arguments h) (arguments t)) b.next e.level) e.level [] (arguments h) (arguments t)) b.pairs (b.next + length vs))

abbrev pub ClauseHasEnough : (n : ℕ) → Clause → (goal : Term) → Entry → Branch → Type 0
ClauseHasEnough n (clause k vs h body) t e b = TryHasEnough n vs (instance_term (renewed k b.next_type) h) t e b

abbrev pub HasEnough : ℕ → Task → Type 0
HasEnough n (Go b) =
    ((e : Entry) (es : List Entry) (t : Term) → b.goals ≡ e ∷ es → e.goal ≡ Atomic t → TermHasEnough n e.level b t) ×
    ((e : Entry) (es : List Entry) (w : Written) (gs : Goals) → b.goals ≡ e ∷ es → e.goal ≡ Not w gs → IsFound (has_variables n (both_written w e.written)))
HasEnough n (Try c t e b mark) = ClauseHasEnough n c t e b
HasEnough n (Stop e) = Unit {0}
HasEnough n Lack = Unit {0}
