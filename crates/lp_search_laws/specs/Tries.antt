-- A clause against a goal: what is typed there, and the variables that a try adds.
use Rattle.std.specs.Prelude.{◌≡◌, ◌<◌, ◌+◌, ℕ, List, [], ◌++◌, map, length}
use Rattle.lp_calculus.specs.Types.{Ty, instance}
use Rattle.lp_calculus.specs.Term.{Term, atom, constant, eigen}
use Rattle.lp_calculus.specs.Fill.{Within}
use Rattle.lp_standard.specs.Positive.{IsPositive}
use Rattle.lp_calculus.specs.Typing.{Typed, o_type}
use Rattle.lp_calculus.specs.Spine.{head_of, arguments}
use Rattle.lp_model.specs.Index.{instantiate}
use Rattle.lp_model.specs.Pair.{Closing, closed, SolvesAll}
use Rattle.lp_model.specs.Rule.{type_pairs}
use Rattle.lp_calculus.specs.Instance.{instance_term}
use Rattle.lp_model.specs.Search.{slots_of, slotted, pairs_of, renewed}
use Rattle.lp_model.specs.Branch.{Entry, Branch, entries}
use Rattle.lp_model.specs.Flatten.{ClauseFormula}
use Rattle.lp_model.specs.Flat.{Goals, goal_list, instantiate_goals, type_goals, formula_of_goals}
use Rattle.lp_unify_laws.specs.TypeSolutions.{Unifies}
use Rattle.lp_model.specs.Proofs.{Declared, Leaves, ProvableBy}
use Rattle.lp_model.specs.Answers.{Variable, over, IsScopedAtom, Closes}
use Rattle.lp_search_laws.specs.Holds.{IsTyped}
use Rattle.lp_search_laws.specs.Branches.{BranchTyping}

-- a variable of the goal's scope for each of the clause's
abbrev pub new_variables : (E vs : List Ty) → List Variable
new_variables E vs = map (λ T. record { type = T; scope = E }) vs

-- two heads that are the same but for the types of a constant
pub data HeadsMatch (h g : Term) : Type 0 where
  both_constants : (c : ℕ) → (ts us : List Ty) → length ts ≡ length us → h ≡ atom (constant c ts) → g ≡ atom (constant c us) → HeadsMatch h g
  both_eigens : (k : ℕ) → h ≡ atom (eigen k) → g ≡ atom (eigen k) → HeadsMatch h g

-- head h and body b of a clause over variables of the types vs, and a positive goal t with the same head; they stand at the eigenconstants E and
-- have the variables V
pub record IsMatch (d : Declared) (E : List Ty) (V : List Variable) (vs : List Ty) (h b t : Term) : Type 0 where
  pub head : Typed (over d E V) vs h o_type
  pub head_scoped : Within (IsScopedAtom V E) (length vs) h
  pub body : Typed (over d E V) vs b o_type
  pub body_scoped : Within (IsScopedAtom V E) (length vs) b
  pub goal : IsTyped d E V t o_type
  pub positive : IsPositive t
  pub heads : HeadsMatch (head_of h) (head_of t)

-- what a try puts for the variables of a clause, where V are the variables of the branch
abbrev pub tried_values : (V : List Variable) → (level : ℕ) → (h t : Term) → ℕ → Term
tried_values V level h t = slotted (slots_of [] (arguments h) (arguments t)) (length V) level

-- the closing of the variables and of those for the clause solves what the try asks for, and its goals are provable
pub record SolvesMatch (L : Leaves) (d : Declared) (E : List Ty) (V : List Variable) (P : List ClauseFormula) (level : ℕ) (vs : List Ty) (h : Term) (body : Goals) (t : Term) (z : Closing) : Type 0 where
  pub closes : Closes d (V ++ new_variables E vs) z
  pub types : Unifies z.types (type_pairs (head_of t) (head_of h))
  pub pairs : SolvesAll z (pairs_of (tried_values V level h t) level [] (arguments h) (arguments t))
  pub goals : ProvableBy L d (map (instance z.types) E) P (closed z (instantiate (tried_values V level h t) (formula_of_goals body)))

-- the closing with more variables
pub record GoesOn (V : List Variable) (c z : Closing) : Type 0 where
  pub types : z.types ≡ c.types
  pub terms : (x l : ℕ) → x < length V → z.terms x l ≡ c.terms x l

-- the branch of a try before unification: behind the goals of the clause those of the branch, with the eigenconstants E; and its typing
abbrev pub tried_typing : (y : BranchTyping) → (E : List Ty) → (Es : List (List Ty)) → (k : ℕ) → (vs : List Ty) → (h : Term) → Goals → (t : Term) → Entry → Branch → BranchTyping
tried_typing y E Es k vs h g t e b = record {
  answer = record { variables = y.answer.variables ++ new_variables E (map (instance (renewed k b.next_type)) vs); pairs = y.answer.pairs };
  eigens = map (λ x. E) (goal_list (instantiate_goals (tried_values y.answer.variables e.level (instance_term (renewed k b.next_type) h) t) (type_goals (renewed k b.next_type) g))) ++ Es;
}

abbrev pub tried_branch_of : (V : List Variable) → (k : ℕ) → (vs : List Ty) → (h : Term) → Goals → (t : Term) → Entry → Branch → (mark : ℕ) → Branch
tried_branch_of V k vs h g t e b mark = record {
  next = b.next + length vs;
  next_type = b.next_type + k;
  goals = entries (goal_list (instantiate_goals (tried_values V e.level (instance_term (renewed k b.next_type) h) t) (type_goals (renewed k b.next_type) g))) e.assumed e.written e.level mark ++ b.goals;
  types = b.types;
  values = b.values;
  pairs = b.pairs;
}
