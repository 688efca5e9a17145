-- Plain depth-first search of hereditary Harrop goals with negation as failure, as a look at tasks (Miller, Nadathur, Pfenning and Scedrov 1991; levels of
-- Nadathur 1993; Clark 1978). Where a head reduction needs n steps or more the look lacks them, and the run has no end: reduction of typed terms ends, so a
-- large n never shows. Each unification has u units.
use Rattle.std.specs.Prelude.{◌≡◌, ℕ, zero, suc, ◌+◌, ◌-◌, nat_eq, nat_lt, Bool, true, false, not, ◌&&◌, ◌||◌, if◌then◌else◌, List, [], ◌∷◌, ◌++◌, map, length, filter, Option, Some, None, option_map}
use Rattle.lp_calculus.specs.Types.{Ty, var}
use Rattle.lp_calculus.specs.Term.{Term, index, atom, abs, app, substitute, apply, Atom, constant, integer, text, eigen, logic, param}
use Rattle.lp_calculus.specs.Instance.{instance_term}
use Rattle.lp_calculus.specs.Normal.{is_absent}
use Rattle.std.specs.List.{list_any}
use Rattle.lp_model.specs.declared.ending.Ending.{Ending}
use Rattle.lp_model.specs.declared.ending.Ending.TheVariants.{Flexible, Arithmetic, OpenNot, Deep}
use Rattle.lp_model.specs.declared.ending.Fault.TheVariants.{NotClosed}
use Rattle.lp_model.specs.Index.{instantiate}
use Rattle.lp_calculus.specs.Spine.{head_of, arguments}
use Rattle.lp_model.specs.Skeleton.{View, Gives, Opens, Parts, Takes, Cuts, Denies, Halts, Lacks, not_constant, named, eigenconstant, variable, State, Told, starts, run}
use Rattle.lp_model.specs.Look.{head_normal, top_normal, ◌>>=◌}
use Rattle.lp_model.specs.Eigens.{beta_normal}
use Rattle.lp_model.specs.Same.{same_name}
use Rattle.lp_model.specs.Pair.{Pair}
use Rattle.lp_model.specs.Rule.{type_pairs}
use Rattle.lp_model.specs.Unify.{Unified, Fail, Solution, Spent, solve, unit_limit}
use Rattle.lp_standard.specs.Numbers as number
use Rattle.lp_standard.specs.Constants.{is_order}
use Rattle.lp_standard.specs.Connectives.{Connective, connective_of}
use Rattle.lp_standard.specs.Connectives as connective
use Rattle.lp_model.specs.Flat.{Goal, Atomic, Cut, Either, Exists, Forall, Assume, Not, Written, Goals, Clause, clause, goal_list, clause_list, instantiate_goals, type_goals, type_variables}
use Rattle.lp_model.specs.Values.{Outcome, Is, Faults, Number, Bytes, evaluate, term_of, ordered}
use Rattle.lp_model.specs.Branch.{Entry, Branch, Answer, Task, Go, Try, Stop, Lack, resume, entries, both_written, nothing_written}

-- the branch with these goals
abbrev pub with_goals : Branch → List Entry → Branch
with_goals b es = record { next = b.next; next_type = b.next_type; goals = es; types = b.types; values = b.values; pairs = b.pairs }

-- what a unification for the branch leaves; None where more steps are needed
abbrev pub follow : Branch → Option Unified → List Task
follow b None = Lack ∷ []
follow b (Some Spent) = Stop Deep ∷ []
follow b (Some Fail) = []
follow b (Some (Solution s)) = Go (resume b s) ∷ []

-- two terms made one, in a branch
abbrev pub equated : (u n : ℕ) → (level : ℕ) → (left right : Term) → Branch → List Task
equated u n level s t b = follow b (solve n u [] (record { left = s; right = t; level = level } ∷ []) b.pairs b.next)

-- arithmetic

abbrev pub assigned : (u n : ℕ) → (level : ℕ) → Term → Branch → Option Outcome → List Task
assigned u n level t b None = Lack ∷ []
assigned u n level t b (Some (Faults f)) = Stop (Arithmetic f) ∷ []
assigned u n level t b (Some (Is v)) = equated u n level t (term_of v) b

abbrev pub compared : ℕ → Branch → Option Outcome → Option Outcome → List Task
compared c b None r = Lack ∷ []
compared c b (Some (Faults f)) r = Stop (Arithmetic f) ∷ []
compared c b (Some (Is (Bytes s))) r = Stop (Arithmetic NotClosed) ∷ []
compared c b (Some (Is (Number x))) None = Lack ∷ []
compared c b (Some (Is (Number x))) (Some (Faults f)) = Stop (Arithmetic f) ∷ []
compared c b (Some (Is (Number x))) (Some (Is (Bytes s))) = Stop (Arithmetic NotClosed) ∷ []
compared c b (Some (Is (Number x))) (Some (Is (Number y))) = if ordered c x y then Go b ∷ [] else []

-- candidates

-- the constant, integer, string or eigenconstant at the head of what is no abstraction
abbrev pub key_of : Term → Option Atom
key_of (index i) = None
key_of (atom (constant c ts)) = Some (constant c [])
key_of (atom (integer z)) = Some (integer z)
key_of (atom (text s)) = Some (text s)
key_of (atom (eigen k)) = Some (eigen k)
key_of (atom (logic x l)) = None
key_of (atom (param k t)) = None
key_of (abs b) = None
key_of (app f a) = key_of f

abbrev pub may_meet : Option Atom → Option Atom → Bool
may_meet (Some a) (Some b) = same_name (atom a) (atom b)
may_meet (Some a) None = true
may_meet None o = true

abbrev pub first_key : List Term → Option Atom
first_key [] = None
first_key (h ∷ hs) = key_of h

abbrev pub has_head : Term → Clause → Bool
has_head t (clause k vs h b) = same_name (head_of h) (head_of t)

-- a program clause is kept out where its first head argument and the goal's first argument differ at their heads
abbrev pub passes : Term → Clause → Bool
passes t (clause k vs h b) = same_name (head_of h) (head_of t) && may_meet (first_key (arguments h)) (first_key (arguments t))

-- first the assumed clauses, the newest first, then the program's that pass the filter, in order
abbrev pub candidates : (program assumed : List Clause) → Term → List Clause
candidates P A t = filter (has_head t) A ++ filter (passes t) P

-- a head on arguments, the first of them reduced at its top
abbrev pub first_looked : ℕ → (head : Term) → (arguments : List Term) → Option Term
first_looked n h [] = Some h
first_looked n h (t ∷ ts) = option_map (λ s. apply h (s ∷ ts)) (top_normal n t)

-- the goal that candidates are looked for and tried with: its first argument is reduced until the name at its head is seen, and an abstraction is left as it is;
-- None: more than n steps are needed
abbrev pub goal_looked : ℕ → Term → Option Term
goal_looked n t = first_looked n (head_of t) (arguments t)

-- trying a candidate

pub record Slot : Type 0 where
  pub variable : ℕ
  pub term : Term

pub record Matched : Type 0 where
  pub slots : List Slot
  pub pairs : List Pair

-- none of the terms has the index
abbrev pub are_absent : ℕ → List Term → Bool
are_absent k [] = true
are_absent k (t ∷ ts) = is_absent k t && are_absent k ts

abbrev pub is_new : Term → (earlier : List Term) → Bool
is_new (index k) earlier = are_absent k earlier
is_new t earlier = false

abbrev pub slot_of : Term → Term → Slot
slot_of (index k) t = record { variable = k; term = t }
slot_of h t = record { variable = 0; term = t }

-- a head argument that is a variable of the clause standing in no earlier one is replaced by the goal's argument; each other is a pair
abbrev pub slots_of : (earlier heads goals : List Term) → List Slot
slots_of earlier (h ∷ hs) (t ∷ ts) = if is_new h earlier then slot_of h t ∷ slots_of (h ∷ earlier) hs ts else slots_of (h ∷ earlier) hs ts
slots_of earlier hs ts = []

-- what a variable of the clause becomes: the goal's argument, or a new variable of the goal's level
abbrev pub slotted : List Slot → (next level : ℕ) → ℕ → Term
slotted [] next level k = atom (logic (next + k) level)
slotted (s ∷ ss) next level k = if nat_eq k s.variable then s.term else slotted ss next level k

abbrev pub pairs_of : (ℕ → Term) → (level : ℕ) → (earlier heads goals : List Term) → List Pair
pairs_of σ level earlier (h ∷ hs) (t ∷ ts) =
    if is_new h earlier then pairs_of σ level (h ∷ earlier) hs ts else record { left = t; right = instantiate σ h; level = level } ∷ pairs_of σ level (h ∷ earlier) hs ts
pairs_of σ level earlier hs ts = []

-- the type variables of a program clause get new numbers; an assumed clause has none of its own
abbrev pub renewed : (type_vars next_type : ℕ) → ℕ → Ty
renewed k next i = if nat_lt i k then var (next + i) else var i

abbrev pub tried : (u n : ℕ) → (type_vars : ℕ) → (vars : List Ty) → (head : Term) → (body : Goals) → (goal : Term) → Entry → Branch → (mark : ℕ) → (σ : ℕ → Term) → List Task
tried u n k vs h body t e b mark σ = follow (record {
  next = b.next + length vs;
  next_type = b.next_type + k;
  goals = entries (goal_list (instantiate_goals σ body)) e.assumed e.written e.level mark ++ b.goals;
  types = b.types;
  values = b.values;
  pairs = b.pairs;
}) (solve n u (type_pairs (head_of t) (head_of h)) (pairs_of σ e.level [] (arguments h) (arguments t)) b.pairs (b.next + length vs))

-- with types for its type variables
abbrev pub typed_try : (u n : ℕ) → (type_vars : ℕ) → (vars : List Ty) → (head : Term) → (body : Goals) → (goal : Term) → Entry → Branch → (mark : ℕ) → List Task
typed_try u n k vs h body t e b mark = tried u n k vs h body t e b mark (slotted (slots_of [] (arguments h) (arguments t)) b.next e.level)

abbrev pub try_clause : (u n : ℕ) → Clause → (goal : Term) → Entry → Branch → (mark : ℕ) → List Task
try_clause u n (clause k vs h body) t e b mark =
    typed_try u n k vs (instance_term (renewed k b.next_type) h) (type_goals (renewed k b.next_type) body) t e b mark

-- whether a variable, or a type variable, stands in what a negated goal speaks of

abbrev pub has_type_variable : Ty → Bool
has_type_variable T = not (is_empty (type_variables T))
  where
    is_empty : List ℕ → Bool
    is_empty [] = true
    is_empty (i ∷ is) = false

abbrev pub is_variable : Atom → Bool
is_variable (logic x l) = true
is_variable (constant c ts) = list_any has_type_variable ts
is_variable (integer z) = false
is_variable (text s) = false
is_variable (eigen k) = false
is_variable (param k t) = has_type_variable t

abbrev pub has_variable : Term → Bool
has_variable (index i) = false
has_variable (atom a) = is_variable a
has_variable (abs b) = has_variable b
has_variable (app t u) = has_variable t || has_variable u

abbrev pub beta_normals : ℕ → List Term → Option (List Term)
beta_normals n [] = Some []
beta_normals n (t ∷ ts) = beta_normal n t >>= λ s. option_map (λ ss. s ∷ ss) (beta_normals n ts)

-- in the beta-normal form of one of the terms, or in one of the types; None where more steps are needed
abbrev pub has_variables : ℕ → Written → Option Bool
has_variables n w = option_map (λ ts. list_any has_variable ts || list_any has_type_variable w.types) (beta_normals n w.terms)

-- an answer that holds as it stands
abbrev pub has_no_pairs : Answer → Bool
has_no_pairs a = nat_eq (length a.pairs) 0

-- a goal known only at run time, by its head-normal form

-- each candidate as a task, for the goal as it was looked at
abbrev pub tries : (program : List Clause) → Entry → (rest : Branch) → (mark : ℕ) → (goal : Option Term) → List Task
tries P e b mark None = Lack ∷ []
tries P e b mark (Some t) = map (λ c. Try c t e b mark) (candidates P e.assumed t)

-- the goals of the entry's place
abbrev pub in_place : Entry → List Term → List Entry
in_place e [] = []
in_place e (t ∷ ts) = record { goal = Atomic t; assumed = e.assumed; written = e.written; level = e.level; mark = e.mark } ∷ in_place e ts

abbrev pub at_next_level : Entry → Term → Entry
at_next_level e t = record { goal = Atomic t; assumed = e.assumed; written = e.written; level = suc e.level; mark = e.mark }

-- the atom takes a step; b is the rest of the branch, its goals those behind the atom
abbrev pub look_constant : (u n : ℕ) → List Clause → (height : ℕ) → Entry → Branch → Term → (constant : ℕ) → List Term → List Task
look_constant u n P height e b t c (l ∷ r ∷ []) =
    if nat_eq c number.Equal then equated u n e.level l r b else (if nat_eq c number.Is then assigned u n e.level l b (evaluate n r) else (if is_order c then compared c b (evaluate n l) (evaluate n r) else tries P e b height (goal_looked n t)))
look_constant u n P height e b t c ts = tries P e b height (goal_looked n t)

abbrev pub look_atom : (u n : ℕ) → List Clause → (height : ℕ) → Entry → Branch → Term → (head : Term) → View Task Answer
look_atom u n P height e b t (atom (constant c ts)) = Takes (named c) (look_constant u n P height e b t c (arguments t))
look_atom u n P height e b t (atom (eigen k)) = Takes (eigenconstant k) (tries P e b height (goal_looked n t))
look_atom u n P height e b t (atom (logic x l)) = Takes variable (Stop Flexible ∷ [])
-- no well-typed goal has another head
look_atom u n P height e b t h = Takes variable []

abbrev pub look_form : (u n : ℕ) → List Clause → (height : ℕ) → Entry → Branch → Term → Connective → View Task Answer
look_form u n P height e b t connective.True = Parts (Go b ∷ [])
look_form u n P height e b t (connective.And l r) = Parts (Go (with_goals b (in_place e (l ∷ r ∷ []) ++ b.goals)) ∷ [])
look_form u n P height e b t (connective.Or l r) = Parts (Go (with_goals b (in_place e (l ∷ []) ++ b.goals)) ∷ Go (with_goals b (in_place e (r ∷ []) ++ b.goals)) ∷ [])
look_form u n P height e b t (connective.ForAll T s) = Parts (Go (with_goals b (at_next_level e (substitute (atom (eigen (suc e.level))) s) ∷ b.goals)) ∷ [])
look_form u n P height e b t (connective.Exists T s) = Parts (Go (record {
  next = suc b.next;
  next_type = b.next_type;
  goals = in_place e (substitute (atom (logic b.next e.level)) s ∷ []) ++ b.goals;
  types = b.types;
  values = b.values;
  pairs = b.pairs;
}) ∷ [])
look_form u n P height e b t connective.Atomic = look_atom u n P height e b t (head_of t)
-- no positive term is of these forms
look_form u n P height e b t connective.Cut = Takes variable []
look_form u n P height e b t (connective.Implies c g) = Takes variable []
look_form u n P height e b t (connective.Not g) = Takes variable []

abbrev pub look_normal : (u n : ℕ) → List Clause → (height : ℕ) → Entry → Branch → Option Term → View Task Answer
look_normal u n P height e b None = Lacks
look_normal u n P height e b (Some t) = look_form u n P height e b t (connective_of t)

-- a goal, by what it was when flattened

-- terms for the one variable that the goals bind
abbrev pub opened : Term → Goals → List Goal
opened u gs = goal_list (instantiate_goals (put_first u) gs)
  where
    put_first : Term → ℕ → Term
    put_first v zero = v
    put_first v (suc i) = index i

-- a negated goal, where no variable stands in what is written in its goals and in its assumptions: its search begins with its goals alone, in their place, and an
-- answer without residual pairs is final
abbrev pub look_not : Entry → Branch → Goals → Option Bool → View Task Answer
look_not e b gs None = Lacks
look_not e b gs (Some true) = Takes (named not_constant) (Stop OpenNot ∷ [])
look_not e b gs (Some false) = Denies (Go (record {
  next = b.next;
  next_type = b.next_type;
  goals = entries (goal_list gs) e.assumed e.written e.level 0;
  types = [];
  values = [];
  pairs = [];
})) has_no_pairs (Go b ∷ [])

abbrev pub look_goal : (u n : ℕ) → List Clause → (height : ℕ) → Entry → Branch → Goal → View Task Answer
look_goal u n P height e b (Atomic t) = look_normal u n P height e b (head_normal n t)
look_goal u n P height e b Cut = Cuts e.mark (Go b ∷ [])
look_goal u n P height e b (Either l r) =
    Parts (Go (with_goals b (entries (goal_list l) e.assumed e.written e.level e.mark ++ b.goals)) ∷ Go (with_goals b (entries (goal_list r) e.assumed e.written e.level e.mark ++ b.goals)) ∷ [])
look_goal u n P height e b (Exists T gs) = Parts (Go (record {
  next = suc b.next;
  next_type = b.next_type;
  goals = entries (opened (atom (logic b.next e.level)) gs) e.assumed e.written e.level e.mark ++ b.goals;
  types = b.types;
  values = b.values;
  pairs = b.pairs;
}) ∷ [])
look_goal u n P height e b (Forall T gs) =
    Parts (Go (with_goals b (entries (opened (atom (eigen (suc e.level))) gs) e.assumed e.written (suc e.level) e.mark ++ b.goals)) ∷ [])
look_goal u n P height e b (Assume w cs gs) =
    Parts (Go (with_goals b (entries (goal_list gs) (clause_list cs ++ e.assumed) (both_written w e.written) e.level e.mark ++ b.goals)) ∷ [])
look_goal u n P height e b (Not w gs) = look_not e b gs (has_variables n (both_written w e.written))

abbrev pub look_branch : (u n : ℕ) → List Clause → (height : ℕ) → Branch → List Entry → View Task Answer
look_branch u n P height b [] = Gives (record { next = b.next; next_type = b.next_type; types = b.types; values = b.values; pairs = b.pairs })
look_branch u n P height b (e ∷ es) = look_goal u n P height e (with_goals b es) e.goal

-- what a task turns out to be, where the program is P; n bounds each head reduction
abbrev pub look : (u n : ℕ) → List Clause → (height : ℕ) → Task → View Task Answer
look u n P height (Go b) = look_branch u n P height b b.goals
look u n P height (Try c t e b mark) = Opens (try_clause u n c t e b mark)
look u n P height (Stop e) = Halts e
look u n P height Lack = Lacks

-- k variables from i on, of level 0
abbrev pub vars_from : (k i : ℕ) → List Term
vars_from zero i = []
vars_from (suc k) i = atom (logic i 0) ∷ vars_from k (suc i)

abbrev pub types_from : (k i : ℕ) → List Ty
types_from zero i = []
types_from (suc k) i = var i ∷ types_from k (suc i)

-- the search of flattened goals over k query variables and j type variables; the first variable is the outermost index
abbrev pub start : (type_vars vars : ℕ) → Goals → (steps answers : ℕ) → State Task
start j k gs steps answers = starts (Go (record {
  next = k;
  next_type = j;
  goals = entries (goal_list (instantiate_goals (λ i. atom (logic (k - suc i) 0)) gs)) [] nothing_written 0 0;
  types = types_from j 0;
  values = vars_from k 0;
  pairs = [];
})) steps answers

-- the search comes to what is told: it ends so, with enough steps for each look and enough moves
pub record ComesTo (P : List Clause) (s : State Task) (t : Told Answer) : Type 0 where
  pub enough : ℕ
  pub tells : run (look unit_limit enough P) enough enough s ≡ t
  pub ending : Ending
  pub ends : t.ending ≡ Some ending
