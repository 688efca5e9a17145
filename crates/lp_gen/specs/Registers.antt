-- What the code of a record takes: registers of types and of terms, and bytes. Each node of a type but a variable takes a register of types, each time that it is written, and each node of
-- a term that is built one of terms; the steps of a term say which are built.
use Rattle.std.specs.Prelude.{◌⊎◌, ℕ, zero, suc, ◌+◌, ◌-◌, ◌*◌, ◌<◌, nat_lt, nat_eq, Bool, true, false, ◌||◌, if◌then◌else◌, min, List, [], ◌∷◌, ◌++◌, reverse, length, Option, Some, None, option_and_then}
use Rattle.lp_calculus.specs.Types.{Ty, Tys, var, param as type_param, con, arrow, no_types, types}
use Rattle.lp_calculus.specs.Term.{Term, Atom, index, atom, abs, app, constant, integer, text, eigen, logic, param}
use Rattle.lp_calculus.specs.Typing.{o_type}
use Rattle.lp_calculus.specs.Spine.{head_of, arguments}
use Rattle.lp_standard.specs.Constants.{numbered}
use Rattle.lp_standard.specs.declared.constant.Constant.{Constant}
use Rattle.lp_standard.specs.declared.constant.Constant.TheVariants as standard
use Rattle.lp_model.specs.Flat.{Goal, Goals, Clause, Clauses, Atomic, Cut, Either, Exists, Forall, Assume, Not, no_goals, goals, clause, no_clauses, clauses}
use Rattle.lp_gen.specs.Steps.{from_of, to_of, Step, make_constant, make_integer, make_text, make_index, make_variable, from_register, apply_last, abstract_last, Seen, Around, at_level, set_level, listed, head_type, first_place}

-- 1 for each number that is past so many
abbrev pub past : (most number : ℕ) → ℕ
past m n = if nat_lt m n then 1 else 0

-- registers and bytes, and how many lists and numbers have no room in an instruction: a list of more than 255 types or terms, an index past 65,535 and an argument past the 256th. Where
-- the limits that are looked at first are not passed, only a kind on more than 255 types is left of these
pub record Amount : Type 0 where
  pub types : ℕ
  pub terms : ℕ
  pub bytes : ℕ
  pub misfits : ℕ

abbrev pub nothing : Amount
nothing = record { types = 0; terms = 0; bytes = 0; misfits = 0 }

abbrev pub both : Amount → Amount → Amount
both a b = record { types = a.types + b.types; terms = a.terms + b.terms; bytes = a.bytes + b.bytes; misfits = a.misfits + b.misfits }

-- an instruction of so many bytes, which sets no register, one of types, or one of terms

abbrev pub plain_code : (bytes misfits : ℕ) → Amount
plain_code n m = record { types = 0; terms = 0; bytes = n; misfits = m }

abbrev pub type_code : (bytes misfits : ℕ) → Amount
type_code n m = record { types = 1; terms = 0; bytes = n; misfits = m }

abbrev pub term_code : (bytes misfits : ℕ) → Amount
term_code n m = record { types = 0; terms = 1; bytes = n; misfits = m }

-- more than 65,535 registers of a kind, 2^32 bytes or more, or something that has no room
abbrev pub Passes : Amount → Type 0
Passes a = (65535 < a.types) ⊎ ((65535 < a.terms) ⊎ ((4294967295 < a.bytes) ⊎ (0 < a.misfits)))

-- types

abbrev pub count_types : Tys → ℕ
count_types no_types = 0
count_types (types T Ts) = suc (count_types Ts)

abbrev pub kind_takes : (types : ℕ) → Amount
kind_takes n = type_code (6 + 2 * n) (past 255 n)

abbrev mutual
  pub type_takes : Ty → Amount
  type_takes (var i) = nothing
  type_takes (type_param k) = nothing
  type_takes (con k Ts) = both (types_take Ts) (kind_takes (count_types Ts))
  type_takes (arrow a b) = both (both (type_takes a) (type_takes b)) (type_code 7 0)

  pub types_take : Tys → Amount
  types_take no_types = nothing
  types_take (types T Ts) = both (type_takes T) (types_take Ts)

abbrev pub all_take : List Ty → Amount
all_take [] = nothing
all_take (T ∷ Ts) = both (type_takes T) (all_take Ts)

-- terms, by their steps. No string is longer than 65,535 bytes where this is asked

abbrev pub text_length : List ℕ → ℕ
text_length s = min (length s) 65535

abbrev pub step_takes : Step → Amount
step_takes (make_constant c Ts) = both (all_take Ts) (term_code (6 + 2 * length Ts) (past 255 (length Ts)))
step_takes (make_integer z) = term_code 11 0
step_takes (make_text s) = term_code (5 + text_length s) 0
step_takes (make_index i T) = both (type_takes T) (term_code 7 (past 65535 i))
step_takes (make_variable r T) = both (type_takes T) (plain_code 5 0)
step_takes (from_register r) = nothing
step_takes (apply_last n) = term_code (6 + 2 * n) (past 255 n)
step_takes (abstract_last T) = both (type_takes T) (term_code 7 0)

abbrev pub steps_take : List Step → Amount
steps_take [] = nothing
steps_take (s ∷ ss) = both (step_takes s) (steps_take ss)

-- a term of this type, where these variables stand around it
abbrev pub term_takes : (constants : ℕ → List Ty → Ty) → Around → Ty → Term → Amount
term_takes K a T t = steps_take (listed K [] a T t).steps

abbrev pub behind_term : (constants : ℕ → List Ty → Ty) → Around → Ty → Term → Around
behind_term K a T t = (listed K [] a T t).around

-- arguments of a function, the variables that are made for one stand around the next one

abbrev pub terms_take : (constants : ℕ → List Ty → Ty) → Around → Ty → List Term → Amount
terms_take K a F [] = nothing
terms_take K a F (t ∷ ts) = both (term_takes K a (from_of F) t) (terms_take K (behind_term K a (from_of F) t) (to_of F) ts)

abbrev pub behind_terms : (constants : ℕ → List Ty → Ty) → Around → Ty → List Term → Around
behind_terms K a F [] = a
behind_terms K a F (t ∷ ts) = behind_terms K (behind_term K a (from_of F) t) (to_of F) ts

-- a goal: equations and orders have instructions of their own, and a goal whose head is no constant is a term

abbrev pub equation_bytes : Constant → Option ℕ
equation_bytes standard.Equal = Some 7
equation_bytes standard.Is = Some 7
equation_bytes c = None

abbrev pub order_bytes : Constant → Option ℕ
order_bytes standard.Less = Some 5
order_bytes standard.Greater = Some 5
order_bytes standard.AtMost = Some 5
order_bytes standard.AtLeast = Some 5
order_bytes c = None

abbrev pub own_bytes : Constant → (types terms : ℕ) → Option ℕ
own_bytes c zero (suc (suc zero)) = order_bytes c
own_bytes c (suc zero) (suc (suc zero)) = equation_bytes c
own_bytes c n m = None

abbrev pub call_code : (types terms : ℕ) → Option ℕ → Amount
call_code n m (Some k) = plain_code k 0
call_code n m None = plain_code (5 + 2 * n + 2 * m) (past 255 n + past 255 m)

abbrev pub call_takes : (constant types terms : ℕ) → Amount
call_takes c n m = call_code n m (option_and_then (λ k. own_bytes k n m) (numbered c))

abbrev pub goal_term_takes : (constants : ℕ → List Ty → Ty) → Around → Term → Amount
goal_term_takes K a t = both (term_takes K a o_type t) (plain_code 3 0)

abbrev pub call_of : (constants : ℕ → List Ty → Ty) → Around → Term → Atom → List Term → Amount
call_of K a t (constant c Ts) us = both (all_take Ts) (both (terms_take K a (K c Ts) us) (call_takes c (length Ts) (length us)))
call_of K a t (integer z) us = goal_term_takes K a t
call_of K a t (text s) us = goal_term_takes K a t
call_of K a t (eigen k) us = goal_term_takes K a t
call_of K a t (logic x l) us = goal_term_takes K a t
call_of K a t (param k T) us = goal_term_takes K a t

abbrev pub goal_of_head : (constants : ℕ → List Ty → Ty) → Around → Term → (head : Term) → List Term → Amount
goal_of_head K a t (index i) us = goal_term_takes K a t
goal_of_head K a t (atom s) us = call_of K a t s us
goal_of_head K a t (abs b) us = goal_term_takes K a t
goal_of_head K a t (app f u) us = goal_term_takes K a t

abbrev pub atom_takes : (constants : ℕ → List Ty → Ty) → Around → Term → Amount
atom_takes K a t = goal_of_head K a t (head_of t) (arguments t)

-- the head: its types, and its arguments. One that is a variable at its first place, a constant, an integer or a string is not built

abbrev pub head_types_take : (number : ℕ) → List Ty → Amount
head_types_take j [] = nothing
head_types_take j (T ∷ Ts) = both (both (type_takes T) (plain_code 4 (past 255 j))) (head_types_take (suc j) Ts)

abbrev pub built_takes : (constants : ℕ → List Ty → Ty) → Around → Ty → Term → Amount
built_takes K a F t = both (term_takes K a F t) (plain_code 4 0)

abbrev pub atom_got : (constants : ℕ → List Ty → Ty) → Around → Ty → Atom → Amount
atom_got K a F (constant c Ts) = both (all_take Ts) (plain_code (5 + 2 * length Ts) (past 255 (length Ts)))
atom_got K a F (integer z) = plain_code 10 0
atom_got K a F (text s) = plain_code (4 + text_length s) 0
atom_got K a F (eigen k) = built_takes K a F (atom (eigen k))
atom_got K a F (logic x l) = built_takes K a F (atom (logic x l))
atom_got K a F (param k T) = built_takes K a F (atom (param k T))

abbrev pub term_got : (constants : ℕ → List Ty → Ty) → Around → Ty → Term → Amount
term_got K a F (index i) = built_takes K a F (index i)
term_got K a F (atom s) = atom_got K a F s
term_got K a F (abs b) = built_takes K a F (abs b)
term_got K a F (app t u) = built_takes K a F (app t u)

abbrev pub argument_by : (constants : ℕ → List Ty → Ty) → Around → Ty → Term → (first : Option (ℕ × ℕ)) → Amount
argument_by K a F t (Some p) = plain_code 4 0
argument_by K a F t None = term_got K a F t

abbrev pub argument_takes : (constants : ℕ → List Ty → Ty) → Around → Ty → Term → Amount
argument_takes K a F t = argument_by K a F t (first_place a t)

abbrev pub atom_left : (constants : ℕ → List Ty → Ty) → Around → Ty → Atom → Around
atom_left K a F (constant c Ts) = a
atom_left K a F (integer z) = a
atom_left K a F (text s) = a
atom_left K a F (eigen k) = behind_term K a F (atom (eigen k))
atom_left K a F (logic x l) = behind_term K a F (atom (logic x l))
atom_left K a F (param k T) = behind_term K a F (atom (param k T))

abbrev pub term_left : (constants : ℕ → List Ty → Ty) → Around → Ty → Term → Around
term_left K a F (index i) = behind_term K a F (index i)
term_left K a F (atom s) = atom_left K a F s
term_left K a F (abs b) = behind_term K a F (abs b)
term_left K a F (app t u) = behind_term K a F (app t u)

abbrev pub left_by_first : (constants : ℕ → List Ty → Ty) → Around → Ty → Term → (first : Option (ℕ × ℕ)) → Around
left_by_first K a F t (Some p) = set_level a p.0
left_by_first K a F t None = term_left K a F t

abbrev pub behind_argument : (constants : ℕ → List Ty → Ty) → Around → Ty → Term → Around
behind_argument K a F t = left_by_first K a F t (first_place a t)

abbrev pub head_arguments_take : (constants : ℕ → List Ty → Ty) → Around → (number : ℕ) → Ty → List Term → Amount
head_arguments_take K a i F [] = nothing
head_arguments_take K a i F (t ∷ ts) = both (both (plain_code 0 (past 255 i)) (argument_takes K a (from_of F) t)) (head_arguments_take K (behind_argument K a (from_of F) t) (suc i) (to_of F) ts)

abbrev pub behind_arguments : (constants : ℕ → List Ty → Ty) → Around → Ty → List Term → Around
behind_arguments K a F [] = a
behind_arguments K a F (t ∷ ts) = behind_arguments K (behind_argument K a (from_of F) t) (to_of F) ts

abbrev pub atom_types_take : Atom → Amount
atom_types_take (constant c Ts) = head_types_take 0 Ts
atom_types_take (integer z) = nothing
atom_types_take (text s) = nothing
atom_types_take (eigen k) = nothing
atom_types_take (logic x l) = nothing
atom_types_take (param k T) = nothing

abbrev pub predicate_types_take : Term → Amount
predicate_types_take (index i) = nothing
predicate_types_take (atom s) = atom_types_take s
predicate_types_take (abs b) = nothing
predicate_types_take (app t u) = nothing

abbrev pub head_takes : (constants : ℕ → List Ty → Ty) → Around → Term → Amount
head_takes K a t = both (predicate_types_take (head_of t)) (head_arguments_take K a 0 (head_type K [] a (head_of t)) (arguments t))

abbrev pub behind_head : (constants : ℕ → List Ty → Ty) → Around → Term → Around
behind_head K a t = behind_arguments K a (head_type K [] a (head_of t)) (arguments t)

-- variables that are not set behind the head

abbrev pub made_takes : Seen → Amount
made_takes v = both (type_takes v.of) (plain_code 5 0)

abbrev pub unset_takes : Seen → Amount
unset_takes v = if v.is_set then nothing else made_takes v

abbrev pub unset_take : List Seen → Amount
unset_take [] = nothing
unset_take (v ∷ vs) = both (unset_takes v) (unset_take vs)

-- type variables that a record makes, and registers of variables

abbrev pub own_types_take : ℕ → Amount
own_types_take n = record { types = n; terms = 0; bytes = 3 * n; misfits = 0 }

abbrev pub variables_take : ℕ → Amount
variables_take n = record { types = 0; terms = n; bytes = 0; misfits = 0 }

-- whether the variable of an index stands in goals and clauses

abbrev pub in_term : ℕ → Term → Bool
in_term i (index j) = nat_eq i j
in_term i (atom s) = false
in_term i (abs b) = in_term (suc i) b
in_term i (app t u) = in_term i t || in_term i u

abbrev mutual
  pub in_goal : ℕ → Goal → Bool
  in_goal i (Atomic t) = in_term i t
  in_goal i Cut = false
  in_goal i (Either gs hs) = in_goals i gs || in_goals i hs
  in_goal i (Exists T gs) = in_goals (suc i) gs
  in_goal i (Forall T gs) = in_goals (suc i) gs
  in_goal i (Assume w cs gs) = in_clauses i cs || in_goals i gs
  in_goal i (Not w gs) = in_goals i gs

  pub in_goals : ℕ → Goals → Bool
  in_goals i no_goals = false
  in_goals i (goals g gs) = in_goal i g || in_goals i gs

  pub in_clauses : ℕ → Clauses → Bool
  in_clauses i no_clauses = false
  in_clauses i (clauses (clause n vs h b) cs) = in_term (i + length vs) h || (in_goals (i + length vs) b || in_clauses i cs)

abbrev pub count_clauses : Clauses → ℕ
count_clauses no_clauses = 0
count_clauses (clauses c cs) = suc (count_clauses cs)

-- What stands around goals. Registers are left out: the amounts do not depend on them.

abbrev pub count_variables : Around → ℕ
count_variables a = a.base + length a.own

-- one variable more, that of a quantifier
abbrev pub with_variable : Around → Ty → Around
with_variable a T = record { own = a.own ++ record { register = 0; of = T; is_set = true } ∷ []; base = a.base; captured = a.captured }

-- in the body of a record its variables are set
abbrev pub all_set : List Seen → List Seen
all_set [] = []
all_set (v ∷ vs) = record { register = v.register; of = v.of; is_set = true } ∷ all_set vs

abbrev pub in_body : Around → Around
in_body a = record { own = all_set a.own; base = a.base; captured = a.captured }

-- a `sigma` reaches to the end of its list of goals, each other block to its own end
abbrev mutual
  pub behind_goal : Around → Goal → Around
  behind_goal a (Atomic t) = a
  behind_goal a Cut = a
  behind_goal a (Either gs hs) = a
  behind_goal a (Exists T gs) = behind_goals (with_variable a T) gs
  behind_goal a (Forall T gs) = a
  behind_goal a (Assume w cs gs) = a
  behind_goal a (Not w gs) = a

  pub behind_goals : Around → Goals → Around
  behind_goals a no_goals = a
  behind_goals a (goals g gs) = behind_goals (behind_goal a g) gs

-- What a record starts with, and its own variables, which are not set: those of a clause by index, 0 the last one, so that the list of types is turned.

abbrev pub nothing_around : Around
nothing_around = record { own = []; base = 0; captured = λ l. None }

abbrev pub unset : List Ty → List Seen
unset [] = []
unset (T ∷ Ts) = record { register = 0; of = T; is_set = false } ∷ unset Ts

abbrev pub with_unset : Around → List Ty → Around
with_unset s Ts = record { own = unset (reverse Ts); base = s.base; captured = s.captured }

-- records of clauses that are assumed here start with the variables around that stand in these clauses
abbrev pub start_of : Around → Clauses → Around
start_of a cs = record { own = []; base = count_variables a; captured = λ l. if in_clauses (count_variables a - l - 1) cs then at_level a l else None }

-- how many of these there are

abbrev pub one_given : Option Seen → ℕ
one_given None = 0
one_given (Some v) = 1

abbrev pub count_given : (ℕ → Option Seen) → (levels : ℕ) → ℕ
count_given f zero = 0
count_given f (suc l) = one_given (f l) + count_given f l

abbrev pub count_standing : Around → Clauses → ℕ
count_standing a cs = count_given (start_of a cs).captured (count_variables a)

-- a new variable: its type and its register, by an instruction of five bytes
abbrev pub variable_takes : Ty → Amount
variable_takes T = both (type_takes T) (term_code 5 0)

abbrev pub assume_takes : (type_vars captured records : ℕ) → Amount
assume_takes v k n = plain_code (7 + 2 * v + 2 * k + 4 * n) (past 65535 v + past 65535 k)

-- the goals of a body; the clauses that they assume have records of their own
abbrev mutual
  pub goal_takes : (constants : ℕ → List Ty → Ty) → (type_vars : ℕ) → Around → Goal → Amount
  goal_takes K v a (Atomic t) = atom_takes K a t
  goal_takes K v a Cut = plain_code 1 0
  goal_takes K v a (Either gs hs) = both (plain_code 5 0) (both (goals_take K v a gs) (both (plain_code 5 0) (goals_take K v a hs)))
  goal_takes K v a (Exists T gs) = both (variable_takes T) (goals_take K v (with_variable a T) gs)
  goal_takes K v a (Forall T gs) = both (variable_takes T) (both (goals_take K v (with_variable a T) gs) (plain_code 1 0))
  goal_takes K v a (Assume w cs gs) = both (assume_takes v (count_standing a cs) (count_clauses cs)) (both (goals_take K v a gs) (plain_code 1 0))
  goal_takes K v a (Not w gs) = both (plain_code 1 0) (both (goals_take K v a gs) (plain_code 1 0))

  pub goals_take : (constants : ℕ → List Ty → Ty) → (type_vars : ℕ) → Around → Goals → Amount
  goals_take K v a no_goals = nothing
  goals_take K v a (goals g gs) = both (goal_takes K v a g) (goals_take K v (behind_goal a g) gs)

-- a record behind what it starts with: the variables that do not stand in the head, NECK, the body, PROCEED
abbrev pub body_takes : (constants : ℕ → List Ty → Ty) → (type_vars : ℕ) → Around → Goals → Amount
body_takes K v a b = both (unset_take a.own) (both (plain_code 1 0) (both (goals_take K v (in_body a) b) (plain_code 1 0)))

abbrev pub clause_takes : (constants : ℕ → List Ty → Ty) → (type_vars : ℕ) → (start : Around) → (vars : List Ty) → (head : Term) → Goals → Amount
clause_takes K v s vs h b = both (variables_take (length vs)) (both (head_takes K (with_unset s vs) h) (body_takes K v (behind_head K (with_unset s vs) h) b))

abbrev pub query_takes : (constants : ℕ → List Ty → Ty) → (type_vars : ℕ) → (vars : List Ty) → Goals → Amount
query_takes K v vs b = both (own_types_take v) (both (variables_take (length vs)) (body_takes K v (with_unset nothing_around vs) b))

-- the registers that a record starts with
abbrev pub started : (types terms : ℕ) → Amount
started n k = record { types = n; terms = k; bytes = 0; misfits = 0 }

-- some record passes what it may have: of clauses that are assumed and start so, or of those that goals assume
abbrev mutual
  pub SomeOfGoal : (constants : ℕ → List Ty → Ty) → (type_vars : ℕ) → Around → Goal → Type 0
  SomeOfGoal K v a (Atomic t) = ⊥
  SomeOfGoal K v a Cut = ⊥
  SomeOfGoal K v a (Either gs hs) = SomeOfGoals K v a gs ⊎ SomeOfGoals K v a hs
  SomeOfGoal K v a (Exists T gs) = SomeOfGoals K v (with_variable a T) gs
  SomeOfGoal K v a (Forall T gs) = SomeOfGoals K v (with_variable a T) gs
  SomeOfGoal K v a (Assume w cs gs) = SomeAssumed K v (start_of a cs) cs ⊎ SomeOfGoals K v a gs
  SomeOfGoal K v a (Not w gs) = SomeOfGoals K v a gs

  pub SomeOfGoals : (constants : ℕ → List Ty → Ty) → (type_vars : ℕ) → Around → Goals → Type 0
  SomeOfGoals K v a no_goals = ⊥
  SomeOfGoals K v a (goals g gs) = SomeOfGoal K v a g ⊎ SomeOfGoals K v (behind_goal a g) gs

  pub SomeAssumed : (constants : ℕ → List Ty → Ty) → (type_vars : ℕ) → (start : Around) → Clauses → Type 0
  SomeAssumed K v s no_clauses = ⊥
  SomeAssumed K v s (clauses (clause n vs h b) cs) =
      Passes (both (started v (count_given s.captured s.base)) (clause_takes K v s vs h b)) ⊎ (SomeOfGoals K v (in_body (with_unset s vs)) b ⊎ SomeAssumed K v s cs)

-- the record of a clause of a program, or one of those assumed in it
abbrev pub SomeOfClause : (constants : ℕ → List Ty → Ty) → Clause → Type 0
SomeOfClause K (clause v vs h b) = Passes (both (own_types_take v) (clause_takes K v nothing_around vs h b)) ⊎ SomeOfGoals K v (in_body (with_unset nothing_around vs)) b

abbrev pub SomeOfClauses : (constants : ℕ → List Ty → Ty) → List Clause → Type 0
SomeOfClauses K [] = ⊥
SomeOfClauses K (c ∷ cs) = SomeOfClause K c ⊎ SomeOfClauses K cs

-- that of a query, the outermost of its variables the first one, or one of those assumed in it
abbrev pub SomeOfQuery : (constants : ℕ → List Ty → Ty) → (type_vars : ℕ) → (vars : List Ty) → Goals → Type 0
SomeOfQuery K v vs b = Passes (query_takes K v (reverse vs) b) ⊎ SomeOfGoals K v (in_body (with_unset nothing_around (reverse vs))) b
