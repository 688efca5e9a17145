-- Pattern text (Miller 1991, "A logic programming language with lambda-abstraction, function variables, and simple unification"): each
-- existential variable occurs only on distinct universal variables that are bound inside its scope. It is judged on the beta-eta normal
-- form, in which an argument that is a variable up to eta is that variable.
use Rattle.std.specs.Prelude.{◌≡◌, ℕ, nat_lt, nat_eq, Bool, true, false, not, ◌&&◌, ◌||◌, List, [], ◌∷◌, map, get_or, Option, Some, None}
use Rattle.lp_calculus.specs.Term.{Term, index, atom, abs, app, Atom, constant, integer, text, eigen, logic, param}
use Rattle.lp_calculus.specs.Normal.{IsFormOf}
use Rattle.lp_calculus.specs.Spine.{head_of, arguments}
use Rattle.lp_standard.specs.Numbers as number
use Rattle.lp_standard.specs.Connectives.{Connective, connective_of}
use Rattle.lp_standard.specs.Connectives as connective
use Rattle.lp_lambda.specs.declared.walk.Position.{Position}
use Rattle.lp_lambda.specs.declared.walk.Position.TheVariants.{Goal, Clause, Inside}
use Rattle.lp_lambda.specs.declared.walk.Binder.{Binder}
use Rattle.lp_lambda.specs.declared.walk.Binder.TheVariants.{Existential, Universal}

-- a part of a formula: where it stands, what binds its indices, the innermost first, and its term
pub record Part : Type 0 where
  pub position : Position
  pub binders : List Binder
  pub term : Term

-- as a goal, as a clause, and inside a term
abbrev pub goal : List Binder → Term → Part
goal bs t = record { position = Goal; binders = bs; term = t }

abbrev pub clause : List Binder → Term → Part
clause bs t = record { position = Clause; binders = bs; term = t }

abbrev pub inside : List Binder → Term → Part
inside bs t = record { position = Inside; binders = bs; term = t }

-- what binds an index: one that is bound nowhere is a variable of the query, and these are existential
abbrev pub binder_of : List Binder → ℕ → Binder
binder_of bs i = get_or bs i Existential

abbrev pub is_universal : Binder → Bool
is_universal Existential = false
is_universal Universal = true

abbrev pub is_index : ℕ → Term → Bool
is_index i (index j) = nat_eq j i
is_index i (atom a) = false
is_index i (abs b) = false
is_index i (app t u) = false

abbrev pub is_among : ℕ → List Term → Bool
is_among i [] = false
is_among i (t ∷ ts) = is_index i t || is_among i ts

-- a term is a universal variable that is bound inside the scope of the variable with the index i, and is none of these
abbrev pub is_name : List Binder → (i : ℕ) → Term → (others : List Term) → Bool
is_name bs i (index j) ts = nat_lt j i && (is_universal (binder_of bs j) && not (is_among j ts))
is_name bs i (atom a) ts = false
is_name bs i (abs b) ts = false
is_name bs i (app t u) ts = false

-- so are all arguments of that variable, none of them the same as another
abbrev pub are_names : List Binder → (i : ℕ) → List Term → Bool
are_names bs i [] = true
are_names bs i (t ∷ ts) = is_name bs i t ts && are_names bs i ts

abbrev pub is_sigma : Atom → Bool
is_sigma (constant c types) = nat_eq c number.Exists
is_sigma (integer z) = false
is_sigma (text s) = false
is_sigma (eigen k) = false
is_sigma (logic x l) = false
is_sigma (param k T) = false

-- The parts of a part; None where it breaks the rule.

abbrev pub only : Bool → List Part → Option (List Part)
only true ps = Some ps
only false ps = None

abbrev pub variable_parts : Binder → (bs : List Binder) → (i : ℕ) → (arguments : List Term) → Option (List Part)
variable_parts Existential bs i us = only (are_names bs i us) []
variable_parts Universal bs i us = Some (map (inside bs) us)

-- a head on arguments, inside a term: each abstraction there binds a universal variable, and `sigma` may not stand there
abbrev pub inside_parts : List Binder → (head : Term) → (arguments : List Term) → Option (List Part)
inside_parts bs (index i) us = variable_parts (binder_of bs i) bs i us
inside_parts bs (atom a) us = only (not (is_sigma a)) (map (inside bs) us)
inside_parts bs (abs b) us = Some (inside (Universal ∷ bs) b ∷ map (inside bs) us)
inside_parts bs (app t u) us = None

-- a goal: its `pi` binds a universal variable, its `sigma` an existential one
abbrev pub goal_parts : List Binder → Term → Connective → List Part
goal_parts bs t connective.True = []
goal_parts bs t connective.Cut = []
goal_parts bs t (connective.And a b) = goal bs a ∷ goal bs b ∷ []
goal_parts bs t (connective.Or a b) = goal bs a ∷ goal bs b ∷ []
goal_parts bs t (connective.Implies c g) = clause bs c ∷ goal bs g ∷ []
goal_parts bs t (connective.ForAll T b) = goal (Universal ∷ bs) b ∷ []
goal_parts bs t (connective.Exists T b) = goal (Existential ∷ bs) b ∷ []
goal_parts bs t (connective.Not g) = goal bs g ∷ []
goal_parts bs t connective.Atomic = inside bs t ∷ []

-- a clause: its `pi` binds an existential variable; what is no clause is a term there
abbrev pub clause_parts : List Binder → Term → Connective → List Part
clause_parts bs t (connective.And a b) = clause bs a ∷ clause bs b ∷ []
clause_parts bs t (connective.Implies g c) = goal bs g ∷ clause bs c ∷ []
clause_parts bs t (connective.ForAll T b) = clause (Existential ∷ bs) b ∷ []
clause_parts bs t connective.True = inside bs t ∷ []
clause_parts bs t connective.Cut = inside bs t ∷ []
clause_parts bs t (connective.Or a b) = inside bs t ∷ []
clause_parts bs t (connective.Exists T b) = inside bs t ∷ []
clause_parts bs t (connective.Not g) = inside bs t ∷ []
clause_parts bs t connective.Atomic = inside bs t ∷ []

abbrev pub parts_at : Position → List Binder → Term → Option (List Part)
parts_at Goal bs t = Some (goal_parts bs t (connective_of t))
parts_at Clause bs t = Some (clause_parts bs t (connective_of t))
parts_at Inside bs t = inside_parts bs (head_of t) (arguments t)

abbrev pub parts_of : Part → Option (List Part)
parts_of p = parts_at p.position p.binders p.term

-- parts are pattern text where each can be taken apart, down to parts that have none
pub data ArePatterns : List Part → Type 0 where
  no_parts : ArePatterns []
  more_parts : {p : Part} {ps rest : List Part} → parts_of p ≡ Some ps → ArePatterns ps → ArePatterns rest → ArePatterns (p ∷ rest)

-- a term of a position is pattern text by its beta-eta normal form
abbrev pub IsPatternText : Position → Term → Type 0
IsPatternText position t = (form : Term) × IsFormOf t form × ArePatterns (record { position = position; binders = []; term = form } ∷ [])

-- a clause formula, and the formula of a query, whose variables are its loose indices
abbrev pub IsPatternClause : Term → Type 0
IsPatternClause t = IsPatternText Clause t

abbrev pub IsPatternQuery : Term → Type 0
IsPatternQuery t = IsPatternText Goal t
