-- The form of clauses and goals: the parts of a beta-normal formula, what is asked of each, and what may be wrong with one.
use Rattle.std.specs.Prelude.{◌≡◌, ℕ, ◌+◌, nat_lt, max, Bool, true, false, not, ◌&&◌, ◌||◌, if◌then◌else◌, List, [], ◌∷◌, Contains, Option}
use Rattle.lp_base.specs.declared.limits.TheConstants.{MAX_ARGUMENTS, MAX_TERM_DEPTH}
use Rattle.lp_calculus.specs.Term.{Term, index, atom, abs, app}
use Rattle.lp_calculus.specs.Typing.{Scheme}
use Rattle.lp_calculus.specs.Spine.{head_of}
use Rattle.lp_standard.specs.Connectives.{Connective, connective_of}
use Rattle.lp_standard.specs.Connectives as connective
use Rattle.lp_standard.specs.Positive.{is_positive}
use Rattle.lp_model.specs.Flatten.{is_goal_head, is_clause_head}

-- how deep a term is; a head stands with its arguments on one level
abbrev pub depth : Term → ℕ
depth (index i) = 1
depth (atom a) = 1
depth (abs b) = depth b + 1
depth (app t u) = max (depth t) (depth u + 1)

-- how many arguments the head of a term has
abbrev pub argument_count : Term → ℕ
argument_count (index i) = 0
argument_count (atom a) = 0
argument_count (abs b) = 0
argument_count (app t u) = argument_count t + 1

-- the greatest number of arguments on one head in a term
abbrev pub widest : Term → ℕ
widest (index i) = 0
widest (atom a) = 0
widest (abs b) = widest b
widest (app t u) = max (max (widest t) (widest u)) (argument_count t + 1)

-- A part of a formula: whether it stands in goal position; the quantifiers around it, the innermost first, each with whether it is a `pi` in goal position; and its depth in the whole.
pub record Part : Type 0 where
  pub goal : Bool
  pub binders : List Bool
  pub depth : ℕ
  pub formula : Term

abbrev pub below : Part → (goal : Bool) → Term → Part
below p goal t = record { goal = goal; binders = p.binders; depth = p.depth + 1; formula = t }

-- the body of a quantifier
abbrev pub inside : Part → (goal_variable : Bool) → Term → Part
inside p goal_variable t = record { goal = p.goal; binders = goal_variable ∷ p.binders; depth = p.depth + 2; formula = t }

-- the parts that only a goal has
abbrev pub in_goal : Bool → List Part → List Part
in_goal true ps = ps
in_goal false ps = []

-- the premise of an implication stands in the other position
abbrev pub parts_by : Part → Connective → List Part
parts_by p connective.True = []
parts_by p connective.Cut = []
parts_by p (connective.And a b) = below p p.goal a ∷ below p p.goal b ∷ []
parts_by p (connective.Or a b) = in_goal p.goal (below p p.goal a ∷ below p p.goal b ∷ [])
parts_by p (connective.Implies c g) = below p (not p.goal) c ∷ below p p.goal g ∷ []
parts_by p (connective.ForAll T b) = inside p p.goal b ∷ []
parts_by p (connective.Exists T b) = in_goal p.goal (inside p false b ∷ [])
parts_by p (connective.Not g) = in_goal p.goal (below p true g ∷ [])
parts_by p connective.Atomic = []

abbrev pub parts_of : Part → List Part
parts_of p = parts_by p (connective_of p.formula)

-- the second is the first, or stands in it
pub data IsPart : Part → Part → Type 0 where
  itself : (p : Part) → IsPart p p
  deeper : (p r q : Part) → Contains (parts_of p) r → IsPart r q → IsPart p q

-- no connective's, or a connective's that may not stand there: what stands in it are terms
abbrev pub is_term_by : (goal : Bool) → Connective → Bool
is_term_by goal connective.Atomic = true
is_term_by goal (connective.And a b) = false
is_term_by goal (connective.Implies c g) = false
is_term_by goal (connective.ForAll T b) = false
is_term_by goal connective.True = not goal
is_term_by goal connective.Cut = not goal
is_term_by goal (connective.Or a b) = not goal
is_term_by goal (connective.Exists T b) = not goal
is_term_by goal (connective.Not g) = not goal

abbrev pub is_term : Part → Bool
is_term p = is_term_by p.goal (connective_of p.formula)

-- an atom has a head that may stand in its position; of the constants the declared types are given
abbrev pub is_headed : (ℕ → Option Scheme) → Part → Bool
is_headed d p = if p.goal then is_goal_head (head_of p.formula) else is_clause_head d p.binders (head_of p.formula)

abbrev pub has_form_by : (ℕ → Option Scheme) → Part → Connective → Bool
has_form_by d p connective.Atomic = is_headed d p
has_form_by d p (connective.And a b) = true
has_form_by d p (connective.Implies c g) = true
has_form_by d p (connective.ForAll T b) = true
has_form_by d p connective.True = p.goal
has_form_by d p connective.Cut = p.goal
has_form_by d p (connective.Or a b) = p.goal
has_form_by d p (connective.Exists T b) = p.goal
has_form_by d p (connective.Not g) = p.goal

-- what may be wrong with a part: it is too deep; a head in it has too many arguments; `=>`, `:-`, `!` or `not` stands in a term; it has not its form
abbrev pub is_deep : Part → Bool
is_deep p = nat_lt MAX_TERM_DEPTH p.depth || (is_term p && nat_lt (MAX_TERM_DEPTH + 1) (p.depth + depth p.formula))

abbrev pub is_wide : Part → Bool
is_wide p = is_term p && nat_lt MAX_ARGUMENTS (widest p.formula)

abbrev pub is_in_term : Part → Bool
is_in_term p = is_term p && not (is_positive p.formula)

abbrev pub is_other : (ℕ → Option Scheme) → Part → Bool
is_other d p = not (has_form_by d p (connective_of p.formula))

-- some part of a formula is so, or none is
abbrev pub HasPart : (Part → Bool) → Part → Type 0
HasPart test whole = (p : Part) × IsPart whole p × (test p ≡ true)

abbrev pub HasNoPart : (Part → Bool) → Part → Type 0
HasNoPart test whole = (p : Part) → IsPart whole p → test p ≡ false

-- a formula by itself, as a goal or as a clause
abbrev pub whole : (goal : Bool) → Term → Part
whole goal t = record { goal = goal; binders = []; depth = 1; formula = t }
