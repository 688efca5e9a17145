-- What a term is when it is looked at: head-normal, with its head and its arguments.
use Rattle.std.specs.Prelude.{ℕ, zero, suc, nat_lt, not, Bool, true, ◌&&◌, if◌then◌else◌, List, [], ◌∷◌, Option, Some, None, option_and_then, option_map}
use Rattle.lp_calculus.specs.Term.{Term, index, atom, abs, app, logic, substitute}
use Rattle.lp_calculus.specs.Convert.{head_step, option_term}
use Rattle.lp_model.specs.Patterns.{member}
use Rattle.lp_model.specs.Eigens.{as_eigen}

infixl 10 ◌>>=◌
abbrev pub ◌>>=◌ : {A B : Type 0} → Option A → (A → Option B) → Option B
o >>= f = option_and_then f o

pub data Look : Type 0 where
  an_abs : (body : Term) → Look
  rigid : (head : Term) → (arguments : List Term) → Look
  flexible : (id level : ℕ) → (arguments : List Term) → Look

-- a head-normal term on further arguments
abbrev pub looked : Term → List Term → Look
looked (index i) ts = rigid (index i) ts
looked (atom (logic x l)) ts = flexible x l ts
looked (atom a) ts = rigid (atom a) ts
looked (abs b) [] = an_abs b
looked (abs b) (t ∷ ts) = rigid (abs b) (t ∷ ts)
looked (app f u) ts = looked f (u ∷ ts)

-- the head-normal form, if fewer than n steps lead there
abbrev pub head_normal : ℕ → Term → Option Term
head_normal zero t = None
head_normal (suc n) t = elim (head_step t) [ None ↦ Some t | Some s ↦ head_normal n s ]

abbrev pub look : ℕ → Term → Option Look
look n t = option_map (λ s. looked s []) (head_normal n t)

-- the step of leftmost head reduction that leaves an abstraction as it is
abbrev pub weak_step : Term → Option Term
weak_step (index i) = None
weak_step (atom a) = None
weak_step (abs b) = None
weak_step (app (abs b) u) = Some (substitute u b)
weak_step (app (index i) u) = None
weak_step (app (atom a) u) = None
weak_step (app (app t v) u) = option_term (λ s. app s u) (weak_step (app t v))

-- the term that takes no such step, if fewer than n of them lead there
abbrev pub top_normal : ℕ → Term → Option Term
top_normal zero t = None
top_normal (suc n) t = elim (weak_step t) [ None ↦ Some t | Some s ↦ top_normal n s ]

abbrev pub as_eigens : ℕ → List Term → Option (Option (List ℕ))
as_eigens n [] = Some (Some [])
as_eigens n (t ∷ ts) = as_eigen n t >>= λ o. elim o [
  | None ↦ Some None
  | Some k ↦ option_map (option_map (λ ks. k ∷ ks)) (as_eigens n ts)
]

abbrev pub are_distinct : List ℕ → Bool
are_distinct [] = true
are_distinct (k ∷ ks) = not (member k ks) && are_distinct ks

abbrev pub are_above : ℕ → List ℕ → Bool
are_above l [] = true
are_above l (k ∷ ks) = nat_lt l k && are_above l ks

abbrev pub only_if : {A : Type 0} → (A → Bool) → Option A → Option A
only_if p None = None
only_if p (Some a) = if p a then Some a else None

-- the eigenconstants on which a variable of level l makes a pattern
abbrev pub pattern_of : ℕ → ℕ → List Term → Option (Option (List ℕ))
pattern_of n l ts = option_map (only_if (λ ks. are_distinct ks && are_above l ks)) (as_eigens n ts)
