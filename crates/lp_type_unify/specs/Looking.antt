-- The looks that solving takes: at a type past its bindings, for a variable, and at what is left.
use Rattle.std.specs.Prelude.{◌≡◌, ℕ, suc, ◌+◌, ◌<◌, ◌⊎◌, List, [], ◌∷◌, ◌++◌, map, reverse, Option, None, Bool, true, false, if◌then◌else◌}
use Rattle.lp_calculus.specs.Types.{Ty, var, instance}
use Rattle.lp_term.specs.declared.node.TypeId.{TypeId}
use Rattle.lp_type_laws.specs.Equations.{Equation, occurs, size}
use Rattle.lp_type_laws.specs.Solving.{nothing, bind_to, look, Turn, clashes, goes}
use Rattle.lp_type_laws.specs.Units.{visited, checked}
use Rattle.lp_type_unify.specs.declared.bindings.Pair.{Pair}
use Rattle.lp_type_unify.specs.declared.looking.Choice.{Choice}
use Rattle.lp_type_unify.specs.Reading.{IsOlder}

-- a variable on top is not bound
abbrev pub IsUnbound : (ℕ → Option TypeId) → Ty → Type 0
IsUnbound bound (var x) = bound x ≡ None
IsUnbound bound _ = Unit {0}

-- a variable on top reads as itself
abbrev pub IsLoose : (ℕ → Ty) → Ty → Type 0
IsLoose θ (var x) = θ x ≡ var x
IsLoose θ _ = Unit {0}

-- no variable
abbrev pub IsMade : Ty → Type 0
IsMade (var x) = ⊥
IsMade _ = Unit {0}

-- one above the number of a variable
abbrev pub rank : Ty → ℕ
rank (var x) = suc x
rank _ = 0

-- the variable occurs in one of the types
abbrev pub occurs_some : ℕ → List Ty → Bool
occurs_some x [] = false
occurs_some x (t ∷ ts) = if occurs x t then true else occurs_some x ts

-- the nodes that a look for x visits in types, one after the other
abbrev pub visited_some : ℕ → List Ty → ℕ
visited_some x [] = 0
visited_some x (t ∷ ts) = visited x t + (if occurs x t then 0 else visited_some x ts)

-- the nodes of all types on a list
abbrev pub size_of_all : List Ty → ℕ
size_of_all [] = 0
size_of_all (t ∷ ts) = size t + size_of_all ts

-- the types of a stack, the newest first
abbrev pub read_stack : (ℕ → Ty) → (ℕ → Ty) → List TypeId → List Ty
read_stack τ θ ids = map (λ t. instance θ (τ t.0)) (reverse ids)

-- the type is these parts below its top
pub record Opened (x : ℕ) (t : Ty) (ps : List Ty) : Type 0 where
  pub found : occurs x t ≡ occurs_some x ps
  pub visits : visited x t ≡ suc (visited_some x ps)
  pub smaller : size_of_all ps < size t

-- a look at the top of a type: the variable is there, or its parts go on the stack
abbrev pub Looked : Bool → ℕ → Ty → (old new : List Ty) → Type 0
Looked true x t old new = t ≡ var x
Looked false x t old new = (ps : List Ty) × (new ≡ ps ++ old) × Opened x t ps

abbrev pub zipped : List TypeId → List TypeId → List Pair
zipped [] us = []
zipped (t ∷ ts) [] = []
zipped (t ∷ ts) (u ∷ us) = record { left = t; right = u } ∷ zipped ts us

-- a turn goes on with these equations, or it clashes
abbrev pub Turned : Bool → Turn → List Equation → (ℕ → Ty) → Type 0
Turned true t es θ = t ≡ goes es θ
Turned false t es θ = t ≡ clashes

-- a variable on the left or right is to be bound to the other side
pub record Binds (τ : ℕ → Ty) (n : ℕ) (θ : ℕ → Ty) (left right : TypeId) (x : ℕ) (to : TypeId) : Type 0 where
  pub looks : look (instance θ (τ left.0)) (instance θ (τ right.0)) ≡ bind_to x (instance θ (τ to.0))
  pub visits : checked (instance θ (τ left.0)) (instance θ (τ right.0)) ≡ visited x (instance θ (τ to.0))
  pub older : IsOlder x (τ to.0)
  pub side : (τ left.0 ≡ var x) ⊎ (τ right.0 ≡ var x)
  pub known : to.0 < n

-- the choice is right for what the two types are
abbrev pub Chosen : (τ : ℕ → Ty) (n : ℕ) (θ : ℕ → Ty) (left right : TypeId) → Choice → Type 0
Chosen τ n θ left right Choice.Drop =
    (look (instance θ (τ left.0)) (instance θ (τ right.0)) ≡ nothing) × (checked (instance θ (τ left.0)) (instance θ (τ right.0)) ≡ 0)
Chosen τ n θ left right (Choice.Bind x to) = Binds τ n θ left right x to
Chosen τ n θ left right Choice.Split = IsMade (τ left.0) × IsMade (τ right.0) × (checked (instance θ (τ left.0)) (instance θ (τ right.0)) ≡ 0)
