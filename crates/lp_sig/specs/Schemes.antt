-- Type variables of a type: each once, in the order of their first places, and the type with these places as their numbers.
use Rattle.std.specs.Prelude.{◌≡◌, ℕ, suc, ◌<◌, ◌⊎◌, List, [], ◌∷◌, ◌++◌, map, nat_eq, All, true, if◌then◌else◌}
use Rattle.std.specs.List.{list_any}
use Rattle.indexmap.specs.IndexSet.{insert_key}
use Rattle.lp_calculus.specs.Types.{Ty, Tys, var, param, con, arrow, no_types, types, instance}
use Rattle.lp_term.specs.Nodes.{Nodes, type_tree}
use Rattle.lp_term.specs.declared.node.TypeId.{TypeId}

-- the type variables of a type, in order
abbrev mutual
  pub type_variables : Ty → List ℕ
  type_variables (var x) = x ∷ []
  type_variables (param k) = []
  type_variables (con c ts) = types_variables ts
  type_variables (arrow a b) = type_variables a ++ type_variables b

  pub types_variables : Tys → List ℕ
  types_variables no_types = []
  types_variables (types t ts) = type_variables t ++ types_variables ts

-- those that were met before, and then each of these that was not met
abbrev pub met : List ℕ → List ℕ → List ℕ
met N [] = N
met N (x ∷ xs) = met (insert_key nat_eq N x) xs

-- each type variable once, in the order of their first places
unfoldable pub first_variables : Ty → List ℕ
first_variables t = met [] (type_variables t)

-- the place of the first x, the length where there is none
abbrev pub place : List ℕ → ℕ → ℕ
place [] x = 0
place (y ∷ ys) x = if nat_eq x y then 0 else suc (place ys x)

-- a type with its variables numbered by first place
unfoldable pub numbered_type : Ty → Ty
numbered_type t = instance (λ x. var (place (first_variables t) x)) t

-- a walk over a type: what is met is behind what was met before, and the types that wait come next

abbrev pub AllMet : List ℕ → List ℕ → Type 0
AllMet N [] = Unit {0}
AllMet N (x ∷ xs) = (list_any (nat_eq x) N ≡ true) × AllMet N xs

abbrev pub waiting_variables : Nodes → List TypeId → List ℕ
waiting_variables b [] = []
waiting_variables b (t ∷ ts) = type_variables (type_tree b t.0) ++ waiting_variables b ts

-- the variables of the type x are met, or will be behind some of the next types, each of which is older than it
abbrev pub WillBeMet : Nodes → ℕ → List ℕ → List TypeId → Type 0
WillBeMet b x found [] = AllMet found (type_variables (type_tree b x))
WillBeMet b x found (t ∷ ts) = AllMet found (type_variables (type_tree b x)) ⊎ ((t.0 < x) × WillBeMet b x (met found (type_variables (type_tree b t.0))) ts)

-- where the walk is: what was seen needs no second look, and all that waits leads to these variables
pub record IsOnWay (b : Nodes) (found seen : List ℕ) (waiting : List TypeId) (all : List ℕ) : Type 0 where
  pub known : (x : ℕ) → list_any (nat_eq x) seen ≡ true → WillBeMet b x found waiting
  pub leads : met found (waiting_variables b waiting) ≡ all

-- a type is looked at: its variable is met, or its parts wait
pub record IsOpened (b : Nodes) (id : ℕ) (old new : List ℕ) (before after : List TypeId) : Type 0 where
  pub parts : List TypeId
  pub older : All (λ t. t < id) (map (λ t. t.0) parts)
  pub waits : after ≡ parts ++ before
  pub same : met new (waiting_variables b parts) ≡ met old (type_variables (type_tree b id))
  pub more : List ℕ
  pub grown : new ≡ old ++ more
