-- A look through shared nodes for one that passes a test: marked nodes are not looked at again.
use Rattle.std.specs.Prelude.{◌≡◌, ℕ, ◌+◌, ◌<◌, Bool, true, List, [], ◌∷◌}
use Rattle.std.specs.List.{list_any}
use Rattle.lp_lemmas.specs.Each.{AnyOf}
use Rattle.lp_term.specs.Nodes.{Nodes, type_tree, tree}
use Rattle.lp_term.specs.inner.Walking.{type_size, term_size}
use Rattle.lp_model.specs.Search.{has_type_variable, has_variable}

-- a type variable stands in the type of a number
abbrev pub open_types : Nodes → ℕ → Bool
open_types b i = has_type_variable (type_tree b i)

-- a variable stands in the term of a number
abbrev pub open_terms : Nodes → ℕ → Bool
open_terms b i = has_variable (tree b i)

abbrev pub type_weight : Nodes → ℕ → ℕ
type_weight b i = type_size (type_tree b i)

abbrev pub term_weight : Nodes → ℕ → ℕ
term_weight b i = term_size (tree b i)

abbrev pub weight_of_all : {N : Type 0} → (N → ℕ) → List N → ℕ
weight_of_all w [] = 0
weight_of_all w (n ∷ ns) = w n + weight_of_all w ns

-- the node passes exactly where one of these does, which are lighter in all
pub record AreParts {N : Type 0} (P : N → Bool) (w : N → ℕ) (n : N) (ps : List N) : Type 0 where
  pub lighter : weight_of_all w ps < w n
  pub passes : P n ≡ list_any P ps

-- one of the nodes passes
abbrev pub SomeOf : {N : Type 0} → (N → Bool) → List N → Type 0
SomeOf P ns = AnyOf (λ n. P n ≡ true) ns

-- one that weighs less does
abbrev pub SomeBelow : {N : Type 0} → (N → Bool) → (N → ℕ) → ℕ → List N → Type 0
SomeBelow P w m ns = AnyOf (λ n. (w n < m) × (P n ≡ true)) ns

-- no marked node passes
abbrev pub IsClean : {N : Type 0} → (P marked : N → Bool) → Type 0
IsClean {N} P marked = (n : N) → marked n ≡ true → P n ≡ true → ⊥

-- one of the given nodes passes exactly where one that is left does, and where a marked node passes a lighter one that is left does
pub record Leads {N : Type 0} (P : N → Bool) (w : N → ℕ) (given left : List N) (marked : N → Bool) : Type 0 where
  pub honest : SomeOf P left → SomeOf P given
  pub wanted : SomeOf P given → SomeOf P left
  pub met : (n : N) → marked n ≡ true → P n ≡ true → SomeBelow P w (w n) left
