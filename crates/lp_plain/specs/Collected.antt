-- What is written in goals, clauses and terms, by numbers.
use Rattle.std.specs.Prelude.{◌≡◌, ℕ, nat_eq, Bool, List}
use Rattle.std.specs.List.{list_any, IsDistinct}
use Rattle.lp_calculus.specs.Term.{Term}
use Rattle.lp_model.specs.Flat.{loose_in, type_variables_in}
use Rattle.lp_plain.specs.declared.free.Free.{Free}

-- the number is in the list
abbrev pub is_in : ℕ → List ℕ → Bool
is_in n ns = list_any (nat_eq n) ns

-- the numbers of the other list, each once
pub record AreThose (found all : List ℕ) : Type 0 where
  pub same : (n : ℕ) → is_in n found ≡ is_in n all
  pub once : IsDistinct nat_eq found

-- the loose indices, and the type variables in the types of constants, that are collected so from each term
pub record AreCollected (f : Free) (collect : (ℕ → Term → List ℕ) → List ℕ) : Type 0 where
  pub variables : AreThose f.variables.items (collect loose_in)
  pub types : AreThose f.types.items (collect (λ d t. type_variables_in t))
