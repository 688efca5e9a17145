-- Types that are read off with their type variables numbered as they are met.
use Rattle.std.specs.Prelude.{◌≡◌, ℕ, suc, ◌+◌, ◌*◌, ◌<◌, List, [], ◌∷◌, ◌++◌, map, length, Some, nat_eq}
use Rattle.indexmap.specs.IndexMap.{IndexMap, get}
use Rattle.lp_calculus.specs.Types.{Ty, instance}
use Rattle.lp_type_laws.specs.Equations.{size}
use Rattle.lp_term.specs.Nodes.{Nodes, type_tree}
use Rattle.lp_term.specs.declared.node.TypeId.{TypeId}
use Rattle.lp_type_unify.specs.Reading.{reads}
use Rattle.lp_infer.specs.Numbering.{type_variables, all_variables}
use Rattle.lp_infer.specs.Meeting.{met, AllMet, renaming}
use Rattle.lp_term.specs.Within.{AreTypesOf}
use Rattle.lp_infer.specs.Copies.{trees_of}
use Rattle.lp_infer.specs.declared.reading.Reading.{Reading}
use Rattle.lp_infer.specs.declared.reading.Task.{Task}
use Rattle.lp_infer.specs.declared.reading.Task.TheVariants as task

-- the type of a number under bindings
abbrev pub bound_type : {S : Type 0} → Nodes → IndexMap ℕ TypeId S → ℕ → Ty
bound_type b made i = instance (reads b made) (type_tree b i)

-- a type was read off, with the type variables that were met
pub record IsReadAs (b : Nodes) (N : List ℕ) (A : Ty) (j : ℕ) : Type 0 where
  pub known : j < length b.types
  pub is : type_tree b j ≡ instance (renaming N) A
  pub all : AllMet N (type_variables A)

-- each type that was made is read off
abbrev pub IsReadMemo : (A : ℕ → Ty) → Nodes → Reading → Type 0
IsReadMemo A b r = (i j : ℕ) → get nat_eq r.made i ≡ Some j → IsReadAs b r.numbers.keys (A i) j

-- types were read off
pub record AreRead (b : Nodes) (N : List ℕ) (As : List Ty) (ids : List TypeId) : Type 0 where
  pub known : AreTypesOf b ids
  pub are : trees_of b ids ≡ map (instance (renaming N)) As
  pub all : AllMet N (all_variables As)

-- the type variables of what is still to be read, the next task first
abbrev pub pending : (ℕ → Ty) → List Task → List ℕ
pending A [] = []
pending A (task.Visit id ∷ ts) = type_variables (A id.0) ++ pending A ts
pending A (task.Build id top ∷ ts) = pending A ts

-- what the tasks cost at most: twice the size of a type that is to be read, and one for a type that is to be built
abbrev pub cost : (ℕ → Ty) → List Task → ℕ
cost A [] = 0
cost A (task.Visit id ∷ ts) = 2 * size (A id.0) + cost A ts
cost A (task.Build id top ∷ ts) = suc (cost A ts)

-- one type was read off, and then all of a list
pub record ReadsOne (A : ℕ → Ty) (b : Nodes) (old new : Reading) (id : ℕ) (j : TypeId) : Type 0 where
  pub memo : IsReadMemo A b new
  pub numbers : new.numbers.keys ≡ met old.numbers.keys (type_variables (A id))
  pub is : IsReadAs b new.numbers.keys (A id) j.0

pub record ReadsAll (A : ℕ → Ty) (b : Nodes) (old new : Reading) (ids made : List TypeId) : Type 0 where
  pub memo : IsReadMemo A b new
  pub numbers : new.numbers.keys ≡ met old.numbers.keys (all_variables (map A (map (λ t. t.0) ids)))
  pub are : AreRead b new.numbers.keys (map A (map (λ t. t.0) ids)) made

-- a task is done: what was made is read off, and the type variables that are still to be met are the same
pub record IsTaken (A : ℕ → Ty) (b c : Nodes) (old new : Reading) (tasks left : List Task) : Type 0 where
  pub memo : IsReadMemo A b old → IsReadMemo A c new
  pub order : IsReadMemo A b old → met new.numbers.keys (pending A left) ≡ met old.numbers.keys (pending A tasks)
