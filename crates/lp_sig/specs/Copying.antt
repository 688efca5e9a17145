-- Types of a bank: how many nodes they have, and what is left of a copy.
use Rattle.std.specs.Prelude.{◌≡◌, ℕ, zero, suc, ◌+◌, ◌*◌, ◌<◌, List, [], ◌∷◌, length, Some, nat_eq}
use Rattle.indexmap.specs.IndexMap.{IndexMap, get}
use Rattle.lp_calculus.specs.Types.{Ty, Tys, var, param, con, arrow, no_types, types, instance}
use Rattle.lp_term.specs.Nodes.{Nodes, type_tree}
use Rattle.lp_term.specs.declared.node.TypeId.{TypeId}
use Rattle.lp_sig.specs.declared.interned.Task.{Task}
use Rattle.lp_sig.specs.declared.interned.Task.TheVariants.{Visit, Build}

-- the nodes of a type
abbrev mutual
  pub type_size : Ty → ℕ
  type_size (var i) = 1
  type_size (param k) = 1
  type_size (con c ts) = suc (type_sizes ts)
  type_size (arrow a b) = suc (type_size a + type_size b)

  pub type_sizes : Tys → ℕ
  type_sizes no_types = 0
  type_sizes (types t ts) = type_size t + type_sizes ts

-- the nodes of all types of a list
abbrev pub total : Nodes → List TypeId → ℕ
total b [] = 0
total b (t ∷ ts) = type_size (type_tree b t.0) + total b ts

-- a type that is to be visited costs twice its nodes, one that is to be put together costs one
abbrev pub cost : Nodes → Task → ℕ
cost b (Visit t) = 2 * type_size (type_tree b t.0)
cost b (Build t) = 1

abbrev pub left : Nodes → List Task → ℕ
left b [] = 0
left b (t ∷ ts) = cost b t + left b ts

-- what is to be visited or put together is in the bank
abbrev pub InRange : Nodes → Task → Type 0
InRange b (Visit t) = t.0 < length b.types
InRange b (Build t) = t.0 < length b.types

abbrev pub AreInRange : Nodes → List Task → Type 0
AreInRange b [] = Unit {0}
AreInRange b (t ∷ ts) = InRange b t × AreInRange b ts

-- the types for the variables of a type; a variable without one stays
abbrev pub picked : Nodes → List TypeId → ℕ → Ty → Ty
picked b [] n d = d
picked b (t ∷ ts) zero d = type_tree b t.0
picked b (t ∷ ts) (suc n) d = picked b ts n d

abbrev pub filled : Nodes → List TypeId → ℕ → Ty
filled b args n = picked b args n (var n)

-- each number that is kept is that of the type with types for its variables
abbrev pub AreCopies : {S : Type 0} → Nodes → List TypeId → Nodes → IndexMap ℕ ℕ S → Type 0
AreCopies b args now made = (x y : ℕ) → get nat_eq made x ≡ Some y → (y < length now.types) × (type_tree now y ≡ instance (filled b args) (type_tree b x))
