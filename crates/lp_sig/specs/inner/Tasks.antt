-- What is left of a copy goes: each node that is built has copies of its parts by then.
use Rattle.std.specs.Prelude.{◌≡◌, ◌⊎◌, ℕ, List, [], ◌∷◌, is_some, true, nat_eq, All}
use Rattle.indexmap.specs.IndexMap.{IndexMap, get}
use Rattle.lp_term.specs.Node.{TypeShape, var_node, param_node, con_node, arrow_node}
use Rattle.lp_term.specs.Nodes.{Nodes, type_at}
use Rattle.lp_sig.specs.declared.interned.Task.{Task}
use Rattle.lp_sig.specs.declared.interned.Task.TheVariants.{Visit, Build}

-- a type has a copy
abbrev pub HasCopy : {S : Type 0} → IndexMap ℕ ℕ S → ℕ → Type 0
HasCopy made i = is_some (get nat_eq made i) ≡ true

-- a node has parts, and each of them is so
abbrev pub AreParts : (ℕ → Type 0) → TypeShape → Type 0
AreParts Is (var_node i) = ⊥
AreParts Is (param_node k) = ⊥
AreParts Is (con_node c ids) = All Is ids
AreParts Is (arrow_node a b) = Is a × Is b

-- of these tasks, the next one first, each has a copy for its type, and behind them the root has one
abbrev pub AllGo : Nodes → (root : ℕ) → (ℕ → Type 0) → List Task → Type 0
AllGo b root Is [] = Is root
AllGo b root Is (Visit t ∷ ts) = AllGo b root (λ i. Is i ⊎ (i ≡ t.0)) ts
AllGo b root Is (Build t ∷ ts) = AreParts Is (type_at b t.0) × AllGo b root (λ i. Is i ⊎ (i ≡ t.0)) ts
