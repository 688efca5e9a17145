-- Types that wait to be built: what they are made of is read before them.
use Rattle.std.specs.Prelude.{◌≡◌, ℕ, ◌<◌, ◌⊎◌, List, [], ◌∷◌, length, All, Some, None, nat_eq}
use Rattle.indexmap.specs.IndexMap.{get}
use Rattle.lp_calculus.specs.Types.{Ty}
use Rattle.lp_term.specs.Node.{TypeShape, var_node, param_node, con_node, arrow_node}
use Rattle.lp_term.specs.Nodes.{Nodes, type_at}
use Rattle.lp_infer.specs.declared.reading.Reading.{Reading}
use Rattle.lp_infer.specs.declared.reading.Task.{Task}
use Rattle.lp_infer.specs.declared.reading.Task.TheVariants as task

-- something was made of the type of this number
abbrev pub WasRead : Reading → ℕ → Type 0
WasRead r i = get nat_eq r.made i ≡ None → ⊥

-- j is what was made of id, which is top past its bindings
pub record IsPut (id top j : ℕ) (old new : Reading) : Type 0 where
  pub here : get nat_eq new.made id ≡ Some j
  pub each : (i : ℕ) → (get nat_eq new.made i ≡ get nat_eq old.made i) ⊎ (((i ≡ id) ⊎ (i ≡ top)) × (get nat_eq new.made i ≡ Some j))

-- something was made of id, and still of each that was read before
pub record IsRead (id : ℕ) (old new : Reading) : Type 0 where
  pub here : WasRead new id
  pub stay : (i : ℕ) → WasRead old i → WasRead new i

-- a node with parts, of each of which something was made
abbrev pub PartsRead : (ℕ → Type 0) → TypeShape → Type 0
PartsRead was (var_node x) = ⊥
PartsRead was (param_node k) = ⊥
PartsRead was (con_node c ids) = All was ids
PartsRead was (arrow_node l r) = was l × was r

-- the parts of each type that is built are read before it, and at the end the root is
abbrev pub Serves : (A : ℕ → Ty) → Nodes → (root : ℕ) → (was : ℕ → Type 0) → List Task → Type 0
Serves A b root was [] = was root
Serves A b root was (task.Visit id ∷ ts) = (id.0 < length b.types) × Serves A b root (λ i. (i ≡ id.0) ⊎ was i) ts
Serves A b root was (task.Build id top ∷ ts) = (A id.0 ≡ A top.0) × PartsRead was (type_at b top.0) × Serves A b root (λ i. (i ≡ id.0) ⊎ was i) ts
