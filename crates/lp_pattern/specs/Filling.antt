-- Types with all bindings put in, and type equations under bindings.
use Rattle.std.specs.Prelude.{◌≡◌, ℕ, ◌+◌, ◌<◌, ◌≤◌, List, [], ◌∷◌, map, length, Some, nat_eq}
use Rattle.indexmap.specs.IndexMap.{get}
use Rattle.lp_calculus.specs.Types.{Ty, instance}
use Rattle.lp_type_laws.specs.Equations.{Equation, equation}
use Rattle.lp_term.specs.Nodes.{Nodes, type_tree}
use Rattle.lp_term.specs.Node.{TypeShape, var_node, param_node, con_node, arrow_node}
use Rattle.lp_term.specs.declared.node.TypeId.{TypeId}
use Rattle.lp_type_unify.specs.declared.bindings.Pair.{Pair}
use Rattle.lp_model.specs.Types.{TypeBinding, put_types, TypeOutcome, none, solved}
use Rattle.lp_pattern.specs.Under.{AreTypes}
use Rattle.lp_pattern.specs.declared.bindings.Bindings.{Bindings}
use Rattle.lp_pattern.specs.declared.fault.PatternRefusal.{PatternRefusal}
use Rattle.lp_pattern.specs.declared.fill_types.TypesFilled.{TypesFilled}

-- the numbers of the parts of a type
abbrev pub part_numbers : TypeShape → List ℕ
part_numbers (var_node i) = []
part_numbers (param_node k) = []
part_numbers (con_node c ids) = ids
part_numbers (arrow_node a b) = a ∷ b ∷ []

-- a type has become this one
pub record IsFilledAs (b : Nodes) (θ : ℕ → Ty) (old new : ℕ) : Type 0 where
  pub known : old < length b.types
  pub made : new < length b.types
  pub is : type_tree b new ≡ instance θ (type_tree b old)

-- all types that were filled have become what they are under the bindings
abbrev pub AreFilled : Nodes → (ℕ → Ty) → TypesFilled → Type 0
AreFilled b θ done = (i : ℕ) (j : TypeId) → get nat_eq done.made i ≡ Some j → IsFilledAs b θ i j.0

-- the types of a list have become those of another
abbrev pub HaveBecome : Nodes → (ℕ → Ty) → (olds news : List TypeId) → Type 0
HaveBecome b θ olds news = map (λ t. type_tree b t.0) news ≡ map (λ t. instance θ (type_tree b t.0)) olds

-- a pair of types, and what it is under the bindings
abbrev pub held : Nodes → Pair → Equation
held b p = equation (type_tree b p.left.0) (type_tree b p.right.0)

abbrev pub equation_under : Nodes → (ℕ → Ty) → TypeId × TypeId → Equation
equation_under b θ p = equation (instance θ (type_tree b p.0.0)) (instance θ (type_tree b p.1.0))

-- all types of pairs are in the bank
abbrev pub AreIn : Nodes → List Pair → Type 0
AreIn b [] = Unit {0}
AreIn b (p ∷ ps) = (p.left.0 < length b.types) × (p.right.0 < length b.types) × AreIn b ps

abbrev pub AreKnown : Nodes → List (TypeId × TypeId) → Type 0
AreKnown b [] = Unit {0}
AreKnown b (p ∷ ps) = (p.0.0 < length b.types) × (p.1.0 < length b.types) × AreKnown b ps

-- types whose variables are not bound: to put the bindings in again changes nothing
abbrev pub IsStill : (ℕ → Ty) → Type 0
IsStill θ = (x : ℕ) → instance θ (θ x) ≡ θ x

-- type equations were solved: the types for the variables are those of the definition's bindings behind the older ones
pub record AreSolved (before : Bindings) (b : Nodes) (s : Bindings) (θ : ℕ → Ty) (old new : ℕ) (r : TypeOutcome) : Type 0 where
  pub bindings : List TypeBinding
  pub used : ℕ
  pub is : r ≡ solved bindings used
  pub units : old ≡ used + new
  pub types : AreTypes b s (λ x. put_types bindings (θ x))
  pub still : IsStill (λ x. put_types bindings (θ x))
  pub count : length s.types.entries ≡ length before.types.entries + length bindings

abbrev pub units_in : TypeOutcome → ℕ
units_in (none u) = u
units_in (solved bs u) = u

-- equations were solved with so many units left, or were not
abbrev pub IsSolvedIn : (limit left : ℕ) → TypeOutcome → Type 0
IsSolvedIn limit left (none w) = ⊥
IsSolvedIn limit left (solved bs w) = limit ≡ w + left

abbrev pub IsUnsolvedIn : PatternRefusal → (limit : ℕ) → TypeOutcome → Type 0
IsUnsolvedIn PatternRefusal.Fails limit (none w) = w ≤ limit
IsUnsolvedIn PatternRefusal.Fails limit (solved bs w) = ⊥
IsUnsolvedIn PatternRefusal.Deep limit (none w) = limit < w
IsUnsolvedIn PatternRefusal.Deep limit (solved bs w) = limit < w
IsUnsolvedIn PatternRefusal.Memory limit o = Unit {0}
