-- Terms with values for their indices and types for their type variables, and what the tasks that make them come to.
use Rattle.std.specs.Prelude.{◌≡◌, ℕ, zero, suc, ◌<◌, List, [], ◌∷◌, map, length, All, Some, slice_get}
use Rattle.lp_calculus.specs.Types.{Ty}
use Rattle.lp_calculus.specs.Closed.{AllAtoms}
use Rattle.lp_calculus.specs.Term.{Term, Atom, atom, abs, apply, constant, integer, text, eigen, logic, param}
use Rattle.lp_calculus.specs.Instance.{instance_atom, instance_term}
use Rattle.lp_term.specs.Node.{TermShape, index_node, const_node, int_node, text_node, eigen_node, logic_node, typed_param_node, abs_node, app_node}
use Rattle.lp_term.specs.Nodes.{Nodes, tree, term_at}
use Rattle.lp_term.specs.Spine.{LooseBelow}
use Rattle.lp_term.specs.declared.node.TermId.{TermId}
use Rattle.lp_model.specs.Index.{lifted, instantiate, at}
use Rattle.lp_plain.specs.declared.instance.Task.{Task}
use Rattle.lp_plain.specs.Working.{IsLeft}

-- terms for indices, below so many more abstractions
abbrev pub lifted_by : ℕ → (ℕ → Term) → ℕ → Term
lifted_by zero σ = σ
lifted_by (suc d) σ = lifted (lifted_by d σ)

-- the term, below so many abstractions, with values for its indices and types for its type variables
abbrev pub instanced : (σ : ℕ → Term) → (θ : ℕ → Ty) → (depth : ℕ) → Term → Term
instanced σ θ d t = instantiate (lifted_by d σ) (instance_term θ t)

-- the terms that the values are
abbrev pub values_of : Nodes → List TermId → ℕ → Term
values_of b vs = at (map (λ t. tree b t.0) vs)

-- the values stand in the bank, and have no loose index
abbrev pub AreValues : Nodes → List TermId → Type 0
AreValues b vs = All (λ t. (t.0 < length b.terms) × LooseBelow 0 0 (tree b t.0)) vs

-- so, and these terms are the values
abbrev pub StandFor : Nodes → List TermId → (ℕ → Term) → Type 0
StandFor b vs σ = (i : ℕ) → (t : TermId) → slice_get vs i ≡ Some t → (t.0 < length b.terms) × (tree b t.0 ≡ σ i) × LooseBelow 0 0 (σ i)

abbrev pub IsNoParameter : Atom → Type 0
IsNoParameter (constant c ts) = Unit {0}
IsNoParameter (integer z) = Unit {0}
IsNoParameter (text s) = Unit {0}
IsNoParameter (eigen k) = Unit {0}
IsNoParameter (logic x l) = Unit {0}
IsNoParameter (param k t) = ⊥

-- an atom with types for its type variables, where it is no parameter
abbrev pub IsRenewedAtom : (θ : ℕ → Ty) → (old new : Term) → Type 0
IsRenewedAtom θ t u = (a : Atom) × (t ≡ atom a) × (IsNoParameter a → u ≡ atom (instance_atom θ a))

-- a node like this one on these terms is this term
abbrev pub IsBuiltTerm : TermShape → List Term → Term → Type 0
IsBuiltTerm (index_node i) us v = ⊥
IsBuiltTerm (const_node c ids) us v = ⊥
IsBuiltTerm (int_node z) us v = ⊥
IsBuiltTerm (text_node s) us v = ⊥
IsBuiltTerm (eigen_node k) us v = ⊥
IsBuiltTerm (logic_node x l) us v = ⊥
IsBuiltTerm (typed_param_node k t) us v = ⊥
IsBuiltTerm (abs_node b) us v = (u : Term) × (us ≡ u ∷ []) × (v ≡ abs u)
IsBuiltTerm (app_node f ids) us v = (h : Term) × (ts : List Term) × (us ≡ h ∷ ts) × (length ts ≡ length ids) × (v ≡ apply h ts)

-- a term below so many abstractions: no parameter stands in it, and no index that has none of so many values
abbrev pub IsReadable : (vars depth : ℕ) → Term → Type 0
IsReadable n d t = AllAtoms IsNoParameter t × LooseBelow n d t

-- what a task takes and makes
abbrev pub Instances : (vars : ℕ) → (σ : ℕ → Term) → (θ : ℕ → Ty) → Nodes → Task → List Term → Term → Type 0
Instances n σ θ b (Task.Visit t d) us v = (t.0 < length b.terms) × (us ≡ []) × IsReadable n d (tree b t.0) × (v ≡ instanced σ θ d (tree b t.0))
Instances n σ θ b (Task.Build t) us v = (t.0 < length b.terms) × IsBuiltTerm (term_at b t.0) us v

abbrev pub ToInstance : (vars : ℕ) → (σ : ℕ → Term) → (θ : ℕ → Ty) → Nodes → List Task → List TermId → Term → Type 0
ToInstance n σ θ b tasks made v = IsLeft (Instances n σ θ b) (λ t. tree b t.0) (λ t. t.0 < length b.terms) tasks made v

-- what the earlier tasks lead to the later ones lead to
abbrev pub KeepsInstancing : (vars : ℕ) → (σ : ℕ → Term) → (θ : ℕ → Ty) → (b d : Nodes) → (old new : List Task) → (made made' : List TermId) → Type 0
KeepsInstancing n σ θ b d old new made made' = (v : Term) → ToInstance n σ θ b old made v → ToInstance n σ θ d new made' v

-- the terms that are to be visited
abbrev pub visits_at : (depth : ℕ) → List TermId → List Task
visits_at d ids = map (λ t. Task.Visit t d) ids
