-- What a look at a term under bindings comes to.
use Rattle.std.specs.Prelude.{◌≡◌, ℕ, suc, ◌+◌, ◌<◌, ◌≤◌, nat_eq, length, List, [], map, All, Option, Some, None, IfSome, IsSome, option_map}
use Rattle.indexmap.specs.IndexMap.{get}
use Rattle.lp_calculus.specs.Term.{Term, index, atom, abs, app, apply, constant, integer, text, eigen, logic, param}
use Rattle.lp_calculus.specs.Convert.{steps}
use Rattle.lp_term.specs.Nodes.{Nodes, tree}
use Rattle.lp_term.specs.Walk.{trees}
use Rattle.lp_term.specs.declared.node.TermId.{TermId}
use Rattle.lp_term.specs.declared.reduce.TermRefusal.{TermRefusal}
use Rattle.lp_model.specs.Pair.{Closing, closed}
use Rattle.lp_model.specs.Look.{Look, an_abs, rigid, flexible, head_normal, look, weak_step}
use Rattle.lp_pattern.specs.declared.bindings.Bindings.{Bindings}
use Rattle.lp_pattern.specs.declared.look.Head.{Head}
use Rattle.lp_pattern.specs.declared.look.Looked.{Looked}
use Rattle.lp_pattern.specs.declared.look.Spine.{Spine}
use Rattle.lp_pattern.specs.Under.{under, below}

abbrev pub IsRigid : Term → Type 0
IsRigid (index i) = Unit {0}
IsRigid (atom (constant c ts)) = Unit {0}
IsRigid (atom (integer z)) = Unit {0}
IsRigid (atom (text bytes)) = Unit {0}
IsRigid (atom (eigen k)) = Unit {0}
IsRigid (atom (logic x l)) = ⊥
IsRigid (atom (param k t)) = Unit {0}
IsRigid (abs b) = ⊥
IsRigid (app t u) = ⊥

-- a head that is neither bound nor to be contracted
abbrev pub IsEndedHead : Bindings → Term → Type 0
IsEndedHead s (index i) = Unit {0}
IsEndedHead s (atom (constant c ts)) = Unit {0}
IsEndedHead s (atom (integer z)) = Unit {0}
IsEndedHead s (atom (text bytes)) = Unit {0}
IsEndedHead s (atom (eigen k)) = Unit {0}
IsEndedHead s (atom (logic x l)) = get nat_eq s.terms x ≡ None
IsEndedHead s (atom (param k t)) = Unit {0}
IsEndedHead s (abs b) = ⊥
IsEndedHead s (app t u) = IsEndedHead s t

-- a term with such a head, or an abstraction
abbrev pub IsEnded : Bindings → Term → Type 0
IsEnded s (index i) = Unit {0}
IsEnded s (atom a) = IsEndedHead s (atom a)
IsEnded s (abs b) = Unit {0}
IsEnded s (app t u) = IsEndedHead s t

-- a head of this kind
abbrev pub IsHead : Nodes → Bindings → Head → Term → List TermId → Type 0
IsHead b s (Head.Abstraction body) t args = (t ≡ abs (tree b body.0)) × (body.0 < length b.terms) × (args ≡ [])
IsHead b s (Head.Variable id level) t args = (t ≡ atom (logic id level)) × (get nat_eq s.terms id ≡ None)
IsHead b s Head.Rigid t args = IsRigid t

-- a term with its head and its arguments
pub record IsLooked (b : Nodes) (s : Bindings) (r : Looked) : Type 0 where
  pub known : r.whole.0 < length b.terms
  pub top : r.top.0 < length b.terms
  pub arguments : All (λ t. t.0 < length b.terms) r.arguments.items
  pub made : tree b r.whole.0 ≡ apply (tree b r.top.0) (map (λ t. tree b t.0) r.arguments.items)
  pub head : IsHead b s r.head (tree b r.top.0) r.arguments.items

-- at most so many steps lead there
abbrev pub IsReachedWithin : ℕ → Term → Term → Type 0
IsReachedWithin limit t s = (n : ℕ) × (n ≤ limit) × (steps weak_step n t ≡ Some s)

-- more steps than the limit can be taken
abbrev pub IsDeepWhere : ℕ → Term → TermRefusal → Type 0
IsDeepWhere limit t (TermRefusal.Deep n) = IsSome (steps weak_step (suc limit) t)
IsDeepWhere limit t TermRefusal.Memory = Unit {0}

-- the same, and it is the limit that is told
abbrev pub IsDeepAt : ℕ → Term → TermRefusal → Type 0
IsDeepAt limit t (TermRefusal.Deep n) = (n ≡ limit) × IsSome (steps weak_step (suc limit) t)
IsDeepAt limit t TermRefusal.Memory = Unit {0}

-- what the definition sees in so many steps. It reduces the body of an abstraction too
abbrev pub seen : ℕ → Nodes → Closing → Head → (top : TermId) → List TermId → Option Look
seen n b c (Head.Abstraction body) top args = option_map an_abs (head_normal n (below c (tree b body.0)))
seen n b c (Head.Variable id level) top args = Some (flexible id level (map (under b c) args))
seen n b c Head.Rigid top args = Some (rigid (under b c top) (map (under b c) args))

-- the look at a term is what was seen, so many steps later
abbrev pub Sees : (limit : ℕ) → Nodes → Closing → Looked → Term → Type 0
Sees limit b c r t = (k : ℕ) × (k ≤ limit) × ((n m : ℕ) → m ≡ k + suc n → look m t ≡ seen (suc n) b c r.head r.top r.arguments.items)

-- the term that is looked at: a head, its arguments, the last one first, and the number of the whole, where it has one
abbrev pub at_hand : Nodes → Spine → Term
at_hand b s = apply (tree b s.top.0) (trees b s.arguments.items)

pub record Stands (b : Nodes) (s : Spine) : Type 0 where
  pub top : s.top.0 < length b.terms
  pub arguments : All (λ t. t.0 < length b.terms) s.arguments.items
  pub whole : IfSome s.whole (λ id. (id.0 < length b.terms) × (tree b id.0 ≡ at_hand b s))

-- from one to the other lead as many steps as contractions were used
abbrev pub Follows : Closing → (b : Nodes) → Spine → (d : Nodes) → Spine → Type 0
Follows c b s d r = (k : ℕ) × (k + r.left ≡ s.left) × (steps weak_step k (closed c (at_hand b s)) ≡ Some (closed c (at_hand d r)))
