-- The walk by which a map is made: tasks of which the last one is done next, and what has been made.
use Rattle.std.specs.Prelude.{◌≡◌, ℕ, suc, ◌+◌, ◌*◌, ◌<◌, zero, nat_eq, Bool, true, false, is_some, if◌then◌else◌, List, [], ◌∷◌, ◌++◌, map, length, All, Option, Some, None, ◌⊎◌}
use Rattle.std.specs.HashMap.{get}
use Rattle.lp_calculus.specs.Types.{Ty, Tys, var, param, con, arrow, no_types, types}
use Rattle.lp_calculus.specs.Term.{Term, Atom, constant, integer, text, eigen, logic, index, atom, abs, app}
use Rattle.lp_calculus.specs.Term as term
use Rattle.lp_term.specs.Node.{TypeShape, var_node, param_node, con_node, arrow_node, TermShape, index_node, const_node, int_node, text_node, eigen_node, logic_node, typed_param_node, abs_node, app_node}
use Rattle.lp_term.specs.Nodes.{Nodes, tree, type_tree, term_at, type_at}
use Rattle.lp_term.specs.Mapped.{Map, Told, IsMap, mapped, mapped_type}
use Rattle.lp_term.specs.declared.becomes.TypeChange.{TypeChange}
use Rattle.lp_term.specs.declared.becomes.TermChange.{TermChange}
use Rattle.lp_term.specs.declared.walked.Node.{Node}
use Rattle.lp_term.specs.declared.walked.Task.{Task}
use Rattle.lp_term.specs.declared.changed.Changed.{Changed}

abbrev pub node_of : Task → Node
node_of (Task.Visit n) = n
node_of (Task.Build n) = n

abbrev pub same_node : Node → Node → Bool
same_node (Node.Term i) (Node.Term j) = nat_eq i j
same_node (Node.Term i) (Node.Type j) = false
same_node (Node.Type i) (Node.Term j) = false
same_node (Node.Type i) (Node.Type j) = nat_eq i j

-- the number of what the node has become, or its own while it is begun
abbrev pub made_of : Changed → Node → Option ℕ
made_of c (Node.Term i) = get nat_eq c.terms i
made_of c (Node.Type i) = get nat_eq c.types i

abbrev pub IsBegun : Changed → Node → Type 0
IsBegun c n = is_some (made_of c n) ≡ true

abbrev pub or_own : Option ℕ → ℕ → ℕ
or_own None i = i
or_own (Some j) i = j

abbrev pub visits : List Node → List Task
visits ns = map (λ n. Task.Visit n) ns

-- what another type or term becomes, which comes first
abbrev pub type_detour : TypeChange → List Node
type_detour (TypeChange.Var y) = []
type_detour (TypeChange.Is t) = []
type_detour (TypeChange.As t) = Node.Type t.0 ∷ []

abbrev pub term_detour : TermChange → List Node
term_detour TermChange.Stays = []
term_detour (TermChange.Is t) = []
term_detour (TermChange.As t) = Node.Term t.0 ∷ []

abbrev pub type_parts : Told → TypeShape → List Node
type_parts f (var_node x) = type_detour (f.types x)
type_parts f (param_node k) = []
type_parts f (con_node c ids) = map (λ i. Node.Type i) ids
type_parts f (arrow_node a b) = Node.Type a ∷ Node.Type b ∷ []

abbrev pub term_parts : Told → TermShape → List Node
term_parts f (index_node i) = []
term_parts f (const_node c ids) = map (λ i. Node.Type i) ids
term_parts f (int_node z) = []
term_parts f (text_node s) = []
term_parts f (eigen_node k) = []
term_parts f (logic_node x l) = term_detour (f.terms x)
term_parts f (typed_param_node k t) = Node.Type t ∷ []
term_parts f (abs_node b) = Node.Term b ∷ []
term_parts f (app_node h ids) = Node.Term h ∷ map (λ i. Node.Term i) ids

-- what has to be made before the node
abbrev pub parts : Told → Nodes → Node → List Node
parts f b (Node.Term i) = term_parts f (term_at b i)
parts f b (Node.Type i) = type_parts f (type_at b i)

abbrev pub IsIn : Nodes → Node → Type 0
IsIn b (Node.Term i) = i < length b.terms
IsIn b (Node.Type i) = i < length b.types

-- the number is that of what the node becomes
abbrev pub IsRight : Map → (read built : Nodes) → Node → ℕ → Type 0
IsRight m b d (Node.Term i) j = (j < length d.terms) × (tree d j ≡ mapped m (tree b i))
IsRight m b d (Node.Type i) j = (j < length d.types) × (type_tree d j ≡ mapped_type m (type_tree b i))

abbrev pub IsRightAt : Map → (read built : Nodes) → Node → Option ℕ → Type 0
IsRightAt m b d n None = ⊥
IsRightAt m b d n (Some j) = IsRight m b d n j

-- all that was made is right
abbrev pub AreRight : Map → (read built : Nodes) → Changed → Type 0
AreRight m b d c = (n : Node) (j : ℕ) → made_of c n ≡ Some j → IsRight m b d n j

-- sizes of what nodes become, and one more where that is a detour
abbrev mutual
  pub type_size : Ty → ℕ
  type_size (var i) = 1
  type_size (param k) = 1
  type_size (con c ts) = suc (types_size ts)
  type_size (arrow a b) = suc (type_size a + type_size b)

  pub types_size : Tys → ℕ
  types_size no_types = 0
  types_size (types t ts) = type_size t + types_size ts

abbrev pub list_size : List Ty → ℕ
list_size [] = 0
list_size (t ∷ ts) = type_size t + list_size ts

abbrev pub atom_size : Atom → ℕ
atom_size (constant c ts) = suc (list_size ts)
atom_size (integer z) = 1
atom_size (text s) = 1
atom_size (eigen k) = 1
atom_size (logic x l) = 1
atom_size (term.param k T) = suc (type_size T)

abbrev pub term_size : Term → ℕ
term_size (index i) = 1
term_size (atom a) = atom_size a
term_size (abs b) = suc (term_size b)
term_size (app t u) = suc (term_size t + term_size u)

abbrev pub type_turn : TypeChange → ℕ
type_turn (TypeChange.Var y) = 0
type_turn (TypeChange.Is t) = 0
type_turn (TypeChange.As t) = 1

abbrev pub term_turn : TermChange → ℕ
term_turn TermChange.Stays = 0
term_turn (TermChange.Is t) = 0
term_turn (TermChange.As t) = 1

abbrev pub turns_type : Told → Ty → ℕ
turns_type f (var x) = type_turn (f.types x)
turns_type f (param k) = 0
turns_type f (con c ts) = 0
turns_type f (arrow a b) = 0

abbrev pub turns_atom : Told → Atom → ℕ
turns_atom f (constant c ts) = 0
turns_atom f (integer z) = 0
turns_atom f (text s) = 0
turns_atom f (eigen k) = 0
turns_atom f (logic x l) = term_turn (f.terms x)
turns_atom f (term.param k T) = 0

abbrev pub turns : Told → Term → ℕ
turns f (index i) = 0
turns f (atom a) = turns_atom f a
turns f (abs b) = 0
turns f (app t u) = 0

abbrev pub weight : Told → Map → Nodes → Node → ℕ
weight f m b (Node.Term i) = 2 * term_size (mapped m (tree b i)) + turns f (tree b i)
weight f m b (Node.Type i) = 2 * type_size (mapped_type m (type_tree b i)) + turns_type f (type_tree b i)

abbrev pub IsVisited : Node → List Task → Type 0
IsVisited n [] = ⊥
IsVisited n (Task.Visit q ∷ ts) = (q ≡ n) ⊎ IsVisited n ts
IsVisited n (Task.Build q ∷ ts) = IsVisited n ts

abbrev pub IsOpen : Node → List Task → Type 0
IsOpen n [] = ⊥
IsOpen n (Task.Visit q ∷ ts) = IsOpen n ts
IsOpen n (Task.Build q ∷ ts) = (q ≡ n) ⊎ IsOpen n ts

-- above a node that is to be built stand lighter ones, among them all its parts that are not begun
abbrev pub Stacked : (Node → List Node) → (Node → ℕ) → (Node → Type 0) → List Task → Type 0
Stacked ps w K [] = Unit {0}
Stacked ps w K (Task.Visit q ∷ ts) = Stacked ps w K ts
Stacked ps w K (Task.Build q ∷ ts) = All (λ t. w (node_of t) < w q) ts × All (λ p. K p ⊎ IsVisited p ts) (ps q) × Stacked ps w K ts

pub record Walks (f : Told) (m : Map) (b d : Nodes) (c : Changed) (ts : List Task) (first : Node) : Type 0 where
  pub inside : All (λ t. IsIn b (node_of t)) ts
  pub stacked : Stacked (parts f b) (weight f m b) (IsBegun c) ts
  pub right : (n : Node) (j : ℕ) → made_of c n ≡ Some j → IsRight m b d n j ⊎ IsOpen n ts
  pub root : IsBegun c first ⊎ IsVisited first ts

-- the sum over the numbers below n that are not begun
abbrev pub waiting : (ℕ → Bool) → (ℕ → ℕ) → ℕ → ℕ
waiting g v zero = 0
waiting g v (suc n) = (if g n then 0 else v n) + waiting g v n

-- how much is left to be done: each task, and each node that is not begun with its parts
abbrev pub toil : Told → Nodes → Changed → List Task → ℕ
toil f b c ts =
    length ts + (waiting (λ i. is_some (get nat_eq c.terms i)) (λ i. suc (length (term_parts f (term_at b i)))) (length b.terms) +
    waiting (λ i. is_some (get nat_eq c.types i)) (λ i. suc (length (type_parts f (type_at b i)))) (length b.types))

abbrev pub own : Node → ℕ
own (Node.Term i) = i
own (Node.Type i) = i

-- one more node is begun or made
abbrev pub IsNoted : Node → ℕ → (before after : Changed) → Type 0
IsNoted n j c e = (k : Node) → made_of e k ≡ (if same_node n k then Some j else made_of c k)

-- a node is begun: it is to be built, behind its parts
pub record IsBegin (f : Told) (b : Nodes) (n : Node) (c e : Changed) (ts us : List Task) : Type 0 where
  pub new : is_some (made_of c n) ≡ false
  pub inside : IsIn b n
  pub noted : IsNoted n (own n) c e
  pub tasks : us ≡ ts ++ Task.Build n ∷ visits (parts f b n)

-- nothing is to be done for a node
pub record IsPassed (b : Nodes) (n : Node) (c e : Changed) (ts us : List Task) : Type 0 where
  pub reason : IsBegun c n ⊎ (IsIn b n → ⊥)
  pub made : e ≡ c
  pub tasks : us ≡ ts

abbrev pub IsVisit : Told → Nodes → Node → (before after : Changed) → (below later : List Task) → Type 0
IsVisit f b n c e ts us = IsPassed b n c e ts us ⊎ IsBegin f b n c e ts us

-- a task is done: less is left, and what the walk keeps is kept
pub record IsMove (f : Told) (b d d' : Nodes) (c e : Changed) (ts us : List Task) : Type 0 where
  pub less : toil f b e us < toil f b c ts
  pub keeps : (m : Map) (first : Node) → IsMap f m b d → Walks f m b d c ts first → Walks f m b d' e us first
