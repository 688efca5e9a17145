-- Types and terms with their kinds and constants renumbered, types for their type variables and terms for their logic variables.
use Rattle.std.specs.Prelude.{◌≡◌, ℕ, ◌<◌, length, map}
use Rattle.lp_calculus.specs.Types.{Ty, Tys, var, param, con, arrow, no_types, types}
use Rattle.lp_calculus.specs.Term.{Term, Atom, constant, integer, text, eigen, logic, index, atom, abs, app}
use Rattle.lp_calculus.specs.Term as term
use Rattle.lp_term.specs.Nodes.{Nodes, tree, type_tree}
use Rattle.lp_term.specs.declared.becomes.TypeChange.{TypeChange}
use Rattle.lp_term.specs.declared.becomes.TermChange.{TermChange}

pub record Map : Type 0 where
  pub kinds : ℕ → ℕ
  pub constants : ℕ → ℕ
  pub types : ℕ → Ty
  pub terms : ℕ → ℕ → Term

abbrev mutual
  pub mapped_type : Map → Ty → Ty
  mapped_type m (var i) = m.types i
  mapped_type m (param k) = param k
  mapped_type m (con c ts) = con (m.kinds c) (mapped_types m ts)
  mapped_type m (arrow a b) = arrow (mapped_type m a) (mapped_type m b)

  pub mapped_types : Map → Tys → Tys
  mapped_types m no_types = no_types
  mapped_types m (types t ts) = types (mapped_type m t) (mapped_types m ts)

abbrev pub mapped_atom : Map → Atom → Term
mapped_atom m (constant c ts) = atom (constant (m.constants c) (map (mapped_type m) ts))
mapped_atom m (integer z) = atom (integer z)
mapped_atom m (text s) = atom (text s)
mapped_atom m (eigen k) = atom (eigen k)
mapped_atom m (logic x l) = m.terms x l
mapped_atom m (term.param k T) = atom (term.param k (mapped_type m T))

-- the term with all that put in; the terms for logic variables have no loose indices where this is to mean something
abbrev pub mapped : Map → Term → Term
mapped m (index i) = index i
mapped m (atom a) = mapped_atom m a
mapped m (abs b) = abs (mapped m b)
mapped m (app t u) = app (mapped m t) (mapped m u)

-- what is told of single kinds, constants and variables
pub record Told : Type 0 where
  pub kinds : ℕ → ℕ
  pub constants : ℕ → ℕ
  pub types : ℕ → TypeChange
  pub terms : ℕ → TermChange

-- no type variable that becomes what another type becomes
abbrev pub IsNoDetour : TypeChange → Type 0
IsNoDetour (TypeChange.Var y) = Unit {0}
IsNoDetour (TypeChange.Is t) = Unit {0}
IsNoDetour (TypeChange.As t) = ⊥

abbrev pub IsFirmType : Told → Ty → Type 0
IsFirmType f (var x) = IsNoDetour (f.types x)
IsFirmType f (param k) = Unit {0}
IsFirmType f (con c ts) = Unit {0}
IsFirmType f (arrow a b) = Unit {0}

abbrev pub IsNoTermDetour : TermChange → Type 0
IsNoTermDetour TermChange.Stays = Unit {0}
IsNoTermDetour (TermChange.Is t) = Unit {0}
IsNoTermDetour (TermChange.As t) = ⊥

abbrev pub IsFirmAtom : Told → Atom → Type 0
IsFirmAtom f (constant c ts) = Unit {0}
IsFirmAtom f (integer z) = Unit {0}
IsFirmAtom f (text s) = Unit {0}
IsFirmAtom f (eigen k) = Unit {0}
IsFirmAtom f (logic x l) = IsNoTermDetour (f.terms x)
IsFirmAtom f (term.param k T) = Unit {0}

abbrev pub IsFirm : Told → Term → Type 0
IsFirm f (index i) = Unit {0}
IsFirm f (atom a) = IsFirmAtom f a
IsFirm f (abs b) = Unit {0}
IsFirm f (app t u) = Unit {0}

-- what the map has for a type variable is what is told of it: a type of the bank that is built, or what one of the bank that is read becomes
abbrev pub TypeIs : Told → Map → (read built : Nodes) → Ty → TypeChange → Type 0
TypeIs f m b d T (TypeChange.Var y) = T ≡ var y
TypeIs f m b d T (TypeChange.Is t) = (t.0 < length d.types) × (T ≡ type_tree d t.0)
TypeIs f m b d T (TypeChange.As t) = (t.0 < length b.types) × (T ≡ mapped_type m (type_tree b t.0)) × IsFirmType f (type_tree b t.0)

abbrev pub TermIs : Told → Map → (read built : Nodes) → Term → (here : Term) → TermChange → Type 0
TermIs f m b d s here TermChange.Stays = s ≡ here
TermIs f m b d s here (TermChange.Is t) = (t.0 < length d.terms) × (s ≡ tree d t.0)
TermIs f m b d s here (TermChange.As t) = (t.0 < length b.terms) × (s ≡ mapped m (tree b t.0)) × IsFirm f (tree b t.0)

-- the map that is told
pub record IsMap (f : Told) (m : Map) (b d : Nodes) : Type 0 where
  pub kinds : (k : ℕ) → m.kinds k ≡ f.kinds k
  pub constants : (k : ℕ) → m.constants k ≡ f.constants k
  pub types : (x : ℕ) → TypeIs f m b d (m.types x) (f.types x)
  pub terms : (x l : ℕ) → TermIs f m b d (m.terms x l) (atom (logic x l)) (f.terms x)
